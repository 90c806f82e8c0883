-- What was put into a table reads back.
--   length_row_bytes                  the size of a row
--   pushed, ended                    the table d with a row, or with the end field, put at n
--   row_put, row_tag_is .. row_excluded what the row that was put reads back as
--   end_put, end_tag_is, end_length_is     what the end field that was put reads back as
use Prim.Native.Nat.{◌+◌, ◌<◌, ◌^◌, ◌≤◌, ℕ}
use lib.ListN.{get_or, length}
use mathlib.Core.List.{List}
use mathlib.Core.Path.{◌∙◌, ◌≡◌, ap, sym}
use native.Mathlib.Nat.{zero-add}
use native.Mathlib.Omega.{arith}
use Rattle.table.specs.Fields.{end_bytes, excluded_of, impossible_of, kind_of, length_of, parent_of, role_of, tag_of, wanted_of}
use Rattle.table.specs.Layout.{end_length, end_size, end_tag, name_count, number_size, row_length, row_size, row_tag, «place»}
use Rattle.table.specs.NameValues.{set_of}
use Rattle.table.specs.Put.{put}
use Rattle.table.specs.declared.row.Row.{Row}
use Rattle.table.proofs.Puts.{put_in}
use Rattle.table.proofs.Rows.{HoldsRow, Same, held_end_length, held_end_tag, held_excluded, held_impossible, held_kind, held_length, held_parent, held_role, held_tag, held_wanted, length_end_bytes, length_row_of}
use Rattle.table_rows.specs.Rows.{row_bytes}

-- bytes put at a row's place

field_put : (d s : List ℕ) (n i : ℕ) → place n (length s) ≤ length d → i < length s → get_or (put d (place n 0) s) (place n i) 0 ≡ get_or s i 0
field_put d s n i h l =
    let e : place n i ≡ place n 0 + i = omega arith in
    ap (λ (j : ℕ). get_or (put d (place n 0) s) j 0) e ∙ put_in d (place n 0) s i (omega arith) l

pub length_row_bytes : (r : Row) → length (row_bytes r) ≡ row_size
length_row_bytes r = length_row_of r.parent r.kind r.role r.impossible (set_of r.wanted) (set_of r.excluded)

abbrev pub pushed : List ℕ → ℕ → Row → List ℕ
pushed d n r = put d (place n 0) (row_bytes r)

module _ (d : List ℕ) (n : ℕ) (r : Row) (h : place n row_size ≤ length d) where
  pub row_put : (i : ℕ) → i < row_size → get_or (pushed d n r) (place n i) 0 ≡ get_or (row_bytes r) i 0
  row_put i l = let w = length_row_bytes r in field_put d (row_bytes r) n i (omega arith) (omega arith)

  row_held : HoldsRow (pushed d n r) n r.parent r.kind r.role r.impossible (set_of r.wanted) (set_of r.excluded)
  row_held = record { same = record { byte = λ i l. row_put i l ∙ ap (λ (j : ℕ). get_or (row_bytes r) j 0) (sym (zero-add i)) } }

  pub row_tag_is : tag_of (pushed d n r) n ≡ row_tag
  row_tag_is = held_tag row_held

  pub row_length_is : length_of (pushed d n r) n ≡ row_length
  row_length_is = held_length row_held

  pub row_parent : r.parent < 256 ^ number_size → parent_of (pushed d n r) n ≡ r.parent
  row_parent = held_parent row_held

  pub row_kind : kind_of (pushed d n r) n ≡ r.kind
  row_kind = held_kind row_held

  pub row_role : role_of (pushed d n r) n ≡ r.role
  row_role = held_role row_held

  pub row_impossible : impossible_of (pushed d n r) n ≡ r.impossible
  row_impossible = held_impossible row_held

  pub row_wanted : set_of r.wanted < 2 ^ name_count → wanted_of (pushed d n r) n ≡ set_of r.wanted
  row_wanted = held_wanted row_held

  pub row_excluded : set_of r.excluded < 2 ^ name_count → excluded_of (pushed d n r) n ≡ set_of r.excluded
  row_excluded = held_excluded row_held

abbrev pub ended : List ℕ → ℕ → List ℕ
ended d n = put d (place n 0) end_bytes

module _ (d : List ℕ) (n : ℕ) (h : place n end_size ≤ length d) where
  pub end_put : (i : ℕ) → i < end_size → get_or (ended d n) (place n i) 0 ≡ get_or end_bytes i 0
  end_put i l = let w = length_end_bytes in field_put d end_bytes n i (omega arith) (omega arith)

  end_same : Same end_size (ended d n) n end_bytes 0
  end_same = record { byte = λ i l. end_put i l ∙ ap (λ (j : ℕ). get_or end_bytes j 0) (sym (zero-add i)) }

  pub end_tag_is : tag_of (ended d n) n ≡ end_tag
  end_tag_is = held_end_tag end_same

  pub end_length_is : length_of (ended d n) n ≡ end_length
  end_length_is = held_end_length end_same
