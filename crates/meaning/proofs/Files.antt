-- Laws of rows as bytes: the rows of a file stand one after the other, and each reads back as it was written.
--   row_in                                          row j of a list
--   length_row_at, length_rows_from, length_file_of   the sizes of a row, of rows and of a file
--   rows_from_append                                rows after rows
--   row_count_file_of                                a file has the rows of its list
--   rows_held                                      row j of a table that begins with rows has the bytes of row j there
--   row_held, end_held                             row j of a file has the bytes of row j of the list, and after the rows comes the end field
--   file_tag, file_length, file_parent ..          what row j of a file reads back as; the parent, if it fits its field
use Prim.Native.Nat.{◌*◌, ◌+◌, ◌<◌, ◌^◌, suc, zero, ℕ}
use lib.ListN.{get_or, length, length-append}
use mathlib.Core.List.{List, [], ◌++◌, ◌∷◌, append_assoc}
use mathlib.Core.Path.{◌∙◌, ◌≡◌, ap, refl, subst, sym}
use native.Mathlib.Nat.{add-zero, zero-add}
use native.Mathlib.Omega.{arith}
use Rattle.ale.specs.Encoding.{Row, no_row}
use Rattle.ale.specs.PictureSignature.{below, picture_signature}
use Rattle.picture.specs.Readable.{row_count}
use Rattle.table.proofs.Rows.{HoldsRow, Same, held_excluded, held_impossible, held_kind, held_length, held_parent, held_role, held_tag, held_wanted, length_end_bytes, length_row_of, same_after, same_first}
use Rattle.table.specs.Fields.{end_bytes, excluded_of, impossible_of, kind_of, length_of, parent_of, role_of, tag_of, wanted_of}
use Rattle.table.specs.Layout.{end_size, number_size, place, row_length, row_size, row_tag}
use Rattle.meaning.specs.File.{code_at, file_of, mark_code, row_at, rows_from}

abbrev pub row_in : List (Row picture_signature) → ℕ → Row picture_signature
row_in ws j = get_or ws j (no_row picture_signature)

pub length_row_at : (y : ℕ) (w : Row picture_signature) → length (row_at y w) ≡ row_size
length_row_at y w =
    length_row_of w.parent (code_at y w.kind) w.role (mark_code w.label.bottom) w.label.wanted.set w.label.excluded.set

pub length_rows_from : (y : ℕ) (ws : List (Row picture_signature)) → length (rows_from y ws) ≡ row_size * length ws
length_rows_from y [] = refl
length_rows_from y (w ∷ ws) = omega (arith, length-append (row_at y w) (rows_from (suc y) ws), length_row_at y w, length_rows_from (suc y) ws)

pub rows_from_append : (y : ℕ) (u v : List (Row picture_signature)) → rows_from y (u ++ v) ≡ rows_from y u ++ rows_from (y + length u) v
rows_from_append y [] v = ap (λ z. rows_from z v) (sym (add-zero y))
rows_from_append y (w ∷ u) v =
    let e : suc y + length u ≡ y + suc (length u) = omega arith in
    ap (λ r. row_at y w ++ r) (rows_from_append (suc y) u v ∙ ap (λ z. rows_from (suc y) u ++ rows_from z v) e)
    ∙ sym (append_assoc (row_at y w) (rows_from (suc y) u) (rows_from (y + suc (length u)) v))

pub length_file_of : (ws : List (Row picture_signature)) → length (file_of ws) ≡ place (length ws) end_size
length_file_of ws = omega (arith, length-append (rows_from 0 ws) end_bytes, length_rows_from 0 ws, length_end_bytes)

pub row_count_file_of : (ws : List (Row picture_signature)) → row_count (file_of ws) ≡ length ws
unfolding row_count
row_count_file_of ws = omega (arith, length_file_of ws)

-- rows from row y on, and then other bytes
rows_same : (y : ℕ) (ws : List (Row picture_signature)) (rest : List ℕ) (j : ℕ) → j < length ws →
    Same row_size (rows_from y ws ++ rest) j (row_at (y + j) (row_in ws j)) 0
rows_same y [] rest j l = absurd (omega arith)
rows_same y (w ∷ ws) rest zero l =
    let here = same_first row_size (row_at y w) (rows_from (suc y) ws ++ rest) (omega (arith, length_row_at y w)) in
    rw (append_assoc (row_at y w) (rows_from (suc y) ws) rest, add-zero y) here
rows_same y (w ∷ ws) rest (suc j) l =
    let later = same_after (row_at y w) 1 (length_row_at y w) (rows_same (suc y) ws rest j (omega arith)) in
    let index : 1 + j ≡ suc j = omega arith in
    let number : suc y + j ≡ y + suc j = omega arith in
    rw (append_assoc (row_at y w) (rows_from (suc y) ws) rest) (rw (index, number) at later)

pub rows_held : (ws : List (Row picture_signature)) (rest : List ℕ) (j : ℕ) → j < length ws →
    let w = row_in ws j in
    HoldsRow (rows_from 0 ws ++ rest) j w.parent (code_at j w.kind) w.role (mark_code w.label.bottom)
    w.label.wanted.set w.label.excluded.set
rows_held ws rest j l = record {
  same =
      subst (λ y. Same row_size (rows_from 0 ws ++ rest) j (row_at y (row_in ws j)) 0) (zero-add j)
      (rows_same 0 ws rest j l);
}

module _ (ws : List (Row picture_signature)) where
  pub end_held : Same end_size (file_of ws) (length ws) end_bytes 0
  end_held =
      subst (λ n. Same end_size (file_of ws) n end_bytes 0) (add-zero (length ws))
      (same_after (rows_from 0 ws) (length ws) (length_rows_from 0 ws) (record { byte = λ i l. refl }))

  module _ (j : ℕ) (l : j < length ws) where
    pub row_held :
        let w = row_in ws j in
        HoldsRow (file_of ws) j w.parent (code_at j w.kind) w.role (mark_code w.label.bottom) w.label.wanted.set w.label.excluded.set
    row_held = rows_held ws end_bytes j l

    pub file_tag : tag_of (file_of ws) j ≡ row_tag
    file_tag = held_tag row_held

    pub file_length : length_of (file_of ws) j ≡ row_length
    file_length = held_length row_held

    pub file_parent : (row_in ws j).parent < 256 ^ number_size → parent_of (file_of ws) j ≡ (row_in ws j).parent
    file_parent = held_parent row_held

    pub file_kind : kind_of (file_of ws) j ≡ code_at j (row_in ws j).kind
    file_kind = held_kind row_held

    pub file_role : role_of (file_of ws) j ≡ (row_in ws j).role
    file_role = held_role row_held

    pub file_impossible : impossible_of (file_of ws) j ≡ mark_code (row_in ws j).label.bottom
    file_impossible = held_impossible row_held

    pub file_wanted : wanted_of (file_of ws) j ≡ (row_in ws j).label.wanted.set
    file_wanted = held_wanted row_held (below (row_in ws j).label.wanted)

    pub file_excluded : excluded_of (file_of ws) j ≡ (row_in ws j).label.excluded.set
    file_excluded = held_excluded row_held (below (row_in ws j).label.excluded)
