-- Laws of the fields of a table.
--   Same                                  the first k bytes of field m of s are those of field n of t
--   number_same, tag_same, length_same,
--   parent_same, kind_same, role_same,
--   impossible_same, wanted_same,
--   excluded_same                         fields with the same bytes have the same parts
--   same_first, same_after                a list begins with its first part, and the rows of its last part come after those before
--   length_row_of, length_end_bytes         the sizes of a row and of the end field
--   ends_parts, parts_ends                a file ends at a place exactly if tag 2F and length 0 stand there, and nothing after them
--   HoldsRow, held_tag .. held_excluded   a field with the bytes of a row, and what it reads as
--   held_end_tag, held_end_length         what a field with the bytes of the end field reads as
use mathlib.Core.Path.{◌≡◌, refl, ap, ◌∙◌}
use mathlib.Core.Bool.{◌&&◌, true}
use mathlib.Core.List.{List, [], ◌++◌}
use Prim.Native.Nat.{ℕ, ◌+◌, ◌*◌, ◌^◌, ◌≤◌, ◌<◌}
use native.Mathlib.Nat.{add_assoc}
use native.Mathlib.Omega.{arith}
use borrow.Author.Tests.{eq-eqb, eqb-true}
use lib.Dec.{eqb}
use lib.ListN.{length, take, get_or, get_or-append}
use lib.Seq.{get_or-append-add}
use Rattle.table.specs.Layout.{number_size, length_offset, «place», row_tag, end_tag, end_length, end_size, head_size, name_bytes, name_count, parent_offset, kind_offset, role_offset, impossible_offset, wanted_offset, excluded_offset, row_length, row_size}
use Rattle.table.specs.Number.{be, be_bytes}
use Rattle.table.specs.Fields.{tag_of, length_of, parent_of, kind_of, role_of, impossible_of, wanted_of, excluded_of, row_of, end_bytes, ends_at}
use Rattle.table.proofs.Bools.{both}
use Rattle.table.proofs.Numbers.{be_same, be_inside}

-- fields with the same bytes

pub record Same (k : ℕ) (s : List ℕ) (m : ℕ) (t : List ℕ) (n : ℕ) : Type 0 where
  pub byte : (i : ℕ) → i < k → get_or s (place m i) 0 ≡ get_or t (place n i) 0

module _ {k : ℕ} {s : List ℕ} {m : ℕ} {t : List ℕ} {n : ℕ} (e : Same k s m t n) where
  pub number_same : (offset w : ℕ) → offset + w ≤ k → be s (place m offset) w ≡ be t (place n offset) w
  number_same offset w h = be_same s t (place m offset) (place n offset) w (λ i l. rw (add_assoc (row_size * m), add_assoc (row_size * n)) (e.byte (offset + i) (omega arith)))

  pub tag_same : head_size ≤ k → tag_of s m ≡ tag_of t n
  tag_same h = e.byte 0 (omega arith)

  pub length_same : head_size ≤ k → length_of s m ≡ length_of t n
  length_same h = number_same length_offset number_size h

module _ {s : List ℕ} {m : ℕ} {t : List ℕ} {n : ℕ} (e : Same row_size s m t n) where
  pub parent_same : parent_of s m ≡ parent_of t n
  parent_same = number_same e parent_offset number_size (omega arith)

  pub kind_same : kind_of s m ≡ kind_of t n
  kind_same = e.byte kind_offset (omega arith)

  pub role_same : role_of s m ≡ role_of t n
  role_same = e.byte role_offset (omega arith)

  pub impossible_same : impossible_of s m ≡ impossible_of t n
  impossible_same = e.byte impossible_offset (omega arith)

  pub wanted_same : wanted_of s m ≡ wanted_of t n
  wanted_same = number_same e wanted_offset name_bytes (omega arith)

  pub excluded_same : excluded_of s m ≡ excluded_of t n
  excluded_same = number_same e excluded_offset name_bytes (omega arith)

-- a list of two parts
pub same_first : (k : ℕ) (s t : List ℕ) → k ≤ length s → Same k (s ++ t) 0 s 0
same_first k s t h = record { byte = λ i l. get_or-append s t 0 (place 0 i) (omega arith) }

pub same_after : {k : ℕ} (s : List ℕ) {t : List ℕ} (n : ℕ) {m : ℕ} {u : List ℕ} {o : ℕ} → length s ≡ row_size * n →
    Same k t m u o → Same k (s ++ t) (n + m) u o
same_after s {t} n {m} h e =
    record {
      byte = λ i l.
          let j : place (n + m) i ≡ length s + place m i = omega arith in
          ap (λ (a : ℕ). get_or (s ++ t) a 0) j ∙ get_or-append-add s t (place m i) 0 ∙ e.byte i l;
    }

-- a row

pub length_row_of : (parent kind role impossible wanted excluded : ℕ) → length (row_of parent kind role impossible wanted excluded) ≡ row_size
unfolding row_of be_bytes
length_row_of parent kind role impossible wanted excluded = refl

-- field n of s has the bytes of a row, which are a table of one row
pub record HoldsRow (s : List ℕ) (n parent kind role impossible wanted excluded : ℕ) : Type 0 where
  pub same : Same row_size s n (row_of parent kind role impossible wanted excluded) 0

module _ {s : List ℕ} {n parent kind role impossible wanted excluded : ℕ} (e : HoldsRow s n parent kind role impossible wanted excluded) where
  pub held_tag : tag_of s n ≡ row_tag
  unfolding row_of
  held_tag = tag_same e.same (omega arith)

  pub held_length : length_of s n ≡ row_length
  unfolding row_of be_bytes be
  held_length = length_same e.same (omega arith)

  pub held_parent : parent < 256 ^ number_size → parent_of s n ≡ parent
  unfolding row_of be_bytes
  held_parent f = parent_same e.same ∙ be_inside (take parent_offset (row_of parent kind role impossible wanted excluded)) _ number_size parent f

  pub held_kind : kind_of s n ≡ kind
  unfolding row_of be_bytes
  held_kind = kind_same e.same

  pub held_role : role_of s n ≡ role
  unfolding row_of be_bytes
  held_role = role_same e.same

  pub held_impossible : impossible_of s n ≡ impossible
  unfolding row_of be_bytes
  held_impossible = impossible_same e.same

  pub held_wanted : wanted < 2 ^ name_count → wanted_of s n ≡ wanted
  unfolding row_of be_bytes
  held_wanted f = wanted_same e.same ∙ be_inside (take wanted_offset (row_of parent kind role impossible wanted excluded)) _ name_bytes wanted f

  pub held_excluded : excluded < 2 ^ name_count → excluded_of s n ≡ excluded
  unfolding row_of be_bytes
  held_excluded f = excluded_same e.same ∙ be_inside (take excluded_offset (row_of parent kind role impossible wanted excluded)) [] name_bytes excluded f

-- the end field

module _ (s : List ℕ) (at : ℕ) where
  pub ends_parts : ends_at s at ≡ true → (length s ≡ at + 3) × (get_or s at 0 ≡ 0x2F) × (be s (at + 1) 2 ≡ 0)
  unfolding ends_at
  ends_parts h =
      let tagged = eqb (get_or s at 0) end_tag in
      let empty = eqb (be s (at + length_offset) number_size) end_length in
      let (a, r) = both (eqb (length s) (at + end_size)) (tagged && empty) h in
      let (b, c) = both tagged empty r in
      (eqb-true (length s) (at + end_size) a, eqb-true (get_or s at 0) end_tag b, eqb-true (be s (at + length_offset) number_size) end_length c)

  pub parts_ends : length s ≡ at + 3 → get_or s at 0 ≡ 0x2F → be s (at + 1) 2 ≡ 0 → ends_at s at ≡ true
  unfolding ends_at
  parts_ends a b c = rw (eq-eqb (length s) (at + end_size) a, eq-eqb (get_or s at 0) end_tag b, eq-eqb (be s (at + length_offset) number_size) end_length c)

pub length_end_bytes : length end_bytes ≡ end_size
unfolding end_bytes be_bytes
length_end_bytes = refl

-- a field with its bytes
module _ {s : List ℕ} {n : ℕ} (e : Same end_size s n end_bytes 0) where
  pub held_end_tag : tag_of s n ≡ end_tag
  unfolding end_bytes
  held_end_tag = tag_same e (omega arith)

  pub held_end_length : length_of s n ≡ end_length
  unfolding end_bytes be_bytes be
  held_end_length = length_same e (omega arith)
