-- The bytes of copied rows are the rows of the theory, as they are copied.
--   raw_rows             rows of the unfolded picture before it has come up
--   copies_bytes        rows copied after the first row of the table
--   own-bytes           the picture's own rows
use Prim.Native.Nat.{ℕ, zero, suc, ◌%◌, ◌+◌, ◌^◌, ◌<◌, ◌≤◌}
use lib.Dec.{eqb}
use lib.ListN.{length}
use mathlib.Core.List.{List, [], ◌++◌, ◌∷◌, append-nil}
use mathlib.Core.Logic.{◌⊎◌, ⊎_elim}
use mathlib.Core.Path.{◌∙◌, ◌≡◌, ap, ap₂, refl, subst, sym}
use native.Mathlib.Omega.{arith}
use Rattle.table.specs.Fields.{excluded_of, impossible_of, kind_of, parent_of, role_of, row_of, wanted_of}
use Rattle.table.specs.Layout.{kind_exists, kind_for_all, name_count}
use Rattle.ale.specs.Encoding.{Row}
use Rattle.ale.specs.PictureSignature.{picture_signature}
use Rattle.ale.specs.Table.{Table}
use Rattle.tbox.specs.Unfold.{Origin, copies}
use Rattle.meaning.specs.File.{code_at, kind_code, mark_code, row_at, rows_from}
use Rattle.meaning.specs.Meaning.{kind_at, picture_table}
use Rattle.meaning.proofs.Files.{rows_from_append}
use Rattle.unfold_rows.specs.Copies.{copy_bytes, copy_of}
use Rattle.unfold_rows.specs.Growing.{raw_row}

abbrev pub raw_rows : List (Origin picture_signature) → List (Row picture_signature)
raw_rows [] = []
raw_rows (o ∷ w) = raw_row o ∷ raw_rows w

pub raw_append : (v w : List (Origin picture_signature)) → raw_rows (v ++ w) ≡ raw_rows v ++ raw_rows w
raw_append [] w = refl
raw_append (o ∷ v) w = ap (λ z. raw_row o ∷ z) (raw_append v w)

pub raw_length : (w : List (Origin picture_signature)) → length (raw_rows w) ≡ length w
raw_length [] = refl
raw_length (o ∷ w) = ap suc (raw_length w)

module _ (q : Table picture_signature) (up : ℕ → ℕ) where
  copies_last : (k n : ℕ) → copies picture_signature q up k (suc n) ≡
      copies picture_signature q up k n ++ (record { parent = up (q.parent (k + n)); table = q; row = k + n } ∷ [])
  copies_last k zero =
      ap (λ z. record { parent = up (q.parent z); table = q; row = z } ∷ []) (let e : k ≡ k + 0 = omega arith in e)
  copies_last k (suc n) =
      ap (λ z. record { parent = up (q.parent k); table = q; row = k } ∷ z)
      (copies_last (suc k) n
      ∙ ap (λ z. copies picture_signature q up (suc k) n
      ++ (record { parent = up (q.parent z); table = q; row = z } ∷ []))
      (let e : suc k + n ≡ k + suc n = omega arith in e))

  copies_count : (k n : ℕ) → length (copies picture_signature q up k n) ≡ n
  copies_count k zero = refl
  copies_count k (suc n) = ap suc (copies_count (suc k) n)

-- the kind's byte and the mark's are read back
some_back : kind_code (kind_at kind_exists) ≡ kind_exists
some_back = refl

all_back : kind_code (kind_at kind_for_all) ≡ kind_for_all
all_back = refl

pub kind_back : (code : ℕ) → (code ≡ kind_exists) ⊎ (code ≡ kind_for_all) → kind_code (kind_at code) ≡ code
kind_back code h =
    ⊎_elim (λ e. subst (λ z. kind_code (kind_at z) ≡ z) (sym e) some_back)
    (λ e. subst (λ z. kind_code (kind_at z) ≡ z) (sym e) all_back) h

mark_back : (m : ℕ) → m ≤ 1 → mark_code (eqb m 1) ≡ m
mark_back zero l = refl
mark_back (suc zero) l = refl
mark_back (suc (suc m)) l = absurd (omega arith)

-- what is asked of row k, which is copied to row y
pub record Copyable (s : List ℕ) (k y : ℕ) : Type 0 where
  pub kinds : code_at y (kind_at (kind_of s k)) ≡ kind_of s k
  pub marks : impossible_of s k ≤ 1

module _ (s : List ℕ) (up : ℕ → ℕ) where
  row_bytes_is : (k y : ℕ) → Copyable s k y →
      row_at y (raw_row (record { parent = up ((picture_table s).parent k); table = picture_table s; row = k }))
      ≡ copy_of s k (up (parent_of s k))
  row_bytes_is k y c =
      ap₂ (λ a b. row_of (up (parent_of s k)) a (role_of s k) b (wanted_of s k % 2 ^ name_count)
      (excluded_of s k % 2 ^ name_count)) c.kinds (mark_back (impossible_of s k) c.marks)

  pub copies_bytes : (k n y : ℕ) → ((j : ℕ) → j < n → Copyable s (k + j) (y + j)) →
      rows_from y (raw_rows (copies picture_signature (picture_table s) up k n)) ≡ copy_bytes s up k n
  unfolding copy_bytes
  copies_bytes k zero y h = refl
  copies_bytes k (suc n) y h =
      let o : Origin picture_signature =
      record { parent = up ((picture_table s).parent (k + n)); table = picture_table s; row = k + n } in
      let v = copies picture_signature (picture_table s) up k n in
      ap (λ w. rows_from y (raw_rows w)) (copies_last (picture_table s) up k n)
      ∙ ap (rows_from y) (raw_append v (o ∷ []))
      ∙ rows_from_append y (raw_rows v) (raw_row o ∷ [])
      ∙ ap₂ (λ a b. a ++ b) (copies_bytes k n y (λ j l. h j (omega arith)))
      (append-nil (row_at (y + length (raw_rows v)) (raw_row o))
      ∙ ap (λ z. row_at (y + z) (raw_row o)) (raw_length v ∙ copies_count (picture_table s) up k n)
      ∙ row_bytes_is (k + n) (y + n) (h n (omega arith)))
