-- Laws of a table in a half of the work space.
--   length_half              a half is as long as the longest picture
--   half_byte, half_rest     it has the bytes of its file, and after them zeros
--   half_file                so its first bytes are the file
--   half_cleared             a file at the start of a half whose rest is cleared
use Prim.Native.Nat.{◌+◌, ◌-◌, ◌≤◌, ℕ}
use lib.ListN.{get_or-append, get_or-eq_default, drop_of_length-le, get_or, length, length-append, take}
use lib.Seq.{get_or-append-add, take_at}
use mathlib.Core.List.{List, ◌++◌, append-nil}
use mathlib.Core.Path.{◌∙◌, ◌≡◌, ap, refl, sym}
use native.Mathlib.Decide.{dec_lt}
use native.Mathlib.Omega.{arith}
use Rattle.table.proofs.Puts.{get_d_zeros, length_zeros}
use Rattle.table.specs.Bounds.{picture_size}
use Rattle.table.specs.Put.{put, zeros}
use Rattle.table.specs.declared.layout.Limits.{Limits}
use Rattle.normal.specs.Half.{half_of}

module _ (limits : Limits) (file : List ℕ) where
  pub length_half : length file ≤ picture_size limits → length (half_of limits file) ≡ picture_size limits
  unfolding half_of
  length_half fits =
      let rest = picture_size limits - length file in
      omega (arith, length-append file (zeros rest), length_zeros rest)

  pub half_rest : (k : ℕ) → length file ≤ k → get_or (half_of limits file) k 0 ≡ 0
  unfolding half_of
  half_rest k past =
      let i = k - length file in
      let e : k ≡ length file + i = omega arith in
      let rest = picture_size limits - length file in
      ap (λ (j : ℕ). get_or (file ++ zeros rest) j 0) e ∙ get_or-append-add file (zeros rest) i 0 ∙ get_d_zeros rest i

  pub half_byte : (k : ℕ) → get_or (half_of limits file) k 0 ≡ get_or file k 0
  unfolding half_of
  half_byte k =
      elim (dec_lt k (length file)) [
        | yes before ↦ get_or-append file (zeros (picture_size limits - length file)) 0 k before
        | no past ↦ half_rest k (omega arith) ∙ sym (get_or-eq_default file 0 (omega arith))
      ]

  pub half_file : take (length file) (half_of limits file) ≡ file
  unfolding half_of
  half_file = take_at file (zeros (picture_size limits - length file)) (length file) refl

  pub half_cleared : (l₁ l₂ : List ℕ) (n m : ℕ) → n ≡ length file → m ≡ picture_size limits → length l₁ ≡ m →
      length file ≤ picture_size limits → take n l₁ ≡ file → l₂ ≡ put l₁ n (zeros (m - n)) → l₂ ≡ half_of limits file
  unfolding half_of put
  half_cleared l₁ l₂ n m e f long fits is cleared =
      let z = zeros (m - n) in
      let size : m - n ≡ picture_size limits - length file = omega arith in
      let whole : length l₁ ≤ n + length z = omega (arith, length_zeros (m - n)) in
      cleared
      ∙ ap (λ (l : List ℕ). (take n l₁ ++ z) ++ l) (drop_of_length-le l₁ whole)
      ∙ append-nil (take n l₁ ++ z)
      ∙ ap (λ (l : List ℕ). l ++ z) is
      ∙ ap (λ (k : ℕ). file ++ zeros k) size
