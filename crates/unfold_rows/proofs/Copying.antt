-- Rows copied one by one.
--   copy_length              the size of a copied row
--   added_none, added_next   no row; one row more
--   added_own, added_hung    one more of a picture's own rows; of a definition's, which begin with row 1
--   hung_later               the row from which a copy hangs, if it did not hang from the root
--   set_whole                a set of names that was read is below the bound
use Prim.Native.Nat.{ℕ, zero, suc, ◌%◌, ◌+◌, ◌-◌, ◌<◌, ◌^◌, ◌≤◌}
use lib.ListN.{length}
use mathlib.Core.List.{List, ◌++◌, append_assoc, append-nil}
use mathlib.Core.Path.{◌∙◌, ◌≡◌, ap, refl, subst, sym}
use native.Mathlib.Nat.{mod-eq_of_lt}
use native.Mathlib.Omega.{arith}
use Rattle.table.proofs.Puts.{length_put}
use Rattle.table.proofs.Rows.{length_row_of}
use Rattle.table.specs.Fields.{excluded_of, impossible_of, kind_of, parent_of, role_of, wanted_of}
use Rattle.table.specs.Layout.{«place», name_count, row_size}
use Rattle.table.specs.Put.{put}
use Rattle.table_rows.proofs.Prefixes.{prefix_put}
use Rattle.ale.specs.PictureSignature.{picture_signature}
use Rattle.tbox.specs.Unfold.{parent_in}
use Rattle.table_rows.specs.Rows.{prefix}
use Rattle.unfold_rows.specs.Copies.{Added, copy_bytes, copy_of}

pub copy_length : (s : List ℕ) (k p : ℕ) → length (copy_of s k p) ≡ row_size
copy_length s k p =
    length_row_of p (kind_of s k) (role_of s k) (impossible_of s k) (wanted_of s k % 2 ^ name_count)
    (excluded_of s k % 2 ^ name_count)

pub added_none : (d : List ℕ) (s : List ℕ) (up : ℕ → ℕ) (k from : ℕ) → Added d d (copy_bytes s up k 0) from 0
unfolding copy_bytes
added_none d s up k from =
    record {
      same_length = refl;
      bytes = ap (λ n. prefix n d) (let e : from + 0 ≡ from = omega arith in e) ∙ sym (append-nil (prefix from d));
    }

-- row k + n is pushed after n rows from row k on
pub added_next : (d e f s : List ℕ) (up : ℕ → ℕ) (k n from at : ℕ) (row : List ℕ) →
    Added d e (copy_bytes s up k n) from n → at ≡ from + n →
    place at row_size ≤ length d → row ≡ copy_of s (k + n) (up (parent_of s (k + n))) → f ≡ put e (place at 0) row →
    Added d f (copy_bytes s up k (n + 1)) from (n + 1)
unfolding copy_bytes
added_next d e f s up k n from at row a is room r p =
    let size : length row ≡ row_size = ap length r ∙ copy_length s (k + n) (up (parent_of s (k + n))) in
    let enough : place at row_size ≤ length e = omega (arith, a.same_length) in
    let more : n + 1 ≡ suc n = omega arith in
    record {
      same_length = ap length p ∙ length_put e (place at 0) row (omega (arith, size)) ∙ a.same_length;
      bytes =
          ap (λ z. prefix z f) (let z : from + (n + 1) ≡ at + 1 = omega arith in z)
          ∙ ap (prefix (at + 1)) p
          ∙ prefix_put e at row (omega arith) size
          ∙ ap (λ z. prefix z e ++ row) is
          ∙ ap (λ z. z ++ row) a.bytes
          ∙ append_assoc (prefix from d) (copy_bytes s up k n) row
          ∙ ap (λ z. prefix from d ++ (copy_bytes s up k n ++ z)) r
          ∙ ap (λ z. prefix from d ++ copy_bytes s up k z) (sym more);
    }

-- the same from row 0 on
pub added_own : (d e f s : List ℕ) (n at p : ℕ) (row : List ℕ) → Added d e (copy_bytes s (λ p. p) 0 n) 0 n → at ≡ n →
    place n row_size ≤ length d →
    p ≡ parent_of s n → row ≡ copy_of s n p → f ≡ put e (place at 0) row →
    Added d f (copy_bytes s (λ p. p) 0 (n + 1)) 0 (n + 1)
added_own d e f s n at p row a is room up r q =
    let z : n ≡ 0 + n = omega arith in
    added_next d e f s (λ p. p) 0 n 0 at row a (is ∙ z) (omega (arith, is))
    (r ∙ ap (copy_of s n) up ∙ ap (λ k. copy_of s k (parent_of s k)) z) q

pub hung_later : (i o p : ℕ) → (p ≡ 0 → ⊥) → o + p - 1 ≡ parent_in picture_signature i o p
hung_later i o zero z = absurd (z refl)
hung_later i o (suc p) z = omega arith

-- row k of a definition is pushed after its rows 1 to k - 1
pub added_hung : (d e f s : List ℕ) (i k from at p : ℕ) (row : List ℕ) → 0 < k →
    Added d e (copy_bytes s (parent_in picture_signature i from) 1 (k - 1)) from (k - 1) → at + 1 ≡ from + k →
    place at row_size ≤ length d → p ≡ parent_in picture_signature i from (parent_of s k) → row ≡ copy_of s k p →
    f ≡ put e (place at 0) row →
    Added d f (copy_bytes s (parent_in picture_signature i from) 1 (k + 1 - 1)) from (k + 1 - 1)
added_hung d e f s i k from at p row pos a is room up r q =
    let z : k ≡ 1 + (k - 1) = omega arith in
    let n : k - 1 + 1 ≡ k + 1 - 1 = omega arith in
    subst (λ n. Added d f (copy_bytes s (parent_in picture_signature i from) 1 n) from n) n
    (added_next d e f s (parent_in picture_signature i from) 1 (k - 1) from at row a (omega arith) room
    (r ∙ ap (copy_of s k) up ∙ ap (λ k. copy_of s k (parent_in picture_signature i from (parent_of s k))) z) q)

pub set_whole : (a w : ℕ) → a ≡ w → a < 2 ^ name_count → w % 2 ^ name_count ≡ a
set_whole a w e l = ap (λ z. z % 2 ^ name_count) (sym e) ∙ mod-eq_of_lt l
