-- Laws of one store in a list.
--   stored   what is true of the value stored, and elsewhere of the old one, is true of what stands there after the store
--   blank    a list of zeros
use Prim.Native.Nat.{◌<◌, ℕ}
use borrow.Author.Tests.{eqb-false, eqb-true}
use lib.Dec.{eqb}
use lib.ListN.{get_or, length, length-replicate, replicate, set}
use lib.Seq.{get_or-set_other, get_or-set_same}
use mathlib.Core.List.{List}
use mathlib.Core.Path.{◌∙◌, ◌≡◌, ap, subst, sym}
use Rattle.table.specs.Put.{zeros}
use Rattle.table.proofs.Bools.{by_test}
use Rattle.table.proofs.Puts.{get_d_zeros}
use Rattle.table_rows.specs.Links.{Zeros}

pub stored : (P : ℕ → Type 0) (t : List ℕ) (i v k : ℕ) → i < length t → (k ≡ i → P v) → ((k ≡ i → ⊥) → P (get_or t k 0)) → P (get_or (set t i v) k 0)
stored P t i v k l here elsewhere =
    by_test (eqb k i)
    (λ e. let same = eqb-true k i e in
    subst P (sym (ap (λ (m : ℕ). get_or (set t i v) m 0) same ∙ get_or-set_same t i v 0 l)) (here same))
    (λ e. let other = eqb-false k i e in subst P (sym (get_or-set_other t i k v 0 other)) (elsewhere other))

pub blank : (n m : ℕ) → n ≡ m → Zeros m (replicate n 0)
unfolding zeros
blank n m e = record { size = length-replicate n 0 ∙ e; zeros = get_d_zeros n }
