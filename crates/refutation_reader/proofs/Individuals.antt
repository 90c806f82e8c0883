-- Laws of the individuals that the code has.
--   form_individuals   16: they stand whole in the file, and are all that it has
--   parent_before      21: each but the first is reached from one before it
use Prim.Native.Nat.{◌<◌, ℕ}
use mathlib.Core.Bool.{true}
use mathlib.Core.List.{List}
use mathlib.Core.Path.{◌≡◌, refl}
use native.Mathlib.Omega.{arith}
use Rattle.countermodel.specs.Individual.{individual_ok, individual_parent, refutation_form}
use Rattle.countermodel.specs.Layout.{individual_count}
use Rattle.table.specs.Bounds.{Bounded}
use Rattle.table.specs.Range.{each}
use Rattle.table.proofs.Ranges.{each_at}
use Rattle.table.specs.declared.layout.Limits.{Limits}
use Rattle.countermodel.proofs.Individuals.{count_whole, form_asks, individual_parent_is, within_most}
use Rattle.refutation_reader.specs.Individuals.{Individuals}

module _ (limits : Limits) (e : List ℕ) where
  pub form_individuals : Bounded limits → refutation_form limits e ≡ true → Individuals e (individual_count e)
  form_individuals bound h =
      let n = individual_count e in
      let (a, b, _, _) = form_asks limits e h in
      record {
        counted = refl;
        some = a;
        most = omega (arith, b, within_most limits bound);
        whole = count_whole e;
      }

pub parent_before : (e : List ℕ) (n k : ℕ) → each (individual_ok e) n 0 ≡ true → 0 < k → k < n → individual_parent e k < k
parent_before e n k all later last = individual_parent_is e k (each_at (individual_ok e) n 0 all k (omega arith) (omega arith)) (λ z. omega arith)
