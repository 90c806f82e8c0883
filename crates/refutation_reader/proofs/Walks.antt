-- A turn of a loop along `Reached`, as facts of the refutation that it goes through.
--   Turn      the individual that comes, and where the walk then is
--   at        the individual that a walk is at
--   turned    from a step of the walk
--   ended     its last one
use mathlib.Core.Path.{◌∙◌, ◌≡◌, ap, sym}
use Prim.Native.Nat.{◌+◌, ℕ}
use lib.ListN.{get_or}
use Rattle.std.specs.Prelude.{None, Some}
use Rattle.countermodel.specs.Layout.{most_individuals}
use Rattle.refutation_reader.specs.Walks.{Step}
use Rattle.refutation_reader.specs.declared.refutation.Reached.{Reached}
use Rattle.refutation_reader.specs.declared.refutation.Refutation.{Refutation}

-- the individual that a walk is at; 0 at its end
abbrev pub at : Refutation → Reached → ℕ
at r b = get_or r.links.now b.link 0

pub record Turn (r : Refutation) (b : Reached) (j : ℕ) (n : Reached) : Type 0 where
  pub there : j ≡ 0 → ⊥
  pub is : at r b ≡ j
  pub next : at r n ≡ get_or r.links.now (most_individuals + j) 0
  pub refutation : n.refutation.now ≡ r

pub turned : {r : Refutation} {j : ℕ} (b n : Reached) → b.refutation.now ≡ r → Step b (Some j) n → Turn r b j n
turned {r} {j} b n same step =
    record {
      there = step.1;
      is = sym (step.0 ∙ ap (λ u. at u b) same);
      next = ap (λ i. get_or r.links.now i 0) step.2;
      refutation = ap (λ u. u.now) step.3 ∙ same;
    }

-- at the walk's end
pub ended : {r : Refutation} (b n : Reached) → b.refutation.now ≡ r → Step b None n → at r b ≡ 0
ended b n same step = sym (ap (λ u. at u b) same) ∙ step.0
