-- A step of a walk along the links of a refutation. Nobody has to believe it.
--   Step    nothing at the walk's end, else the individual it is at, and it goes on to its link, to the next that is reached from the same one
use Rattle.std.specs.Prelude.{ℕ, ◌≡◌, ◌+◌, get_or, Option, MatchOption}
use Rattle.countermodel.specs.Layout.{most_individuals}
use Rattle.refutation_reader.specs.declared.refutation.Reached.{Reached}

abbrev pub Step : Reached → Option ℕ → Reached → Type 0
Step b r n =
    MatchOption r ((get_or b.refutation.now.links.now b.link 0 ≡ 0) × (n ≡ b))
    (λ j.
    (j ≡ get_or b.refutation.now.links.now b.link 0) × (j ≡ 0 → ⊥) × (n.link ≡ most_individuals + j)
    × (n.refutation ≡ b.refutation) × (n.above ≡ b.above))
