-- Covering, by Table 1, is what the test of the normal trees decides.
--   covers_exactly   the test answers yes exactly if the second picture covers the first
--   covers_not       and no exactly if it does not
--   covers_fits      covering by 01's own words, "every individual fitting the first root fits the second", is the same
--   covers_itself, covers_through   covering is reflexive and transitive, of any bytes
--   any_interpretation   a positive count and any tables for names and roles are an interpretation: what else the
--                    record asks, that roles respect their inclusion, asks nothing where inclusion is equality
--   nothing_cut      a readable picture has no row below the depth limit: its tree, and the rows that 14 counts, are
--                    the same at any greater depth
use Prim.Native.Nat.{◌+◌, ◌<◌, ℕ}
use lib.Dec.{T, eqb→eq}
use mathlib.Core.Bool.{Bool, false, false≢true, true}
use mathlib.Core.List.{List, [], ◌∷◌}
use mathlib.Core.Logic.{◌↔◌}
use mathlib.Core.Path.{◌∙◌, ◌≡◌, refl, subst, sym}
use Rattle.ale.proofs.Concepts.{subsumed_concepts}
use Rattle.ale.proofs.Subsumption.{subsumption_homomorphism}
use Rattle.ale.specs.Interpretation.{Interpretation, Subsumed}
use Rattle.ale.specs.Merged.{merged}
use Rattle.ale.specs.PictureSignature.{picture_signature}
use Rattle.ale.specs.Table.{tree}
use Rattle.ale.specs.Tree.{size}
use Rattle.picture.specs.Readable.{Readable}
use Rattle.table.proofs.Bools.{by_test, is_true, true_is}
use Rattle.table.specs.declared.layout.Limits.{Limits}
use Rattle.meaning.specs.Covering.{Covers, covers}
use Rattle.meaning.specs.Meaning.{picture_table, picture_tree}
use Rattle.meaning.specs.NormalTable.{merged_count, normal_tree_of}
use Rattle.meaning.proofs.Pictures.{count_whole, picture_known, picture_whole}

module _ (limits : Limits) (first second : List ℕ) (first_readable : Readable limits first) (second_readable : Readable limits second) where
  pub covers_exactly : Covers limits second first ↔ (covers limits second first ≡ true)
  unfolding covers normal_tree_of
  covers_exactly =
      let (concepts, trees) = subsumed_concepts picture_signature (picture_tree limits first) (picture_tree limits second) in
      let (maps, subsumes) =
      subsumption_homomorphism picture_signature (picture_table first) (picture_table second)
      (picture_known limits first first_readable) (picture_known limits second second_readable) limits.depth limits.depth in
      (λ c. is_true (covers limits second first) (maps (trees c)), λ e. concepts (subsumes (true_is (covers limits second first) e)))

  pub covers_not : (covers limits second first ≡ false) ↔ (Covers limits second first → ⊥)
  covers_not = (
    λ e c. false≢true (sym e ∙ covers_exactly.0 c),
    λ u. by_test (covers limits second first) (λ e. absurd (u (covers_exactly.1 e))) (λ e. e),
  )

pub covers_itself : (limits : Limits) (s : List ℕ) → Covers limits s s
covers_itself limits s I x l f = f

pub covers_through : (limits : Limits) (a b c : List ℕ) → Covers limits a b → Covers limits b c → Covers limits a c
covers_through limits a b c p q I x l f = p I x l (q I x l f)

pub any_interpretation : (count : ℕ) → 0 < count → (holds : ℕ → ℕ → Bool) (edge : ℕ → ℕ → ℕ → Bool) →
    (I : Interpretation picture_signature) × (I.count ≡ count) × (I.holds ≡ holds) × (I.edge ≡ edge)
any_interpretation count positive holds edge = (
  record { count = count; inhabited = positive; holds = holds; edge = edge; respects = λ r s x y same h. subst (λ z. T (edge z x y)) (eqb→eq r s same) h },
  refl,
  refl,
  refl,
)

pub covers_fits : (limits : Limits) (first second : List ℕ) →
    Subsumed picture_signature (picture_tree limits first) (picture_tree limits second) ↔ Covers limits second first
covers_fits limits first second = subsumed_concepts picture_signature (picture_tree limits first) (picture_tree limits second)

pub nothing_cut : (limits : Limits) (s : List ℕ) → Readable limits s → (k : ℕ) →
    (picture_tree limits s ≡ tree picture_signature (picture_table s) (k + limits.depth))
    × (merged_count limits s ≡ size picture_signature (merged picture_signature (picture_table s) (k + limits.depth) (0 ∷ [])))
nothing_cut limits s readable k = (picture_whole limits s readable k, count_whole limits s readable k)
