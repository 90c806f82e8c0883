-- 01, questions 22 and 23: whether a tree of individuals fits a tree, as a test.
--   satisfies_test     the names that hold of an individual, against a label
--   reached_test       an individual reached by role r passes
--   restriction_test   some individual reached by the role passes, or none fails
--   fits_test          whether the root fits
use Rattle.std.specs.Prelude.{ℕ, Bool, ◌&&◌, not, true}
use Rattle.ale.specs.Signature.{Signature}
use Rattle.ale.specs.Tree.{Forest, Kind, Label, Tree, any, cons, exists, forAll, nil, node}

module _ (S : Signature) where
  abbrev pub satisfies_test : Label S → S.Names → Bool
  satisfies_test l s = S.subset l.wanted s && (S.subset (S.intersection l.excluded s) S.none && not l.bottom)

  abbrev pub reached_test : ℕ → (Tree S → Bool) → Kind → ℕ → Tree S → Bool
  reached_test r q k s b = S.subrole s r && q b

  abbrev pub restriction_test : Kind → ℕ → (Tree S → Bool) → Forest S → Bool
  restriction_test exists r q g = any S (reached_test r q) g
  restriction_test forAll r q g = not (any S (reached_test r (λ b. not (q b))) g)

  abbrev mutual
    pub fits_test : Tree S → Tree S → Bool
    fits_test (node l f) (node m g) = satisfies_test l m.wanted && fits_all_test f g

    pub fits_all_test : Forest S → Forest S → Bool
    fits_all_test nil g = true
    fits_all_test (cons k r d f) g = restriction_test k r (λ b. fits_test d b) g && fits_all_test f g
