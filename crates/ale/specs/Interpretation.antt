-- 01, "What a picture means": finite interpretations, and subsumption over them (003, Definition 1, finite ones only).
--   Interpretation   the individuals are the numbers below a positive count; a set of them for each name, a set of pairs for each role
--   structure_of      the same as a structure. Its elements are all numbers, but its edges end at individuals: so "some" and "all" range over these.
--                    A role is a set of pairs of individuals: `edge` below `count` on both sides, of x by `Subsumed`, of y by `structureOf`
--   Subsumed         `Subsumed v d`: v ⊑ d, d covers v: every individual that fits v fits d, in every interpretation
--                    (over all structures: Theory, `SubsumedInAll`; for pictures the same, Subsumption:
--                    `subsumed-inAll`)
--   Equivalent       each subsumes the other
use Rattle.std.specs.Prelude.{◌<◌, ℕ, T, Bool}
use Rattle.ale.specs.Signature.{Signature}
use Rattle.ale.specs.Structure.{Fits, Structure}
use Rattle.ale.specs.Tree.{Tree}

module _ (S : Signature) where
  pub record Interpretation : Type 0 where
    pub count : ℕ
    pub inhabited : 0 < count
    pub holds : ℕ → ℕ → Bool
    pub edge : ℕ → ℕ → ℕ → Bool
    -- asks nothing where inclusion is equality, as in 01 (meaning/proofs/Coverings: `any-interpretation`)
    pub respects : (r s x y : ℕ) → T (S.subrole r s) → T (edge r x y) → T (edge s x y)

  abbrev pub structure_of : Interpretation → Structure S
  structure_of I = record {
    Element = ℕ;
    holds = I.holds;
    edge = λ r x y. (y < I.count) × T (I.edge r x y);
    respects = λ r s x y i h. (h.0, I.respects r s x y i h.1);
  }

  abbrev pub Subsumed : Tree S → Tree S → Type 0
  Subsumed v d = (I : Interpretation) (x : ℕ) → x < I.count → Fits S (structure_of I) v x → Fits S (structure_of I) d x

  abbrev pub Equivalent : Tree S → Tree S → Type 0
  Equivalent v d = Subsumed v d × Subsumed d v
