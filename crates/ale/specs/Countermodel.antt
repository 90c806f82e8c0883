-- The countermodel of two trees that do not map: a tree of individuals, and its numbering into a finite interpretation.
-- An individual is a tree whose wanted names hold of it and whose successors it reaches by their roles.
--   individual             one individual, from its names and its successors
--   realize                an individual for each some-successor
--   canonical              003, Definition 36: the canonical model of a tree, where only its wanted names hold
--   value_of                the all-successor of a role, or ⊤
--   widened                the names of an individual that breaks an exclusion
--   falsify                successors that fit g and not one edge (k, r) of d, where h gives the countermodel of its end
--   countermodel           individuals that fit v and not d; `countermodel d v`
--   reached                01, "Evidence": each later individual is reached from its parent by its role, and no other pairs exist
--   interpretation_of       a table of individuals as an interpretation
--   max_individuals         how many individuals are enough, by depth and rows
--   numbered               a tree of individuals, numbered depth first
use Rattle.std.specs.Prelude.{◌*◌, ◌<◌, suc, ℕ, T, eqb, Bool, ◌&&◌, false, not, true}
use Rattle.std.proofs.Common.{arith}
use Rattle.table.specs.Pick.{pick}
use Rattle.ale.specs.Encoding.{encoded}
use Rattle.ale.specs.Homomorphism.{edge_serves, maps_to}
use Rattle.ale.specs.Interpretation.{Interpretation}
use Rattle.ale.specs.Signature.{Signature}
use Rattle.ale.specs.Table.{Table, successor_of}
use Rattle.ale.specs.Tree.{Forest, Kind, Label, Tree, any, cons, exists, forAll, nil, node, top}

module _ (S : Signature) where
  abbrev pub value_of : ℕ → Forest S → Tree S
  value_of r nil = top S
  value_of r (cons exists s t f) = value_of r f
  value_of r (cons forAll s t f) = pick (eqb s r) t (value_of r f)

  abbrev pub individual : S.Names → Forest S → Tree S
  individual s f = node (record { wanted = s; excluded = S.none; bottom = false }) f

  abbrev pub realize : (ℕ → Tree S → Tree S) → Forest S → Forest S
  realize h nil = nil
  realize h (cons exists r c g) = cons exists r (h r c) (realize h g)
  realize h (cons forAll r c g) = realize h g

  abbrev mutual
    pub canonical : Tree S → Tree S
    canonical (node l g) = individual l.wanted (canonical_all g)

    pub canonical_all : Forest S → Forest S
    canonical_all nil = nil
    canonical_all (cons exists r c g) = cons exists r (canonical c) (canonical_all g)
    canonical_all (cons forAll r c g) = canonical_all g

  abbrev pub falsify : Kind → ℕ → (Tree S → Tree S) → Forest S → Forest S
  falsify exists r h g = realize (λ r' c. pick (S.subrole r' r) (h c) (canonical c)) g
  falsify forAll r h g = cons exists r (h (value_of r g)) (canonical_all g)

  -- the names that m wants and those that l excludes, less those that m excludes
  abbrev pub widened : Label S → Label S → S.Names
  widened l m = S.intersection (S.union m.wanted l.excluded) (S.complement m.excluded)

  -- nothing fits ⊥, and a wanted name that v does not want fails in the canonical model; an excluded name that v does not exclude may hold
  abbrev mutual
    pub countermodel : Tree S → Tree S → Tree S
    countermodel (node l f) (node m g) =
        pick (S.subset l.wanted m.wanted && not l.bottom)
        (pick (S.subset l.excluded m.excluded)
        (individual m.wanted (falsify_all f g))
        (individual (widened l m) (canonical_all g)))
        (individual m.wanted (canonical_all g))

    -- the first edge that does not map is the one not fitted; where d's label is carried and d does not map, there is one
    pub falsify_all : Forest S → Forest S → Forest S
    falsify_all nil g = canonical_all g
    falsify_all (cons k r d f) g =
        pick (any S (edge_serves S k r (λ c. maps_to S d c)) g) (falsify_all f g) (falsify k r (λ c. countermodel d c) g)

module _ (S : Signature) (p : Table S) where
  abbrev pub reached : ℕ → ℕ → ℕ → Bool
  reached r x y = successor_of S p x y && S.subrole (p.role y) r

  pub reached_respects : (r s x y : ℕ) → T (S.subrole r s) → T (reached r x y) → T (reached s x y)
  reached_respects r s x y i h =
      kept (successor_of S p x y) (S.subrole (p.role y) r) (S.subrole (p.role y) s) (λ j. S.subrole_trans (p.role y) r s j i) h
    where
      kept : (a b c : Bool) → (T b → T c) → T (a && b) → T (a && c)
      kept true b c f h = f h
      kept false b c f h = h

  abbrev pub interpretation_of : 0 < p.rows → Interpretation S
  interpretation_of pos = record {
    count = p.rows;
    inhabited = pos;
    holds = λ n x. S.has (p.label x).wanted n;
    edge = reached;
    respects = reached_respects;
  }

abbrev pub max_individuals : ℕ → ℕ → ℕ
max_individuals depth rows = suc depth * rows

module _ (S : Signature) where
  pub encoded_inhabited : (b : Tree S) → 0 < (encoded S b).rows
  encoded_inhabited (node l f) = omega arith

  abbrev pub numbered : Tree S → Interpretation S
  numbered b = interpretation_of S (encoded S b) (encoded_inhabited b)
