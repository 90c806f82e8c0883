-- Only in theorems about the definitions: no call and no condition is said by these. Nobody has to believe them.
--   SubsumedInAll        whatever fits the first fits the second, in every structure, of any size
-- 003, Definition 34 and Lemma 35: what it is for a tree to be normal. No rule would add to what is said:
--   NodeSaturated        P ⊓ ¬P is only in ⊥; what an all-successor says is said by the some- and all-successors that it binds
--   Saturated            that, and no some-successor is ⊥, at every node
--   Reduced              no successor is one that is dropped: no all-successor is ⊤, at every node
--   CanonicalBottom      a node that is ⊥ has no names and no successors, at every node
--   Ordered              successors by role, all before some, and at most one all-successor to a role, at every node (01)
--   Normal               all of these
--   IfExists, IfForAll   a property asked of the successors of one kind
--   Before               a successor by a role, of a kind, may stand after one by role r
--   Propagated           whatever fits t fits the all-successors of every role including r
-- The common picture of two tables (003, Definition 2), and of tables folded two at a time: any order, grouping and repetition.
--   lcs, lcs_table        the product of the normal trees, and its table
--   Folding              one of the numbered tables, or two foldings put together
--   Uses                 the tables that a folding uses
--   fold                 the common picture, of depth n
use Rattle.std.specs.Prelude.{◌<◌, ◌≤◌, ℕ, T, not, ◌⊎◌, ◌≡◌}
use Rattle.ale.specs.Countermodel.{value_of}
use Rattle.ale.specs.Encoding.{encoded}
use Rattle.ale.specs.Forest.{dropped}
use Rattle.ale.specs.Normal.{bottom_exists, normal_tree}
use Rattle.ale.specs.Product.{product}
use Rattle.ale.specs.Signature.{Signature}
use Rattle.ale.specs.Structure.{Fits, Structure}
use Rattle.ale.specs.Table.{Table}
use Rattle.ale.specs.Tree.{All, Forest, Kind, Label, Tree, bottom_label, cons, exists, forAll, nil, node}

module _ (S : Signature) where
  abbrev pub SubsumedInAll : Tree S → Tree S → Type 1
  SubsumedInAll t u = (M : Structure S) (x : M.Element) → Fits S M t x → Fits S M u x

module _ (S : Signature) where
  abbrev pub IfExists {ℓ} : (ℕ → Tree S → Type ℓ) → Kind → ℕ → Tree S → Type ℓ
  IfExists P exists r t = P r t
  IfExists P forAll r t = Unit

  abbrev pub IfForAll {ℓ} : (ℕ → Tree S → Type ℓ) → Kind → ℕ → Tree S → Type ℓ
  IfForAll P exists r t = Unit
  IfForAll P forAll r t = P r t

  abbrev pub Propagated : Forest S → ℕ → Tree S → Type 1
  Propagated f r t = All S (IfForAll (λ s b. T (S.subrole r s) → SubsumedInAll S t b)) f

  pub record NodeSaturated (l : Label S) (f : Forest S) : Type 1 where
    pub consistent : T (not l.bottom) → (n : ℕ) → T (S.has l.wanted n) → T (S.has l.excluded n) → ⊥
    pub into_exists : All S (IfExists (λ r c. Propagated f r c)) f
    pub into_for_all : (r : ℕ) → Propagated f r (value_of S r f)

  abbrev mutual
    pub Saturated : Tree S → Type 1
    Saturated (node l f) = NodeSaturated l f × SaturatedAll f

    pub SaturatedAll : Forest S → Type 1
    SaturatedAll nil = Unit
    SaturatedAll (cons k r t f) = T (not (bottom_exists S k r t)) × Saturated t × SaturatedAll f

  abbrev mutual
    pub Reduced : Tree S → Type 0
    Reduced (node l f) = ReducedAll f

    pub ReducedAll : Forest S → Type 0
    ReducedAll nil = Unit
    ReducedAll (cons k r t f) = T (not (dropped S k t)) × Reduced t × ReducedAll f

  abbrev mutual
    pub CanonicalBottom : Tree S → Type 0
    CanonicalBottom (node l f) = (T l.bottom → (l ≡ bottom_label S) × (f ≡ nil)) × CanonicalBottomAll f

    pub CanonicalBottomAll : Forest S → Type 0
    CanonicalBottomAll nil = Unit
    CanonicalBottomAll (cons k r t f) = CanonicalBottom t × CanonicalBottomAll f

  -- what may stand after a successor of role r: a some-successor of no lower role, an all-successor of a higher one
  abbrev pub Before : ℕ → Kind → ℕ → Type 0
  Before r exists r' = r ≤ r'
  Before r forAll r' = r < r'

  abbrev mutual
    pub Ordered : Tree S → Type 0
    Ordered (node l f) = OrderedAll f

    pub OrderedAll : Forest S → Type 0
    OrderedAll nil = Unit
    OrderedAll (cons k r t f) = All S (λ k' r' _. Before r k' r') f × Ordered t × OrderedAll f

  pub record Normal (t : Tree S) : Type 1 where
    pub saturated : Saturated t
    pub reduced : Reduced t
    pub canonical_bottom : CanonicalBottom t
    pub ordered : Ordered t

module _ (S : Signature) (p q : Table S) where
  abbrev pub lcs : ℕ → ℕ → Tree S
  lcs n m = product S (normal_tree S p n) (normal_tree S q m)

  abbrev pub lcs_table : ℕ → Table S
  lcs_table n = encoded S (lcs n n)

pub data Folding : Type 0 where
  one : ℕ → Folding
  two : Folding → Folding → Folding

abbrev pub Uses : Folding → ℕ → Type 0
Uses (one j) i = i ≡ j
Uses (two a b) i = Uses a i ⊎ Uses b i

module _ (S : Signature) (n : ℕ) (tables : ℕ → Table S) where
  abbrev pub fold : Folding → Table S
  fold (one i) = tables i
  fold (two a b) = lcs_table S (fold a) (fold b) n
