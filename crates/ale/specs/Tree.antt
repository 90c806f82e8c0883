-- 003, Definition 33: description trees. A node has a label and successors, each by a kind and a role.
--   Kind                    exists: existential restriction ("some"); forAll: value restriction ("all")
--   same_kind                the same kind
--   Label                   wanted names P, excluded names ¬P, and whether ⊥ is there (01: the impossible mark)
--   Tree, Forest            a node; the successors of a node, in order
--   label_of, successors_of   the parts of a tree
--   empty_label, top, bottom_label, bottom_tree     ⊤ and ⊥
--   size, sizes             nodes, of a tree and of successors
--   height, heights         edges from the root to the deepest node, by the tree and by its successors
--   All, Any, any           a fact of every successor, of one of them; the same by a test
--   RolesKnown, RolesKnownAll   every role is one of the roles
use Rattle.std.specs.Prelude.{◌+◌, ◌<◌, max, suc, ℕ, Bool, ◌||◌, false, true, ◌⊎◌}
use Rattle.ale.specs.Signature.{Signature}

pub data Kind : Type 0 where
  exists forAll : Kind

abbrev pub same_kind : Kind → Kind → Bool
same_kind exists exists = true
same_kind exists forAll = false
same_kind forAll exists = false
same_kind forAll forAll = true

module _ (S : Signature) where
  pub record Label : Type 0 where
    pub wanted : S.Names
    pub excluded : S.Names
    pub bottom : Bool

  mutual
    pub data Tree : Type 0 where
      node : Label → Forest → Tree

    pub data Forest : Type 0 where
      nil : Forest
      cons : Kind → ℕ → Tree → Forest → Forest

  abbrev pub label_of : Tree → Label
  label_of (node l f) = l

  abbrev pub successors_of : Tree → Forest
  successors_of (node l f) = f

  abbrev pub empty_label : Label
  empty_label = record { wanted = S.none; excluded = S.none; bottom = false }

  abbrev pub top : Tree
  top = node empty_label nil

  abbrev pub bottom_label : Label
  bottom_label = record { wanted = S.none; excluded = S.none; bottom = true }

  abbrev pub bottom_tree : Tree
  bottom_tree = node bottom_label nil

  abbrev mutual
    pub size : Tree → ℕ
    size (node l f) = suc (sizes f)

    pub sizes : Forest → ℕ
    sizes nil = 0
    sizes (cons k r t f) = size t + sizes f

  abbrev mutual
    pub height : Tree → ℕ
    height (node l f) = heights f

    pub heights : Forest → ℕ
    heights nil = 0
    heights (cons k r t f) = max (suc (height t)) (heights f)

  abbrev pub All {ℓ} : (Kind → ℕ → Tree → Type ℓ) → Forest → Type ℓ
  All P nil = Unit
  All P (cons k r t f) = P k r t × All P f

  abbrev pub Any : (Kind → ℕ → Tree → Type 0) → Forest → Type 0
  Any P nil = ⊥
  Any P (cons k r t f) = P k r t ⊎ Any P f

  abbrev pub any : (Kind → ℕ → Tree → Bool) → Forest → Bool
  any p nil = false
  any p (cons k r t f) = p k r t || any p f

  -- every role is one of the roles
  abbrev mutual
    pub RolesKnown : Tree → Type 0
    RolesKnown (node l f) = RolesKnownAll f

    pub RolesKnownAll : Forest → Type 0
    RolesKnownAll nil = Unit
    RolesKnownAll (cons k r t f) = (r < S.roles) × RolesKnown t × RolesKnownAll f
