-- Role inclusion, computed: role 9, the narrow one, is a subrole of role 8, the broad one, and there is no other inclusion.
use Prim.Native.Nat.{◌<◌, ◌^◌, ℕ}
use lib.Dec.{T, eqb, eqb_refl, eqb→eq, ltb}
use mathlib.Core.Bool.{Bool, ◌&&◌, ◌||◌, false, true}
use mathlib.Core.Logic.{◌⊎◌, inl, inr, ⊎_elim}
use mathlib.Core.Path.{◌≡◌, refl, subst, sym}
use native.Mathlib.Omega.{arith}
use Rattle.table.specs.Layout.{name_count, roles}
use Rattle.ale.specs.Countermodel.{individual}
use Rattle.ale.specs.Encoding.{encoded}
use Rattle.ale.specs.Homomorphism.{maps_to}
use Rattle.ale.specs.ModelCheck.{fits_test}
use Rattle.ale.specs.Normal.{normal_tree}
use Rattle.ale.specs.PictureSignature.{picture_signature, signature_of}
use Rattle.ale.specs.Product.{product}
use Rattle.ale.specs.Signature.{Signature}
use Rattle.ale.specs.Tree.{Forest, Tree, cons, empty_label, exists, forAll, nil, node, top}
use Rattle.ale.proofs.Tests.{and_left, and_right, or_left, or_split}

-- in paper 01 a role is a subrole of itself only
equal_roles : (r s : ℕ) → picture_signature.subrole r s ≡ eqb r s
equal_roles r s = refl

-- the inclusion of role 9 in role 8
abbrev narrow : ℕ → ℕ → Bool
narrow r s = eqb r 9 && eqb s 8

abbrev within : ℕ → ℕ → Bool
within r s = eqb r s || narrow r s

pub within_refl : (r : ℕ) → T (within r r)
within_refl r = or_left (eqb r r) (narrow r r) (eqb_refl r)

pub within_trans : (r s t : ℕ) → T (within r s) → T (within s t) → T (within r t)
within_trans r s t a b = step (or_split (eqb r s) (narrow r s) a) (or_split (eqb s t) (narrow s t) b)
  where
    step : T (eqb r s) ⊎ T (narrow r s) → T (eqb s t) ⊎ T (narrow s t) → T (within r t)
    step (inl e) y = subst (λ z. T (within z t)) (sym (eqb→eq r s e)) b
    step (inr n) (inl e) = subst (λ z. T (within r z)) (eqb→eq s t e) a
    step (inr n) (inr m) =
        let x = eqb→eq s 8 (and_right (eqb r 9) (eqb s 8) n) in
        let y = eqb→eq s 9 (and_left (eqb s 9) (eqb t 8) m) in
        absurd (omega arith)

pub within_below : (r s : ℕ) → T (within r s) → s < roles → r < roles
within_below r s a l =
    ⊎_elim
    (λ e. let x = eqb→eq r s e in omega arith)
    (λ n. let x = eqb→eq r 9 (and_left (eqb r 9) (eqb s 8) n) in omega arith)
    (or_split (eqb r s) (narrow r s) a)

abbrev Nested : Signature
Nested = signature_of within within_refl within_trans within_below

abbrev wanting : (n : ℕ) → T (ltb n (2 ^ name_count)) → Tree Nested
wanting n t = node (record { wanted = record { set = n; fits = t }; excluded = record { set = 0; fits = tt }; bottom = false }) nil

abbrev under : Forest Nested → Tree Nested
under f = node (empty_label Nested) f

abbrev some_broad : Tree Nested
some_broad = under (cons exists 8 (top Nested) nil)

abbrev some_narrow : Tree Nested
some_narrow = under (cons exists 9 (top Nested) nil)

-- an existential restriction of the broad role subsumes that of the narrow one, and not the reverse
broad_subsumes : (maps_to Nested some_broad some_narrow ≡ true) × (maps_to Nested some_narrow some_broad ≡ false)
broad_subsumes = (refl, refl)

-- a value restriction of the broad role binds the narrow one: all 8 {3}, some 9 {5}
pub broad_merged : normal_tree Nested (encoded Nested (under (cons forAll 8 (wanting 8 tt) (cons exists 9 (wanting 32 tt) nil)))) 1 ≡
    under (cons forAll 8 (wanting 8 tt) (cons forAll 9 (wanting 8 tt) (cons exists 9 (wanting 40 tt) nil)))
broad_merged = refl

-- in the product a pair appears once for every role that includes both, ordered by that role
common_broader : (product Nested some_narrow some_broad ≡ some_broad) ×
    (product Nested some_narrow some_narrow ≡ under (cons exists 8 (top Nested) (cons exists 9 (top Nested) nil)))
common_broader = (refl, refl)

-- an edge counts for all including roles: an individual reached by the narrow role is reached by the broad one
narrow_edge : fits_test Nested some_broad (individual Nested Nested.none (cons exists 9 (individual Nested Nested.none nil) nil)) ≡ true
narrow_edge = refl

-- an all-edge is served by one of the same role only, and paired with one of the same role only
abbrev all_of : ℕ → Tree Nested
all_of r = under (cons forAll r (wanting 8 tt) nil)

all_same : (maps_to Nested (all_of 9) (all_of 8) ≡ false) × (maps_to Nested (all_of 8) (all_of 9) ≡ false)
all_same = (refl, refl)

all_pairs : product Nested (all_of 8) (all_of 9) ≡ top Nested
all_pairs = refl
