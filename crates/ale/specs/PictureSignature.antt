-- The signature of paper 01: 64 names, a set of them being a number below 2 ^ 64 with bit n for name n; 32 roles, each a subrole of itself only.
--   NameSet            a number below 2 ^ nameCount: the sets of the format (crate table), with their operations and the laws that are proved there
--   below, name_set     its number is below that; a number below it as a set
--   complement_has .. subset_from, equal_trans, equal_below   laws that the signature takes
--   signature_of        over any role inclusion
--   picture_signature   where it is equality
use Rattle.std.specs.Prelude.{◌≡◌, Bool, not, ◌&&◌, ℕ, ◌^◌, ◌<◌, T, eqb, ltb}
use Rattle.std.proofs.Common.{sym, subst, eqb→eq, ltb→lt, lt→ltb}
use Rattle.std.proofs.Math.Dec.{eqb_refl}
use Rattle.table.specs.Layout as Layout
use Rattle.table.specs.Layout.{name_count}
use Rattle.table.specs.NameSet as Set
use Rattle.table.proofs.Bools.{is_true, true_is}
use Rattle.table.proofs.NameSets as Laws
use Rattle.ale.specs.Signature.{Signature}

pub record NameSet : Type 0 where
  pub set : ℕ
  pub fits : T (ltb set (2 ^ name_count))

pub below : (a : NameSet) → a.set < 2 ^ name_count
below a = ltb→lt a.set (2 ^ name_count) a.fits

abbrev pub name_set : (n : ℕ) → n < 2 ^ name_count → NameSet
name_set n l = record { set = n; fits = lt→ltb n (2 ^ name_count) l }

pub complement_has : (a : NameSet) (n : ℕ) → n < name_count → Set.has (Set.complement a.set) n ≡ not (Set.has a.set n)
complement_has a n l =
    subst (λ b. Set.has (Set.complement a.set) n ≡ (b && not (Set.has a.set n))) (is_true (ltb n name_count) (lt→ltb n name_count l))
    (Laws.has_complement a.set n (below a))

pub subset_to : (a b : NameSet) → T (Set.subset a.set b.set) → (n : ℕ) → T (Set.has a.set n) → T (Set.has b.set n)
subset_to a b t n h =
    true_is (Set.has b.set n) (Laws.subset_has a.set b.set (is_true (Set.subset a.set b.set) t) n (is_true (Set.has a.set n) h))

pub subset_from : (a b : NameSet) → ((n : ℕ) → T (Set.has a.set n) → T (Set.has b.set n)) → T (Set.subset a.set b.set)
subset_from a b h =
    true_is (Set.subset a.set b.set)
    (Laws.has_subset a.set b.set (λ n e. is_true (Set.has b.set n) (h n (true_is (Set.has a.set n) e))))

-- over any role inclusion
module _ (subrole : ℕ → ℕ → Bool) (subrole_refl : (r : ℕ) → T (subrole r r))
    (subrole_trans : (r s t : ℕ) → T (subrole r s) → T (subrole s t) → T (subrole r t))
    (subrole_below : (r s : ℕ) → T (subrole r s) → s < Layout.roles → r < Layout.roles) where
  abbrev pub signature_of : Signature
  signature_of = record {
    Names = NameSet;
    names = name_count;
    has = λ a n. Set.has a.set n;
    none = record { set = Set.none; fits = tt };
    union = λ a b. name_set (Set.union a.set b.set) (Laws.union_below a.set b.set (below a) (below b));
    intersection = λ a b. name_set (Set.intersection a.set b.set) (Laws.intersection_below a.set b.set (below a));
    complement = λ a. name_set (Set.complement a.set) (Laws.complement_below a.set);
    subset = λ a b. Set.subset a.set b.set;
    has_below = λ a n h. Laws.has_below a.set n (below a) (is_true (Set.has a.set n) h);
    has_none = Laws.has_none;
    has_union = λ a b. Laws.has_union a.set b.set;
    has_intersection = λ a b. Laws.has_intersection a.set b.set;
    has_complement = complement_has;
    subset_has = subset_to;
    subset_intro = subset_from;
    roles = Layout.roles;
    subrole = subrole;
    subrole_refl = subrole_refl;
    subrole_trans = subrole_trans;
    subrole_below = subrole_below;
  }

pub equal_trans : (r s t : ℕ) → T (eqb r s) → T (eqb s t) → T (eqb r t)
equal_trans r s t p q = subst (λ z. T (eqb r z)) (eqb→eq s t q) p

pub equal_below : (r s : ℕ) → T (eqb r s) → s < Layout.roles → r < Layout.roles
equal_below r s p l = subst (λ z. z < Layout.roles) (sym (eqb→eq r s p)) l

abbrev pub picture_signature : Signature
picture_signature = signature_of eqb eqb_refl equal_trans equal_below
