-- Every concept over a signature that has the sets of one name means what a description tree means: ⊤, ⊥, P and ¬P are
-- a label, a conjunction joins labels and successors, a restriction is one successor.
--   Singletons                  the sets of one name
--   join, fits_join             two trees in one, which an element fits exactly if it fits both
--   join_roles_known             of known roles, if both are
--   name_tree, restriction_tree   a label of names; one successor
--   concept_tree                 the tree of a concept
--   fits_concept_tree            an element fits it exactly if it is in the extension of the concept (003, Table 1)
--   concept_tree_means           in every structure
--   concept_tree_roles_known      its roles are known
--   concept_of_over              the other way: the concept of a tree of known roles is over the signature
--   all, all_has                the set of all 64 names
--   picture_singletons           paper 01's signature has the sets of one name
use Prim.Native.Nat.{◌<◌, ◌^◌, ℕ}
use lib.Dec.{T, eqb_refl, eqb→eq}
use mathlib.Core.Bool.{false, not}
use mathlib.Core.List.{List, [], ◌∷◌}
use mathlib.Core.Logic.{◌↔◌}
use mathlib.Core.Path.{◌≡◌, subst, sym}
use Rattle.table.proofs.NameSets as Laws
use Rattle.table.specs.NameSet as Set
use Rattle.ale.specs.Concept.{Concept, InExtension, Over, bottom_concept, concept_of, concepts_of, conjunction, conjunction_of, existential, label_concept, names_of, negation, primitive, restriction_concept, top_concept, value}
use Rattle.ale.specs.Forest.{append}
use Rattle.ale.specs.Merged.{label_union}
use Rattle.ale.specs.PictureSignature.{complement_has, name_set, picture_signature}
use Rattle.ale.specs.Rows.{member}
use Rattle.ale.specs.Signature.{Signature}
use Rattle.ale.specs.Structure.{Fits, Restriction, Structure}
use Rattle.ale.specs.Tree.{Forest, Kind, Label, RolesKnown, RolesKnownAll, Tree, bottom_tree, cons, empty_label, exists, forAll, nil, node, top}
use Rattle.ale.proofs.Concepts.{Means}
use Rattle.ale.proofs.Forests.{All-append, All-append-left, All-append-right}
use Rattle.ale.proofs.NameLaws.{none_has}
use Rattle.ale.proofs.RoleLaws.{roles_known_append}
use Rattle.ale.proofs.RowLists.{filter_below_out, member_head, member_tail}
use Rattle.ale.proofs.Structures.{FitsEdge, each_fits, fits_each, restriction_map, satisfies_empty_label, satisfies_left, satisfies_right, satisfies_union}
use Rattle.ale.proofs.Tests.{and_intro, and_right, chosen}

pub record Singletons (S : Signature) : Type 0 where
  pub single : ℕ → S.Names
  pub has_single : (n : ℕ) → n < S.names → T (S.has (single n) n)
  pub single_has : (n i : ℕ) → T (S.has (single n) i) → i ≡ n

module _ (S : Signature) where
  abbrev pub join : Tree S → Tree S → Tree S
  join (node l f) (node m g) = node (label_union S l m) (append S f g)

  abbrev pub name_tree : S.Names → S.Names → Tree S
  name_tree a b = node (record { wanted = a; excluded = b; bottom = false }) nil

  abbrev pub restriction_tree : Kind → ℕ → Tree S → Tree S
  restriction_tree k r t = node (empty_label S) (cons k r t nil)

  pub join_roles_known : (t u : Tree S) → RolesKnown S t → RolesKnown S u → RolesKnown S (join t u)
  join_roles_known (node l f) (node m g) a b = roles_known_append S f g a b

module _ (S : Signature) (M : Structure S) where
  pub fits_join : (t u : Tree S) (x : M.Element) → Fits S M (join S t u) x ↔ (Fits S M t x × Fits S M u x)
  fits_join (node l f) (node m g) x =
      let E = FitsEdge S M x in (
        λ (s, h).
            let each = fits_each S M (append S f g) x h in (
              (satisfies_left S M l m x s, each_fits S M f x (All-append-left S E f g each)),
              (satisfies_right S M l m x s, each_fits S M g x (All-append-right S E f g each)),
            ),
        λ ((s, h), (u, i)).
            let each = All-append S E f g (fits_each S M f x h) (fits_each S M g x i) in
            (satisfies_union S M l m x s u, each_fits S M (append S f g) x each),
      )

  -- one successor, of either kind
  fits_restriction : (k : Kind) (r : ℕ) (t : Tree S) (P : M.Element → Type 0) →
      ((y : M.Element) → Fits S M t y ↔ P y) → (x : M.Element) →
      Fits S M (restriction_tree S k r t) x ↔ Restriction S M k r P x
  fits_restriction k r t P e x = (
    λ f. restriction_map S M k r (λ y. Fits S M t y) P (λ y. (e y).0) x f.1.0,
    λ p. (satisfies_empty_label S M x, (restriction_map S M k r P (λ y. Fits S M t y) (λ y. (e y).1) x p, tt)),
  )

module _ (S : Signature) (one : Singletons S) where
  abbrev pub concept_tree : Concept → Tree S
  concept_tree (primitive n) = name_tree S (one.single n) S.none
  concept_tree top_concept = top S
  concept_tree (conjunction c d) = join S (concept_tree c) (concept_tree d)
  concept_tree (existential r c) = restriction_tree S exists r (concept_tree c)
  concept_tree (value r c) = restriction_tree S forAll r (concept_tree c)
  concept_tree (negation n) = name_tree S S.none (one.single n)
  concept_tree bottom_concept = bottom_tree S

  pub concept_tree_roles_known : (c : Concept) → Over S c → RolesKnown S (concept_tree c)
  concept_tree_roles_known (primitive n) o = tt
  concept_tree_roles_known top_concept o = tt
  concept_tree_roles_known (conjunction c d) o =
      join_roles_known S (concept_tree c) (concept_tree d)
      (concept_tree_roles_known c o.0) (concept_tree_roles_known d o.1)
  concept_tree_roles_known (existential r c) o = (o.0, concept_tree_roles_known c o.1, tt)
  concept_tree_roles_known (value r c) o = (o.0, concept_tree_roles_known c o.1, tt)
  concept_tree_roles_known (negation n) o = tt
  concept_tree_roles_known bottom_concept o = tt

  module _ (M : Structure S) where
    pub fits_concept_tree : (c : Concept) → Over S c → (x : M.Element) →
        Fits S M (concept_tree c) x ↔ InExtension S M c x
    fits_concept_tree (primitive n) o x = (
      λ f. f.0.held n (one.has_single n o),
      λ p. (
        record {
          held = λ i h. subst (λ z. T (M.holds z x)) (sym (one.single_has n i h)) p;
          free = λ i h _. none_has S i h;
          possible = tt;
        },
        tt,
      ),
    )
    fits_concept_tree top_concept o x = (λ _. tt, λ _. (satisfies_empty_label S M x, tt))
    fits_concept_tree (conjunction c d) o x =
        let e = fits_concept_tree c o.0 x in
        let i = fits_concept_tree d o.1 x in
        let j = fits_join S M (concept_tree c) (concept_tree d) x in
        (λ f. (e.0 (j.0 f).0, i.0 (j.0 f).1), λ p. j.1 (e.1 p.0, i.1 p.1))
    fits_concept_tree (existential r c) o x =
        fits_restriction S M exists r (concept_tree c) (λ y. InExtension S M c y) (λ y. fits_concept_tree c o.1 y) x
    fits_concept_tree (value r c) o x =
        fits_restriction S M forAll r (concept_tree c) (λ y. InExtension S M c y) (λ y. fits_concept_tree c o.1 y) x
    fits_concept_tree (negation n) o x = (
      λ f. f.0.free n (one.has_single n o),
      λ p. (
        record {
          held = λ i h. absurd (none_has S i h);
          free = λ i h t. p (subst (λ z. T (M.holds z x)) (one.single_has n i h) t);
          possible = tt;
        },
        tt,
      ),
    )
    fits_concept_tree bottom_concept o x = (λ f. f.0.possible, λ p. absurd p)

  pub concept_tree_means : (c : Concept) → Over S c → Means S (concept_tree c) c
  concept_tree_means c o M x = fits_concept_tree M c o x

module _ (S : Signature) where
  names_over : (h : ℕ → Concept) → ((n : ℕ) → n < S.names → Over S (h n)) → (s : List ℕ) →
      ((n : ℕ) → T (member n s) → n < S.names) → Over S (conjunction_of h s)
  names_over h o [] m = tt
  names_over h o (n ∷ s) m = (o n (m n (member_head n s)), names_over h o s (λ i j. m i (member_tail i n s j)))

  listed_below : (a : S.Names) (n : ℕ) → T (member n (names_of S a)) → n < S.names
  listed_below a n m = (filter_below_out (S.has a) S.names n m).1

  label_over : (l : Label S) → Over S (label_concept S l)
  label_over l = (
    chosen (λ c. Over S c) l.bottom bottom_concept top_concept (λ _. tt) (λ _. tt),
    (
      names_over primitive (λ n b. b) (names_of S l.wanted) (listed_below l.wanted),
      names_over negation (λ n b. b) (names_of S l.excluded) (listed_below l.excluded),
    ),
  )

  restriction_over : (k : Kind) (r : ℕ) (c : Concept) → r < S.roles → Over S c → Over S (restriction_concept k r c)
  restriction_over exists r c l o = (l, o)
  restriction_over forAll r c l o = (l, o)

  mutual
    pub concept_of_over : (t : Tree S) → RolesKnown S t → Over S (concept_of S t)
    concept_of_over (node l f) w = (label_over l, concepts_of_over f w)

    concepts_of_over : (f : Forest S) → RolesKnownAll S f → Over S (concepts_of S f)
    concepts_of_over nil w = tt
    concepts_of_over (cons k r t f) w =
        (restriction_over k r (concept_of S t) w.0 (concept_of_over t w.1), concepts_of_over f w.2)

abbrev pub all : ℕ
all = Set.complement Set.none

pub all_has : (n : ℕ) → n < picture_signature.names → T (Set.has all n)
all_has n l =
    subst T (sym (complement_has picture_signature.none n l)) (subst (λ b. T (not b)) (sym (Laws.has_none n)) tt)

-- within the names nothing is lost of 2 ^ n, beyond them nothing is left of it
abbrev pub picture_singletons : Singletons picture_signature
picture_singletons = record {
  single = λ n.
      name_set (Set.intersection all (2 ^ n)) (Laws.intersection_below all (2 ^ n) (Laws.complement_below Set.none));
  has_single = λ n l. subst T (sym (Laws.has_intersection all (2 ^ n) n))
      (and_intro (Set.has all n) (Set.has (2 ^ n) n) (all_has n l) (subst T (sym (Laws.has_power n n)) (eqb_refl n)));
  single_has = λ n i h.
      let both = subst T (Laws.has_intersection all (2 ^ n) i) h in
      eqb→eq i n (subst T (Laws.has_power n i) (and_right (Set.has all i) (Set.has (2 ^ n) i) both));
}
