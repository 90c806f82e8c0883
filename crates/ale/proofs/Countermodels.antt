-- The countermodel refutes: if a reduced tree d does not map to a saturated tree v, the root of `countermodel d v` fits v and not d.
-- By induction on d. If v's label does not carry d's, the canonical successors fit v's edges, and the root's names fit v's label and not d's (nothing
-- fits it if d is ⊥). Else an edge of d to some e has no image. For a some-edge, each some-successor of v whose role serves becomes its countermodel with
-- e; for an all-edge, one successor is added, the countermodel of v's value restriction with e. As v is saturated, each fits the value restrictions that
-- bind it.
--   fits_canonical          003, Lemma 37: the canonical model of a saturated tree that is not ⊥ fits it
--   fits_each_canonical     the same for each some-successor
--   Refutes                 an individual fits v and not d
--   countermodel_complete   the countermodel refutes
use Prim.Native.Nat.{ℕ}
use lib.Dec.{T, eqb}
use mathlib.Core.Bool.{Bool, ◌&&◌, false, not, true}
use mathlib.Core.Logic.{inl, inr, ⊎_elim}
use mathlib.Core.Path.{◌≡◌, ap, refl, subst}
use Rattle.table.specs.Pick.{pick}
use Rattle.ale.specs.Countermodel.{canonical, canonical_all, countermodel, falsify, falsify_all, individual, realize, value_of, widened}
use Rattle.ale.specs.Forest.{dropped, trivial}
use Rattle.ale.specs.Homomorphism.{edge_serves, label_within, maps_all_to, maps_to}
use Rattle.ale.specs.Theory.{IfExists, IfForAll, NodeSaturated, Propagated, Reduced, ReducedAll, Saturated, SaturatedAll}
use Rattle.ale.specs.Signature.{Signature}
use Rattle.ale.specs.Structure.{Fits, FitsAll, Restriction, Satisfies}
use Rattle.ale.specs.Tree.{All, Forest, Kind, Label, Tree, any, cons, exists, forAll, label_of, nil, node, top}
use Rattle.ale.proofs.NameLaws.{complement_in, complement_out, intersection_intro, intersection_right, subset_fails, union_left, union_right}
use Rattle.ale.proofs.NormalForms.{saturated_top, trivial_maps_to, value_of_elim}
use Rattle.ale.proofs.Tests.{and_fails, clash, or_fails_left, or_fails_right, refute}
use Rattle.ale.proofs.TreeStructure.{AllChildren, children_at, tree_structure}
use Rattle.ale.proofs.Trees.{All-map}

module _ (S : Signature) where
  abbrev FitsTree : Tree S → Tree S → Type 0
  FitsTree t b = Fits S (tree_structure S) t b

  abbrev FitsAllTree : Forest S → Tree S → Type 0
  FitsAllTree f b = FitsAll S (tree_structure S) f b

  -- a successor y by role r fits every all-successor of g that binds it
  abbrev FitsValues : Forest S → ℕ → Tree S → Type 0
  FitsValues g r y = All S (IfForAll S (λ s b. T (S.subrole r s) → FitsTree b y)) g

  -- x has a successor for a some-edge
  abbrev Realizes : Tree S → Kind → ℕ → Tree S → Type 0
  Realizes x = IfExists S (λ r c. Restriction S (tree_structure S) exists r (λ y. FitsTree c y) x)

  -- h gives each some-successor an individual that fits it
  abbrev FitsExists : (ℕ → Tree S → Tree S) → Forest S → Type 0
  FitsExists h g = All S (IfExists S (λ r c. FitsTree c (h r c))) g

  -- an individual with the successors cs fits the edges g, whatever its names
  abbrev SuccessorsFit : Forest S → Forest S → Type 0
  SuccessorsFit g cs = (s : S.Names) → FitsAllTree g (individual S s cs)

  -- edges are fitted where each some-edge is realized and each successor fits the value restrictions that bind it
  fits_realized : (g : Forest S) (s : S.Names) (cs : Forest S) →
      All S (Realizes (individual S s cs)) g → AllChildren S (λ r y. FitsValues g r y) cs → FitsAllTree g (individual S s cs)
  fits_realized nil s cs h b = tt
  fits_realized (cons exists r c g) s cs h b =
      (h.0, fits_realized g s cs h.1 (All-map S (λ j q y. FitsValues (cons exists r c g) q y) (λ j q y. FitsValues g q y) (λ j q y p. p.1) cs b))
  fits_realized (cons forAll r c g) s cs h b =
      let Bound : Kind → ℕ → Tree S → Type 0 = λ j q y. FitsValues (cons forAll r c g) q y in (
        children_at S (λ y. FitsTree c y) r cs (All-map S Bound (λ j q y. T (S.subrole q r) → FitsTree c y) (λ j q y p. p.0) cs b),
        fits_realized g s cs h.1 (All-map S Bound (λ j q y. FitsValues g q y) (λ j q y p. p.1) cs b),
      )

  -- one successor more realizes no less
  realizes_more : (g : Forest S) (s : S.Names) (cs : Forest S) (q : ℕ) (b : Tree S) →
      All S (Realizes (individual S s cs)) g → All S (Realizes (individual S s (cons exists q b cs))) g
  realizes_more nil s cs q b h = tt
  realizes_more (cons exists r c g) s cs q b h = ((h.0.0, inr h.0.1, h.0.2), realizes_more g s cs q b h.1)
  realizes_more (cons forAll r c g) s cs q b h = (tt, realizes_more g s cs q b h.1)

  propagated_fits_values : (g : Forest S) (r : ℕ) (t : Tree S) (y : Tree S) → Propagated S g r t → FitsTree t y → FitsValues g r y
  propagated_fits_values nil r t y a p = tt
  propagated_fits_values (cons exists s b g) r t y a p = (tt, propagated_fits_values g r t y a.1 p)
  propagated_fits_values (cons forAll s b g) r t y a p = (λ i. a.0 i (tree_structure S) y p, propagated_fits_values g r t y a.1 p)

  realize_realizes : (h : ℕ → Tree S → Tree S) (g : Forest S) (s : S.Names) → FitsExists h g → All S (Realizes (individual S s (realize S h g))) g
  realize_realizes h nil s p = tt
  realize_realizes h (cons exists r c g) s p =
      ((h r c, inl (S.subrole_refl r, refl), p.0), realizes_more g s (realize S h g) r (h r c) (realize_realizes h g s p.1))
  realize_realizes h (cons forAll r c g) s p = (tt, realize_realizes h g s p.1)

  realize_fits_values : (g₀ : Forest S) (h : ℕ → Tree S → Tree S) (g : Forest S) → FitsExists h g → All S (IfExists S (λ r c. Propagated S g₀ r c)) g →
      AllChildren S (λ r y. FitsValues g₀ r y) (realize S h g)
  realize_fits_values g₀ h nil p a = tt
  realize_fits_values g₀ h (cons exists r c g) p a = (propagated_fits_values g₀ r c (h r c) a.0 p.0, realize_fits_values g₀ h g p.1 a.1)
  realize_fits_values g₀ h (cons forAll r c g) p a = realize_fits_values g₀ h g p.1 a.1

  canonical_realize : (g : Forest S) → realize S (λ r c. canonical S c) g ≡ canonical_all S g
  canonical_realize nil = refl
  canonical_realize (cons exists r c g) = ap (λ cs. cons exists r (canonical S c) cs) (canonical_realize g)
  canonical_realize (cons forAll r c g) = canonical_realize g

  -- a consistent label is satisfied where exactly its wanted names hold
  satisfies_wanted : (l : Label S) (f cs : Forest S) → NodeSaturated S l f → T (not l.bottom) →
      Satisfies S (tree_structure S) l (individual S l.wanted cs)
  satisfies_wanted l f cs t u = record { held = λ n p. p; free = λ n e p. t.consistent u n p e; possible = u }

  -- and where names hold besides that it does not exclude
  satisfies_widened : (k l : Label S) (f cs : Forest S) → NodeSaturated S l f → T (not l.bottom) →
      Satisfies S (tree_structure S) l (individual S (widened S k l) cs)
  satisfies_widened k l f cs t u =
      let both = S.union l.wanted k.excluded in
      let allowed = S.complement l.excluded in
      record {
        held = λ n p. intersection_intro S both allowed n (union_left S l.wanted k.excluded n p)
            (complement_in S l.excluded l.wanted n p (refute (S.has l.excluded n) (t.consistent u n p)));
        free = λ n e p. complement_out S l.excluded n (intersection_right S both allowed n p) e;
        possible = u;
      }

  fits_realize : (l : Label S) (g : Forest S) → NodeSaturated S l g → (h : ℕ → Tree S → Tree S) → FitsExists h g → SuccessorsFit g (realize S h g)
  fits_realize l g t h p s = fits_realized g s (realize S h g) (realize_realizes h g s p) (realize_fits_values g h g p t.into_exists)

  fits_canonical_all : (l : Label S) (g : Forest S) → NodeSaturated S l g → FitsExists (λ r c. canonical S c) g → SuccessorsFit g (canonical_all S g)
  fits_canonical_all l g t p s =
      subst (λ cs. FitsAllTree g (individual S s cs)) (canonical_realize g) (fits_realize l g t (λ r c. canonical S c) p s)

  mutual
    pub fits_canonical : (v : Tree S) → Saturated S v → T (not (label_of S v).bottom) → FitsTree v (canonical S v)
    fits_canonical (node l g) w u =
        (satisfies_wanted l g (canonical_all S g) w.0 u, fits_canonical_all l g w.0 (fits_each_canonical g w.1) l.wanted)

    pub fits_each_canonical : (g : Forest S) → SaturatedAll S g → All S (IfExists S (λ r c. FitsTree c (canonical S c))) g
    fits_each_canonical nil w = tt
    fits_each_canonical (cons exists r c g) w = (fits_canonical c w.1 w.0, fits_each_canonical g w.2)
    fits_each_canonical (cons forAll r c g) w = (tt, fits_each_canonical g w.2)

  abbrev pub Refutes : Tree S → Tree S → Tree S → Type 0
  Refutes v d b = FitsTree v b × (FitsTree d b → ⊥)

  -- successors that fit the edges g, and not the edges f where those do not map
  abbrev Falsifies : Forest S → Forest S → Forest S → Type 0
  Falsifies f g cs = SuccessorsFit g cs × (T (not (maps_all_to S f g)) → (s : S.Names) → FitsAllTree f (individual S s cs) → ⊥)

  -- successors that fit the edges g, and not the edge (k, r) to d
  abbrev FalsifiesEdge : Kind → ℕ → Tree S → Forest S → Forest S → Type 0
  FalsifiesEdge k r d g cs =
      SuccessorsFit g cs × ((s : S.Names) → Restriction S (tree_structure S) k r (λ y. FitsTree d y) (individual S s cs) → ⊥)

  -- h gives countermodels of d: the induction hypothesis at the end of an edge
  abbrev RefutesBelow : Tree S → (Tree S → Tree S) → Type 1
  RefutesBelow d h = (c : Tree S) → Saturated S c → T (not (maps_to S d c)) → Refutes c d (h c)

  -- the edge (k, r) to d has no image among the edges g
  abbrev Unserved : Kind → ℕ → Tree S → Forest S → Type 0
  Unserved k r d g = T (not (any S (edge_serves S k r (λ c. maps_to S d c)) g))

  module _ (r : ℕ) (d : Tree S) (h : Tree S → Tree S) (below : RefutesBelow d h) where
    -- a some-edge: the countermodel for each successor whose role would serve, the canonical model for the others
    abbrev refuting : ℕ → Tree S → Tree S
    refuting r' c = pick (S.subrole r' r) (h c) (canonical S c)

    fits_refuting : (r' : ℕ) (c : Tree S) → Saturated S c → T (not (label_of S c).bottom) → T (not (S.subrole r' r && maps_to S d c)) →
        FitsTree c (refuting r' c)
    fits_refuting r' c w u x = step (S.subrole r' r) x
      where
        step : (b : Bool) → T (not (b && maps_to S d c)) → FitsTree c (pick b (h c) (canonical S c))
        step true y = (below c w y).0
        step false y = fits_canonical c w u

    fits_each_refuting : (g : Forest S) → SaturatedAll S g → Unserved exists r d g → FitsExists refuting g
    fits_each_refuting nil w x = tt
    fits_each_refuting (cons exists r' c g) w x =
        let p = S.subrole r' r && maps_to S d c in
        let q = any S (edge_serves S exists r (λ c. maps_to S d c)) g in
        (fits_refuting r' c w.1 w.0 (or_fails_left p q x), fits_each_refuting g w.2 (or_fails_right p q x))
    fits_each_refuting (cons forAll r' c g) w x = (tt, fits_each_refuting g w.2 x)

    refuting_refutes : (g : Forest S) → SaturatedAll S g → Unserved exists r d g →
        AllChildren S (λ r' y. T (S.subrole r' r) → FitsTree d y → ⊥) (realize S refuting g)
    refuting_refutes nil w x = tt
    refuting_refutes (cons exists r' c g) w x =
        let p = S.subrole r' r && maps_to S d c in
        let q = any S (edge_serves S exists r (λ c. maps_to S d c)) g in
        (step (S.subrole r' r) (or_fails_left p q x), refuting_refutes g w.2 (or_fails_right p q x))
      where
        step : (b : Bool) → T (not (b && maps_to S d c)) → T b → FitsTree d (pick b (h c) (canonical S c)) → ⊥
        step true y t = (below c w.1 y).1
        step false y t = absurd t
    refuting_refutes (cons forAll r' c g) w x = refuting_refutes g w.2 x

    -- an all-edge: the countermodel of the all-successor of its role, or of ⊤
    value_of_refutes : T (not (trivial S d)) → (g : Forest S) → SaturatedAll S g → Unserved forAll r d g → Refutes (value_of S r g) d (h (value_of S r g))
    value_of_refutes e g w x =
        value_of_elim S (λ a. Refutes a d (h a)) r g (below (top S) (saturated_top S) (subst (λ b. T (not b)) (trivial_maps_to S d) e)) (go g w x)
      where
        go : (g : Forest S) → SaturatedAll S g → Unserved forAll r d g → All S (IfForAll S (λ s b. T (eqb s r) → Refutes b d (h b))) g
        go nil w x = tt
        go (cons exists s b g) w x = (tt, go g w.2 x)
        go (cons forAll s b g) w x =
            let p = eqb s r && maps_to S d b in
            let q = any S (edge_serves S forAll r (λ c. maps_to S d c)) g in
            let z = and_fails (eqb s r) (maps_to S d b) (or_fails_left p q x) in
            ((λ e. below b w.1 (⊎_elim (λ n. absurd (clash (eqb s r) e n)) (λ n. n) z)), go g w.2 (or_fails_right p q x))

    falsify_refutes : (k : Kind) → T (not (dropped S k d)) → (l : Label S) (g : Forest S) → NodeSaturated S l g → SaturatedAll S g → Unserved k r d g →
        FalsifiesEdge k r d g (falsify S k r h g)
    falsify_refutes exists e l g t w x = (
      fits_realize l g t refuting (fits_each_refuting g w x),
      λ s (y, m, p). children_at S (λ y. FitsTree d y → ⊥) r (realize S refuting g) (refuting_refutes g w x) y m p,
    )
    falsify_refutes forAll e l g t w x =
        let a = value_of S r g in
        let z = value_of_refutes e g w x in
        let p = fits_each_canonical g w in
        let c : ℕ → Tree S → Tree S = λ r c. canonical S c in (
          λ s. fits_realized g s (cons exists r (h a) (canonical_all S g))
              (realizes_more g s (canonical_all S g) r (h a)
              (subst (λ cs. All S (Realizes (individual S s cs)) g) (canonical_realize g) (realize_realizes c g s p))) (
                propagated_fits_values g r a (h a) (t.into_for_all r) z.0,
                subst (λ cs. AllChildren S (λ r y. FitsValues g r y) cs) (canonical_realize g) (realize_fits_values g c g p t.into_exists),
              ),
          λ s f. z.1 (f (h a) (inl (S.subrole_refl r, refl))),
        )

  -- a node: its label refutes, or its successors do
  module _ (l m : Label S) (f g : Forest S) (t : NodeSaturated S m g) (u : T (not m.bottom))
      (fits : SuccessorsFit g (canonical_all S g)) (cs : Forest S) (fs : Falsifies f g cs) where
    abbrev node_model : Bool → Bool → Tree S
    node_model a b =
        pick a
        (pick b (individual S m.wanted cs) (individual S (widened S l m) (canonical_all S g)))
        (individual S m.wanted (canonical_all S g))

    -- a name of the first set that is not in the second
    abbrev Missing : S.Names → S.Names → Type 0
    Missing s t = (n : ℕ) × T (S.has s n) × T (not (S.has t n))

    -- the canonical model refutes d if it does not satisfy d's label
    node_canonical : (Satisfies S (tree_structure S) l (individual S m.wanted (canonical_all S g)) → ⊥) →
        Refutes (node m g) (node l f) (individual S m.wanted (canonical_all S g))
    node_canonical fails = ((satisfies_wanted m g (canonical_all S g) t u, fits m.wanted), λ fit. fails fit.0)

    node_refutes : T (not (label_within S l m && maps_all_to S f g)) →
        Refutes (node m g) (node l f) (node_model (S.subset l.wanted m.wanted && not l.bottom) (S.subset l.excluded m.excluded))
    node_refutes =
        go (S.subset l.wanted m.wanted) (S.subset l.excluded m.excluded) (not l.bottom)
        (subset_fails S l.wanted m.wanted) (subset_fails S l.excluded m.excluded) (λ b p. clash (not l.bottom) p.possible b)
      where
        go : (a b c : Bool) → (T (not a) → Missing l.wanted m.wanted) → (T (not b) → Missing l.excluded m.excluded) →
            (T (not c) → Satisfies S (tree_structure S) l (individual S m.wanted (canonical_all S g)) → ⊥) →
            T (not ((a && (b && c)) && maps_all_to S f g)) → Refutes (node m g) (node l f) (node_model (a && c) b)
        go true true true p q r x = ((satisfies_wanted m g cs t u, fs.0 m.wanted), λ fit. fs.1 x m.wanted fit.1)
        go true false true p q r x =
            let (n, i, o) = q tt in (
              (satisfies_widened l m g (canonical_all S g) t u, fits (widened S l m)),
              λ fit. fit.0.free n i
                  (intersection_intro S (S.union m.wanted l.excluded) (S.complement m.excluded) n
                  (union_right S m.wanted l.excluded n i) (complement_in S m.excluded l.excluded n i o)),
            )
        go true b false p q r x = node_canonical (r tt)
        go false b c p q r x = let (n, i, o) = p tt in node_canonical (λ y. clash (S.has m.wanted n) (y.held n i) o)

  -- the edges of a node: the first has no image and is falsified, or a later one
  falsify_all_step : (k : Kind) (r : ℕ) (d : Tree S) (f g : Forest S) (b : Bool) (cs js : Forest S) →
      (T (not b) → FalsifiesEdge k r d g js) → Falsifies f g cs →
      SuccessorsFit g (pick b cs js) × (T (not (b && maps_all_to S f g)) → (s : S.Names) → FitsAllTree (cons k r d f) (individual S s (pick b cs js)) → ⊥)
  falsify_all_step k r d f g true cs js p fs = (fs.0, λ x s fit. fs.1 x s fit.1)
  falsify_all_step k r d f g false cs js p fs = ((p tt).0, λ x s fit. (p tt).1 s fit.0)

  mutual
    pub countermodel_complete : (d v : Tree S) → Reduced S d → Saturated S v → T (not (maps_to S d v)) → Refutes v d (countermodel S d v)
    countermodel_complete (node l f) (node m g) n w x =
        let q = label_within S l m && maps_all_to S f g in
        node_refutes l m f g w.0 (or_fails_left m.bottom q x) (fits_canonical_all m g w.0 (fits_each_canonical g w.1))
        (falsify_all S f g) (falsify_all_refutes f g n m w.0 w.1) (or_fails_right m.bottom q x)

    falsify_all_refutes : (f g : Forest S) → ReducedAll S f → (m : Label S) → NodeSaturated S m g → SaturatedAll S g → Falsifies f g (falsify_all S f g)
    falsify_all_refutes nil g n m t w = (fits_canonical_all m g t (fits_each_canonical g w), λ x. absurd x)
    falsify_all_refutes (cons k r d f) g n m t w =
        let h : Tree S → Tree S = λ c. countermodel S d c in
        let below : RefutesBelow d h = λ c wc x. countermodel_complete d c n.1 wc x in
        falsify_all_step k r d f g (any S (edge_serves S k r (λ c. maps_to S d c)) g) (falsify_all S f g) (falsify S k r h g)
        (λ x. falsify_refutes r d h below k n.0 m g t w x) (falsify_all_refutes f g n.2 m t w)
