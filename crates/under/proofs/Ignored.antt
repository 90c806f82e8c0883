-- 02, U3, "refutations are checked on unfolded pictures and their defined names ignored": which defined names hold of
-- the individuals of a refutation changes nothing.
--   fits_other           what fits a tree fits it in an interpretation with the same pairs, if the names that the tree
--                        speaks of have the same sets
--   unfolded_plain       the tree of an unfolded picture speaks of no defined name
--   refutation_ignored   so if one of two files that are the same but for them is a refutation of the unfolded
--                        pictures, the other is,
--   taken_ignored        and if one is taken, the other is, whatever bytes are given for the pictures
use Prim.Native.Nat.{◌<◌, ℕ}
use lib.Dec.{T}
use mathlib.Core.Bool.{false}
use mathlib.Core.List.{List}
use mathlib.Core.Logic.{◌↔◌}
use mathlib.Core.Path.{◌∙◌, ◌≡◌, ap, subst, sym}
use native.Mathlib.Omega.{arith}
use Rattle.std.proofs.Common.{Ok}
use Rattle.table.proofs.Bools.{true_is}
use Rattle.table.proofs.Ranges.{each_same}
use Rattle.table.proofs.Tests.{refuted}
use Rattle.table.specs.Bounds.{Bounded}
use Rattle.table.specs.NameSet.{has}
use Rattle.table.specs.Range.{each}
use Rattle.table.specs.declared.layout.Limits.{Limits}
use Rattle.ale.proofs.CountermodelNames.{Named, NamedAll}
use Rattle.ale.specs.Interpretation.{Interpretation, structure_of}
use Rattle.ale.specs.PictureSignature.{picture_signature}
use Rattle.ale.specs.Signature.{Signature}
use Rattle.ale.specs.Structure.{Fits, FitsAll, Restriction}
use Rattle.ale.specs.Tree.{Forest, Kind, Tree, cons, exists, forAll, nil, node}
use Rattle.tbox.proofs.Coverings.{Plain, Undefined}
use Rattle.tbox.proofs.Coverings as tables
use Rattle.picture.specs.Readable.{Readable}
use Rattle.meaning.specs.Meaning.{picture_table, picture_tree}
use Rattle.countermodel.specs.Individual.{individual_ok, individuals}
use Rattle.countermodel.specs.Layout.{individual_count}
use Rattle.evidence.specs.Taken.{RefutationOf}
use Rattle.evidence.specs.declared.check.Taken.TheVariants.{Refutation}
use Rattle.definitions.proofs.Idle.{word_set}
use Rattle.definitions.proofs.Unfolds.{book_sound, picture_unfoldable, unfolded_tree_is}
use Rattle.definitions.specs.Tbox.{defined_word, tbox_of}
use Rattle.definitions.specs.Unfolded.{Definable, Unfolds, unfolded_file}
use Rattle.under.specs.Calls.{verify_under}
use Rattle.under.specs.Given.{AcceptableUnder}
use Rattle.under.specs.Ignored.{OtherDefined}
use Rattle.under.proofs.Conditions.{kind_shown, refutation_shown, takes_refutation}

-- ---- two interpretations

module _ (S : Signature) (I J : Interpretation S) (N : ℕ → Type 0) (count : J.count ≡ I.count)
    (names : (n : ℕ) → N n → (x : ℕ) → x < I.count → T (I.holds n x) ↔ T (J.holds n x))
    (pairs : (r x y : ℕ) → y < I.count → T (I.edge r x y) ↔ T (J.edge r x y)) where
  restriction_other : (k : Kind) (r : ℕ) (P Q : ℕ → Type 0) → ((y : ℕ) → y < I.count → P y → Q y) → (x : ℕ) →
      Restriction S (structure_of S I) k r P x → Restriction S (structure_of S J) k r Q x
  restriction_other exists r P Q f x (y, (l, e), t) = (y, (omega (arith, count), (pairs r x y l).0 e), f y l t)
  restriction_other forAll r P Q f x t =
      λ y (l, e). let m : y < I.count = omega (arith, count) in f y m (t y (m, (pairs r x y m).1 e))

  mutual
    pub fits_other : (t : Tree S) → Named S N N t → (x : ℕ) → x < I.count →
        Fits S (structure_of S I) t x → Fits S (structure_of S J) t x
    fits_other (node l f) w x b c = (
      record {
        held = λ n h. (names n (w.0.0 n h) x b).0 (c.0.held n h);
        free = λ n h s. c.0.free n h ((names n (w.0.1 n h) x b).1 s);
        possible = c.0.possible;
      },
      fits_other_all f w.1 x b c.1,
    )

    fits_other_all : (f : Forest S) → NamedAll S N N f → (x : ℕ) → x < I.count →
        FitsAll S (structure_of S I) f x → FitsAll S (structure_of S J) f x
    fits_other_all nil w x b c = tt
    fits_other_all (cons k r t f) w x b c = (
      restriction_other k r (λ y. Fits S (structure_of S I) t y) (λ y. Fits S (structure_of S J) t y)
          (λ y l h. fits_other t w.0 y l h) x c.0,
      fits_other_all f w.1 x b c.1,
    )

pub unfolded_plain : (limits : Limits) → Bounded limits → (tbox : List ℕ) → Definable limits tbox → (s : List ℕ) →
    Readable limits s → Unfolds limits tbox s →
    Plain picture_signature (tbox_of tbox) (picture_tree limits (unfolded_file limits tbox s))
unfolded_plain limits bounded tbox ok s r u =
    subst (Plain picture_signature (tbox_of tbox)) (sym (unfolded_tree_is limits bounded tbox ok s r u))
    (tables.unfolded_plain picture_signature (tbox_of tbox) (book_sound limits bounded tbox ok) limits.rows
    (picture_table s) (picture_unfoldable limits bounded tbox ok s r u))

-- ---- two refutations

module _ (limits : Limits) (bounded : Bounded limits) (tbox first second : List ℕ)
    (ok : AcceptableUnder limits tbox first second) (e d : List ℕ) (other : OtherDefined limits tbox e d) where
  abbrev p : List ℕ
  p = unfolded_file limits tbox first

  abbrev q : List ℕ
  q = unfolded_file limits tbox second

  abbrev N : ℕ → Type 0
  N = Undefined picture_signature (tbox_of tbox)

  undefined : (n : ℕ) → N n → has (defined_word tbox) n ≡ false
  undefined n u =
      refuted (has (defined_word tbox) n)
      (λ h. u (true_is (picture_signature.has (tbox_of tbox).defined n) (ap (λ (w : ℕ). has w n) (word_set tbox) ∙ h)))

  module _ (some : 0 < individual_count e) (some-other : 0 < individual_count d) where
    abbrev I : Interpretation picture_signature
    I = individuals e some

    abbrev J : Interpretation picture_signature
    J = individuals d some-other

    names_same : (n : ℕ) → N n → (x : ℕ) → x < I.count → T (I.holds n x) ↔ T (J.holds n x)
    names_same n u x l = rw (other.names x n l (undefined n u)) (λ h. h, λ h. h)

    pairs_same : (r x y : ℕ) → y < I.count → T (I.edge r x y) ↔ T (J.edge r x y)
    pairs_same r x y l = rw (other.parents y l, other.roles y l) (λ h. h, λ h. h)

    same_fits : (t : Tree picture_signature) → Plain picture_signature (tbox_of tbox) t →
        Fits picture_signature (structure_of picture_signature I) t 0
        ↔ Fits picture_signature (structure_of picture_signature J) t 0
    same_fits t w = (
      fits_other picture_signature I J N (sym other.count) names_same pairs_same t w 0 some,
      fits_other picture_signature J I N other.count
          (λ n u x l. let (a, b) = names_same n u x (omega (arith, other.count)) in (b, a))
          (λ r x y l. let (a, b) = pairs_same r x y (omega (arith, other.count)) in (b, a)) t w 0 some-other,
    )

  pub refutation_ignored : RefutationOf limits p q e → RefutationOf limits p q d
  unfolding individual_ok
  refutation_ignored r =
      let more : 0 < individual_count d = omega (arith, other.count, r.some) in
      let plain = unfolded_plain limits bounded tbox ok.definable in
      let first_same = same_fits r.some more (picture_tree limits p)
      (plain first ok.first_readable ok.first_unfolds) in
      let second-same = same_fits r.some more (picture_tree limits q)
      (plain second ok.second_readable ok.second_unfolds) in
      record {
        form = sym other.form ∙ r.form;
        passed =
            ap (λ (n : ℕ). each (individual_ok d) n 0) (sym other.count)
            ∙ sym (each_same (individual_ok e) (individual_ok d) (individual_count e) 0
            (λ k a b. rw (other.parents k (omega arith), other.roles k (omega arith))))
            ∙ r.passed;
        some = more;
        fits = first_same.0 r.fits;
        fails = λ f. r.fails (second-same.1 f);
      }

pub taken_ignored : (limits : Limits) → Bounded limits → (tbox first second e d : List ℕ) (room : ℕ) →
    OtherDefined limits tbox e d → verify_under limits tbox first second e room ≡ Ok Refutation →
    verify_under limits tbox first second d room ≡ Ok Refutation
taken_ignored limits bounded tbox first second e d room other h =
    let (enough, ok, taken) = kind_shown limits bounded tbox first second e room Refutation h in
    let r = (refutation_shown limits bounded tbox first second e room h).1 in
    takes_refutation limits bounded tbox first second ok room enough d
    (refutation_ignored limits bounded tbox first second ok e d other r)
