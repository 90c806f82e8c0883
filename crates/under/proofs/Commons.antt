-- Condition 2 under a definitions book, of the common picture: what is the least common subsumer of the unfolded
-- pictures is that of the pictures under the book, among all descriptions that exclude no defined name.
--   concept_of_negates    the concept of a tree that excludes no defined name negates none
--   description_under    covering by a description under a book, in the theory's words
--   least_common_under   the least common subsumer of the unfolded pictures is that under the book,
--   common_under         and so is the common picture
--   common_refused       with room an acceptable pair is refused only when the product has too many rows
--   common_given_is         what the call gives and leaves, with whatever bytes and buffers, is that of an acceptable pair
use Prim.Native.Nat.{◌+◌, ◌<◌, ◌≤◌, ℕ}
use borrow.Author.Tests.{leb-false}
use lib.Dec.{T, leb}
use lib.ListN.{drop, length, take}
use lib.Seq.{take_at}
use mathlib.Core.List.{List, [], ◌∷◌}
use mathlib.Core.Logic.{◌⊎◌, inl, inr}
use mathlib.Core.Path.{◌∙◌, ◌≡◌, ap, subst, sym}
use Rattle.std.proofs.Common.{Err, Ok}
use Rattle.table.proofs.Bools.{by_test}
use Rattle.table.specs.Bounds.{Bounded, picture_size}
use Rattle.table.specs.Put.{put}
use Rattle.table.specs.declared.layout.Limits.{Limits}
use Rattle.ale.proofs.ConceptTrees.{concept_of_over, picture_singletons}
use Rattle.ale.proofs.RoleLaws.{tree_of_roles_known}
use Rattle.ale.proofs.RowLists.{filter_below_out, member_head, member_tail}
use Rattle.ale.proofs.Tests.{chosen, refute}
use Rattle.ale.specs.Concept.{Concept, ConceptSubsumed, InExtension, Over, bottom_concept, concept_of, concepts_of, conjunction_of, label_concept, names_of, negation, primitive, restriction_concept, top_concept}
use Rattle.ale.specs.Interpretation.{structure_of}
use Rattle.ale.specs.PictureSignature.{picture_signature}
use Rattle.ale.specs.Rows.{member}
use Rattle.ale.specs.Signature.{Signature}
use Rattle.ale.specs.Tree.{Forest, Kind, Label, RolesKnown, Tree, cons, exists, forAll, nil, node}
use Rattle.tbox.proofs.Coverings.{Undefined}
use Rattle.tbox.proofs.Descriptions.{ConceptSubsumedUnder, least_under_concepts}
use Rattle.tbox.proofs.Expansions.{ExcludesNoneAll, ExcludesNoneTree, tree_excludes}
use Rattle.tbox.specs.Theory.{whole_tree}
use Rattle.tbox.specs.Definitions.{Definitions, NegatesNone}
use Rattle.picture.proofs.Keeping.{kept_yes}
use Rattle.picture.proofs.Orders.{given}
use Rattle.picture.specs.Readable.{Readable}
use Rattle.meaning.proofs.Pictures.{picture_known}
use Rattle.meaning.specs.Covering.{Covers}
use Rattle.meaning.specs.Meaning.{picture_table, picture_tree}
use Rattle.workspace.specs.Prepare.{work_size}
use Rattle.lcs.proofs.Commons.{common_least}
use Rattle.lcs.specs.Call.{too_large}
use Rattle.lcs.specs.Description.{LeastCommon}
use Rattle.lcs.specs.Product.{lcs_count, lcs_file}
use Rattle.definitions.proofs.Coverings.{belongs_unfolded, book_respects, respects_book}
use Rattle.definitions.proofs.Unfolds.{book_sound, defined_place, excludes_none_is, picture_tree_is, picture_unfoldable, table_some, unfolded_readable, unfolded_tree_is}
use Rattle.definitions.specs.Covering.{CoversUnder}
use Rattle.definitions.specs.Form.{definition_file}
use Rattle.definitions.specs.Tbox.{place_of, tbox_of}
use Rattle.definitions.specs.Unfolded.{Definable, Unfolds, unfolded_file, unfolded_table}
use Rattle.under.specs.Description.{DescriptionCoversUnder, LeastCommonUnder}
use Rattle.under.specs.Calls.{lcs_result_under, lcs_under}
use Rattle.under.specs.Given.{AcceptableUnder}
use Rattle.under.proofs.Answers.{lcs_yes, pair_yes}
use Rattle.under.proofs.Calls.{lcs_all_is, lcs_result_all, lcs_all}
use Rattle.under.proofs.Givens.{acceptable_unfolded}

-- ---- the concept of a tree

module _ (S : Signature) (D : Definitions S) where
  negates_each : (h : ℕ → Concept) (s : List ℕ) → ((n : ℕ) → T (member n s) → NegatesNone S D (h n)) →
      NegatesNone S D (conjunction_of h s)
  negates_each h [] f = tt
  negates_each h (n ∷ s) f = (f n (member_head n s), negates_each h s (λ i m. f i (member_tail i n s m)))

  label_negates : (l : Label S) → ((n : ℕ) → T (S.has l.excluded n) → Undefined S D n) →
      NegatesNone S D (label_concept S l)
  label_negates l h = (
    chosen (NegatesNone S D) l.bottom bottom_concept top_concept (λ t. tt) (λ t. tt),
    (
      negates_each primitive (names_of S l.wanted) (λ n m. tt),
      negates_each negation (names_of S l.excluded)
          (λ n m. refute (S.has D.defined n)
          (h n (filter_below_out (S.has l.excluded) S.names n m).0)),
    ),
  )

  restriction_negates : (k : Kind) (r : ℕ) (c : Concept) → NegatesNone S D c →
      NegatesNone S D (restriction_concept k r c)
  restriction_negates exists r c h = h
  restriction_negates forAll r c h = h

  mutual
    pub concept_of_negates : (t : Tree S) → ExcludesNoneTree S D t → NegatesNone S D (concept_of S t)
    concept_of_negates (node l f) h = (label_negates l h.0.1, concepts_of_negates f h.1)

    concepts_of_negates : (f : Forest S) → ExcludesNoneAll S D f → NegatesNone S D (concepts_of S f)
    concepts_of_negates nil h = tt
    concepts_of_negates (cons k r t f) h =
        (restriction_negates k r (concept_of S t) (concept_of_negates t h.0), concepts_of_negates f h.1)

-- ---- covering by a description

module _ (limits : Limits) (bounded : Bounded limits) (tbox : List ℕ) (ok : Definable limits tbox) where
  abbrev D : Definitions picture_signature
  D = tbox_of tbox

  abbrev concept_at : Tree picture_signature → Concept
  concept_at t = concept_of picture_signature t

  pub description_under : (s : List ℕ) → Readable limits s → (c : Concept) → DescriptionCoversUnder limits tbox c s →
      ConceptSubsumedUnder picture_signature D (concept_at (whole_tree picture_signature (picture_table s))) c
  description_under s r c h I respects x l b =
      h I (respects_book limits bounded tbox ok I respects) x l
      (subst (λ t. InExtension picture_signature (structure_of picture_signature I) (concept_at t) x)
      (sym (picture_tree_is limits bounded tbox ok s r)) b)

  -- an unfolded picture's roles are known
  unfolded_roles : (s : List ℕ) → Readable limits s → Unfolds limits tbox s →
      RolesKnown picture_signature (whole_tree picture_signature (unfolded_table limits tbox s))
  unfolded_roles s r u =
      let t = unfolded_file limits tbox s in
      subst (RolesKnown picture_signature) (unfolded_tree_is limits bounded tbox ok s r u)
      (tree_of_roles_known picture_signature (picture_table t)
      (picture_known limits t (unfolded_readable limits bounded tbox ok s r u)) limits.depth 0)

  module _ (first second : List ℕ) (r : Readable limits first) (s : Readable limits second)
      (u : Unfolds limits tbox first) (v : Unfolds limits tbox second) where
    abbrev unfolded_first : List ℕ
    unfolded_first = unfolded_file limits tbox first

    abbrev unfolded_second : List ℕ
    unfolded_second = unfolded_file limits tbox second

    least_description : (picture : List ℕ) →
        ((c : Concept) → Over picture_signature c →
        ConceptSubsumed picture_signature (concept_at (picture_tree limits unfolded_first)) c →
        ConceptSubsumed picture_signature (concept_at (picture_tree limits unfolded_second)) c →
        ConceptSubsumed picture_signature (concept_at (picture_tree limits picture)) c) →
        (c : Concept) → Over picture_signature c → NegatesNone picture_signature D c →
        DescriptionCoversUnder limits tbox c first → DescriptionCoversUnder limits tbox c second →
        DescriptionCoversUnder limits tbox c picture
    least_description picture least c o n a b I h =
        least_under_concepts picture_signature D picture_singletons (book_sound limits bounded tbox ok) ok.free
        limits.rows
        (λ m t. let k = place_of tbox m in
        let l = defined_place tbox m t in
        picture_unfoldable limits bounded tbox ok (definition_file tbox k) (ok.readable k l) (ok.unfolds k l))
        (λ m t. let k = place_of tbox m in
        let l = defined_place tbox m t in
        unfolded_roles (definition_file tbox k) (ok.readable k l) (ok.unfolds k l))
        (picture_table first) (picture_table second) (picture_unfoldable limits bounded tbox ok first r u)
        (picture_unfoldable limits bounded tbox ok second s v) (picture_tree limits picture)
        (λ d w f g. least d w (of_tree unfolded_first (unfolded_tree_is limits bounded tbox ok first r u) d f)
        (of_tree unfolded_second (unfolded_tree_is limits bounded tbox ok second s v) d g))
        c o n (description_under first r c a) (description_under second s c b)
        I (book_respects limits bounded tbox ok I h)
      where
        of_tree : (s : List ℕ) {t : Tree picture_signature} → picture_tree limits s ≡ t → (d : Concept) →
            ConceptSubsumed picture_signature (concept_at t) d →
            ConceptSubsumed picture_signature (concept_at (picture_tree limits s)) d
        of_tree s e d = subst (λ t. ConceptSubsumed picture_signature (concept_at t) d) (sym e)

-- ---- the common picture

module _ (limits : Limits) (bounded : Bounded limits) (tbox first second : List ℕ)
    (pair : AcceptableUnder limits tbox first second) where
  abbrev p : List ℕ
  p = unfolded_file limits tbox first

  abbrev q : List ℕ
  q = unfolded_file limits tbox second

  -- a picture that covers an unfolded one covers the picture
  covers_under : (s picture : List ℕ) → Readable limits s → Unfolds limits tbox s →
      Covers limits picture (unfolded_file limits tbox s) → CoversUnder limits tbox picture s
  covers_under s picture r u c I h x l b =
      c I x l ((belongs_unfolded limits bounded tbox pair.definable s r u I h x l).1 b)

  pub least_common_under : (n : ℕ) (picture : List ℕ) → LeastCommon limits p q n picture →
      LeastCommonUnder limits tbox first second n picture
  least_common_under n picture base =
      let ok = pair.definable in
      let least = least_description limits bounded tbox ok first second pair.first_readable pair.second_readable
      pair.first_unfolds pair.second_unfolds picture base.least_any in
      record {
        of_unfolded = base;
        covers_first =
            covers_under first picture pair.first_readable pair.first_unfolds base.covers_first;
        covers_second =
            covers_under second picture pair.second_readable pair.second_unfolds base.covers_second;
        least = λ other r e.
            let t = picture_tree limits other in
            least (concept_of picture_signature t)
            (concept_of_over picture_signature t
            (tree_of_roles_known picture_signature (picture_table other) (picture_known limits other r) limits.depth 0))
            (concept_of_negates picture_signature (tbox_of tbox) t
            (tree_excludes picture_signature (tbox_of tbox) (picture_table other)
            (excludes_none_is tbox other e) limits.depth 0 (table_some limits other r)));
        least_any = least;
      }

  pub common_under : lcs_count limits p q ≤ limits.rows → (n : ℕ) → n ≡ length (lcs_file limits p q) →
      LeastCommonUnder limits tbox first second n (lcs_file limits p q)
  common_under few n is =
      least_common_under n (lcs_file limits p q)
      (common_least limits bounded p q (acceptable_unfolded limits tbox first second bounded pair) few n is)

  -- with room it is refused only when the product has too many rows
  pub common_refused : (work result : ℕ) → work_size limits ≤ work → picture_size limits ≤ result →
      (lcs_under limits tbox first second work result ≡ Ok (length (lcs_file limits p q)))
      ⊎ ((lcs_under limits tbox first second work result ≡ Err too_large) × (limits.rows < lcs_count limits p q))
  common_refused work result enough long =
      let count = lcs_count limits p q in
      let before = (pair_yes limits bounded tbox first second (picture_size limits) work result).1 (enough, long, pair) in
      let all = lcs_all_is limits tbox first second work result in
      by_test (leb count limits.rows) (λ few. inl (all ∙ rw (before, few)))
      (λ e. inr (all ∙ rw (before, e), leb-false count limits.rows e))

-- ---- what is given and left, whatever bytes and buffers

pub common_given_is : (limits : Limits) → Bounded limits → (tbox first second : List ℕ) (work : ℕ) (result : List ℕ)
    (n : ℕ) → lcs_under limits tbox first second work (length result) ≡ Ok n →
    AcceptableUnder limits tbox first second
    × LeastCommonUnder limits tbox first second n (take n (lcs_result_under limits tbox first second work result))
unfolding put
common_given_is limits bounded tbox first second work result n h =
    let p = unfolded_file limits tbox first in
    let q = unfolded_file limits tbox second in
    let file = lcs_file limits p q in
    let asks = lcs_all limits tbox first second work (length result) in
    let (all, is) = given (Ok (length file)) n asks
    (sym (lcs_all_is limits tbox first second work (length result)) ∙ h) in
    let (enough, long, ok, few) = (lcs_yes limits bounded tbox first second work (length result)).0 all in
    let sized : n ≡ length file = cc in
    let left : take n (lcs_result_under limits tbox first second work result) ≡ file =
    ap (λ (s : List ℕ). take n s)
    (lcs_result_all limits tbox first second work result ∙ kept_yes (put result 0 file) result asks all)
    ∙ take_at file (drop (0 + length file) result) n (sym sized) in
    (ok, rw left (common_under limits bounded tbox first second ok few n sized))
