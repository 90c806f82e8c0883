-- Covering under a definitions book is covering of the unfolded pictures, and so it is what the test of their normal
-- trees decides.
--   name_byte, name_below          25: a definition has a name byte, and that is a name
--   field_defines                  each field of the book is a definition
--   place_name, place_only         the place of a name is one that has it, and (26) the only one
--   belongs_fits, fits_belongs     fitting a picture, by Table 1 and by the theory
--   respects_book, book_respects   a book is respected exactly if the definitions of the theory are
--   belongs_unfolded               a picture and its unfolded picture have the same instances then
--   under_unfolded                 covering under a book is covering of the unfolded pictures
--   covers_under_exactly           by the test
--   unfolded_refutes               what refutes it for the unfolded pictures, whatever it says of the defined names,
--                                  refutes it under the book
use Prim.Native.Nat.{◌%◌, ◌<◌, ◌^◌, ◌≤◌, ℕ}
use borrow.Author.Tests.{leb-true, lt-ltb, ltb-true}
use lib.Dec.{T, eqb, eqb_refl, eqb→eq, leb, ltb}
use lib.ListN.{length}
use mathlib.Core.Bool.{◌&&◌, ◌||◌, false≢true, not, true}
use mathlib.Core.List.{List}
use mathlib.Core.Logic.{◌↔◌, ⊎_elim}
use mathlib.Core.Path.{◌∙◌, ◌≡◌, ap, subst, sym}
use native.Mathlib.Omega.{arith}
use Rattle.table.proofs.Bools.{both, either, is_true, true_is}
use Rattle.table.proofs.Ranges.{at_some, each_at}
use Rattle.table.proofs.SetsBelow.{has_set_below}
use Rattle.table.specs.Bounds.{Bounded}
use Rattle.table.specs.Layout.{name_count}
use Rattle.table.specs.NameSet as Set
use Rattle.table.specs.Range.{each}
use Rattle.table.specs.declared.layout.Limits.{Limits}
use Rattle.ale.proofs.Concepts.{extension_fits, fits_extension}
use Rattle.ale.proofs.LowestMap.{first_from_passes}
use Rattle.ale.specs.Interpretation.{Interpretation, structure_of}
use Rattle.ale.specs.PictureSignature.{picture_signature}
use Rattle.ale.specs.Structure.{Fits}
use Rattle.ale.specs.Tree.{Tree}
use Rattle.tbox.proofs.Counts.{first_found}
use Rattle.tbox.proofs.Coverings.{fits_unfolded, subsumed_unfolded, unfolded_subsumed}
use Rattle.tbox.specs.Theory.{Respects, SubsumedUnder, whole_tree}
use Rattle.tbox.specs.Definitions.{Definitions}
use Rattle.fields.specs.Form.{field_value, fields_form}
use Rattle.picture.specs.Readable.{Readable}
use Rattle.meaning.proofs.Coverings.{covers_exactly}
use Rattle.meaning.specs.Covering.{Covers, covers}
use Rattle.meaning.specs.Meaning.{picture_table, picture_tree}
use Rattle.definitions.specs.Covering.{Belongs, CoversUnder, RespectsBook}
use Rattle.definitions.specs.Form.{definition_count, definition_file, definition_tag, definitions_form, name_of, named}
use Rattle.definitions.specs.Tbox.{defined_word, defines, place_of, tbox_of}
use Rattle.definitions.specs.Unfolded.{Definable, Unfolds, named_once, unfolded_file, unfolded_table}
use Rattle.definitions.proofs.Idle.{word_set}
use Rattle.definitions.proofs.Unfolds.{book_sound, defined_place, picture_tree_is, picture_unfoldable}
use Rattle.definitions.proofs.Unfolds.{unfolded_readable, unfolded_tree_is}

-- ---- the places of the definitions

module _ (book : List ℕ) where
  module _ (form : definitions_form book ≡ true) (k : ℕ) (l : k < definition_count book) where
    has_name : (leb 1 (length (field_value book k)) ≡ true) × (ltb (name_of book k) name_count ≡ true)
    unfolding definitions_form
    has_name =
        let all = (both (fields_form definition_tag book) (each (named book) (definition_count book) 0) form).1 in
        both (leb 1 (length (field_value book k))) (ltb (name_of book k) name_count)
        (each_at (named book) (definition_count book) 0 all k (omega arith) (omega arith))

    pub name_byte : 1 ≤ length (field_value book k)
    name_byte = leb-true 1 (length (field_value book k)) has_name.0

    pub name_below : name_of book k < name_count
    name_below = ltb-true (name_of book k) name_count has_name.1

    pub field_defines : T (picture_signature.has (tbox_of book).defined (name_of book k))
    unfolding defined_word
    field_defines =
        let n = name_of book k in
        let found : defines book n ≡ true =
        at_some (λ j. eqb (name_of book j) n) (definition_count book) 0 k (omega arith) (omega arith)
        (is_true (eqb n n) (eqb_refl n)) in
        let h : Set.has (defined_word book) n ≡ true =
        has_set_below (defines book) name_count n
        ∙ ap (λ b. b && defines book n) (lt-ltb n name_count name_below) ∙ found in
        true_is (Set.has (defined_word book % 2 ^ name_count) n) (ap (λ w. Set.has w n) (word_set book) ∙ h)

  pub place_name : (n : ℕ) → place_of book n < definition_count book → name_of book (place_of book n) ≡ n
  place_name n l =
      eqb→eq (name_of book (place_of book n)) n
      (first_found (λ k. eqb (name_of book k) n) 0 (definition_count book) (omega arith))

  pub place_only : named_once book ≡ true → (k : ℕ) → k < definition_count book → place_of book (name_of book k) ≡ k
  unfolding named_once
  place_only once k l =
      let n = name_of book k in
      let count = definition_count book in
      let j = place_of book n in
      let (b, h) = first_from_passes (λ j. eqb (name_of book j) n) 0 count k (eqb_refl n) (omega arith) (omega arith) in
      let of-k = each_at (λ k. each (λ j. eqb j k || not (eqb (name_of book j) (name_of book k))) count 0) count 0 once k
      (omega arith) (omega arith) in
      let of-both = each_at (λ j. eqb j k || not (eqb (name_of book j) n)) count 0 of-k j (omega arith) (omega arith) in
      ⊎_elim (λ e. eqb→eq j k (true_is (eqb j k) e))
      (λ e. absurd (false≢true (sym (ap not (is_true (eqb (name_of book j) n) h)) ∙ e)))
      (either (eqb j k) (not (eqb (name_of book j) n)) of-both)

-- ---- covering

module _ (limits : Limits) (bounded : Bounded limits) (book : List ℕ) (ok : Definable limits book) where
  abbrev D : Definitions picture_signature
  D = tbox_of book

  -- an individual fits a tree
  abbrev FitsTree : Interpretation picture_signature → Tree picture_signature → ℕ → Type 0
  FitsTree I t x = Fits picture_signature (structure_of picture_signature I) t x

  abbrev whole : List ℕ → Tree picture_signature
  whole s = whole_tree picture_signature (picture_table s)

  -- Table 1's extension of a picture is what fits its tree
  belongs_tree : (I : Interpretation picture_signature) (s : List ℕ) (t : Tree picture_signature) →
      picture_tree limits s ≡ t → (x : ℕ) → Belongs limits I s x ↔ FitsTree I t x
  belongs_tree I s t e x = (
    λ b. subst (λ t. FitsTree I t x) e
        (extension_fits picture_signature (structure_of picture_signature I) (picture_tree limits s) x b),
    λ f. fits_extension picture_signature (structure_of picture_signature I) (picture_tree limits s) x
        (subst (λ t. FitsTree I t x) (sym e) f),
  )

  pub belongs_fits : (I : Interpretation picture_signature) (s : List ℕ) → Readable limits s → (x : ℕ) →
      Belongs limits I s x → FitsTree I (whole s) x
  belongs_fits I s r x = (belongs_tree I s (whole s) (picture_tree_is limits bounded book ok s r) x).0

  pub fits_belongs : (I : Interpretation picture_signature) (s : List ℕ) → Readable limits s → (x : ℕ) →
      FitsTree I (whole s) x → Belongs limits I s x
  fits_belongs I s r x = (belongs_tree I s (whole s) (picture_tree_is limits bounded book ok s r) x).1

  pub book_respects : (I : Interpretation picture_signature) → RespectsBook limits book I →
      Respects picture_signature D I
  book_respects I r n d x b =
      let k = place_of book n in
      let s = definition_file book k in
      let l = defined_place book n d in
      let (f, g) = r k l x b in
      let e = place_name book n l in (
        λ h. belongs_fits I s (ok.readable k l) x (f (subst (λ m. T (I.holds m x)) (sym e) h)),
        λ h. subst (λ m. T (I.holds m x)) e (g (fits_belongs I s (ok.readable k l) x h)),
      )

  pub respects_book : (I : Interpretation picture_signature) → Respects picture_signature D I →
      RespectsBook limits book I
  respects_book I r k l x b =
      let n = name_of book k in
      let s = definition_file book k in
      let (f, g) = subst (λ j. T (I.holds n x) ↔ FitsTree I (whole (definition_file book j)) x)
      (place_only book ok.once k l) (r n (field_defines book ok.form k l) x b) in
      (λ h. fits_belongs I s (ok.readable k l) x (f h), λ h. g (belongs_fits I s (ok.readable k l) x h))

  -- of a picture that is answered yes
  module _ (s : List ℕ) (r : Readable limits s) (u : Unfolds limits book s) where
    abbrev unfolded_tree : Tree picture_signature
    unfolded_tree = whole_tree picture_signature (unfolded_table limits book s)

    unfolded_belongs : (I : Interpretation picture_signature) (x : ℕ) →
        Belongs limits I (unfolded_file limits book s) x ↔ FitsTree I unfolded_tree x
    unfolded_belongs I x =
        belongs_tree I (unfolded_file limits book s) unfolded_tree (unfolded_tree_is limits bounded book ok s r u) x

    pub belongs_unfolded : (I : Interpretation picture_signature) → RespectsBook limits book I →
        (x : ℕ) → x < I.count → Belongs limits I (unfolded_file limits book s) x ↔ Belongs limits I s x
    belongs_unfolded I h x l =
        let (a, b) = fits_unfolded picture_signature D (book_sound limits bounded book ok) limits.rows
        (picture_table s) (picture_unfoldable limits bounded book ok s r u) ok.free I (book_respects I h) x l in
        let (to, from) = unfolded_belongs I x in
        (λ f. fits_belongs I s r x (a (to f)), λ f. from (b (belongs_fits I s r x f)))

  module _ (first second : List ℕ) (first_readable : Readable limits first) (second_readable : Readable limits second)
      (first_unfolds : Unfolds limits book first) (second_unfolds : Unfolds limits book second) where
    under_subsumed : CoversUnder limits book second first →
        SubsumedUnder picture_signature D (whole first) (whole second)
    under_subsumed h I r x l f =
        belongs_fits I second second_readable x
        (h I (respects_book I r) x l (fits_belongs I first first_readable x f))

    subsumed_under : SubsumedUnder picture_signature D (whole first) (whole second) →
        CoversUnder limits book second first
    subsumed_under h I r x l f =
        fits_belongs I second second_readable x
        (h I (book_respects I r) x l (belongs_fits I first first_readable x f))

    pub under_unfolded :
        CoversUnder limits book second first
        ↔ Covers limits (unfolded_file limits book second) (unfolded_file limits book first)
    under_unfolded =
        let sound = book_sound limits bounded book ok in
        let p = picture_unfoldable limits bounded book ok first first_readable first_unfolds in
        let q = picture_unfoldable limits bounded book ok second second_readable second_unfolds in
        let of-first = unfolded_belongs first first_readable first_unfolds in
        let of-second = unfolded_belongs second second_readable second_unfolds in (
          λ h I x l f. (of-second I x).1
              (subsumed_unfolded picture_signature D sound ok.free limits.rows
              (picture_table first) (picture_table second) p q (under_subsumed h) I x l ((of-first I x).0 f)),
          λ h. subsumed_under (unfolded_subsumed picture_signature D sound ok.free limits.rows
              (picture_table first) (picture_table second) p q
              (λ I x l f. (of-second I x).0 (h I x l ((of-first I x).1 f)))),
        )

    pub covers_under_exactly :
        CoversUnder limits book second first
        ↔ (covers limits (unfolded_file limits book second) (unfolded_file limits book first) ≡ true)
    covers_under_exactly =
        let (a, b) = under_unfolded in
        let (c, d) = covers_exactly limits (unfolded_file limits book first) (unfolded_file limits book second)
        (unfolded_readable limits bounded book ok first first_readable first_unfolds)
        (unfolded_readable limits bounded book ok second second_readable second_unfolds) in
        (λ h. c (a h), λ h. b (d h))

    pub unfolded_refutes : (I : Interpretation picture_signature) (x : ℕ) → x < I.count →
        FitsTree I (picture_tree limits (unfolded_file limits book first)) x →
        (FitsTree I (picture_tree limits (unfolded_file limits book second)) x → ⊥) →
        CoversUnder limits book second first → ⊥
    unfolded_refutes I x l f g h =
        let M = structure_of picture_signature I in
        g (extension_fits picture_signature M (picture_tree limits (unfolded_file limits book second)) x
        (under_unfolded.0 h I x l
        (fits_extension picture_signature M (picture_tree limits (unfolded_file limits book first)) x f)))
