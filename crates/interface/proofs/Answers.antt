-- The six calls, each by its questions, its word and its buffers (Shapes), so that it answers what is laid down for it
-- (specs/Answers; proofs/Conditions).
--   OfGiven, GivenOn                     the questions of a given picture by number; one whose are on the list
--   before_early, many_early             so are those before the first 14, with those of the definitions book; and 14
--   length_tables                        both halves are as long as the work space
--   pair_early                           1 to 14 and 25 to 30 of a call on two pictures are on its list
--   validate_shape .. cards_shape        the six calls: their questions, words and buffers
use Prim.Native.Nat.{◌<◌, ◌≤◌, ℕ}
use lib.Dec.{leb}
use lib.ListN.{length, length-append}
use mathlib.Core.Bool.{Bool, false, true}
use mathlib.Core.List.{List, [], ◌∷◌}
use mathlib.Core.Logic.{◌↔◌, ◌⊎◌, inl, inr, ⊎_elim}
use mathlib.Core.Path.{◌∙◌, ◌≡◌, ap, refl, subst, sym}
use native.Mathlib.Omega.{arith}
use Rattle.std.proofs.Common.{Err, Ok, Result}
use Rattle.table.proofs.Bools.{by_test}
use Rattle.table.proofs.Puts.{length_zeros}
use Rattle.table.specs.Bounds.{Bounded, picture_size}
use Rattle.table.specs.Pick.{pick}
use Rattle.table.specs.Put.{put}
use Rattle.table.specs.declared.layout.Limits.{Limits}
use Rattle.picture.proofs.Orders.{EveryRefusal, and_refuses, asked_refuses, from_refuses, read_decides, read_refuses}
use Rattle.picture.proofs.Readables.{failed_inside, failed_most, failed_number, failed_once, readable_count}
use Rattle.picture.proofs.Readables.{readable_most}
use Rattle.picture.specs.Asked.{and_then, asked_from, kept, read_asked, reading_asked, Asked, yes}
use Rattle.picture.specs.Read.{answer_of, answered, reading_of}
use Rattle.picture.specs.Readable.{FailsAt, row_count}
use Rattle.picture.specs.Refusal.{refusal, refusal_at, short_buffer, too_many}
use Rattle.picture.specs.declared.answer.Input.{Input}
use Rattle.picture.specs.declared.answer.Input.TheVariants.{Book, Buffer, Card, Definition, Definitions, Evidence}
use Rattle.picture.specs.declared.answer.Input.TheVariants.{First, Second}
use Rattle.picture.specs.declared.answer.Refusal.{Refusal}
use Rattle.meaning.proofs.Normals.{normal_size}
use Rattle.meaning.specs.Meaning.{picture_table}
use Rattle.meaning.specs.NormalTable.{normal_file}
use Rattle.normal.proofs.Answers.{merged_refuses}
use Rattle.normal.proofs.Halves.{length_half}
use Rattle.normal.specs.Call.{merged_asked}
use Rattle.workspace.specs.Lent.{roomy}
use Rattle.workspace.specs.Prepare.{Acceptable, halves_put, work_size}
use Rattle.countermodel.proofs.Individuals.{within_most}
use Rattle.countermodel.specs.Individual.{refutation_form}
use Rattle.evidence.proofs.Refusals.{evidence_refuses}
use Rattle.evidence.proofs.Soundness.{forms_apart}
use Rattle.evidence.specs.Call.{evidence_asked, evidence_kind}
use Rattle.evidence.specs.Form.{map_form}
use Rattle.evidence.specs.declared.check.Taken.TheVariants as taken
use Rattle.subsumption.proofs.Writers.{evidence_size_is}
use Rattle.subsumption.specs.Call.{verdict_answer}
use Rattle.subsumption.specs.Verdict.{evidence_of, evidence_size, verdict_of}
use Rattle.subsumption.specs.declared.verdict.Verdict.TheVariants as verdict
use Rattle.lcs.proofs.Commons.{lcs_size}
use Rattle.lcs.specs.Call.{large_asked, too_large}
use Rattle.lcs.specs.Product.{lcs_count, lcs_file}
use Rattle.fields.proofs.Forms.{count_most}
use Rattle.book.proofs.Selections.{word_below}
use Rattle.book.specs.Form.{card_count, card_tag}
use Rattle.book.specs.Form as form
use Rattle.book.specs.Selection.{most_specific_cards}
use Rattle.definitions.proofs.Questions.{OfDefinitions}
use Rattle.definitions.specs.Asked.{Picture}
use Rattle.definitions.specs.Form.{definition_count, definition_file, definition_tag}
use Rattle.definitions.specs.Refusals.{AllOf}
use Rattle.definitions.specs.Unfolded.{unfolded_file}
use Rattle.under.proofs.Answers.{check_lent, lcs_yes, one_yes, pair_yes, verify_yes}
use Rattle.under.proofs.Asked.{lcs_asked_is, lcs_result_asked, lcs_work_asked, most_specific_asked_is}
use Rattle.under.proofs.Asked.{most_specific_work_asked, normalize_asked, normalize_result_asked, subsumes_asked_is}
use Rattle.under.proofs.Asked.{subsumes_result_asked, subsumes_work_asked, verify_asked_is, verify_work_asked}
use Rattle.under.proofs.Books.{before_refuses, book_decides, book_order, cards_all}
use Rattle.under.proofs.Conditions.{verdict_covers_under, verdict_fails_under}
use Rattle.under.proofs.Givens.{acceptable_unfolded, lent_refuses}
use Rattle.under.proofs.Orders.{one_order, pair_order}
use Rattle.under.specs.Asked.{card_few, lcs_asked_under, most_specific_asked_under, one_asked_under, pair_asked_under}
use Rattle.under.specs.Asked.{subsumes_asked_under, verify_asked_under}
use Rattle.under.specs.Book.{book_before, case_and_cards, unfolded_book}
use Rattle.under.specs.Given.{AcceptableUnder, lent_under, one, pair}
use Rattle.interface.specs.Answers.{Call, Line, Listed, Names, Whom, buffers, cards, lcs_call, most_specific_call}
use Rattle.interface.specs.Answers.{normalize_call, of_definitions, of_given, questions, subsumes_call, tables, the}
use Rattle.interface.specs.Answers.{validate_call, verify_call}
use Rattle.interface.specs.Calls.{LcsGives, MostSpecificGives, NormalizeGives, SubsumesGives, VerifyGives}
use Rattle.interface.specs.Calls.{lcs_word, most_specific_word, normalize_word, subsumes_word, validate_word}
use Rattle.interface.specs.Calls.{verify_word}
use Rattle.interface.specs.Word.{card_of, common_word, normalized_word, outcome_no, outcome_yes, part_range, read_word}
use Rattle.interface.specs.Word.{selected_word, value_word, verdict_word, verified_word}
use Rattle.interface.proofs.Shapes.{Early, Late, OnList, Shape, is_early, is_late, then_yes, word_on, asked_word}
use Rattle.picture.specs.declared.read.Failure.{Failure}
use Rattle.interface.proofs.Words.{field_fits}

-- ---- lists

early : (c : Call) (r : Refusal) → OnList c r → (r.number < 15) ⊎ (23 < r.number) → Early c r
early c r on apart = (on, is_early r.number apart)

late : (c : Call) (r : Refusal) → OnList c r → 15 ≤ r.number → r.number ≤ 23 → Late c r
late c r on least most = (on, is_late r.number least most)

-- a refusal that is of no field
of_none : (c : Call) (number : ℕ) (input : Input) → Listed c.refusals number input →
    (number < 2) ⊎ (13 < number) → number < part_range → card_of input < part_range → OnList c (refusal number input)
of_none c number input listed apart small few = record {
  listed = listed;
  fits = record { number = small; card = few; row = omega arith; byte = omega arith };
  placed = record {
    read_at = λ least most. absurd (⊎_elim (λ l. omega arith) (λ l. omega arith) apart);
    else_zero = λ other. (refl, refl);
  };
}

short : (c : Call) → Listed c.refusals 1 Buffer → Early c short_buffer
short c listed =
    early c short_buffer (of_none c 1 Buffer listed (inl (omega arith)) (omega arith) (omega arith)) (inl (omega arith))

-- 24 to 30
after_23 : (c : Call) (number : ℕ) (input : Input) → Listed c.refusals number input → card_of input < part_range →
    23 < number → number < part_range → Early c (refusal number input)
after_23 c number input listed few least most =
    early c (refusal number input) (of_none c number input listed (inr (omega arith)) most few) (inr least)

-- 2 to 13, of a field
of_field : (c : Call) → Bounded c.limits → (input : Input) → card_of input < part_range →
    ((q : ℕ) → 2 ≤ q → q ≤ 13 → Listed c.refusals q input) →
    (q n : ℕ) → FailsAt c.limits (c.picture input) q n → Early c (refusal_at q input n)
of_field c bounded input few listed q n fails =
    let s = c.picture input in
    let number = failed_number c.limits s q n fails in
    early c (refusal_at q input n)
    (record {
      listed = listed q number.least number.most;
      fits = field_fits c.limits bounded s input few q n fails;
      placed = record {
        read_at = λ least most. record {
          fails = fails;
          only = λ p m f. failed_once c.limits s q n p m fails f;
          few = failed_most c.limits s q n fails;
          begins = refl;
          inside = failed_inside c.limits s q n fails;
        };
        else_zero = ⊎_elim (λ l. absurd (omega (arith, number.least))) (λ l. absurd (omega (arith, number.most)));
      };
    })
    (inl (omega (arith, number.most)))

-- ---- the definitions book and the given pictures

abbrev OfGiven : ℕ → Type 0
OfGiven q = ((2 ≤ q) × (q ≤ 14)) ⊎ ((q ≡ 27) ⊎ ((29 ≤ q) × (q ≤ 30)))

given_listed : (whom : Whom) (more : List Line) (input : Input) → Names whom input → (q : ℕ) → OfGiven q →
    Listed (of_given whom more) q input
given_listed whom more input names q =
    ⊎_elim (λ (a, b). inl (a, b, names))
    (⊎_elim (λ e. inr (inl (omega arith, omega arith, names))) (λ (a, b). inr (inr (inl (a, b, names)))))

past_given : (whom : Whom) (more : List Line) (input : Input) (q : ℕ) → Listed more q input →
    Listed (of_given whom more) q input
past_given whom more input q h = inr (inr (inr h))

all_map : (P Q : Picture → Type 0) → ((p : Picture) → P p → Q p) → (ps : List Picture) → AllOf P ps → AllOf Q ps
all_map P Q f [] h = tt
all_map P Q f (p ∷ ps) h = (f p h.0, all_map P Q f ps h.1)

module _ (c : Call) (bounded : Bounded c.limits) (tbox : List ℕ) (more : List Line)
    (list : c.refusals ≡ questions 1 1 (the Buffer) ∷ of_definitions tbox more)
    (files : (k : ℕ) → c.picture (Definition k) ≡ definition_file tbox k) where
  on : (q : ℕ) (input : Input) → Listed (questions 1 1 (the Buffer) ∷ of_definitions tbox more) q input →
      Listed c.refusals q input
  on q input = subst (λ l. Listed l q input) (sym list)

  -- after 1 and those of the definitions book
  onward : (q : ℕ) (input : Input) → Listed more q input → Listed c.refusals q input
  onward q input h = on q input (inr (inr (inr (inr (inr (inr h))))))

  -- a picture that the call is given, with its questions on the list
  record GivenOn (p : Picture) : Type 0 where
    pub file : c.picture p.input ≡ p.file
    pub small : card_of p.input < part_range
    pub listed : (q : ℕ) → OfGiven q → Listed more q p.input

  given_read : (p : Picture) → GivenOn p → (q n : ℕ) → FailsAt c.limits p.file q n →
      Early c (refusal_at q p.input n)
  given_read p g q n fails =
      of_field c bounded p.input g.small
      (λ q least most. onward q p.input (g.listed q (inl (least, omega arith)))) q n
      (subst (λ s. FailsAt c.limits s q n) (sym g.file) fails)

  -- 27, 29 and 30
  given_asked : (number : ℕ) → OfGiven number → 23 < number → number < part_range → (p : Picture) → GivenOn p →
      Early c (refusal number p.input)
  given_asked number of least most p g =
      after_23 c number p.input (onward number p.input (g.listed number of)) g.small least most

  many_early : (p : Picture) → GivenOn p → Early c (too_many p.input)
  many_early p g =
      early c (too_many p.input)
      (of_none c 14 p.input (onward 14 p.input (g.listed 14 (inl (omega arith, omega arith))))
      (inr (omega arith)) (omega arith) g.small) (inl (omega arith))

  -- a definition is by its place, which fits the word
  module _ (k : ℕ) (l : k < definition_count tbox) where
    few : card_of (Definition k) < part_range
    few = omega (arith, l, count_most definition_tag tbox)

    definition_read : (q n : ℕ) → FailsAt c.limits (definition_file tbox k) q n →
        Early c (refusal_at q (Definition k) n)
    definition_read q n fails =
        of_field c bounded (Definition k) few
        (λ q least most. on q (Definition k) (inr (inr (inr (inl (least, most, (k, l, refl)))))))
        q n (subst (λ s. FailsAt c.limits s q n) (sym (files k)) fails)

    definition_27 : Early c (refusal 27 (Definition k))
    definition_27 =
        after_23 c 27 (Definition k)
        (on 27 (Definition k) (inr (inr (inr (inr (inl (omega arith, omega arith, (k, l, refl))))))))
        few (omega arith) (omega arith)

    definition_unfolded : (q : ℕ) → 29 ≤ q → q ≤ 30 → Early c (refusal q (Definition k))
    definition_unfolded q least most =
        after_23 c q (Definition k)
        (on q (Definition k) (inr (inr (inr (inr (inr (inl (least, most, (k, l, refl)))))))))
        few (omega arith) (omega arith)

  -- 25, 26 and 28
  book_early : (q : ℕ) → Listed (questions 1 1 (the Buffer) ∷ of_definitions tbox more) q Definitions →
      23 < q → q < part_range → Early c (refusal q Definitions)
  book_early q listed = after_23 c q Definitions (on q Definitions listed) (omega arith)

  module _ (given : List Picture) (all : AllOf GivenOn given) where
    given_all : (number : ℕ) → OfGiven number → 23 < number → number < part_range →
        AllOf (λ p. Early c (refusal number p.input)) given
    given_all number of least most =
        all_map GivenOn (λ p. Early c (refusal number p.input)) (given_asked number of least most) given all

    definitions_early : OfDefinitions c.limits tbox given (Early c)
    definitions_early = record {
      form = book_early 25 (inr (inl (omega arith, omega arith, refl))) (omega arith) (omega arith);
      reads = definition_read;
      once = book_early 26 (inr (inl (omega arith, omega arith, refl))) (omega arith) (omega arith);
      excluding = (given_all 27 (inr (inl refl)) (omega arith) (omega arith), definition_27);
      ring = book_early 28 (inr (inr (inl (omega arith, omega arith, refl)))) (omega arith) (omega arith);
      few = (
        given_all 29 (inr (inr (omega arith, omega arith))) (omega arith) (omega arith),
        λ k l. definition_unfolded k l 29 (omega arith) (omega arith),
      );
      shallow = (
        given_all 30 (inr (inr (omega arith, omega arith))) (omega arith) (omega arith),
        λ k l. definition_unfolded k l 30 (omega arith) (omega arith),
      );
    }

    before_early : (enough : Bool) → EveryRefusal (Early c) (lent_under c.limits enough tbox given)
    before_early =
        lent_refuses c.limits tbox given (Early c)
        (all_map GivenOn _ given_read given all) definitions_early
        (short c (on 1 Buffer (inl (omega arith, omega arith, refl))))

-- a buffer that is not lent
not_lent : (a : Asked) → [] ≡ kept a (put [] 0 []) []
unfolding put
not_lent (Ok _) = refl
not_lent (Err r) = refl

-- ---- one picture

validate_word_is : (limits : Limits) (s : List ℕ) → validate_word limits s ≡ asked_word (read_asked limits First s)
    (value_word outcome_yes (row_count s))
unfolding validate_word answer_of read_asked
validate_word_is limits s = by (reading_of limits s) refl
  where
    by : (t : Result ℕ Failure) → reading_of limits s ≡ t →
        read_word (answered First t) ≡ asked_word (reading_asked First t) (value_word outcome_yes (row_count s))
    by (Ok n) e = ap (value_word outcome_yes) (sym (readable_count limits s (record { rows = n; reads = e })))
    by (Err at) e = refl

pub validate_shape : (limits : Limits) → Bounded limits → (picture : List ℕ) →
    Shape (validate_call limits picture) (buffers [] []) (buffers [] []) (validate_word limits picture) outcome_yes
validate_shape limits bounded picture =
    let asks = read_asked limits First picture in
    record {
      before = asks;
      after = yes;
      all = asks;
      asked_all = refl;
      all_is = then_yes asks;
      early = read_refuses (Early (validate_call limits picture)) limits First picture
          (of_field (validate_call limits picture) bounded First (omega arith) (λ q a b. inl (a, b, refl)));
      late = tt;
      passes = (
        λ e. (omega arith, omega arith, (read_decides limits First picture).yes.0 e),
        λ (a, b, readable). (read_decides limits First picture).yes.1 readable,
      );
      outcome_is = λ p. refl;
      in_range = λ (a, b, readable). readable_most limits picture readable;
      small = λ (a, b, readable). omega (arith, readable_most limits picture readable, bounded.0);
      word_by = validate_word_is limits picture;
      work_fits = λ e. omega arith;
      work_by = not_lent asks;
      result_fits = λ p. omega arith;
      result_by = not_lent asks;
    }

-- the same questions, told otherwise
yes_same : (a b : Asked) (Y : Type 0) → a ≡ b → (a ≡ yes) ↔ Y → (b ≡ yes) ↔ Y
yes_same a b Y e = subst (λ (q : Asked). (q ≡ yes) ↔ Y) e

pub normalize_shape : (limits : Limits) → Bounded limits → (tbox picture result : List ℕ) (word : ℕ) (left : List ℕ) →
    NormalizeGives limits tbox picture result word left →
    Shape (normalize_call limits tbox picture) (buffers [] result) (buffers [] left) word outcome_yes
unfolding normalize_word
normalize_shape limits bounded tbox picture result word left gives =
    let s = unfolded_file limits tbox picture in
    let asks = one_asked_under limits tbox picture (length result) in
    let decides = yes_same _ asks _ (one_order limits bounded tbox picture (length result))
    (one_yes limits bounded tbox picture (length result)) in
    let c : Call = normalize_call limits tbox picture in
    let first : Picture = record { input = First; file = picture } in
    let given : GivenOn c bounded tbox (of_given (the First) []) refl (λ k. refl) first =
    record { file = refl; small = omega arith; listed = given_listed (the First) [] First refl } in
    record {
      before = asks;
      after = yes;
      all = asks;
      asked_all = refl;
      all_is = then_yes asks;
      early = and_refuses (Early c) (lent_under limits (leb (picture_size limits) (length result)) tbox (one picture))
          (merged_asked limits First s)
          (before_early c bounded tbox (of_given (the First) []) refl (λ k. refl) (one picture) (given, tt)
          (leb (picture_size limits) (length result)))
          (merged_refuses limits First s (Early c)
          (many_early c bounded tbox (of_given (the First) []) refl (λ k. refl) first given));
      late = tt;
      passes = (
        λ e. let (long, ok, few) = decides.0 e in (
          omega arith,
          long,
          record { definable = ok.definable; readable = ok.readable.0; unfolds = ok.unfolds.0; few = few },
        ),
        λ (none, long, ok). decides.1 (
          long,
          record { definable = ok.definable; readable = (ok.readable, tt); unfolds = (ok.unfolds, tt) },
          ok.few,
        ),
      );
      outcome_is = λ p. refl;
      in_range = λ (none, long, ok). normal_size limits s ok.few;
      small = λ (none, long, ok). omega (arith, normal_size limits s ok.few, bounded.0);
      word_by = gives.word_is ∙ ap normalized_word (normalize_asked limits bounded tbox picture (length result))
          ∙ word_on normalized_word (λ r. refl) asks
          (Ok (length (normal_file limits s))) _ refl;
      work_fits = λ e. omega arith;
      work_by = not_lent asks;
      result_fits = λ (none, long, ok). omega (arith, normal_size limits s ok.few);
      result_by = gives.buffer_is ∙ normalize_result_asked limits bounded tbox picture result;
    }

-- ---- two pictures

pub length_tables : (limits : Limits) (first second : List ℕ) → Acceptable limits first second →
    length (tables limits first second) ≡ work_size limits
length_tables limits first second pair =
    let lower = length_half limits (normal_file limits first) (normal_size limits first pair.first_few) in
    let upper = length_half limits (normal_file limits second) (normal_size limits second pair.second_few) in
    simp (length-append, lower, upper)

-- their lines are the first of the list
pair_early : (c : Call) (tbox : List ℕ) (more : List Line) →
    c.refusals ≡ questions 1 1 (the Buffer) ∷ of_definitions tbox (of_given (the First) (of_given (the Second) more)) →
    ((k : ℕ) → c.picture (Definition k) ≡ definition_file tbox k) →
    Bounded c.limits → (enough : Bool) →
    EveryRefusal (Early c) (pair_asked_under c.limits tbox enough (c.picture First) (c.picture Second))
pair_early c tbox more list files bounded enough =
    let p : Picture = record { input = First; file = c.picture First } in
    let q : Picture = record { input = Second; file = c.picture Second } in
    let lines = of_given (the First) (of_given (the Second) more) in
    let first : GivenOn c bounded tbox lines list files p = record {
      file = refl;
      small = omega arith;
      listed = given_listed (the First) (of_given (the Second) more) First refl;
    } in
    let second : GivenOn c bounded tbox lines list files q = record {
      file = refl;
      small = omega arith;
      listed = λ q of. past_given (the First) (of_given (the Second) more) Second q
          (given_listed (the Second) more Second refl q of);
    } in
    let limits = c.limits in
    let u = unfolded_file limits tbox (c.picture First) in
    let v = unfolded_file limits tbox (c.picture Second) in
    and_refuses (Early c) (lent_under limits enough tbox (pair (c.picture First) (c.picture Second)))
    (and_then (merged_asked limits First u) (merged_asked limits Second v))
    (before_early c bounded tbox lines list files (pair (c.picture First) (c.picture Second)) (first, (second, tt))
    enough)
    (and_refuses (Early c) (merged_asked limits First u) (merged_asked limits Second v)
    (merged_refuses limits First u (Early c) (many_early c bounded tbox lines list files p first))
    (merged_refuses limits Second v (Early c) (many_early c bounded tbox lines list files q second)))

-- what comes after them
after_pair : (tbox : List ℕ) (more : List Line) (q : ℕ) (input : Input) → Listed more q input →
    Listed (questions 1 1 (the Buffer) ∷ of_definitions tbox (of_given (the First) (of_given (the Second) more))) q input
after_pair tbox more q input h =
    inr (inr (inr (inr (inr (inr (past_given (the First) (of_given (the Second) more) input q
    (past_given (the Second) more input q h)))))))

-- yes or no, and so the word
verdict_by : (v : Bool) (n : ℕ) → verdict_word (Ok (pick v (verdict.Yes n) (verdict.No n)))
    ≡ value_word (pick v outcome_yes outcome_no) n
verdict_by true n = refl
verdict_by false n = refl

kind_by : (b : Bool) → verified_word (Ok (pick b taken.Map taken.Refutation))
    ≡ value_word (pick b outcome_yes outcome_no) 0
kind_by true = refl
kind_by false = refl

module _ (limits : Limits) (bounded : Bounded limits) (tbox first second work result : List ℕ) (word : ℕ)
    (workLeft left : List ℕ) where
  abbrev p : List ℕ
  p = unfolded_file limits tbox first

  abbrev q : List ℕ
  q = unfolded_file limits tbox second

  pair_decides : (size : ℕ) → (pair_asked_under limits tbox (roomy limits size (length work) (length result)) first second
      ≡ yes)
      ↔ ((work_size limits ≤ length work) × (size ≤ length result) × AcceptableUnder limits tbox first second)
  pair_decides size =
      yes_same _ _ _ (pair_order limits bounded tbox first second (roomy limits size (length work) (length result)))
      (pair_yes limits bounded tbox first second size (length work) (length result))

  tables_fit : work_size limits ≤ length work → AcceptableUnder limits tbox first second →
      length (tables limits p q) ≤ length work
  tables_fit enough ok =
      omega (arith, enough, length_tables limits p q (acceptable_unfolded limits tbox first second bounded ok))

  pub subsumes_shape : SubsumesGives limits tbox first second work result word workLeft left →
      Shape (subsumes_call limits tbox first second) (buffers work result) (buffers workLeft left) word
      (pick (verdict_of limits p q) outcome_yes outcome_no)
  unfolding subsumes_word verdict_answer halves_put
  subsumes_shape gives =
      let asks = subsumes_asked_under limits tbox first second (length work) (length result) in
      let decides = pair_decides (evidence_size limits) in
      let size : AcceptableUnder limits tbox first second → length (evidence_of limits p q) ≤ evidence_size limits =
      λ ok. evidence_size_is limits p q bounded (acceptable_unfolded limits tbox first second bounded ok) in
      record {
        before = asks;
        after = yes;
        all = asks;
        asked_all = refl;
        all_is = then_yes asks;
        early = pair_early (subsumes_call limits tbox first second) tbox [] refl (λ k. refl) bounded
            (roomy limits (evidence_size limits) (length work) (length result));
        late = tt;
        passes = decides;
        outcome_is = λ (enough, long, ok). by_test (verdict_of limits p q)
            (λ e. inl (
              ap (λ v. pick v outcome_yes outcome_no) e,
              (verdict_covers_under limits bounded tbox first second ok).1 e,
            ))
            (λ e. inr (
              ap (λ v. pick v outcome_yes outcome_no) e,
              (verdict_fails_under limits bounded tbox first second ok).0 e,
            ));
        in_range = λ (enough, long, ok). size ok;
        small = λ (enough, long, ok). omega (arith, size ok, within_most limits bounded);
        word_by = gives.word_is
            ∙ ap verdict_word (subsumes_asked_is limits bounded tbox first second (length work) (length result))
            ∙ word_on verdict_word (λ r. refl) asks (Ok (verdict_answer limits p q)) _
            (verdict_by (verdict_of limits p q) (length (evidence_of limits p q)));
        work_fits = λ e. let (enough, long, ok) = decides.0 e in tables_fit enough ok;
        work_by = gives.work_is ∙ subsumes_work_asked limits bounded tbox first second work (length result);
        result_fits = λ (enough, long, ok). omega (arith, size ok);
        result_by = gives.result_is ∙ subsumes_result_asked limits bounded tbox first second (length work) result;
      }

  pub lcs_shape : LcsGives limits tbox first second work result word workLeft left →
      Shape (lcs_call limits tbox first second) (buffers work result) (buffers workLeft left) word outcome_yes
  unfolding lcs_word halves_put
  lcs_shape gives =
      let asks = lcs_asked_under limits tbox first second (length work) (length result) in
      let room = roomy limits (picture_size limits) (length work) (length result) in
      let decides = yes_same _ asks _ (ap (λ (a : Asked). and_then a (large_asked limits p q))
      (pair_order limits bounded tbox first second room))
      (lcs_yes limits bounded tbox first second (length work) (length result)) in
      let c : Call = lcs_call limits tbox first second in
      record {
        before = pair_asked_under limits tbox room first second;
        after = large_asked limits p q;
        all = asks;
        asked_all = refl;
        all_is = refl;
        early = pair_early c tbox (questions 15 15 (the Second) ∷ []) refl (λ k. refl) bounded room;
        late = asked_refuses (Late c) (leb (lcs_count limits p q) limits.rows) too_large
            (late c too_large (of_none c 15 Second (after_pair tbox (questions 15 15 (the Second) ∷ []) 15 Second
            (inl (omega arith, omega arith, refl)))
            (inr (omega arith)) (omega arith) (omega arith)) (omega arith) (omega arith));
        passes = (
          λ e. let (enough, long, ok, few) = decides.0 e in (enough, long, (ok, few)),
          λ (enough, long, (ok, few)). decides.1 (enough, long, ok, few),
        );
        outcome_is = λ p. refl;
        in_range = λ (enough, long, (ok, few)). lcs_size limits p q few;
        small = λ (enough, long, (ok, few)). omega (arith, lcs_size limits p q few, bounded.0);
        word_by = gives.word_is
            ∙ ap common_word (lcs_asked_is limits bounded tbox first second (length work) (length result))
            ∙ word_on common_word (λ r. refl) asks
            (Ok (length (lcs_file limits p q))) _ refl;
        work_fits = λ e. let (enough, long, ok) = (pair_decides (picture_size limits)).0 e in tables_fit enough ok;
        work_by = gives.work_is ∙ lcs_work_asked limits bounded tbox first second work (length result);
        result_fits = λ (enough, long, (ok, few)). omega (arith, lcs_size limits p q few);
        result_by = gives.result_is ∙ lcs_result_asked limits bounded tbox first second (length work) result;
      }

module _ (limits : Limits) (bounded : Bounded limits) (tbox first second evidence work : List ℕ) (word : ℕ)
    (left : List ℕ) where
  abbrev u : List ℕ
  u = unfolded_file limits tbox first

  abbrev v : List ℕ
  v = unfolded_file limits tbox second

  pub verify_shape : VerifyGives limits tbox first second evidence work word left →
      Shape (verify_call limits tbox first second evidence) (buffers work []) (buffers left []) word
      (pick (map_form (picture_table (normal_file limits v)).rows evidence) outcome_yes outcome_no)
  unfolding verify_word halves_put
  verify_shape gives =
      let asks = verify_asked_under limits tbox first second evidence (length work) in
      let room = leb (work_size limits) (length work) in
      let same = pair_order limits bounded tbox first second room in
      let decides = yes_same _ asks _ (ap (λ (a : Asked). and_then a (evidence_asked limits u v evidence)) same)
      (verify_yes limits bounded tbox first second evidence (length work)) in
      let lent = yes_same _ (pair_asked_under limits tbox room first second) _ same
      (check_lent limits bounded tbox first second (length work)) in
      let rows = (picture_table (normal_file limits v)).rows in
      let c : Call = verify_call limits tbox first second evidence in
      record {
        before = pair_asked_under limits tbox room first second;
        after = evidence_asked limits u v evidence;
        all = asks;
        asked_all = refl;
        all_is = refl;
        early = pair_early c tbox (questions 16 23 (the Evidence) ∷ []) refl (λ k. refl) bounded room;
        late = evidence_refuses (Late c)
            (λ n a b. late c (refusal n Evidence) (of_none c n Evidence
            (after_pair tbox (questions 16 23 (the Evidence) ∷ []) n Evidence (inl (a, b, refl)))
            (inr (omega arith)) (omega arith) (omega arith)) (omega arith) b)
            limits u v evidence;
        passes = (
          λ e. let (enough, ok, taken) = decides.0 e in (enough, omega arith, (ok, taken)),
          λ (enough, none, (ok, taken)). decides.1 (enough, ok, taken),
        );
        outcome_is = λ (enough, none, (ok, taken)). ⊎_elim
            (λ m. inl (ap (λ b. pick b outcome_yes outcome_no) m.form, m))
            (λ r. inr (ap (λ b. pick b outcome_yes outcome_no) (no_map rows r.form), r)) taken;
        in_range = λ p. omega arith;
        small = λ p. omega arith;
        word_by = gives.word_is
            ∙ ap verified_word (verify_asked_is limits bounded tbox first second evidence (length work))
            ∙ word_on verified_word (λ r. refl) asks (Ok (evidence_kind limits v evidence)) _
            (kind_by (map_form rows evidence));
        work_fits = λ e.
            let (enough, ok) = lent.0 e in
            omega (arith, enough, length_tables limits u v (acceptable_unfolded limits tbox first second bounded ok));
        work_by = gives.buffer_is ∙ verify_work_asked limits bounded tbox first second work;
        result_fits = λ p. omega arith;
        result_by = not_lent asks;
      }
    where
      no_map : (rows : ℕ) → refutation_form limits evidence ≡ true → map_form rows evidence ≡ false
      no_map rows form = by_test (map_form rows evidence) (λ map. absurd (forms_apart limits rows evidence map form))
          (λ none. none)

-- ---- a case and a book

module _ (limits : Limits) (bounded : Bounded limits) (tbox case book work : List ℕ) (word : ℕ) (left : List ℕ) where
  abbrev c : Call
  c = most_specific_call limits tbox case book

  abbrev last : List Line
  last = questions 24 24 (the Book) ∷ []

  abbrev lines : List Line
  lines = of_given (the First) (of_given (cards (card_count book)) last)

  cards_list : c.refusals ≡ questions 1 1 (the Buffer) ∷ of_definitions tbox lines
  cards_list = refl

  abbrev Given : Picture → Type 0
  Given = GivenOn c bounded tbox lines cards_list (λ k. refl)

  case_on : Given (record { input = First; file = case })
  case_on = record {
    file = refl;
    small = omega arith;
    listed = given_listed (the First) (of_given (cards (card_count book)) last) First refl;
  }

  card_on : (k : ℕ) → k < card_count book → Given (record { input = Card k; file = form.card book k })
  card_on k l = record {
    file = refl;
    small = omega (arith, l, count_most card_tag book);
    listed = λ q of. past_given (the First) (of_given (cards (card_count book)) last) (Card k) q
        (given_listed (cards (card_count book)) last (Card k) (k, l, refl) q of);
  }

  all_on : AllOf Given (case_and_cards case book)
  all_on = (case_on, (cards_all Given book (card_count book) 0).1 (λ k a l. card_on k (omega arith)))

  cards_early : EveryRefusal (Early c) (most_specific_asked_under limits tbox case book (length work))
  cards_early =
      let s = unfolded_file limits tbox case in
      let reads = given_read c bounded tbox lines cards_list (λ k. refl) in
      let many = many_early c bounded tbox lines cards_list (λ k. refl) in
      and_refuses (Early c) (book_before limits tbox case book (length work))
      (and_then (merged_asked limits First s) (asked_from (card_few limits tbox book) (card_count book) 0))
      (before_refuses limits tbox case book (Early c)
      (short c (on c bounded tbox lines cards_list (λ k. refl) 1 Buffer (inl (omega arith, omega arith, refl))))
      (reads _ case_on)
      (after_23 c 24 Book (onward c bounded tbox lines cards_list (λ k. refl) 24 Book
      (past_given (the First) (of_given (cards (card_count book)) last) Book 24
      (past_given (cards (card_count book)) last Book 24 (inl (omega arith, omega arith, refl)))))
      (omega arith) (omega arith) (omega arith))
      (λ k l. reads _ (card_on k l))
      (definitions_early c bounded tbox lines cards_list (λ k. refl) (case_and_cards case book) all_on) (length work))
      (and_refuses (Early c) (merged_asked limits First s) (asked_from (card_few limits tbox book) (card_count book) 0)
      (merged_refuses limits First s (Early c) (many _ case_on))
      (from_refuses (Early c) (card_few limits tbox book) (card_count book) 0
      (λ k a l. merged_refuses limits (Card k) (unfolded_file limits tbox (form.card book k)) (Early c)
      (many _ (card_on k (omega arith))))))

  pub cards_shape : MostSpecificGives limits tbox case book work word left →
      Shape (most_specific_call limits tbox case book) (buffers work []) (buffers left []) word outcome_yes
  unfolding most_specific_word
  cards_shape gives =
      let asks = most_specific_asked_under limits tbox case book (length work) in
      let decides = yes_same _ asks _ (book_order limits bounded tbox case book (length work))
      (book_decides limits bounded tbox case book (length work)).yes in
      let s = unfolded_file limits tbox case in
      let b = unfolded_book limits tbox book in
      let below = word_below limits s b in
      record {
        before = asks;
        after = yes;
        all = asks;
        asked_all = refl;
        all_is = then_yes asks;
        early = cards_early;
        late = tt;
        passes = (
          λ e. let (enough, acceptable) = decides.0 e in (enough, omega arith, acceptable),
          λ (enough, none, acceptable). decides.1 (enough, acceptable),
        );
        outcome_is = λ p. refl;
        in_range = λ p. omega (arith, below);
        small = λ p. omega (arith, below);
        word_by = gives.word_is
            ∙ ap selected_word (most_specific_asked_is limits bounded tbox case book (length work))
            ∙ word_on selected_word (λ r. refl) asks
            (Ok (most_specific_cards limits s b)) _ refl;
        work_fits = λ e. let (enough, acceptable) = decides.0 e in omega
            (arith, enough, length_zeros (work_size limits));
        work_by = gives.buffer_is ∙ most_specific_work_asked limits bounded tbox case book work;
        result_fits = λ p. omega arith;
        result_by = not_lent asks;
      }
