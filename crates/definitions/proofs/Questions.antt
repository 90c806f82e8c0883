-- The questions of a definitions book, in their order: all are answered yes exactly if it is definable and every given
-- picture unfolds, and else the first no is the refusal.
--   of_decides, of_refuses   one question of several pictures in turn
--   of_append, of_listed     of pictures and then of others; of pictures that are listed, by their numbers
--   of_definitions_is, of_all   of the definitions; of given pictures and then of the definitions
--   definitions_decides      all yes exactly if ..; the first no is r exactly if `DefinitionsNo` says so
--   asked_definable, definable_asked   its first half, both ways
--   OfDefinitions            a property of every refusal that can come
--   definitions_refuses      so every refusal has it
use Prim.Native.Nat.{◌+◌, ◌<◌, suc, zero, ℕ}
use mathlib.Core.Bool.{Bool, false, true}
use mathlib.Core.List.{List, [], ◌++◌, ◌∷◌}
use mathlib.Core.Logic.{◌⊎◌, inl, inr}
use mathlib.Core.Path.{◌∙◌, ◌≡◌, ap, refl, subst, sym}
use native.Mathlib.Omega.{arith}
use Rattle.table.proofs.Bools.{is_true, true_is}
use Rattle.table.specs.declared.layout.Limits.{Limits}
use Rattle.ale.specs.PictureSignature.{picture_signature}
use Rattle.tbox.specs.Acyclic.{acyclic}
use Rattle.picture.proofs.Orders.{AllFrom, Decides, EveryRefusal, FirstFrom, Unreadable, and_decides, and_refuses}
use Rattle.picture.proofs.Orders.{asked_decides, asked_refuses, from_decides, from_refuses, read_decides, read_refuses}
use Rattle.picture.proofs.Orders.{said_so, then_assoc}
use Rattle.picture.specs.Asked.{and_then, asked_from, Asked, yes}
use Rattle.picture.specs.Readable.{FailsAt, Readable}
use Rattle.picture.specs.Refusal.{refusal, refusal_at}
use Rattle.picture.specs.declared.answer.Input.TheVariants.{Definition, Definitions}
use Rattle.picture.specs.declared.answer.Refusal.{Refusal}
use Rattle.fields.specs.Form.{listed}
use Rattle.definitions.specs.Asked.{Picture, asked_of, definitions_asked, definitions_of, question, question_of, read_of}
use Rattle.definitions.specs.Form.{definition_count, definition_file, definitions_form}
use Rattle.definitions.specs.Refusals.{AllOf, DefinitionsNo, FirstFails, FirstOf, PassesAll, YesBefore, excluding}
use Rattle.definitions.specs.Refusals.{named_twice, no_form, of_definition, of_given, ring, too_deep, too_large}
use Rattle.definitions.specs.Refusals.{unreadable}
use Rattle.definitions.specs.Tbox.{tbox_of}
use Rattle.definitions.specs.Unfolded.{Definable, Unfolds, excludes_none, named_once, unfolded_few, unfolded_shallow}

-- ---- one question of several pictures

module _ (ask : Picture → Asked) where
  pub of_decides : (Y : Picture → Type 0) (N : Picture → Refusal → Type 0) →
      ((p : Picture) → Decides (ask p) (Y p) (N p)) →
      (ps : List Picture) → Decides (asked_of ask ps) (AllOf Y ps) (λ r. FirstOf Y (λ p. N p r) ps)
  unfolding asked_of
  of_decides Y N d [] = record {
    yes = (λ e. tt, λ t. refl);
    no = λ r. (λ e. let z : ◌≡◌ {A = ℕ} 0 1 = cc in omega arith, λ n. absurd n);
  }
  of_decides Y N d (p ∷ ps) = and_decides (ask p) (asked_of ask ps) (d p) (λ y. of_decides Y N d ps)

  pub of_refuses : (P : Refusal → Type 0) (ps : List Picture) → AllOf (λ p. EveryRefusal P (ask p)) ps →
      EveryRefusal P (asked_of ask ps)
  unfolding asked_of
  of_refuses P [] h = tt
  of_refuses P (p ∷ ps) h = and_refuses P (ask p) (asked_of ask ps) h.0 (of_refuses P ps h.1)

  -- of pictures and then of others; of what is listed, by its numbers; of the definitions, by their places
  pub of_append : (ps qs : List Picture) → asked_of ask (ps ++ qs) ≡ and_then (asked_of ask ps) (asked_of ask qs)
  unfolding asked_of
  of_append [] qs = refl
  of_append (p ∷ ps) qs =
      ap (and_then (ask p)) (of_append ps qs) ∙ then_assoc (ask p) (asked_of ask ps) (asked_of ask qs)

  pub of_listed : (f : ℕ → Picture) (more k : ℕ) →
      asked_of ask (listed f more k) ≡ asked_from (λ j. ask (f j)) more k
  unfolding asked_of asked_from
  of_listed f zero k = refl
  of_listed f (suc more) k = ap (and_then (ask (f k))) (of_listed f more (k + 1))

  abbrev definition_asked : List ℕ → ℕ → Asked
  definition_asked book k = ask (record { input = Definition k; file = definition_file book k })

  pub of_definitions_is : (book : List ℕ) →
      asked_of ask (definitions_of book) ≡ asked_from (definition_asked book) (definition_count book) 0
  of_definitions_is book =
      of_listed (λ k. record { input = Definition k; file = definition_file book k }) (definition_count book) 0

  pub of_all : (book : List ℕ) (given : List Picture) →
      asked_of ask (given ++ definitions_of book)
      ≡ and_then (asked_of ask given) (asked_from (definition_asked book) (definition_count book) 0)
  of_all book given =
      of_append given (definitions_of book)
      ∙ ap (and_then (asked_of ask given)) (of_definitions_is book)

module _ (book : List ℕ) (given : List Picture) where
  -- ---- a question by its number and its test, of all pictures

  module _ (number : ℕ) (test : List ℕ → Bool) where
    abbrev test_asked : Picture → Asked
    test_asked p = question_of number test p

    abbrev Passes : Picture → Type 0
    Passes p = test p.file ≡ true

    abbrev Fails : Picture → Refusal → Type 0
    Fails p r = (test p.file ≡ false) × (r ≡ refusal number p.input)

    test_decided : (p : Picture) → Decides (test_asked p) (Passes p) (Fails p)
    test_decided p = asked_decides (test p.file) (refusal number p.input)

    abbrev PassesAt : ℕ → Type 0
    PassesAt k = test (definition_file book k) ≡ true

    abbrev FailsAtPlace : ℕ → Refusal → Type 0
    FailsAtPlace k r = (test (definition_file book k) ≡ false) × (r ≡ refusal number (Definition k))

    abbrev of_definitions : Asked
    of_definitions = asked_from (definition_asked test_asked book) (definition_count book) 0

    all_decided :
        Decides (asked_of test_asked (given ++ definitions_of book)) (PassesAll book given test)
        (FirstFails book given number test)
    all_decided =
        subst (λ a. Decides a (PassesAll book given test) (FirstFails book given number test))
        (sym (of_all test_asked book given))
        (said_so (and_then (asked_of test_asked given) of_definitions)
        (and_decides (asked_of test_asked given) of_definitions
        (of_decides test_asked Passes Fails test_decided given)
        (λ all. from_decides (definition_asked test_asked book) PassesAt FailsAtPlace (definition_count book) 0
        (λ k a b. asked_decides (test (definition_file book k)) (refusal number (Definition k))))) (
          λ (all, each). (all, λ k l. each k (omega arith) (omega arith)),
          λ (all, each). (all, λ k a b. each k (omega arith)),
        )
        (λ r. (to r, from r)))
      where
        to : (r : Refusal) → FirstOf Passes (λ p. Fails p r) given
            ⊎ (AllOf Passes given × FirstFrom PassesAt FailsAtPlace (definition_count book) 0 r) →
            FirstFails book given number test r
        to r (inl first) = of_given r first
        to r (inr (all, (k, a, b, (fails, is), before))) =
            subst (FirstFails book given number test) (sym is)
            (of_definition all k (omega arith) (λ j l. before j (omega arith) l) fails)

        from : (r : Refusal) → FirstFails book given number test r →
            FirstOf Passes (λ p. Fails p r) given
            ⊎ (AllOf Passes given × FirstFrom PassesAt FailsAtPlace (definition_count book) 0 r)
        from r (of_given q first) = inl first
        from r (of_definition all k l before fails) =
            inr (all, (k, omega arith, omega arith, (fails, refl), λ j a b. before j b))

module _ (limits : Limits) (book : List ℕ) (given : List Picture) where
  abbrev Reads : ℕ → Type 0
  Reads k = Readable limits (definition_file book k)

  abbrev is_acyclic : Bool
  is_acyclic = acyclic picture_signature (tbox_of book)

  -- ---- what is asked from a question on

  abbrev all : List Picture
  all = given ++ definitions_of book

  abbrev deep : Asked
  deep = asked_of (question_of 30 (unfolded_shallow limits book)) all

  abbrev few : Asked
  few = and_then (asked_of (question_of 29 (unfolded_few limits book)) all) deep

  abbrev free : Asked
  free = and_then (question 28 Definitions is_acyclic) few

  abbrev excludes : Asked
  excludes = and_then (asked_of (question_of 27 (excludes_none book)) all) free

  abbrev once : Asked
  once = and_then (question 26 Definitions (named_once book)) excludes

  abbrev reads : Asked
  reads = asked_of (read_of limits) (definitions_of book)

  -- ---- the first no, question by question

  abbrev FewNo : Refusal → Type 0
  FewNo r =
      FirstFails book given 29 (unfolded_few limits book) r
      ⊎ (PassesAll book given (unfolded_few limits book) × FirstFails book given 30 (unfolded_shallow limits book) r)

  abbrev RingNo : Refusal → Type 0
  RingNo r = ((is_acyclic ≡ false) × (r ≡ refusal 28 Definitions)) ⊎ ((is_acyclic ≡ true) × FewNo r)

  abbrev ExcludesNo : Refusal → Type 0
  ExcludesNo r =
      FirstFails book given 27 (excludes_none book) r ⊎ (PassesAll book given (excludes_none book) × RingNo r)

  abbrev OnceNo : Refusal → Type 0
  OnceNo r = ((named_once book ≡ false) × (r ≡ refusal 26 Definitions)) ⊎ ((named_once book ≡ true) × ExcludesNo r)

  abbrev ReadNo : Refusal → Type 0
  ReadNo r =
      FirstFrom Reads (λ k. Unreadable limits (Definition k) (definition_file book k)) (definition_count book) 0 r
      ⊎ (AllFrom Reads (definition_count book) 0 × OnceNo r)

  abbrev FormNo : Refusal → Type 0
  FormNo r =
      ((definitions_form book ≡ false) × (r ≡ refusal 25 Definitions)) ⊎ ((definitions_form book ≡ true) × ReadNo r)

  -- ---- that is `DefinitionsNo`

  abbrev Before : ℕ → Type 0
  Before = YesBefore limits book given

  before_26 : definitions_form book ≡ true → AllFrom Reads (definition_count book) 0 → Before 26
  before_26 f reads = record {
    form = λ l. f;
    readable = λ l k b. reads k (omega arith) (omega arith);
    once = λ l. absurd (omega arith);
    excluding = λ l. absurd (omega arith);
    free = λ l. absurd (omega arith);
    few = λ l. absurd (omega arith);
  }

  before_27 : Before 26 → named_once book ≡ true → Before 27
  before_27 y e = record {
    form = λ l. y.form (omega arith);
    readable = λ l. y.readable (omega arith);
    once = λ l. e;
    excluding = λ l. absurd (omega arith);
    free = λ l. absurd (omega arith);
    few = λ l. absurd (omega arith);
  }

  before_28 : Before 27 → PassesAll book given (excludes_none book) → Before 28
  before_28 y e = record {
    form = λ l. y.form (omega arith);
    readable = λ l. y.readable (omega arith);
    once = λ l. y.once (omega arith);
    excluding = λ l. e;
    free = λ l. absurd (omega arith);
    few = λ l. absurd (omega arith);
  }

  before_29 : Before 28 → is_acyclic ≡ true → Before 29
  before_29 y e = record {
    form = λ l. y.form (omega arith);
    readable = λ l. y.readable (omega arith);
    once = λ l. y.once (omega arith);
    excluding = λ l. y.excluding (omega arith);
    free = λ l. e;
    few = λ l. absurd (omega arith);
  }

  before_30 : Before 29 → PassesAll book given (unfolded_few limits book) → Before 30
  before_30 y e = record {
    form = λ l. y.form (omega arith);
    readable = λ l. y.readable (omega arith);
    once = λ l. y.once (omega arith);
    excluding = λ l. y.excluding (omega arith);
    free = λ l. y.free (omega arith);
    few = λ l. e;
  }

  as_named : (q r : Refusal) → r ≡ q → DefinitionsNo limits book given q → DefinitionsNo limits book given r
  as_named q r e = subst (DefinitionsNo limits book given) (sym e)

  module _ (r : Refusal) where
    few_first : Before 29 → FewNo r → DefinitionsNo limits book given r
    few_first y (inl fails) = too_large y r fails
    few_first y (inr (few, fails)) = too_deep (before_30 y few) r fails

    ring_first : Before 28 → RingNo r → DefinitionsNo limits book given r
    ring_first y (inl (e, is)) = as_named (refusal 28 Definitions) r is (ring y e)
    ring_first y (inr (e, rest)) = few_first (before_29 y e) rest

    excludes_first : Before 27 → ExcludesNo r → DefinitionsNo limits book given r
    excludes_first y (inl fails) = excluding y r fails
    excludes_first y (inr (passes, rest)) = ring_first (before_28 y passes) rest

    once_first : Before 26 → OnceNo r → DefinitionsNo limits book given r
    once_first y (inl (e, is)) = as_named (refusal 26 Definitions) r is (named_twice y e)
    once_first y (inr (e, rest)) = excludes_first (before_27 y e) rest

    read_first : definitions_form book ≡ true → ReadNo r → DefinitionsNo limits book given r
    read_first f (inl (k, a, b, (q, n, e, is), before)) =
        as_named (refusal_at q (Definition k) n) r is
        (unreadable f k q n (omega arith) (λ j l. before j (omega arith) l) e)
    read_first f (inr (reads, rest)) = once_first (before_26 f reads) rest

    form_first : FormNo r → DefinitionsNo limits book given r
    form_first (inl (e, is)) = as_named (refusal 25 Definitions) r is (no_form e)
    form_first (inr (f, rest)) = read_first f rest

  module _ (r : Refusal) {number : ℕ} (y : Before number) where
    after_reading_is : 25 < number → OnceNo r → FormNo r
    after_reading_is l rest = inr (y.form l, inr (λ k a b. y.readable l k (omega arith), rest))

    after_26 : 26 < number → ExcludesNo r → FormNo r
    after_26 l rest = after_reading_is (omega arith) (inr (y.once l, rest))

    after_27 : 27 < number → RingNo r → FormNo r
    after_27 l rest = after_26 (omega arith) (inr (y.excluding l, rest))

    after_28 : 28 < number → FewNo r → FormNo r
    after_28 l rest = after_27 (omega arith) (inr (y.free l, rest))

  from_first : (r : Refusal) → DefinitionsNo limits book given r → FormNo r
  from_first r (no_form e) = inl (e, refl)
  from_first r (unreadable f k q n l before e) =
      inr (f, inl (k, omega arith, omega arith, (q, n, e, refl), λ j a b. before j b))
  from_first r (named_twice y e) = after_reading_is r y (omega arith) (inl (e, refl))
  from_first r (excluding y q fails) = after_26 r y (omega arith) (inl fails)
  from_first r (ring y e) = after_27 r y (omega arith) (inl (e, refl))
  from_first r (too_large y q fails) = after_28 r y (omega arith) (inl fails)
  from_first r (too_deep y q fails) = after_28 r y (omega arith) (inr (y.few (omega arith), fails))

  -- ---- all yes

  abbrev AllPass : (List ℕ → Bool) → List Picture → Type 0
  AllPass test = AllOf (λ p. test p.file ≡ true)

  abbrev AllUnfold : List Picture → Type 0
  AllUnfold = AllOf (λ p. Unfolds limits book p.file)

  unfold_all : (ps : List Picture) → AllPass (excludes_none book) ps → AllPass (unfolded_few limits book) ps →
      AllPass (unfolded_shallow limits book) ps → AllUnfold ps
  unfold_all [] x y z = tt
  unfold_all (p ∷ ps) x y z =
      (record { excluding = x.0; few = y.0; shallow = z.0 }, unfold_all ps x.1 y.1 z.1)

  all_pass : (test : List ℕ → Bool) → ((s : List ℕ) → Unfolds limits book s → test s ≡ true) →
      (ps : List Picture) → AllUnfold ps → AllPass test ps
  all_pass test h [] u = tt
  all_pass test h (p ∷ ps) u = (h p.file u.0, all_pass test h ps u.1)

  pass_all : (test : List ℕ → Bool) → ((s : List ℕ) → Unfolds limits book s → test s ≡ true) →
      Definable limits book → AllUnfold given → PassesAll book given test
  pass_all test h ok u =
      (all_pass test h given u, λ k l. h (definition_file book k) (ok.unfolds k l))

  pub definitions_decides :
      Decides (definitions_asked limits book given) (Definable limits book × AllUnfold given)
      (DefinitionsNo limits book given)
  unfolding definitions_asked
  definitions_decides =
      said_so (and_then (question 25 Definitions (definitions_form book)) (and_then reads once))
      (and_decides (question 25 Definitions (definitions_form book)) (and_then reads once)
      (asked_decides (definitions_form book) (refusal 25 Definitions))
      (λ f. and_decides reads once reads_decided
      (λ r. and_decides (question 26 Definitions (named_once book)) excludes
      (asked_decides (named_once book) (refusal 26 Definitions))
      (λ o. and_decides (asked_of (question_of 27 (excludes_none book)) all) free
      (all_decided book given 27 (excludes_none book))
      (λ x. and_decides (question 28 Definitions is_acyclic) few (asked_decides is_acyclic (refusal 28 Definitions))
      (λ c. and_decides (asked_of (question_of 29 (unfolded_few limits book)) all) deep
      (all_decided book given 29 (unfolded_few limits book))
      (λ w. all_decided book given 30 (unfolded_shallow limits book)))))))) (
        λ (f, (r, (o, (x, (c, (w, h)))))). (
          record {
            form = f;
            readable = λ k l. r k (omega arith) (omega arith);
            once = o;
            free = true_is is_acyclic c;
            unfolds = λ k l. record { excluding = x.1 k l; few = w.1 k l; shallow = h.1 k l };
          },
          unfold_all given x.0 w.0 h.0,
        ),
        λ (ok, u). (
          ok.form,
          (
            λ k a b. ok.readable k (omega arith),
            (
              ok.once,
              (
                pass_all (excludes_none book) (λ s v. v.excluding) ok u,
                (
                  is_true is_acyclic ok.free,
                  (
                    pass_all (unfolded_few limits book) (λ s v. v.few) ok u,
                    pass_all (unfolded_shallow limits book) (λ s v. v.shallow) ok u,
                  ),
                ),
              ),
            ),
          ),
        ),
      )
      (λ r. (form_first r, from_first r))
    where
      reads_decided :
          Decides (asked_of (read_of limits) (definitions_of book)) (AllFrom Reads (definition_count book) 0)
          (FirstFrom Reads (λ k. Unreadable limits (Definition k) (definition_file book k)) (definition_count book) 0)
      reads_decided =
          subst (λ a. Decides a (AllFrom Reads (definition_count book) 0)
          (FirstFrom Reads (λ k. Unreadable limits (Definition k) (definition_file book k)) (definition_count book) 0))
          (sym (of_definitions_is (read_of limits) book))
          (from_decides (definition_asked (read_of limits) book) Reads
          (λ k. Unreadable limits (Definition k) (definition_file book k)) (definition_count book) 0
          (λ k a b. read_decides limits (Definition k) (definition_file book k)))

  pub asked_definable : definitions_asked limits book given ≡ yes → Definable limits book × AllUnfold given
  asked_definable = definitions_decides.yes.0

  pub definable_asked : Definable limits book → AllUnfold given → definitions_asked limits book given ≡ yes
  definable_asked ok u = definitions_decides.yes.1 (ok, u)

  -- ---- every refusal

  module _ (P : Refusal → Type 0) where
    -- a question by its number, of all pictures
    abbrev RefusesAll : ℕ → Type 0
    RefusesAll number =
        AllOf (λ p. P (refusal number p.input)) given
        × ((k : ℕ) → k < definition_count book → P (refusal number (Definition k)))

    pub record OfDefinitions : Type 0 where
      pub form : P (refusal 25 Definitions)
      pub reads : (k : ℕ) → k < definition_count book →
          (q n : ℕ) → FailsAt limits (definition_file book k) q n → P (refusal_at q (Definition k) n)
      pub once : P (refusal 26 Definitions)
      pub excluding : RefusesAll 27
      pub ring : P (refusal 28 Definitions)
      pub few : RefusesAll 29
      pub shallow : RefusesAll 30

    all_refuse : (number : ℕ) (test : List ℕ → Bool) → RefusesAll number →
        EveryRefusal P (asked_of (test_asked book given number test) (given ++ definitions_of book))
    all_refuse number test (of-each, of-place) =
        let ask = test_asked book given number test in
        subst (EveryRefusal P) (sym (of_all ask book given))
        (and_refuses P (asked_of ask given) (of_definitions book given number test)
        (of_refuses ask P given (each given of-each))
        (from_refuses P (definition_asked ask book) (definition_count book) 0
        (λ k a b. asked_refuses P (test (definition_file book k)) (refusal number (Definition k))
        (of-place k (omega arith)))))
      where
        each : (ps : List Picture) → AllOf (λ p. P (refusal number p.input)) ps →
            AllOf (λ p. EveryRefusal P (test_asked book given number test p)) ps
        each [] h = tt
        each (p ∷ ps) h = (asked_refuses P (test p.file) (refusal number p.input) h.0, each ps h.1)

    pub definitions_refuses : OfDefinitions → EveryRefusal P (definitions_asked limits book given)
    unfolding definitions_asked
    definitions_refuses h =
        and_refuses P (question 25 Definitions (definitions_form book)) (and_then reads once)
        (asked_refuses P (definitions_form book) (refusal 25 Definitions) h.form)
        (and_refuses P reads once
        (subst (EveryRefusal P) (sym (of_definitions_is (read_of limits) book))
        (from_refuses P (definition_asked (read_of limits) book) (definition_count book) 0
        (λ k a b. read_refuses P limits (Definition k) (definition_file book k) (h.reads k (omega arith)))))
        (and_refuses P (question 26 Definitions (named_once book)) excludes
        (asked_refuses P (named_once book) (refusal 26 Definitions) h.once)
        (and_refuses P (asked_of (question_of 27 (excludes_none book)) all) free
        (all_refuse 27 (excludes_none book) h.excluding)
        (and_refuses P (question 28 Definitions is_acyclic) few
        (asked_refuses P is_acyclic (refusal 28 Definitions) h.ring)
        (and_refuses P (asked_of (question_of 29 (unfolded_few limits book)) all) deep
        (all_refuse 29 (unfolded_few limits book) h.few)
        (all_refuse 30 (unfolded_shallow limits book) h.shallow))))))
