-- What every call answers, by its questions, said once (specs/Answers: `Answers`): a call is its questions in order,
-- those that leave everything as it was lent and then those that leave the work space as a success does, and what is
-- written.
--   then_yes                       nothing asked after a question
--   asked_word                     a word where all is answered yes, else the refusal's
--   word_on                        the word of an answer, by its questions
--   OnList                         a refusal that is on the call's list, fits the word, and has its place or none
--   Early, Late                    such a refusal: 1 to 14 or 24; 15 to 23
--   Shape                          how a call answers: its questions, its word, and what is left in its buffers
--   shape_answers                  so it gives a result or a numbered refusal, as it is laid down
--   shape_given                    the word and the buffers where all is answered yes
--   result_when, result_shown      a result is given if all is answered yes; an outcome that is not 0 shows that one is
--   refusal_shown                  the word of the first no
use Prim.Native.Nat.{◌+◌, ◌-◌, ◌<◌, ◌≤◌, ℕ}
use borrow.Author.Tests.{le-leb, lt-leb}
use lib.Dec.{leb}
use lib.ListN.{drop, length}
use lib.Seq.{take_at}
use mathlib.Core.Bool.{◌&&◌, and-false, false, true}
use mathlib.Core.List.{List, []}
use mathlib.Core.Logic.{◌↔◌, ◌⊎◌, inl, inr, ⊎_elim}
use mathlib.Core.Path.{◌∙◌, ◌≡◌, ap, refl, subst, sym}
use native.Mathlib.Omega.{arith}
use Rattle.std.proofs.Common.{Err, Ok, Result}
use Rattle.table.proofs.Puts.{length_put, put_after}
use Rattle.table.specs.Put.{put}
use Rattle.picture.proofs.Orders.{EveryRefusal, refuses_no}
use Rattle.picture.specs.Asked.{and_then, kept, on_asked, Asked, yes}
use Rattle.picture.specs.declared.answer.Refusal.{Refusal}
use Rattle.interface.specs.Answers.{Answers, Buffers, Call, Filled, GivesResult, Leaves, Listed, Passes, Placed, refusal_bytes}
use Rattle.interface.specs.Word.{outcome, refusal_word, value_range, value_word}
use Rattle.interface.proofs.Words.{Fits, refusal_byte, refusal_card, refusal_input, refusal_outcome, refusal_question, refusal_row, value_outcome, value_value}

pub then_yes : (a : Asked) → a ≡ and_then a yes
then_yes (Ok _) = refl
then_yes (Err r) = refl

abbrev pub asked_word : Asked → ℕ → ℕ
asked_word (Ok _) word = word
asked_word (Err r) word = refusal_word r

pub word_on : {A : Type 0} (word_of : Result A Refusal → ℕ) → ((r : Refusal) → word_of (Err r) ≡ refusal_word r) →
    (a : Asked) (answer : Result A Refusal) (word : ℕ) → word_of answer ≡ word →
    word_of (on_asked a answer) ≡ asked_word a word
word_on word_of same (Ok _) answer word e = e
word_on word_of same (Err r) answer word e = same r

-- ---- refusals

pub record OnList (c : Call) (r : Refusal) : Type 0 where
  pub listed : Listed c.refusals r.number r.input
  pub fits : Fits r
  pub placed : Placed c r

abbrev pub Early : Call → Refusal → Type 0
Early c r = OnList c r × ((leb 15 r.number && leb r.number 23) ≡ false)

abbrev pub Late : Call → Refusal → Type 0
Late c r = OnList c r × ((leb 15 r.number && leb r.number 23) ≡ true)

pub is_early : (n : ℕ) → (n < 15) ⊎ (23 < n) → (leb 15 n && leb n 23) ≡ false
is_early n (inl l) = rw (lt-leb 15 n l)
is_early n (inr l) = rw (lt-leb n 23 l) (and-false (leb 15 n))

pub is_late : (n : ℕ) → 15 ≤ n → n ≤ 23 → (leb 15 n && leb n 23) ≡ true
is_late n a b = rw (le-leb 15 n a, le-leb n 23 b)

-- ---- a buffer

filled_nothing : (lent left : List ℕ) → left ≡ lent → Filled lent [] left
filled_nothing lent left is = record { holds = refl; past = λ i h. rw is; length_kept = ap length is }

filled_put : (lent bytes left : List ℕ) → length bytes ≤ length lent → left ≡ put lent 0 bytes → Filled lent bytes left
unfolding put
filled_put lent bytes left fits is = record {
  holds = rw is (take_at bytes (drop (0 + length bytes) lent) (length bytes) refl);
  past = λ i h.
      let k : 0 + length bytes + (i - length bytes) ≡ i = omega arith in
      rw is (rw k at (put_after lent 0 bytes (i - length bytes) (omega arith)));
  length_kept = ap length is ∙ length_put lent 0 bytes (omega arith);
}

-- ---- a call

-- o is the outcome of its result
pub record Shape (c : Call) (lent left : Buffers) (word o : ℕ) : Type 0 where
  -- its questions
  pub before : Asked
  pub after : Asked
  pub all : Asked
  pub asked_all : c.asks lent ≡ all
  pub all_is : all ≡ and_then before after
  pub early : EveryRefusal (Early c) before
  pub late : EveryRefusal (Late c) after
  pub passes : (all ≡ yes) ↔ Passes c lent
  -- its result
  pub outcome_is : Passes c lent → c.Outcome o
  pub in_range : Passes c lent → c.given ≤ c.most
  pub small : Passes c lent → c.given < value_range
  pub word_by : word ≡ asked_word all (value_word o c.given)
  -- its buffers
  pub work_fits : before ≡ yes → length c.bytes.work ≤ length lent.work
  pub work_by : left.work ≡ kept before (put lent.work 0 c.bytes.work) lent.work
  pub result_fits : Passes c lent → length c.bytes.result ≤ length lent.result
  pub result_by : left.result ≡ kept all (put lent.result 0 c.bytes.result) lent.result

module _ (c : Call) (lent left : Buffers) (word o : ℕ) (s : Shape c lent left word o) where
  -- all is answered yes
  pub shape_given : Passes c lent →
      (word ≡ value_word o c.given) × (left.work ≡ put lent.work 0 c.bytes.work)
      × (left.result ≡ put lent.result 0 c.bytes.result)
  shape_given p =
      let e = s.passes.1 p in (
        s.word_by ∙ ap (λ a. asked_word a (value_word o c.given)) e,
        s.work_by ∙ ap (λ a. kept a (put lent.work 0 c.bytes.work) lent.work)
            (first s.before s.after (sym s.all_is ∙ e)),
        s.result_by ∙ ap (λ a. kept a (put lent.result 0 c.bytes.result) lent.result) e,
      )
    where
      first : (a b : Asked) → and_then a b ≡ yes → a ≡ yes
      first (Ok _) b e = refl
      first (Err r) b e = e

  -- the first no, which is `all`'s
  refuses : (r : Refusal) → s.all ≡ Err r → OnList c r → Leaves lent (refusal_bytes r.number c.bytes) left →
      Answers c lent left word
  refuses r e on leaves =
      let told : word ≡ refusal_word r = s.word_by ∙ ap (λ a. asked_word a (value_word o c.given)) e in
      inr (record {
        by = r;
        listed = on.listed;
        placed = on.placed;
        first_no = s.asked_all ∙ e;
        fails = λ p. let yes-is = s.passes.1 p in let z : ◌≡◌ {A = ℕ} 0 1 = cc in omega arith;
        outcome_is = ap outcome told ∙ refusal_outcome r on.fits;
        question_is = rw told (refusal_question r on.fits);
        input_is = rw told (refusal_input r on.fits);
        card_is = rw told (refusal_card r on.fits);
        row_is = rw told (refusal_row r on.fits);
        byte_is = rw told (refusal_byte r on.fits);
        word_is = told;
        leaves = leaves;
      })

  unwritten : (r : Refusal) → s.all ≡ Err r → left.result ≡ lent.result
  unwritten r e = s.result_by ∙ ap (λ a. kept a (put lent.result 0 c.bytes.result) lent.result) e

  by_questions : (a b : Asked) → s.before ≡ a → s.after ≡ b → Answers c lent left word
  by_questions (Err r) b e f =
      let (on, early) = refuses_no (Early c) s.before s.early r e in
      let is : s.all ≡ Err r = s.all_is ∙ ap (λ q. and_then q s.after) e in
      let same = s.work_by ∙ ap (λ a. kept a (put lent.work 0 c.bytes.work) lent.work) e in
      refuses r is on
      (rw early (record {
        work = filled_nothing lent.work left.work same;
        result = filled_nothing lent.result
            left.result (unwritten r is);
      }))
  by_questions (Ok _) (Err r) e f =
      let (on, late) = refuses_no (Late c) s.after s.late r f in
      let is : s.all ≡ Err r = s.all_is ∙ ap (λ q. and_then q s.after) e ∙ f in
      let same = s.work_by ∙ ap (λ a. kept a (put lent.work 0 c.bytes.work) lent.work) e in
      refuses r is on
      (rw late (record {
        work = filled_put lent.work c.bytes.work left.work (s.work_fits e) same;
        result = filled_nothing lent.result left.result (unwritten r is);
      }))
  by_questions (Ok _) (Ok _) e f =
      let p = s.passes.0 (s.all_is ∙ ap (λ q. and_then q s.after) e ∙ f) in
      let (told, work, result) = shape_given p in
      let shown = value_outcome o c.given (s.small p) in
      let value_is = value_value o c.given (s.small p) in
      inl (record {
        passes = p;
        all_yes = s.asked_all ∙ s.passes.1 p;
        outcome_is = subst c.Outcome (sym (ap outcome told ∙ shown)) (s.outcome_is p);
        value_is = rw told value_is;
        in_range = s.in_range p;
        word_is = omega (arith, told, ap outcome told, shown, value_is);
        leaves = record {
          work = filled_put lent.work c.bytes.work left.work (s.work_fits e) work;
          result = filled_put lent.result c.bytes.result left.result (s.result_fits p) result;
        };
      })

  pub shape_answers : Answers c lent left word
  shape_answers = by_questions s.before s.after refl refl

-- ---- what a word shows

module _ (c : Call) (lent left : Buffers) (word : ℕ) (answers : Answers c lent left word) where
  pub result_when : Passes c lent → GivesResult c lent left word
  result_when p = ⊎_elim (λ given. given) (λ refused. absurd (refused.fails p)) answers

  pub result_shown : 0 < outcome word → GivesResult c lent left word
  result_shown l = ⊎_elim (λ given. given) (λ refused. absurd (omega (arith, l, refused.outcome_is))) answers

  -- the first no is what the word says
  pub refusal_shown : (r : Refusal) → c.asks lent ≡ Err r → word ≡ refusal_word r
  refusal_shown r e =
      ⊎_elim
      (λ given. absurd (let all = given.all_yes in let z : ◌≡◌ {A = ℕ} 0 1 = cc in omega arith))
      (λ refused. let told = refused.first_no in let same : refused.by ≡ r = cc in
      refused.word_is ∙ ap refusal_word same) answers
