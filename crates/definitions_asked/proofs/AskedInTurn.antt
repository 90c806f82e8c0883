-- One question of pictures in turn, after what was asked before.
--   then_yes              nothing more is asked
--   asked_one             of one picture
--   listed_last           what is listed, with one more
--   asks_none, asks_on    of no picture; of pictures and then of others
--   asks_next             of one picture more
--   two_yes, two_no       a third question after two that are answered yes; after a no
--   passed_each           what is answered yes of all pictures, the definitions pass
--   excluded_one          27 of a picture, as the code asks it
use Prim.Native.Nat.{◌+◌, ◌<◌, suc, zero, ℕ}
use mathlib.Core.Bool.{Bool, true}
use mathlib.Core.List.{List, [], ◌++◌, ◌∷◌}
use mathlib.Core.Path.{◌∙◌, ◌≡◌, ap, ap₂, refl, subst, sym}
use native.Mathlib.Omega.{arith}
use Rattle.std.proofs.Common.{Err, Ok}
use Rattle.picture.proofs.Orders.{and_yes, asked_decides, then_assoc, yes_to}
use Rattle.picture.specs.Asked.{and_then, asked_from, Asked, yes}
use Rattle.picture.specs.Refusal.{refusal}
use Rattle.picture.specs.declared.answer.Input.{Input}
use Rattle.picture.specs.declared.answer.Input.TheVariants.{Definition}
use Rattle.picture.specs.declared.answer.Refusal.{Refusal}
use Rattle.fields.specs.Form.{listed}
use Rattle.definitions.proofs.Questions.{of_all, of_append}
use Rattle.definitions.specs.Asked.{Picture, asked_of, definitions_of, question, question_of}
use Rattle.definitions.specs.Form.{definition_count, definition_file}
use Rattle.definitions.specs.Tbox.{defined_word}
use Rattle.definitions.specs.Unfolded.{excludes_none}
use Rattle.definitions_reader.proofs.Exclusions.{excluded_asked}
use Rattle.definitions_reader.specs.Excluded.{excludes_none_of}
use Rattle.definitions_asked.specs.Lots.{Asks}

pub then_yes : (a : Asked) → and_then a yes ≡ a
then_yes (Ok _) = refl
then_yes (Err r) = refl

last_from : (f : ℕ → Picture) (n k : ℕ) → listed f (suc n) k ≡ listed f n k ++ (f (k + n) ∷ [])
last_from f zero k = ap (λ j. f j ∷ []) (let e : k ≡ k + 0 = omega arith in e)
last_from f (suc n) k =
    ap (λ ps. f k ∷ ps)
    (last_from f n (k + 1)
    ∙ ap (λ j. listed f n (k + 1) ++ (f j ∷ [])) (let e : k + 1 + n ≡ k + suc n = omega arith in e))

pub listed_last : (f : ℕ → Picture) (n : ℕ) → listed f (n + 1) 0 ≡ listed f n 0 ++ (f n ∷ [])
listed_last f n =
    ap (λ m. listed f m 0) (let e : n + 1 ≡ suc n = omega arith in e)
    ∙ last_from f n 0 ∙ ap (λ j. listed f n 0 ++ (f j ∷ [])) (let e : 0 + n ≡ n = omega arith in e)

module _ (ask : Picture → Asked) where
  pub asked_one : (p : Picture) → asked_of ask (p ∷ []) ≡ ask p
  unfolding asked_of
  asked_one p = then_yes (ask p)

  pub asks_none : (a : Asked) → Asks ask [] a a
  unfolding asked_of
  asks_none a = sym (then_yes a)

  pub asks_on : (ps qs : List Picture) (a b c : Asked) → Asks ask ps a b → Asks ask qs b c → Asks ask (ps ++ qs) a c
  asks_on ps qs a b c before after =
      after ∙ ap (λ x. and_then x (asked_of ask qs)) before
      ∙ sym (then_assoc a (asked_of ask ps) (asked_of ask qs)) ∙ ap (and_then a) (sym (of_append ask ps qs))

  pub asks_next : (f : ℕ → Picture) (k : ℕ) (a b c : Asked) → Asks ask (listed f k 0) a b → c ≡ and_then b (ask (f k)) →
      Asks ask (listed f (k + 1) 0) a c
  asks_next f k a b c before here =
      subst (λ ps. Asks ask ps a c) (sym (listed_last f k))
      (asks_on (listed f k 0) (f k ∷ []) a b c before (here ∙ ap (and_then b) (sym (asked_one (f k)))))

module _ (a b c both : Asked) (is : both ≡ and_then a b) where
  pub two_yes : both ≡ yes → c ≡ and_then a (and_then b c)
  two_yes e = sym (then_assoc a b c ∙ ap (λ x. and_then x c) (sym is ∙ e))

  pub two_no : (r : Refusal) → both ≡ Err r → Err r ≡ and_then a (and_then b c)
  two_no r e = sym (then_assoc a b c ∙ ap (λ x. and_then x c) (sym is ∙ e))

pub passed_each : (number : ℕ) (test : List ℕ → Bool) (tbox : List ℕ) (given : List Picture) →
    asked_of (question_of number test) (given ++ definitions_of tbox) ≡ yes →
    (k : ℕ) → k < definition_count tbox → test (definition_file tbox k) ≡ true
passed_each number test tbox given e k l =
    let ask = question_of number test in
    let at : ℕ → Asked = λ j. question number (Definition j) (test (definition_file tbox j)) in
    let all = (and_yes (asked_of ask given) (asked_from at (definition_count tbox) 0)).0
    (sym (of_all ask tbox given) ∙ e) in
    (asked_decides (test (definition_file tbox k)) (refusal number (Definition k))).yes.0
    (yes_to at (definition_count tbox) all.1 k l)

-- what the code has read of a picture, and what it answers after a
module _ (tbox : List ℕ) (defined : ℕ) (names : defined ≡ defined_word tbox) (p : Picture)
    (picture : List ℕ) (is : picture ≡ p.file) (passes : Bool) (tests : passes ≡ excludes_none_of picture defined)
    (input : Input) (whose : input ≡ p.input) where
  pub excluded_one : (a q b : Asked) → q ≡ question 27 input passes → b ≡ and_then a q →
      b ≡ and_then a (question_of 27 (excludes_none tbox) p)
  excluded_one a q b asks so =
      so ∙ ap (and_then a)
      (asks ∙ ap₂ (λ i t. question 27 i t) whose
      (tests ∙ excluded_asked tbox picture defined names ∙ ap (excludes_none tbox) is))
