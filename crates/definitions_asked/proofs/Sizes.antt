-- 29 and 30 of pictures in one pass.
--   measured_none, measured_on, measured_next   of no picture; of pictures and then of others; of one more
--   measured_as, measured_all                   of a picture as the code has it; of all, in their order
--   measured_idle                               a picture of which no row wants a defined name passes both
--   measured_stopped                            once 29 is answered no, nothing more is asked
--   measured_many, measured_few                 a picture by its unfolded rows: too many; not too many, and 30
use Prim.Native.Nat.{◌+◌, ℕ}
use mathlib.Core.Bool.{Bool, false, true}
use mathlib.Core.List.{List, [], ◌++◌, ◌∷◌}
use mathlib.Core.Path.{◌∙◌, ◌≡◌, ap, subst, sym}
use native.Mathlib.Omega.{arith}
use Rattle.std.proofs.Common.{Err}
use Rattle.table.specs.declared.layout.Limits.{Limits}
use Rattle.picture.proofs.Orders.{and_yes, then_same}
use Rattle.picture.specs.Asked.{and_then, Asked, yes}
use Rattle.picture.specs.Readable.{Readable}
use Rattle.picture.specs.Refusal.{refusal}
use Rattle.picture.specs.declared.answer.Input.{Input}
use Rattle.picture.specs.declared.answer.Refusal.{Refusal}
use Rattle.fields.specs.Form.{listed}
use Rattle.definitions.proofs.Idle.{few_own, shallow_own}
use Rattle.definitions.specs.Asked.{Picture, asked_of, question, question_of}
use Rattle.definitions.specs.Unfolded.{unfolded_few, unfolded_shallow, wants_defined}
use Rattle.definitions_asked.specs.Lots.{Asks}
use Rattle.definitions_asked.specs.Measures.{Measured, one}
use Rattle.definitions_asked.specs.declared.measure.Progress.{Progress}
use Rattle.definitions_asked.proofs.AskedInTurn.{asked_one, asks_none, asks_on, listed_last, then_yes}

-- a no is no yes
pub clash : (r : Refusal) → ◌≡◌ {A = Asked} (Err r) yes → ⊥
clash r e = let z : ◌≡◌ {A = ℕ} 0 1 = cc in omega arith

-- nothing was asked
abbrev nothing : Progress
nothing = record { few = yes; shallow = yes }

module _ (limits : Limits) (tbox : List ℕ) where
  abbrev few? : Picture → Asked
  few? = question_of 29 (unfolded_few limits tbox)

  abbrev shallow? : Picture → Asked
  shallow? = question_of 30 (unfolded_shallow limits tbox)

  pub measured_none : (a : Progress) → Measured limits tbox [] a a
  measured_none a = record { few = asks_none few? a.few; shallow = λ e. asks_none shallow? a.shallow }

  pub measured_on : (ps qs : List Picture) (a b c : Progress) → Measured limits tbox ps a b →
      Measured limits tbox qs b c → Measured limits tbox (ps ++ qs) a c
  measured_on ps qs a b c before after = record {
    few = asks_on few? ps qs a.few b.few c.few before.few after.few;
    shallow = λ e.
        let so_far : b.few ≡ yes = ((and_yes b.few (asked_of few? qs)).0 (sym after.few ∙ e)).0 in
        asks_on shallow? ps qs a.shallow b.shallow c.shallow (before.shallow so_far) (after.shallow e);
  }

  pub measured_next : (f : ℕ → Picture) (k : ℕ) (a b c : Progress) → Measured limits tbox (listed f k 0) a b →
      Measured limits tbox (f k ∷ []) b c → Measured limits tbox (listed f (k + 1) 0) a c
  measured_next f k a b c before here =
      subst (λ ps. Measured limits tbox ps a c) (sym (listed_last f k))
      (measured_on (listed f k 0) (f k ∷ []) a b c before here)

  pub measured_as : (p : Picture) (input : Input) (s : List ℕ) (b c : Progress) → input ≡ p.input → s ≡ p.file →
      Measured limits tbox (one input s) b c → Measured limits tbox (p ∷ []) b c
  measured_as p input s b c whose is so =
      subst (λ t. Measured limits tbox (one p.input t) b c) is
      (subst (λ i. Measured limits tbox (one i s) b c) whose so)

  pub measured_all : (ps : List Picture) (r : Progress) → Measured limits tbox ps nothing r →
      and_then r.few r.shallow ≡ and_then (asked_of few? ps) (asked_of shallow? ps)
  measured_all ps r so =
      then_same r.few r.shallow (asked_of shallow? ps) so.shallow
      ∙ ap (λ a. and_then a (asked_of shallow? ps)) so.few

  module _ (input : Input) (s : List ℕ) where
    abbrev p : Picture
    p = record { input = input; file = s }

    -- after answers that a picture does not change
    passed : (ask : Picture → Asked) (a : Asked) → ask p ≡ yes → Asks ask (one input s) a a
    passed ask a e = sym (then_yes a) ∙ ap (and_then a) (sym (asked_one ask p ∙ e))

    pub measured_idle : (a : Progress) → Readable limits s → wants_defined tbox s ≡ false →
        Measured limits tbox (one input s) a a
    measured_idle a readable idle = record {
      few = passed few? a.few (ap (λ t. question 29 input t) (few_own limits s readable tbox idle));
      shallow = λ e.
          passed shallow? a.shallow (ap (λ t. question 30 input t) (shallow_own limits s readable tbox idle));
    }

    pub measured_stopped : (a : Progress) (r : Refusal) → a.few ≡ Err r → Measured limits tbox (one input s) a a
    measured_stopped a r e = record {
      few = e ∙ ap (λ x. and_then x (asked_of few? (one input s))) (sym e);
      shallow = λ y. absurd (clash r (sym e ∙ y));
    }

    module _ (a r : Progress) (so_far : a.few ≡ yes) where
      decides : (t : Bool) → unfolded_few limits tbox s ≡ t → r.few ≡ question 29 input t →
          Asks few? (one input s) a.few r.few
      decides t is says =
          says ∙ sym (ap (λ x. and_then x (asked_of few? (one input s))) so_far
          ∙ asked_one few? p ∙ ap (λ b. question 29 input b) is)

      pub measured_many : unfolded_few limits tbox s ≡ false → r.few ≡ Err (refusal 29 input) →
          Measured limits tbox (one input s) a r
      measured_many many says = record {
        few = decides false many says;
        shallow = λ y. absurd (clash (refusal 29 input) (sym says ∙ y));
      }

      pub measured_few : unfolded_few limits tbox s ≡ true → r.few ≡ yes →
          (passes : Bool) → passes ≡ unfolded_shallow limits tbox s →
          (q : Asked) → q ≡ question 30 input passes → r.shallow ≡ and_then a.shallow q →
          Measured limits tbox (one input s) a r
      measured_few few says passes is q asks so = record {
        few = decides true few says;
        shallow = λ y. so ∙ ap (and_then a.shallow)
            (asks ∙ ap (λ b. question 30 input b) is ∙ sym (asked_one shallow? p));
      }
