-- 2 to 13 of several pictures in turn, by number, as code reads them.
--   ReadTo                                those below k have passed
--   read_start, read_next                 none; one more
--   read_refused, read_all                the first that is refused; all of them
--   read_each                             where all have passed, each is readable
use Prim.Native.Nat.{◌+◌, ◌<◌, ◌≤◌, ℕ}
use mathlib.Core.List.{List}
use mathlib.Core.Path.{◌∙◌, ◌≡◌, sym}
use native.Mathlib.Omega.{arith}
use Rattle.std.proofs.Common.{Err, Ok, Result}
use Rattle.table.specs.declared.layout.Limits.{Limits}
use Rattle.picture.specs.Asked.{asked_from, read_asked, Asked, yes}
use Rattle.picture.specs.Read.{answer_of}
use Rattle.picture.specs.Readable.{Readable}
use Rattle.picture.specs.declared.answer.Input.{Input}
use Rattle.picture.specs.declared.answer.Refusal.{Refusal}
use Rattle.picture.proofs.Orders.{YesTo, read_decides, refused_no, rows_yes, to_no, to_yes, yes_on, yes_to}

module _ (limits : Limits) (input : ℕ → Input) (file : ℕ → List ℕ) (count : ℕ) where
  abbrev read_at : ℕ → Asked
  read_at k = read_asked limits (input k) (file k)

  pub record ReadTo (k : ℕ) : Type 0 where
    pub most : k ≤ count
    pub passed : YesTo read_at k

  pub read_start : ReadTo 0
  read_start = record { most = omega arith; passed = λ j l. absurd (omega arith) }

  module _ (k : ℕ) (so : ReadTo k) (l : k < count) (a : Result ℕ Refusal) (is : a ≡ answer_of limits (input k) (file k)) where
    pub read_next : (n : ℕ) → a ≡ Ok n → ReadTo (k + 1)
    read_next n rows = record {
      most = omega arith;
      passed = yes_on read_at k (rows_yes limits (input k) (file k) n (sym is ∙ rows)) so.passed;
    }

    pub read_refused : (r : Refusal) → a ≡ Err r → Err r ≡ asked_from read_at count 0
    read_refused r refused =
        sym (to_no read_at count k r l (refused_no limits (input k) (file k) r (sym is ∙ refused)) so.passed)

  pub read_all : (k : ℕ) → ReadTo k → count ≤ k → yes ≡ asked_from read_at count 0
  read_all k so done = sym (to_yes read_at count k done so.passed)

  pub read_each : asked_from read_at count 0 ≡ yes → (k : ℕ) → k < count → Readable limits (file k)
  read_each e k l = (read_decides limits (input k) (file k)).yes.0 (yes_to read_at count e k l)
