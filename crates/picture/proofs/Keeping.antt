-- Laws of what a buffer lent for writing holds at exit, said once for every call.
--   kept_yes, kept_no   it is written where all is answered yes, else as it was
--   kept_then           after two lots of questions
use Prim.Native.Nat.{ℕ}
use mathlib.Core.List.{List}
use mathlib.Core.Path.{◌≡◌, refl}
use Rattle.std.proofs.Common.{Err, Ok}
use Rattle.picture.specs.Asked.{and_then, kept, Asked, yes}
use Rattle.picture.specs.declared.answer.Refusal.{Refusal}

module _ (new old : List ℕ) where
  pub kept_yes : (a : Asked) → a ≡ yes → kept a new old ≡ new
  kept_yes a e = rw e

  pub kept_no : (a : Asked) (r : Refusal) → a ≡ Err r → kept a new old ≡ old
  kept_no a r e = rw e

pub kept_then : (a b : Asked) (new old : List ℕ) → kept a (kept b new old) old ≡ kept (and_then a b) new old
kept_then (Ok _) b new old = refl
kept_then (Err r) b new old = refl
