-- What the search for a row that no edge serves says to the row test.
--   if_none       a promise for None, where there is none
--   none_served   whether there is none
--   row_missed    what is promised of the row, of the one that is found
use borrow.Author.Tests.{eq-eqb, ne_eqb}
use lib.Dec.{eqb}
use mathlib.Core.Bool.{Bool, false, false≢true, not, true}
use mathlib.Core.Path.{◌∙◌, ◌≡◌, ap, subst, sym}
use Prim.Native.Nat.{ℕ}
use Rattle.std.specs.Prelude.{IfNone, IfSome, MatchOption, None, Option, Some}
use Rattle.std.specs.Option.{is_some}

pub if_none : {P : Type 0} (o : Option ℕ) (none : Bool) → is_some o ≡ not none → none ≡ true → IfNone o P → P
if_none None none is e p = p
if_none (Some c) none is e p = absurd (false≢true (ap not (sym e) ∙ sym is))

pub none_served : (row : ℕ) (o : Option ℕ) (none : Bool) → is_some o ≡ not none →
    MatchOption o (row ≡ 0) (λ c. (row ≡ c) × (c ≡ 0 → ⊥)) → none ≡ eqb row 0
none_served row None true is p = sym (eq-eqb row 0 p)
none_served row None false is p = absurd (false≢true is)
none_served row (Some c) true is p = absurd (false≢true (sym is))
none_served row (Some c) false is p = sym (ne_eqb row 0 (λ e. p.1 (sym p.0 ∙ e)))

pub row_missed : (P : ℕ → Type 0) (row : ℕ) (o : Option ℕ) (none : Bool) → is_some o ≡ not none → none ≡ false →
    MatchOption o (row ≡ 0) (λ c. (row ≡ c) × (c ≡ 0 → ⊥)) → IfSome o P → P row
row_missed P row None true is e r p = absurd (false≢true (sym e))
row_missed P row None false is e r p = absurd (false≢true is)
row_missed P row (Some c) none is e r p = subst P (sym r.0) p
