-- A call of a closure with a slice that it reads, limits, and a slice that it writes.
--   TakesAt     it may be called with these
--   ReturnsAt   it may give this, and leave that behind
use Rattle.std.specs.Borrow.{Bor, MutBor}
use Rattle.std.specs.Fn.{Once}
use Rattle.std.specs.Prelude.{◌≡◌}

abbrev pub TakesAt : {F A L B R : Type 0} → Once F (Bor A × (L × (MutBor B × Unit {0}))) R → F → A → L → B → Type 0
TakesAt {F} {A} {L} {B} g f x l y = (p : Bor A) (q : MutBor B) → p.now ≡ x → q.now ≡ y → g.pre f (p, (l, (q, tt)))

pub record ReturnsAt {F A L B R : Type 0}
    (g : Once F (Bor A × (L × (MutBor B × Unit {0}))) (R × (MutBor B × Unit {0}))) (f : F)
    (x : A) (l : L) (y : B) (r : R) (left : B) : Type 0 where
  pub shown : Bor A
  pub shows : shown.now ≡ x
  pub lent : MutBor B
  pub lends : lent.now ≡ y
  pub after : MutBor B
  pub met : g.post f (shown, (l, (lent, tt))) (r, (after, tt))
  pub leaves : after.now ≡ left
