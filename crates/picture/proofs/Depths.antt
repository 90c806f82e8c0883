-- Laws of the depth of a row.
use mathlib.Core.Path.{◌≡◌, refl, ap, ◌∙◌}
use Prim.Native.Nat.{ℕ, zero, suc, ◌+◌, ◌≤◌, ◌<◌}
use native.Mathlib.Omega.{arith}
use Rattle.picture.specs.Depth.{depth_in, depth}

-- rows up to n stand after their parents
abbrev pub Ordered : (ℕ → ℕ) → ℕ → Type 0
Ordered parent n = (k : ℕ) → 0 < k → k ≤ n → parent k < k

-- the steps allowed do not matter where there are enough
depth_steps : (parent : ℕ → ℕ) (a b n : ℕ) → n ≤ a → n ≤ b → Ordered parent n → depth_in parent a n ≡ depth_in parent b n
unfolding depth_in
depth_steps parent zero zero n p q o = refl
depth_steps parent zero (suc b) zero p q o = refl
depth_steps parent zero (suc b) (suc n) p q o = absurd (omega arith)
depth_steps parent (suc a) zero zero p q o = refl
depth_steps parent (suc a) zero (suc n) p q o = absurd (omega arith)
depth_steps parent (suc a) (suc b) zero p q o = refl
depth_steps parent (suc a) (suc b) (suc n) p q o =
    let below : parent (suc n) < suc n = o (suc n) (omega arith) (omega arith) in
    ap suc (depth_steps parent a b (parent (suc n)) (omega arith) (omega arith) (λ k i j. o k i (omega arith)))

pub depth_root : (parent : ℕ → ℕ) → depth parent 0 ≡ 0
unfolding depth depth_in
depth_root parent = refl

-- a row stands one deeper than its parent
pub depth_under : (parent : ℕ → ℕ) (n : ℕ) → 0 < n → Ordered parent n → depth parent n ≡ depth parent (parent n) + 1
unfolding depth depth_in
depth_under parent zero h o = absurd (omega arith)
depth_under parent (suc n) h o =
    let below : parent (suc n) < suc n = o (suc n) (omega arith) (omega arith) in
    ap suc (depth_steps parent n (parent (suc n)) (parent (suc n)) (omega arith) (omega arith) (λ k i j. o k i (omega arith))) ∙ omega arith

steps_same : (p q : ℕ → ℕ) (steps n : ℕ) → ((k : ℕ) → k ≤ n → p k ≡ q k) → Ordered p n → depth_in p steps n ≡ depth_in q steps n
unfolding depth_in
steps_same p q zero n same o = refl
steps_same p q (suc steps) zero same o = refl
steps_same p q (suc steps) (suc n) same o =
    let below : p (suc n) < suc n = o (suc n) (omega arith) (omega arith) in
    ap suc (steps_same p q steps (p (suc n)) (λ k h. same k (omega arith)) (λ k i j. o k i (omega arith)) ∙ ap (λ (m : ℕ). depth_in q steps m) (same (suc n) (omega arith)))

-- the depth of row n depends on the parents of the rows up to n alone
pub depth_same : (p q : ℕ → ℕ) (n : ℕ) → ((k : ℕ) → k ≤ n → p k ≡ q k) → Ordered p n → depth p n ≡ depth q n
unfolding depth
depth_same p q n same o = steps_same p q n n same o
