-- What is not normal.
use Prim.Native.Nat.{◌<◌, ◌≤◌, ℕ}
use mathlib.Core.Bool.{false, true}
use mathlib.Core.Path.{ap, ◌≡◌}
use native.Mathlib.Omega.{arith}
use Rattle.table.specs.NameSet.{has}
use Rattle.ale.specs.Theory.{CanonicalBottom, Ordered, Reduced, Saturated}
use Rattle.ale.specs.Tree.{bottom_label, cons, exists, forAll, nil, node, sizes}
use Rattle.ale.proofs.CasesTree.{Sig, bottom_leaf, double, five, leaf, none, single, three, under}

-- an all-successor after a some-successor of the same role, or after an all-successor of it
some_before_all : Ordered Sig (double exists (leaf three) forAll (leaf five)) → ⊥
some_before_all h = let l : 8 < 8 = h.0.0 in omega arith

two_alls : Ordered Sig (double forAll (leaf three) forAll (leaf five)) → ⊥
two_alls h = let l : 8 < 8 = h.0.0 in omega arith

-- a lower role after a higher one
pub roles_falling : Ordered Sig (under (cons exists 9 (leaf three) (cons exists 8 (leaf five) nil))) → ⊥
roles_falling h = let l : 9 ≤ 8 = h.0.0 in omega arith

-- ⊥ with a successor, or with a name
pub bottom_successor : CanonicalBottom Sig (node (bottom_label Sig) (cons exists 8 (leaf none) nil)) → ⊥
bottom_successor h = let e = (h.0 tt).1 in absurd (let z : ◌≡◌ {A = ℕ} 1 0 = ap (λ f. sizes Sig f) e in omega arith)

bottom_name : CanonicalBottom Sig (node (record { wanted = three; excluded = none; bottom = true }) nil) → ⊥
bottom_name h = let e = (h.0 tt).0 in absurd (let z : ◌≡◌ {A = ℕ} 8 0 = ap (λ l. l.wanted.set) e in omega arith)

bottom_excluded : CanonicalBottom Sig (node (record { wanted = none; excluded = three; bottom = true }) nil) → ⊥
bottom_excluded h = let e = (h.0 tt).0 in absurd (let z : ◌≡◌ {A = ℕ} 8 0 = ap (λ l. l.excluded.set) e in omega arith)

-- an all-successor that is ⊤
all_top : Reduced Sig (single forAll (leaf none)) → ⊥
all_top h = h.0

-- a some-successor that is ⊥, or a name both wanted and excluded
some_bottom : Saturated Sig (single exists bottom_leaf) → ⊥
some_bottom h = h.1.0

both_wanted : Saturated Sig (node (record { wanted = three; excluded = three; bottom = false }) nil) → ⊥
unfolding has
both_wanted h = h.0.consistent tt 3 tt tt
