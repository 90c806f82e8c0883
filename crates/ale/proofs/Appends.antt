-- Forests one after the other: what is counted, tidied, encoded and tested of the whole is that of its parts.
--   forest_nil, forest_assoc      appending nothing; in which order forests are appended
--   cons_reduced_append            one successor more, unless it is dropped
--   sizes_append                  nodes
--   tidy_all_append                tidying
--   any_append                    a test of some successor
--   encode_forest_append           rows
--   by_role_more, by_role_same      further roles add nodes; roles without successors add nothing
--   by_role_first                  what the first role with successors has more in front, the whole has in front
use Prim.Native.Nat.{◌+◌, ◌<◌, ◌≤◌, suc, zero, ℕ}
use mathlib.Core.Bool.{Bool, ◌||◌, false, true}
use mathlib.Core.List.{◌++◌, append_assoc}
use mathlib.Core.Logic.{⊎_elim}
use mathlib.Core.Path.{◌∙◌, ◌≡◌, ap, ap₂, refl, subst, sym}
use native.Mathlib.Nat.{eq-or-lt_of_le}
use native.Mathlib.Omega.{arith}
use Rattle.table.proofs.Bools.{or_assoc}
use Rattle.table.specs.Pick.{pick}
use Rattle.ale.specs.Encoding.{encode_forest, encode_tree}
use Rattle.ale.specs.Forest.{append, by_role, cons_reduced, dropped}
use Rattle.ale.specs.Normal.{tidy, tidy_all}
use Rattle.ale.specs.Signature.{Signature}
use Rattle.ale.specs.Tree.{Forest, Kind, Tree, any, cons, nil, size, sizes}

module _ (S : Signature) where
  pub forest_nil : (f : Forest S) → append S f nil ≡ f
  forest_nil nil = refl
  forest_nil (cons k r t f) = ap (cons k r t) (forest_nil f)

  pub forest_assoc : (f g h : Forest S) → append S (append S f g) h ≡ append S f (append S g h)
  forest_assoc nil g h = refl
  forest_assoc (cons k r t f) g h = ap (cons k r t) (forest_assoc f g h)

  pub sizes_append : (f g : Forest S) → sizes S (append S f g) ≡ sizes S f + sizes S g
  sizes_append nil g = omega arith
  sizes_append (cons k r t f) g = omega (arith, sizes_append f g)

  pub cons_reduced_append : (k : Kind) (r : ℕ) (t : Tree S) (f g : Forest S) (b : Bool) →
      pick b (append S f g) (cons k r t (append S f g)) ≡ append S (pick b f (cons k r t f)) g
  cons_reduced_append k r t f g true = refl
  cons_reduced_append k r t f g false = refl

  pub tidy_all_append : (f g : Forest S) → tidy_all S (append S f g) ≡ append S (tidy_all S f) (tidy_all S g)
  tidy_all_append nil g = refl
  tidy_all_append (cons k r t f) g =
      ap (λ h. cons_reduced S k r (tidy S t) h) (tidy_all_append f g)
      ∙ cons_reduced_append k r (tidy S t) (tidy_all S f) (tidy_all S g) (dropped S k (tidy S t))

  pub any_append : (p : Kind → ℕ → Tree S → Bool) (f g : Forest S) → any S p (append S f g) ≡ (any S p f || any S p g)
  any_append p nil g = refl
  any_append p (cons k r t f) g = ap (λ b. p k r t || b) (any_append p f g) ∙ sym (or_assoc (p k r t) (any S p f) (any S p g))

  pub encode_forest_append : (f g : Forest S) (p o : ℕ) → encode_forest S (append S f g) p o ≡ encode_forest S f p o ++ encode_forest S g p (o + sizes S f)
  encode_forest_append nil g p o = ap (λ i. encode_forest S g p i) (omega arith)
  encode_forest_append (cons k r t f) g p o =
      ap (λ l. encode_tree S t p k r o ++ l) (encode_forest_append f g p (o + size S t))
      ∙ ap (λ i. encode_tree S t p k r o ++ (encode_forest S f p (o + size S t) ++ encode_forest S g p i)) (omega arith)
      ∙ sym (append_assoc (encode_tree S t p k r o) (encode_forest S f p (o + size S t)) (encode_forest S g p (o + (size S t + sizes S f))))

  module _ (h : ℕ → Forest S) where
    pub by_role_more : (m n : ℕ) → m ≤ n → sizes S (by_role S h m) ≤ sizes S (by_role S h n)
    by_role_more m zero l = let e : m ≡ 0 = omega arith in rw e (omega arith)
    by_role_more m (suc n) l =
        ⊎_elim (λ e. rw e (omega arith)) (λ b. omega (arith, sizes_append (by_role S h n) (h n), by_role_more m n (omega arith))) (eq-or-lt_of_le {n = m} {m = suc n} l)

    pub by_role_same : (m n : ℕ) → m ≤ n → ((r : ℕ) → m ≤ r → r < n → h r ≡ nil) → by_role S h n ≡ by_role S h m
    by_role_same m zero l e = let z : m ≡ 0 = omega arith in rw z
    by_role_same m (suc n) l e =
        ⊎_elim (λ z. rw z)
        (λ b.
        ap (λ f. append S (by_role S h n) f) (e n (omega arith) (omega arith))
        ∙ forest_nil (by_role S h n)
        ∙ by_role_same m n (omega arith) (λ r i j. e r i (omega arith)))
        (eq-or-lt_of_le {n = m} {m = suc n} l)

  pub by_role_first : (h h' : ℕ → Forest S) (r : ℕ) (e : Forest S) → ((s : ℕ) → s < r → h s ≡ nil) → ((s : ℕ) → (s ≡ r → ⊥) → h' s ≡ h s) →
      h' r ≡ append S e (h r) → (n : ℕ) → r < n → by_role S h' n ≡ append S e (by_role S h n)
  by_role_first h h' r e none other on zero l = absurd (omega arith)
  by_role_first h h' r e none other on (suc n) l =
      ⊎_elim
      (λ z.
      let empty = by_role_same h 0 n (omega arith) (λ s _ j. none s (omega arith)) in
      let empty' = by_role_same h' 0 n (omega arith) (λ s _ j. other s (λ q. omega arith) ∙ none s (omega arith)) in
      ap₂ (λ x y. append S x y) empty' (subst (λ s. h' s ≡ append S e (h s)) z on) ∙ ap (λ x. append S e (append S x (h n))) (sym empty))
      (λ b.
      ap₂ (λ x y. append S x y) (by_role_first h h' r e none other on n b) (other n (λ q. omega arith)) ∙ forest_assoc e (by_role S h n) (h n))
      (eq-or-lt_of_le {n = r} {m = n} (omega arith))
