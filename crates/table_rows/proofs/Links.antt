-- Links are filled in one pass from the last row down: each row becomes the lowest of its parent's, and what was the lowest comes after it.
--   LinkedFrom                       the links once the rows from j on have been met
--   link_none, link_next, link_done  before the first row, one row more, and at the end
--   walk_less                        a walk along the links ends: each row stands after the one before it
use Prim.Native.Nat.{◌+◌, ◌-◌, ◌<◌, ◌≤◌, ℕ}
use borrow.Author.Tests.{eqb-false, ne_eqb}
use lib.Dec.{eqb}
use lib.ListN.{get_or, length, length-set, set}
use mathlib.Core.List.{List}
use mathlib.Core.Path.{◌∙◌, ◌≡◌, ap, subst, sym}
use native.Mathlib.Omega.{arith}
use Rattle.table.specs.Pick.{pick}
use Rattle.table.proofs.Bools.{by_test}
use Rattle.table_rows.specs.Links.{Linked, Nearest, Zeros}
use Rattle.table_rows.proofs.Stores.{stored}

pub record LinkedFrom (parent : ℕ → ℕ) (rows width j : ℕ) (links : List ℕ) : Type 0 where
  pub size : length links ≡ width + width
  pub lowest : (c : ℕ) → c < rows → Nearest parent rows c j (get_or links c 0)
  pub later : (k : ℕ) → (k ≡ 0 → ⊥) → j ≤ k → k < rows → Nearest parent rows (parent k) (k + 1) (get_or links (width + k) 0)

pub link_none : (parent : ℕ → ℕ) (rows width : ℕ) (links : List ℕ) → Zeros (width + width) links → LinkedFrom parent rows width rows links
link_none parent rows width links empty =
    record {
      size = empty.size;
      lowest = λ c l. record { hung = λ u. absurd (u (empty.zeros c)); first = λ k z a b e. absurd (omega arith) };
      later = λ k z a b. absurd (omega arith);
    }

-- row i is the lowest of its parent's, and what was the lowest comes after it
module _ (parent : ℕ → ℕ) (rows width i j above : ℕ) (links : List ℕ) (under : j ≡ i + 1) (later-row : i ≡ 0 → ⊥) (inside : i < rows) (most : rows ≤ width) (is : above ≡ parent i) (before : above < i) (linked : LinkedFrom parent rows width j links) where
  abbrev once : List ℕ
  once = set links (width + i) (get_or links above 0)

  widen : (c v : ℕ) → (c ≡ above → ⊥) → Nearest parent rows c j v → Nearest parent rows c i v
  widen c v other n =
      record {
        hung = λ u. let (a, b, e) = n.hung u in (omega arith, b, e);
        first = λ k z a b e.
            let differs : k ≡ i → ⊥ = λ same. other (sym (is ∙ ap parent (sym same) ∙ e)) in
            n.first k z (omega (arith, differs)) b e;
      }

  pub link_next : LinkedFrom parent rows width i (set once above i)
  link_next =
      let room = linked.size in
      let same_size : length once ≡ length links = length-set links (width + i) (get_or links above 0) in
      record {
        size = length-set once above i ∙ same_size ∙ room;
        lowest = λ c l. stored (λ v. Nearest parent rows c i v) once above i c (omega arith)
            (λ same. record { hung = λ u. (omega arith, inside, sym is ∙ sym same); first = λ k z a b e. (later-row, a) })
            (λ other. stored (λ v. Nearest parent rows c i v) links (width + i) (get_or links above 0) c (omega arith) (λ same. absurd (omega arith))
            (λ _. widen c (get_or links c 0) other (linked.lowest c l)));
        later = λ k z a b. stored (λ v. Nearest parent rows (parent k) (k + 1) v) once above i (width + k) (omega arith) (λ same. absurd (omega arith))
            (λ _. stored (λ v. Nearest parent rows (parent k) (k + 1) v) links (width + i) (get_or links above 0) (width + k) (omega arith)
            (λ same. let e : k ≡ i = omega arith in
            subst (λ n. Nearest parent rows (parent n) (n + 1) (get_or links above 0)) (sym e)
            (subst (λ n. Nearest parent rows n (i + 1) (get_or links above 0)) is (subst (λ n. Nearest parent rows above n (get_or links above 0)) under (linked.lowest above (omega arith)))))
            (λ other. linked.later k z (omega (arith, other)) b));
      }

pub link_done : (parent : ℕ → ℕ) (rows width j : ℕ) (links : List ℕ) → j ≤ 1 → LinkedFrom parent rows width j links → Linked parent rows width links
link_done parent rows width j links under linked =
    record {
      lowest = λ c l.
          let n = linked.lowest c l in
          record {
            hung = λ u. let (a, b, e) = n.hung u in (omega (arith, u), b, e);
            first = λ k z a b e. n.first k z (omega arith) b e;
          };
      later = λ k z b. linked.later k z (omega (arith, z)) b;
    }

pub walk_less : (rows j n : ℕ) → (j ≡ 0 → ⊥) → j < rows → ((n ≡ 0 → ⊥) → j + 1 ≤ n) → pick (eqb n 0) 0 (rows + 1 - n) < pick (eqb j 0) 0 (rows + 1 - j)
walk_less rows j n z l on =
    rw (ne_eqb j 0 z) (by_test (eqb n 0) (λ e. rw e (omega arith)) (λ e. let m = on (eqb-false n 0 e) in rw e (omega arith)))
