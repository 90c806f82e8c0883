-- Laws of the depths that the reader has noted.
--   depth_known   the depth of row n from the table of depths
--   known_none    before the first row
--   known_next    and after one row more
--   known_root    after row 0, in a table that begins with 0
use Prim.Native.Nat.{◌+◌, ◌<◌, ℕ}
use borrow.Author.Count.{below_more}
use lib.ListN.{get_or, length, set}
use lib.Seq.{get_or-set_other, get_or-set_same}
use mathlib.Core.Bool.{true}
use mathlib.Core.List.{List}
use mathlib.Core.Logic.{⊎_elim}
use mathlib.Core.Path.{◌∙◌, ◌≡◌, ap, subst, sym}
use native.Mathlib.Nat.{eq-or-lt_of_le}
use native.Mathlib.Omega.{arith}
use Rattle.picture.specs.Depth.{depth}
use Rattle.picture.specs.Questions.{parent_ok}
use Rattle.table.specs.Fields.{parent_of}
use Rattle.picture.proofs.Depths.{Ordered, depth_root, depth_under}
use Rattle.picture.proofs.Questions.{parent_below}
use Rattle.picture_questions.specs.Depths.{Known}

-- the rows before n are in order, and so is row n
ordered_next : (s depths : List ℕ) (n : ℕ) → Known s n depths → parent_of s n < n → Ordered (parent_of s) n
ordered_next s depths n known below k i j =
    ⊎_elim (λ e. subst (λ (m : ℕ). parent_of s m < m) (sym e) below) (λ l. known.ordered k i l) (eq-or-lt_of_le {n = k} {m = n} j)

-- the depth of row n from the table of depths
pub depth_known : (s depths : List ℕ) (n : ℕ) → Known s n depths → parent_of s n < n → depth (parent_of s) n ≡ get_or depths (parent_of s n) 0 + 1
depth_known s depths n known below =
    depth_under (parent_of s) n (omega arith) (ordered_next s depths n known below) ∙ ap (λ (k : ℕ). k + 1) (sym (known.depths_hold (parent_of s n) below))

-- before the first row
pub known_none : (s depths : List ℕ) → Known s 0 depths
known_none s depths = record { ordered = λ k i j. absurd (omega arith); depths_hold = λ k j. absurd (omega arith) }

-- and after one row more
pub known_next : (s depths : List ℕ) (n d : ℕ) → n < length depths → Known s n depths →
    parent_ok n (parent_of s n) ≡ true → d ≡ depth (parent_of s) n → Known s (n + 1) (set depths n d)
known_next s depths n d room known r e =
    record {
      ordered = λ k i j. below_more (λ (m : ℕ). 0 < m → parent_of s m < m) n (λ m l p. known.ordered m p l)
          (λ p. parent_below n (parent_of s n) (λ z. omega arith) r) k j i;
      depths_hold = λ k j. below_more (λ (m : ℕ). get_or (set depths n d) m 0 ≡ depth (parent_of s) m) n (λ m l. get_or-set_other depths n m d 0 (λ z. omega arith) ∙ known.depths_hold m l) (get_or-set_same depths n d 0 room ∙ e) k j;
    }

-- after row 0, in a table that begins with 0
pub known_root : (s depths : List ℕ) → get_or depths 0 0 ≡ 0 → Known s 1 depths
known_root s depths h =
    record {
      ordered = λ k i j. absurd (omega arith);
      depths_hold = below_more (λ (m : ℕ). get_or depths m 0 ≡ depth (parent_of s) m) 0 (λ m l. absurd (omega arith)) (h ∙ sym (depth_root (parent_of s)));
    }
