-- Laws of bytes that are put in the place of others, `put_mid`, over any start and length.
--   put_part                            bytes put from a place on are in the place of as many
--   part_there                          the bytes that were put
--   front_same                          runs that are the same up to a place have the same parts before it
--   part_long, part_room                the part from a place on, as it is lent
--   with_upper                           and what is there once it comes back:
--   made_part, made_before, made_long   that part; what stands before it stays, and so does the length
use Prim.Native.Nat.{◌+◌, ◌-◌, ◌≤◌, ℕ}
use borrow.Rule.Slice.PartMut.{mid_of, put_mid}
use lib.ListN.{drop, length, length-append, length-drop, take, take-append-drop}
use lib.Seq.{drop-append-le, drop_at, drop-drop, length-take-le, take-append-le, take_at}
use mathlib.Core.List.{List, ◌++◌, append_assoc}
use mathlib.Core.Path.{◌∙◌, ◌≡◌, ap, sym}
use native.Mathlib.Omega.{arith}
use Rattle.table.specs.Put.{put}
use Rattle.workspace.proofs.Halves.{put_upper, upper_part}

pub put_part : (d : List ℕ) (a : ℕ) (s : List ℕ) → put d a s ≡ put_mid a (length s) d s
unfolding put
put_part d a s =
    append_assoc (take a d) s (drop (a + length s) d)
    ∙ ap (λ (l : List ℕ). take a d ++ (s ++ l)) (sym (drop-drop (length s) a d))

pub part_there : (d : List ℕ) (a k : ℕ) (s : List ℕ) (n : ℕ) → a ≤ length d → n ≤ length s →
    take n (drop a (put_mid a k d s)) ≡ take n s
part_there d a k s n inside l =
    ap (take n) (drop_at (take a d) (s ++ drop k (drop a d)) a (length-take-le a d inside))
    ∙ take-append-le n s (drop k (drop a d)) l

-- a part before a place is a part of what lies before it
in_front : (d : List ℕ) (at start n : ℕ) → at ≤ length d → start + n ≤ at →
    take n (drop start d) ≡ take n (drop start (take at d))
in_front d at start n inside l =
    let front = length-take-le at d inside in
    let rest = length-drop start (take at d) in
    ap (λ (l : List ℕ). take n (drop start l)) (sym (take-append-drop at d))
    ∙ ap (take n) (drop-append-le start (take at d) (drop at d) (omega (arith, front)))
    ∙ take-append-le n (drop start (take at d)) (drop at d) (omega (arith, front, rest))

pub front_same : (d e : List ℕ) (at start n : ℕ) → at ≤ length d → at ≤ length e → take at e ≡ take at d →
    start + n ≤ at → take n (drop start e) ≡ take n (drop start d)
front_same d e at start n inside also same l =
    in_front e at start n also l
    ∙ ap (λ (l : List ℕ). take n (drop start l)) same
    ∙ sym (in_front d at start n inside l)

pub part_long : (d : List ℕ) (from : ℕ) → length (mid_of from (length d - from) d) ≡ length d - from
part_long d from = ap length (upper_part from d) ∙ length-drop from d

pub part_room : (d : List ℕ) (from n : ℕ) → from + n ≤ length d → n ≤ length (mid_of from (length d - from) d)
part_room d from n room = omega (arith, part_long d from, room)

abbrev pub with_upper : List ℕ → ℕ → List ℕ → List ℕ
with_upper d from s = put_mid from (length d - from) d s

module _ (d : List ℕ) (from : ℕ) (s : List ℕ) (inside : from ≤ length d) where
  front : length (take from d) ≡ from
  front = length-take-le from d inside

  pub made_part : drop from (with_upper d from s) ≡ s
  made_part = ap (drop from) (put_upper from d s) ∙ drop_at (take from d) s from front

  pub made_before : take from (with_upper d from s) ≡ take from d
  made_before = ap (take from) (put_upper from d s) ∙ take_at (take from d) s from front

  pub made_long : length s ≡ length d - from → length (with_upper d from s) ≡ length d
  made_long same =
      ap length (put_upper from d s)
      ∙ length-append (take from d) s
      ∙ omega (arith, front, same, inside)
