-- Laws of a work space in two halves that are lent one after the other. They stand over any length, since a numeral under `take` or `drop` is counted down.
--   upper_part, put_upper   the part from a place on, as it is lent and as it comes back
--   length_upper            the upper half is as long as the lower one
--   put_whole               bytes as many as were there take their place
--   length_join             two runs, each as long as a half
--   put_halves              one in the lower half and then the other in the upper one are both put at the start
--   join_lower, join_upper  of both put at the start the bytes of the one and of the other
use Prim.Native.Nat.{◌+◌, ◌-◌, ◌≤◌, ℕ}
use borrow.Rule.Slice.PartMut.{mid_of, put_mid}
use lib.ListN.{drop, drop_of_length-le, length, length-append, length-drop, take}
use lib.Seq.{drop-append-le, drop_at, drop-drop, length-take-le, take_all, take-append-le, take_at}
use mathlib.Core.List.{List, ◌++◌, append_assoc, append-nil}
use mathlib.Core.Path.{◌∙◌, ◌≡◌, ap, sym}
use native.Mathlib.Omega.{arith}
use Rattle.table.proofs.Puts.{put_start}
use Rattle.table.specs.Put.{put}

module _ (a : ℕ) (d : List ℕ) where
  rest_whole : length (drop a d) ≤ length d - a
  rest_whole = omega (arith, length-drop a d)

  pub upper_part : mid_of a (length d - a) d ≡ drop a d
  upper_part = take_all (length d - a) (drop a d) rest_whole

  pub put_upper : (s : List ℕ) → put_mid a (length d - a) d s ≡ take a d ++ s
  put_upper s = rw (drop_of_length-le (drop a d) rest_whole, append-nil)

  -- the upper half as it is lent, once the lower one has come back
  pub length_upper : (s : List ℕ) (end : ℕ) → length s ≡ a → end ≡ a + a → end ≤ length d →
      length (mid_of a (end - a) (s ++ drop a d)) ≡ a
  length_upper s end lower last room =
      let part = drop a (s ++ drop a d) in
      let long : length part ≡ length d - a = ap length (drop_at s (drop a d) a lower) ∙ length-drop a d in
      length-take-le (end - a) part (omega (arith, long)) ∙ omega arith

module _ (d s : List ℕ) where
  pub put_whole : length s ≡ length d → put d 0 s ≡ s
  put_whole e = put_start d s ∙ rw (drop_of_length-le d {i = length s} (omega arith), append-nil)

-- two runs put at the start, each as long as a half
module _ (a : ℕ) (s t : List ℕ) (lower : length s ≡ a) (upper : length t ≡ a) where
  pub length_join : length (s ++ t) ≡ a + a
  length_join = omega (arith, length-append s t)

  module _ (d : List ℕ) where
    -- the upper half ends at a place
    pub put_halves : (end : ℕ) → end ≡ a + a → put_mid a (end - a) (s ++ drop a d) t ≡ put d 0 (s ++ t)
    put_halves end e =
        let k : a + (end - a) ≡ length (s ++ t) = omega (arith, length_join) in
        ap (λ (l : List ℕ). l ++ (t ++ drop (end - a) (drop a (s ++ drop a d)))) (take_at s (drop a d) a lower)
        ∙ ap (λ (l : List ℕ). s ++ (t ++ drop (end - a) l)) (drop_at s (drop a d) a lower)
        ∙ ap (λ (l : List ℕ). s ++ (t ++ l)) (drop-drop (end - a) a d ∙ ap (λ (n : ℕ). drop n d) k)
        ∙ sym (append_assoc s t (drop (length (s ++ t)) d))
        ∙ sym (put_start d (s ++ t))

    pub join_lower : (n : ℕ) → n ≤ a → take n (put d 0 (s ++ t)) ≡ take n s
    join_lower n h =
        rw (put_start d (s ++ t))
        (take-append-le n (s ++ t) (drop (length (s ++ t)) d) (omega (arith, length_join)) ∙ take-append-le n s t (omega arith))

    pub join_upper : (n : ℕ) → n ≤ a → take n (drop a (put d 0 (s ++ t))) ≡ take n t
    join_upper n h =
        let rest = drop (length (s ++ t)) d in
        rw (put_start d (s ++ t), drop-append-le a (s ++ t) rest (omega (arith, length_join)), drop_at s t a lower)
        (take-append-le n t rest (omega arith))
