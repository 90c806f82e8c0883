-- Laws of `put` and of `zeros`.
--   written_put                     what a write to a part of a slice leaves is a `put`
--   put_nil                         nothing put changes nothing
--   put_start                       a run put at the start, and what stood after it
--   length_put                      the length stays
--   put_put, put_three              runs put one after the other
--   put_before, put_in, put_after   what stands before the run, in it and after it
--   length_zeros, get_d_zeros        a run of zeros: its length, and that it has only zeros
use mathlib.Core.Path.{◌≡◌, refl, ap, sym, ◌∙◌}
use mathlib.Core.List.{List, [], ◌++◌, append_assoc, append-nil}
use Prim.Native.Nat.{ℕ, zero, suc, ◌+◌, ◌≤◌, ◌<◌}
use native.Mathlib.Nat.{add_assoc, add-zero}
use native.Mathlib.Omega.{arith}
use borrow.Rule.Slice.PartMut.{put_mid}
use lib.ListN.{length, take, drop, get_or, length-append, length-take, length-drop, take-append-drop, length-replicate, get_or-append}
use lib.Seq.{drop-append-add, drop-drop, take_at, take-length, length-take-le, get_or-take, get_or-drop, get_or-append-add}
use Rattle.std.proofs.lemmas.Slice.{put_mid-paste}
use Rattle.table.specs.Put.{put, zeros}

-- the part of d that is k long, from `at` on, now has the bytes of s
pub written_put : (d : List ℕ) (at k : ℕ) (s part : List ℕ) → part ≡ s → length s ≡ k → put_mid at k d part ≡ put d at s
unfolding put
written_put d at k s part e l = put_mid-paste at k d part s (length s) e l refl ∙ rw take-length

pub put_nil : (d : List ℕ) (at : ℕ) → put d at [] ≡ d
unfolding put
put_nil d at = rw (append-nil, add-zero at) (take-append-drop at d)

pub put_start : (d s : List ℕ) → put d 0 s ≡ s ++ drop (length s) d
unfolding put
put_start d s = let e : 0 + length s ≡ length s = omega arith in ap (λ (k : ℕ). s ++ drop k d) e

pub length_put : (d : List ℕ) (at : ℕ) (s : List ℕ) → at + length s ≤ length d → length (put d at s) ≡ length d
unfolding put
length_put d at s h = simp (length-append, length-take, length-drop) (omega arith)

-- a run put after a run is their join put
pub put_put : (d : List ℕ) (at : ℕ) (s t : List ℕ) → at + length s ≤ length d → put (put d at s) (at + length s) t ≡ put d at (s ++ t)
unfolding put
put_put d at s t h =
    let p : List ℕ = take at d ++ s in
    let e : length p ≡ at + length s = let i : at ≤ length d = omega arith in simp (length-append, length-take-le) in
    let f : drop (at + length s + length t) (p ++ drop (at + length s) d) ≡ drop (at + length s + length t) d =
    ap (λ (k : ℕ). drop (k + length t) (p ++ drop (at + length s) d)) (sym e) ∙ drop-append-add p (drop (at + length s) d) (length t) ∙ drop-drop (length t) (at + length s) d in
    rw (take_at p (drop (at + length s) d) (at + length s) e, f, length-append, add_assoc) (simp append_assoc)

-- three runs, put one after the other at the places i, j and k
pub put_three : (d l₁ l₂ l₃ : List ℕ) (at i j k : ℕ) (a b c : List ℕ) → i ≡ at → j ≡ at + length a → k ≡ at + length a + length b → l₁ ≡ put d i a → l₂ ≡ put l₁ j b → l₃ ≡ put l₂ k c → at + (length a + length b) ≤ length d → l₃ ≡ put d at (a ++ (b ++ c))
put_three d l₁ l₂ l₃ at i j k a b c ei ej ek p q r h =
    let l : length (put d at a) ≡ length d = length_put d at a (omega arith) in
    rw (r, q, p, ei, ej, ek) (put_put (put d at a) (at + length a) b c (omega arith) ∙ put_put d at a (b ++ c) (omega arith))

-- what stands before the run, in it and after it
pub put_before : (d : List ℕ) (at : ℕ) (s : List ℕ) (i : ℕ) → at ≤ length d → i < at → get_or (put d at s) i 0 ≡ get_or d i 0
unfolding put
put_before d at s i h l =
    let e : i < length (take at d) = simp (length-take-le at d h) l in
    let f : i < length (take at d ++ s) = simp length-append (omega arith) in
    get_or-append (take at d ++ s) (drop (at + length s) d) 0 i f ∙ get_or-append (take at d) s 0 i e ∙ get_or-take at d i 0 l

pub put_in : (d : List ℕ) (at : ℕ) (s : List ℕ) (i : ℕ) → at ≤ length d → i < length s → get_or (put d at s) (at + i) 0 ≡ get_or s i 0
unfolding put
put_in d at s i h l =
    let e : length (take at d) ≡ at = length-take-le at d h in
    let f : at + i < length (take at d ++ s) = simp (length-append, e) (omega arith) in
    get_or-append (take at d ++ s) (drop (at + length s) d) 0 (at + i) f ∙ ap (λ (k : ℕ). get_or (take at d ++ s) (k + i) 0) (sym e) ∙ get_or-append-add (take at d) s i 0

pub put_after : (d : List ℕ) (at : ℕ) (s : List ℕ) (i : ℕ) → at ≤ length d → get_or (put d at s) (at + length s + i) 0 ≡ get_or d (at + length s + i) 0
unfolding put
put_after d at s i h =
    let e : length (take at d ++ s) ≡ at + length s = simp (length-append, length-take-le at d h) in
    ap (λ (k : ℕ). get_or (take at d ++ s ++ drop (at + length s) d) (k + i) 0) (sym e) ∙ get_or-append-add (take at d ++ s) (drop (at + length s) d) i 0 ∙ get_or-drop (at + length s) d i 0

-- a run of zeros

pub length_zeros : (n : ℕ) → length (zeros n) ≡ n
unfolding zeros
length_zeros n = length-replicate n 0

pub get_d_zeros : (n i : ℕ) → get_or (zeros n) i 0 ≡ 0
unfolding zeros
get_d_zeros zero i = refl
get_d_zeros (suc n) zero = refl
get_d_zeros (suc n) (suc i) = get_d_zeros n i
