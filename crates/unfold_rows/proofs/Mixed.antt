-- The table under construction: the rows that have come up are unfolded, the others are as they were copied. The laws
-- that the loops need.
--   mixed                       the rows after i of them have come up
--   mixed_own, mixed_all        at the start, and when all have come up
--   mixed_append                rows added at the end
--   mixed_next                  row i comes up: one row is written anew, those before and after it stay
--   own_written                 the picture's own rows, in bytes
--   row_stands, row_written     row i before it comes up, and written anew, in bytes
--   row_kept                    row i, if unfolding leaves it as it is
--   hung_written                a definition's rows added, in bytes
use Prim.Native.Nat.{ℕ, zero, suc, ◌*◌, ◌+◌, ◌-◌, ◌<◌, ◌≤◌}
use lib.ListN.{drop, get_or, length, length-append, take, take-append-drop}
use lib.Seq.{drop-append_seam, take-append_seam}
use mathlib.Core.List.{List, [], ◌++◌, ◌∷◌, append_assoc}
use mathlib.Core.Path.{◌∙◌, ◌≡◌, ap, ap₂, refl, subst, sym}
use native.Mathlib.Omega.{arith}
use Rattle.table.specs.Layout.{«place», row_size}
use Rattle.table.specs.Put.{put}
use Rattle.table.proofs.Rows.{Same, same_after, same_first}
use Rattle.ale.specs.Encoding.{Row}
use Rattle.ale.specs.PictureSignature.{picture_signature}
use Rattle.tbox.specs.Definitions.{Definitions}
use Rattle.tbox.specs.Unfold.{Origin, copies, parent_in, rows_for, unfolded_row}
use Rattle.meaning.specs.File.{row_at, rows_from}
use Rattle.meaning.specs.Meaning.{picture_table}
use Rattle.meaning.proofs.Files.{length_row_at, length_rows_from, rows_from_append}
use Rattle.table_rows.specs.Rows.{prefix}
use Rattle.unfold_rows.specs.Copies.{Added, copy_bytes}
use Rattle.unfold_rows.proofs.Bridge.{Copyable, copies_bytes, raw_rows}
use Rattle.unfold_rows.specs.Growing.{mixed, raw_row}

-- bytes put in the place of as many others
middle : (x r y z t : List ℕ) (at : ℕ) → at ≡ length x → length t ≡ length r →
    put (x ++ (r ++ (y ++ z))) at t ≡ x ++ (t ++ (y ++ z))
unfolding put
middle x r y z t at e l =
    ap₂ (λ a b. (a ++ t) ++ b)
    (ap (λ n. take n (x ++ (r ++ (y ++ z)))) e ∙ take-append_seam x (r ++ (y ++ z)))
    (ap₂ (λ n w. drop n w) (let k : at + length t ≡ length x + length r = omega arith in k ∙ sym (length-append x r))
    (sym (append_assoc x r (y ++ z)))
    ∙ drop-append_seam (x ++ r) (y ++ z))
    ∙ append_assoc x t (y ++ z)

-- the first n bytes after that
take_middle : (d x r y t : List ℕ) (n at : ℕ) → take n d ≡ x ++ (r ++ y) → at ≡ length x → length t ≡ length r →
    n ≡ length (x ++ (r ++ y)) →
    take n (put d at t) ≡ x ++ (t ++ y)
take_middle d x r y t n at was e l size =
    let z = drop n d in
    let whole : d ≡ x ++ (r ++ (y ++ z)) =
    sym (take-append-drop n d) ∙ ap (λ w. w ++ z) was ∙ append_assoc x (r ++ y) z
    ∙ ap (λ w. x ++ w) (append_assoc r y z) in
    let again : put d at t ≡ (x ++ (t ++ y)) ++ z =
    ap (λ w. put w at t) whole ∙ middle x r y z t at e l ∙ ap (λ w. x ++ w) (sym (append_assoc t y z))
    ∙ sym (append_assoc x (t ++ y) z) in
    let same : n ≡ length (x ++ (t ++ y)) =
    size ∙ length-append x (r ++ y) ∙ ap (λ k. length x + k) (length-append r y ∙ ap (λ k. k + length y) (sym l)
    ∙ sym (length-append t y)) ∙ sym (length-append x (t ++ y)) in
    ap (take n) again ∙ ap (λ k. take k ((x ++ (t ++ y)) ++ z)) same ∙ take-append_seam (x ++ (t ++ y)) z

module _ (D : Definitions picture_signature) where
  pub mixed_length : (i : ℕ) (w : List (Origin picture_signature)) → length (mixed D i w) ≡ length w
  mixed_length zero [] = refl
  mixed_length (suc i) [] = refl
  mixed_length zero (o ∷ w) = ap suc (mixed_length zero w)
  mixed_length (suc i) (o ∷ w) = ap suc (mixed_length i w)

  pub mixed_own : (w : List (Origin picture_signature)) → mixed D 0 w ≡ raw_rows w
  mixed_own [] = refl
  mixed_own (o ∷ w) = ap (λ z. raw_row o ∷ z) (mixed_own w)

  pub mixed_all : (i : ℕ) (w : List (Origin picture_signature)) → length w ≤ i →
      mixed D i w ≡ rows_for picture_signature D w
  mixed_all zero [] l = refl
  mixed_all (suc i) [] l = refl
  mixed_all zero (o ∷ w) l = absurd (omega arith)
  mixed_all (suc i) (o ∷ w) l = ap (λ z. unfolded_row picture_signature D o ∷ z) (mixed_all i w (omega arith))

  pub mixed_append : (i : ℕ) (v g : List (Origin picture_signature)) → i ≤ length v →
      mixed D i (v ++ g) ≡ mixed D i v ++ raw_rows g
  mixed_append zero [] g l = mixed_own g
  mixed_append (suc i) [] g l = absurd (omega arith)
  mixed_append zero (o ∷ v) g l = ap (λ z. raw_row o ∷ z) (mixed_append zero v g (omega arith))
  mixed_append (suc i) (o ∷ v) g l = ap (λ z. unfolded_row picture_signature D o ∷ z) (mixed_append i v g (omega arith))

  -- row o of the list stands at place i, with those before and after it
  pub record Split (i : ℕ) (v : List (Origin picture_signature)) (o : Origin picture_signature) : Type 0 where
    pub before : List (Row picture_signature)
    pub after : List (Row picture_signature)
    pub place : length before ≡ i
    pub raw : mixed D i v ≡ before ++ (raw_row o ∷ after)
    pub unfolded : mixed D (suc i) v ≡ before ++ (unfolded_row picture_signature D o ∷ after)

  pub mixed_next : (i : ℕ) (v : List (Origin picture_signature)) (d : Origin picture_signature) → i < length v →
      Split i v (get_or v i d)
  mixed_next i [] d l = absurd (omega arith)
  mixed_next zero (o ∷ v) d l =
      record { before = []; after = mixed D zero v; place = refl; raw = refl; unfolded = refl }
  mixed_next (suc i) (o ∷ v) d l =
      let s = mixed_next i v d (omega arith) in
      record {
        before = unfolded_row picture_signature D o ∷ s.before;
        after = s.after;
        place = ap suc s.place;
        raw = ap (λ z. unfolded_row picture_signature D o ∷ z) s.raw;
        unfolded = ap (λ z. unfolded_row picture_signature D o ∷ z) s.unfolded;
      }

  -- ---- in bytes

  pub own_written : (s e : List ℕ) (rows : ℕ) (d : List ℕ) → Added d e (copy_bytes s (λ p. p) 0 rows) 0 rows →
      ((j : ℕ) → j < rows → Copyable s (0 + j) (0 + j)) →
      prefix 0 d ≡ [] →
      prefix rows e ≡ rows_from 0 (mixed D 0 (copies picture_signature (picture_table s) (λ p. p) 0 rows))
  own_written s e rows d a c z =
      ap (λ n. prefix n e) (let n : rows ≡ 0 + rows = omega arith in n)
      ∙ a.bytes
      ∙ ap (λ x. x ++ copy_bytes s (λ p. p) 0 rows) z
      ∙ sym (copies_bytes s (λ p. p) 0 rows 0 c)
      ∙ ap (rows_from 0) (sym (mixed_own (copies picture_signature (picture_table s) (λ p. p) 0 rows)))

  -- a definition's rows after those that are there, of which more than i have come up
  pub hung_written : (s d e : List ℕ) (i j first rows : ℕ) (v : List (Origin picture_signature)) → first ≡ length v →
      j ≤ length v → prefix first d ≡ rows_from 0 (mixed D j v) →
      Added d e (copy_bytes s (parent_in picture_signature i first) 1 (rows - 1)) first (rows - 1) →
      ((k : ℕ) → k < rows - 1 → Copyable s (1 + k) (first + k)) →
      prefix (first + (rows - 1)) e
      ≡ rows_from 0
      (mixed D j (v ++ copies picture_signature (picture_table s) (parent_in picture_signature i first) 1 (rows - 1)))
  hung_written s d e i j first rows v is l was a c =
      let g = copies picture_signature (picture_table s) (parent_in picture_signature i first) 1 (rows - 1) in
      let count : 0 + length (mixed D j v) ≡ first = omega (arith, mixed_length j v) in
      a.bytes
      ∙ ap₂ (λ x y. x ++ y) was (sym (copies_bytes s (parent_in picture_signature i first) 1 (rows - 1) first c))
      ∙ ap (λ n. rows_from 0 (mixed D j v) ++ rows_from n (raw_rows g)) (sym count)
      ∙ sym (rows_from_append 0 (mixed D j v) (raw_rows g))
      ∙ ap (rows_from 0) (sym (mixed_append j v g l))

  -- the bytes of row i, with those before and after it
  abbrev around : (i : ℕ) (v : List (Origin picture_signature)) (o : Origin picture_signature) → Split i v o → List ℕ →
      List ℕ
  around i v o s row = rows_from 0 s.before ++ (row ++ rows_from (suc i) s.after)

  around_rows : (i : ℕ) (v : List (Origin picture_signature)) (o : Origin picture_signature) (s : Split i v o)
      (w : Row picture_signature) → rows_from 0 (s.before ++ (w ∷ s.after)) ≡ around i v o s (row_at i w)
  around_rows i v o s w =
      rows_from_append 0 s.before (w ∷ s.after)
      ∙ ap (λ k. rows_from 0 s.before ++ (row_at k w ++ rows_from (suc k) s.after))
      (let at : 0 + length s.before ≡ i = omega (arith, s.place) in at)

  raw_bytes : (i : ℕ) (v : List (Origin picture_signature)) (o : Origin picture_signature) (s : Split i v o) →
      rows_from 0 (mixed D i v) ≡ around i v o s (row_at i (raw_row o))
  raw_bytes i v o s = ap (rows_from 0) s.raw ∙ around_rows i v o s (raw_row o)

  unfolded_bytes : (i : ℕ) (v : List (Origin picture_signature)) (o : Origin picture_signature) (s : Split i v o) →
      around i v o s (row_at i (unfolded_row picture_signature D o)) ≡ rows_from 0 (mixed D (suc i) v)
  unfolded_bytes i v o s =
      sym (around_rows i v o s (unfolded_row picture_signature D o)) ∙ ap (rows_from 0) (sym s.unfolded)

  before_length : (i : ℕ) (v : List (Origin picture_signature)) (o : Origin picture_signature) (s : Split i v o) →
      length (rows_from 0 s.before) ≡ row_size * i
  before_length i v o s = length_rows_from 0 s.before ∙ ap (λ n. row_size * n) s.place

  -- row i written anew
  pub row_written : (d row : List ℕ) (i n : ℕ) (v : List (Origin picture_signature)) (o : Origin picture_signature)
      (s : Split i v o) → n ≡ length v → prefix n d ≡ rows_from 0 (mixed D i v) →
      row ≡ row_at i (unfolded_row picture_signature D o) →
      prefix n (put d (place i 0) row) ≡ rows_from 0 (mixed D (suc i) v)
  row_written d row i n v o s is was r =
      let size : place n 0 ≡ length (around i v o s (row_at i (raw_row o))) =
      let e = ap length (raw_bytes i v o s) in
      omega (arith, mixed_length i v, length_rows_from 0 (mixed D i v)) in
      take_middle d (rows_from 0 s.before) (row_at i (raw_row o)) (rows_from (suc i) s.after) row (place n 0)
      (place i 0)
      (was ∙ raw_bytes i v o s) (omega (arith, before_length i v o s))
      (ap length r ∙ length_row_at i (unfolded_row picture_signature D o) ∙ sym (length_row_at i (raw_row o))) size
      ∙ ap (around i v o s) r
      ∙ unfolded_bytes i v o s

  -- a row that unfolding leaves as it is
  pub row_kept : (i : ℕ) (v : List (Origin picture_signature)) (o : Origin picture_signature) → Split i v o →
      row_at i (raw_row o) ≡ row_at i (unfolded_row picture_signature D o) →
      rows_from 0 (mixed D i v) ≡ rows_from 0 (mixed D (suc i) v)
  row_kept i v o s e = raw_bytes i v o s ∙ ap (around i v o s) e ∙ unfolded_bytes i v o s

  -- row i as it stands before it comes up
  pub row_stands : (d : List ℕ) (i n : ℕ) (v : List (Origin picture_signature)) (o : Origin picture_signature) →
      Split i v o →
      prefix n d ≡ rows_from 0 (mixed D i v) → Same row_size d i (row_at i (raw_row o)) 0
  row_stands d i n v o s was =
      let rest = rows_from (suc i) s.after ++ drop (place n 0) d in
      let whole : d ≡ rows_from 0 s.before ++ (row_at i (raw_row o) ++ rest) =
      sym (take-append-drop (place n 0) d) ∙ ap (λ z. z ++ drop (place n 0) d) (was ∙ raw_bytes i v o s)
      ∙ append_assoc (rows_from 0 s.before) (row_at i (raw_row o) ++ rows_from (suc i) s.after) (drop (place n 0) d)
      ∙ ap (λ z. rows_from 0 s.before ++ z)
      (append_assoc (row_at i (raw_row o)) (rows_from (suc i) s.after) (drop (place n 0) d)) in
      subst (λ z. Same row_size z i (row_at i (raw_row o)) 0) (sym whole)
      (subst (λ z. Same row_size (rows_from 0 s.before ++ (row_at i (raw_row o) ++ rest)) z (row_at i (raw_row o)) 0)
      (let e : i + 0 ≡ i = omega arith in e)
      (same_after (rows_from 0 s.before) i (before_length i v o s)
      (same_first row_size (row_at i (raw_row o)) rest (omega (arith, length_row_at i (raw_row o))))))
