-- What a readable picture holds, and that a file which holds it is readable.
--   WellFormed                         m rows, each with its questions answered yes, and then the end field
--   reading_formed, formed_reading     a file reads as m rows exactly when it is so formed
--   failed_field                       it fails at the field after n rows exactly if these pass and that is refused
--   failed_once, failed_number         at one field, by one question, which is from 2 to 13
--   failed_most, failed_inside         the rows before it are within the limits; it begins in the file or at its end
--   scan_enough                        more fields to come than the limit allows change nothing
--   answer_reading, reading_answer     which input it is changes nothing of that
--   answer_most                        an answer's rows are within the limits
--   readable_count, readable_length    its rows are those that its length says
--   readable_some, readable_most       from 1 to the limit
--   readable_size                      and no longer than the longest picture
--   readable_row, readable_has         each row's questions, and that the row is there
--   readable_kind, readable_root       9: row 0 has kind 0, the others 1 or 2
--   readable_role, readable_root_role  10
--   readable_parent, readable_root_parent  11
--   readable_depth, readable_depth_under   12
--   readable_impossible                13
use mathlib.Core.Logic.{◌↔◌, ◌⊎◌, ⊎_elim}
use mathlib.Core.Path.{◌∙◌, ◌≡◌, refl, ap, sym, subst}
use mathlib.Core.List.{List}
use Prim.Native.Nat.{ℕ, zero, suc, ◌+◌, ◌≤◌, ◌<◌}
use native.Mathlib.Nat.{eq-or-lt_of_le}
use native.Mathlib.Omega.{arith}
use lib.ListN.{length}
use Rattle.std.proofs.Common.{Err, Ok, Result}
use Rattle.table.specs.Layout.{«place», end_size, row_size, kind_root, kind_exists, kind_for_all, roles}
use Rattle.table.specs.Bounds.{Bounded, max_rows, picture_size}
use Rattle.table.specs.Fields.{parent_of, kind_of, role_of, impossible_of}
use Rattle.table.specs.declared.layout.Limits.{Limits}
use Rattle.picture.specs.declared.answer.Input.{Input}
use Rattle.picture.specs.declared.field.Field.TheVariants.{End, Row}
use Rattle.picture.specs.Depth.{depth}
use Rattle.picture.specs.Questions.{field_at}
use Rattle.picture.specs.Read.{on_field, scan_from, reading_of, answered, answer_of, failure}
use Rattle.picture.specs.Readable.{FailsAt, Readable, row_count}
use Rattle.picture.proofs.Depths.{depth_under}
use Rattle.picture.proofs.Scans.{rest_same}
use Rattle.picture.proofs.Questions.{kind_root_is, kind_later, role_root, role_below, parent_root, parent_below, depth_most, impossible_most}
use Rattle.picture.specs.declared.field.Field.{Field}
use Rattle.picture.specs.declared.read.Failure.{Failure}
use Rattle.picture.proofs.Fields.{RowOk, EndOk, Asked, row_ok, end_ok, ok_row, ok_end, field_number}

-- from row n on: rows to row m, and there a field that is no row, which makes the reading r
record StopsFrom (limits : Limits) (s : List ℕ) (n m : ℕ) (f : Result Field ℕ) (r : Result ℕ Failure) : Type 0 where
  below : n ≤ m
  rows : (k : ℕ) → n ≤ k → k < m → RowOk limits s k
  field : field_at limits s m ≡ f
  stops : (rest : Result ℕ Failure) → on_field f m rest ≡ r

pub record WellFormed (limits : Limits) (s : List ℕ) (m : ℕ) : Type 0 where
  pub rows : (k : ℕ) → k < m → RowOk limits s k
  pub end : EndOk s m

-- ---- a reading stops at a field that is no row, and is what that field makes of it

module _ (limits : Limits) (s : List ℕ) where
  Stops : ℕ → Result ℕ Failure → Type 0
  Stops n r = (m : ℕ) × (f : Result Field ℕ) × StopsFrom limits s n m f r

  stops_here : (f : Result Field ℕ) (n : ℕ) (rest : Result ℕ Failure) → field_at limits s n ≡ f →
      ((any : Result ℕ Failure) → on_field f n any ≡ on_field f n rest) → Stops n (on_field f n rest)
  unfolding Stops
  stops_here f n rest e same =
      (n, f, record { below = omega arith; rows = λ k i j. absurd (omega arith); field = e; stops = same })

  -- by the field after n rows: there are more rows to come, or it stops here
  one_field : (f : Result Field ℕ) (n : ℕ) (rest : Result ℕ Failure) → field_at limits s n ≡ f → (RowOk limits s n → Stops (n + 1) rest) →
      Stops n (on_field f n rest)
  unfolding Stops
  one_field (Ok (Row d)) n rest e more =
      let here = (row_ok limits s n d e).0 in
      let (m, f, after) = more here in (
        m,
        f,
        record {
          below = omega (arith, after.below);
          rows = λ k i j. ⊎_elim (λ z. subst (λ (x : ℕ). RowOk limits s x) z here) (λ l. after.rows k (omega arith) j)
              (eq-or-lt_of_le {n = n} {m = k} i);
          field = after.field;
          stops = after.stops;
        },
      )
  one_field (Ok End) n rest e more = stops_here (Ok End) n rest e (λ any. refl)
  one_field (Err q) n rest e more = stops_here (Err q) n rest e (λ any. refl)

  scan_stops : (left n : ℕ) → n ≤ limits.rows → limits.rows < n + left → Stops n (scan_from left limits s n)
  unfolding scan_from
  scan_stops zero n few enough = absurd (omega arith)
  scan_stops (suc left) n few enough =
      one_field (field_at limits s n) n (scan_from left limits s (n + 1)) refl
      (λ row. scan_stops left (n + 1) (omega (arith, row.few)) (omega arith))

  stops_scan : (left n m : ℕ) (f : Result Field ℕ) (r : Result ℕ Failure) → StopsFrom limits s n m f r → m < n + left →
      scan_from left limits s n ≡ r
  unfolding scan_from
  stops_scan zero n m f r stop h = absurd (omega (arith, stop.below))
  stops_scan (suc left) n m f r stop h =
      ⊎_elim
      (λ (z : n ≡ m). rw (z, stop.field) (stop.stops _))
      (λ (l : n < m). rw (ok_row limits s n (stop.rows n (omega arith) l)) (stops_scan left (n + 1) m f r
      (record {
        below = omega arith;
        rows = λ k i j. stop.rows k (omega arith) j;
        field = stop.field;
        stops = stop.stops;
      })
      (omega arith)))
      (eq-or-lt_of_le {n = n} {m = m} stop.below)

  reading_stops : (r : Result ℕ Failure) → reading_of limits s ≡ r → Stops 0 r
  unfolding reading_of
  reading_stops r e = subst (Stops 0) e (scan_stops (suc limits.rows) 0 (omega arith) (omega arith))

  rows_most : (m : ℕ) → ((k : ℕ) → k < m → RowOk limits s k) → m ≤ limits.rows
  rows_most zero rows = omega arith
  rows_most (suc m) rows = omega (arith, (rows m (omega arith)).few)

  stops_reading : (m : ℕ) (f : Result Field ℕ) (r : Result ℕ Failure) → ((k : ℕ) → k < m → RowOk limits s k) → field_at limits s m ≡ f →
      ((rest : Result ℕ Failure) → on_field f m rest ≡ r) → reading_of limits s ≡ r
  unfolding reading_of
  stops_reading m f r rows field stops =
      stops_scan (suc limits.rows) 0 m f r
      (record { below = omega arith; rows = λ k i j. rows k j; field = field; stops = stops })
      (omega (arith, rows_most m rows))

  -- ---- a file reads as m rows exactly when it is so formed

  by_rows : (f : Result Field ℕ) (m n : ℕ) → ((rest : Result ℕ Failure) → on_field f m rest ≡ Ok n) → (f ≡ Ok End) × (m ≡ n)
  by_rows (Ok (Row d)) m n stops = absurd (let e = stops (Err (failure 0 0)) in let z : ◌≡◌ {A = ℕ} 0 1 = cc in omega arith)
  by_rows (Ok End) m n stops = (refl, (let e = stops (Ok 0) in cc))
  by_rows (Err q) m n stops = absurd (let e = stops (Ok 0) in let z : ◌≡◌ {A = ℕ} 0 1 = cc in omega arith)

  pub reading_formed : (m : ℕ) → reading_of limits s ≡ Ok m → WellFormed limits s m
  unfolding Stops
  reading_formed m h =
      let (k, f, stop) = reading_stops (Ok m) h in
      let (end, same) = by_rows f k m stop.stops in
      subst (WellFormed limits s) same
      (record { rows = λ j l. stop.rows j (omega arith) l; end = end_ok limits s k (stop.field ∙ end) })

  formed_most : (m : ℕ) → WellFormed limits s m → m ≤ limits.rows
  formed_most m f = rows_most m f.rows

  pub formed_reading : (m : ℕ) → WellFormed limits s m → reading_of limits s ≡ Ok m
  formed_reading m f = stops_reading m (Ok End) (Ok m) f.rows (ok_end limits s m f.end) (λ rest. refl)

  -- ---- and fails at the field after n rows exactly if these pass and that is refused

  by_failed : (f : Result Field ℕ) (m q n : ℕ) → ((rest : Result ℕ Failure) → on_field f m rest ≡ Err (failure q n)) →
      (f ≡ Err q) × (m ≡ n)
  by_failed (Ok (Row d)) m q n stops = absurd (let e = stops (Ok 0) in let z : ◌≡◌ {A = ℕ} 0 1 = cc in omega arith)
  by_failed (Ok End) m q n stops = absurd (let e = stops (Ok 0) in let z : ◌≡◌ {A = ℕ} 0 1 = cc in omega arith)
  by_failed (Err p) m q n stops =
      let e = stops (Ok 0) in
      let same : failure p m ≡ failure q n = cc in (
        ap Err (ap (λ (f : Failure). f.number) same),
        ap (λ (f : Failure). f.rows) same,
      )

  failed_rows : (q n : ℕ) → FailsAt limits s q n → (k : ℕ) → k < n → RowOk limits s k
  failed_rows q n f k l = let (d, e) = f.completed k l in (row_ok limits s k d e).0

  pub failed_field : (q n : ℕ) → (reading_of limits s ≡ Err (failure q n)) ↔ FailsAt limits s q n
  unfolding Stops
  failed_field q n = (
    λ h.
        let (m, f, stop) = reading_stops (Err (failure q n)) h in
        let (bad, same) = by_failed f m q n stop.stops in
        subst (FailsAt limits s q) same
        (record {
          completed = λ k l. (_, ok_row limits s k (stop.rows k (omega arith) l));
          meets = stop.field ∙ bad;
        }),
    λ f. stops_reading n (Err q) (Err (failure q n)) (failed_rows q n f) f.meets (λ rest. refl),
  )

  -- there is one such field, and one question
  pub failed_once : (q n p m : ℕ) → FailsAt limits s q n → FailsAt limits s p m → (p ≡ q) × (m ≡ n)
  failed_once q n p m f g =
      let same : Err (failure p m) ≡ Err (failure q n) = sym ((failed_field p m).1 g) ∙ (failed_field q n).1 f in
      let both : failure p m ≡ failure q n = cc in
      (ap (λ (f : Failure). f.number) both, ap (λ (f : Failure). f.rows) both)

  pub failed_number : (q n : ℕ) → FailsAt limits s q n → Asked q
  failed_number q n f = field_number limits s n q f.meets

  pub failed_most : (q n : ℕ) → FailsAt limits s q n → n ≤ limits.rows
  failed_most q n f = rows_most n (failed_rows q n f)

  -- the field begins in the file, or at its end
  pub failed_inside : (q n : ℕ) → FailsAt limits s q n → place n 0 ≤ length s
  failed_inside q zero f = omega arith
  failed_inside q (suc n) f = omega (arith, (failed_rows q (suc n) f n (omega arith)).whole)

  -- ---- more fields to come than the limit allows change nothing

  pub scan_enough : (more left n : ℕ) → limits.rows ≤ n + left → scan_from (suc (left + more)) limits s n ≡ scan_from (suc left) limits s n
  unfolding scan_from
  scan_enough more zero n h = rest_same limits s (field_at limits s n) n _ _ refl (λ r. absurd (omega (arith, r.few)))
  scan_enough more (suc left) n h =
      let e : suc left + more ≡ suc (left + more) = omega arith in
      rest_same limits s (field_at limits s n) n _ _ refl (λ r. rw e (scan_enough more left (n + 1) (omega arith)))

  -- ---- the input named

  rows_answered : (input : Input) (r : Result ℕ Failure) (n : ℕ) → answered input r ≡ Ok n → r ≡ Ok n
  rows_answered input (Ok m) n h = let e : m ≡ n = cc in ap Ok e
  rows_answered input (Err f) n h = absurd (let z : ◌≡◌ {A = ℕ} 0 1 = cc in omega arith)

  pub answer_reading : (input : Input) (n : ℕ) → answer_of limits input s ≡ Ok n → reading_of limits s ≡ Ok n
  unfolding answer_of
  answer_reading input n h = rows_answered input (reading_of limits s) n h

  pub reading_answer : (input : Input) (n : ℕ) → reading_of limits s ≡ Ok n → answer_of limits input s ≡ Ok n
  unfolding answer_of
  reading_answer input n h = rw h

  pub answer_most : (input : Input) (n : ℕ) → answer_of limits input s ≡ Ok n → n ≤ limits.rows
  answer_most input n h = formed_most n (reading_formed n (answer_reading input n h))

-- ---- a readable picture by row number

module _ (limits : Limits) (s : List ℕ) (readable : Readable limits s) where
  formed : WellFormed limits s readable.rows
  formed = reading_formed limits s readable.rows readable.reads

  pub readable_count : row_count s ≡ readable.rows
  unfolding row_count
  readable_count = omega (arith, formed.end.stops)

  pub readable_length : length s ≡ place (row_count s) end_size
  readable_length = rw readable_count formed.end.stops

  pub readable_some : 0 < row_count s
  readable_some = rw readable_count formed.end.rows

  pub readable_most : row_count s ≤ limits.rows
  readable_most = rw readable_count (formed_most limits s readable.rows formed)

  pub readable_size : length s ≤ picture_size limits
  readable_size = omega (arith, readable_length, readable_most)

  pub readable_row : (k : ℕ) → k < row_count s → RowOk limits s k
  readable_row k h = formed.rows k (rw readable_count at h)

  pub readable_has : Bounded limits → (k : ℕ) → k < row_count s → (k < max_rows) × (place k row_size ≤ length s)
  readable_has b k h = let r = readable_row k h in (omega (arith, r.few, b.0), r.whole)

  pub readable_root : kind_of s 0 ≡ kind_root
  readable_root = kind_root_is (kind_of s 0) (readable_row 0 readable_some).kind

  pub readable_kind : (k : ℕ) → (k ≡ 0 → ⊥) → k < row_count s → (kind_of s k ≡ kind_exists) ⊎ (kind_of s k ≡ kind_for_all)
  readable_kind k later h = kind_later k (kind_of s k) later (readable_row k h).kind

  pub readable_root_role : role_of s 0 ≡ 0
  readable_root_role = role_root (role_of s 0) (readable_row 0 readable_some).role

  pub readable_role : (k : ℕ) → k < row_count s → role_of s k < roles
  readable_role k h = role_below k (role_of s k) (readable_row k h).role

  pub readable_root_parent : parent_of s 0 ≡ 0
  readable_root_parent = parent_root (parent_of s 0) (readable_row 0 readable_some).parent

  pub readable_parent : (k : ℕ) → (k ≡ 0 → ⊥) → k < row_count s → parent_of s k < k
  readable_parent k later h = parent_below k (parent_of s k) later (readable_row k h).parent

  pub readable_depth : (k : ℕ) → k < row_count s → depth (parent_of s) k ≤ limits.depth
  readable_depth k h = depth_most limits (depth (parent_of s) k) (readable_row k h).shallow

  pub readable_depth_under : (k : ℕ) → (k ≡ 0 → ⊥) → k < row_count s → depth (parent_of s) k ≡ depth (parent_of s) (parent_of s k) + 1
  readable_depth_under k later h = depth_under (parent_of s) k (omega (arith, later)) (λ j i l. readable_parent j (λ z. omega arith) (omega arith))

  pub readable_impossible : (k : ℕ) → k < row_count s → impossible_of s k ≤ 1
  readable_impossible k h = impossible_most (impossible_of s k) (readable_row k h).impossible
