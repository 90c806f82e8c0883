-- The fields of a picture in turn: what one turn of the reader's loop adds.
use mathlib.Core.Path.{◌≡◌, refl, ap, ◌∙◌}
use mathlib.Core.List.{List}
use Prim.Native.Nat.{ℕ, suc, ◌+◌, ◌-◌, ◌≤◌}
use native.Mathlib.Omega.{arith}
use Rattle.std.proofs.Common.{Err, Ok, Result}
use Rattle.table.proofs.Ranges.{left_suc}
use Rattle.table.specs.declared.layout.Limits.{Limits}
use Rattle.picture.specs.Questions.{field_at}
use Rattle.picture.specs.Read.{on_field, scan_from, reading_of, failure, located}
use Rattle.picture.specs.declared.field.Field.TheVariants.{End, Row}
use Rattle.picture.specs.declared.field.Field.{Field}
use Rattle.picture.specs.declared.read.Failure.{Failure}
use Rattle.picture.proofs.Fields.{RowOk, row_ok}

-- a field that is read, and one where the reading ends
pub located_ok : (f : Result Field ℕ) (n : ℕ) (field : Field) → located f n ≡ Ok field → f ≡ Ok field
located_ok (Ok g) n field e = ap Ok (let same : g ≡ field = cc in same)
located_ok (Err q) n field e = absurd (let z : ◌≡◌ {A = ℕ} 0 1 = cc in omega arith)

pub located_err : (f : Result Field ℕ) (n : ℕ) (rest : Result ℕ Failure) (at : Failure) → located f n ≡ Err at →
    on_field f n rest ≡ Err at
located_err (Ok (Row d)) n rest at e = absurd (let z : ◌≡◌ {A = ℕ} 0 1 = cc in omega arith)
located_err (Ok End) n rest at e = absurd (let z : ◌≡◌ {A = ℕ} 0 1 = cc in omega arith)
located_err (Err q) n rest at e = ap Err (let same : failure q n ≡ at = cc in same)

-- after the last row that there is room for
pub close_ok : (f : Field) (n : ℕ) → on_field (Ok f) n (Ok n) ≡ Ok n
close_ok (Row d) n = refl
close_ok End n = refl

-- one field of the scan
pub scan_step : (limits : Limits) (s : List ℕ) (n : ℕ) → n ≤ limits.rows → scan_from (suc limits.rows - n) limits s n ≡ on_field (field_at limits s n) n (scan_from (suc limits.rows - (n + 1)) limits s (n + 1))
unfolding scan_from
scan_step limits s n h = rw (left_suc (suc limits.rows) n (omega arith))

-- the reading by its first field, and from the second on
pub reading_first : (limits : Limits) (s : List ℕ) → reading_of limits s ≡ on_field (field_at limits s 0) 0 (scan_from limits.rows limits s 1)
unfolding reading_of scan_from
reading_first limits s = refl

pub reading_second : (limits : Limits) (s : List ℕ) (d : ℕ) → field_at limits s 0 ≡ Ok (Row d) → reading_of limits s ≡ on_field (field_at limits s 1) 1 (scan_from (limits.rows - 1) limits s 2)
unfolding scan_from
reading_second limits s d h =
    let f = (row_ok limits s 0 d h).0.few in
    let e : limits.rows ≡ suc (limits.rows - 1) = omega arith in
    reading_first limits s ∙ rw h (ap (λ (k : ℕ). scan_from k limits s 1) e)

-- what comes after a field matters only if the field is a row
pub rest_same : (limits : Limits) (s : List ℕ) (f : Result Field ℕ) (n : ℕ) (a b : Result ℕ Failure) → field_at limits s n ≡ f → (RowOk limits s n → a ≡ b) → on_field f n a ≡ on_field f n b
rest_same limits s (Ok (Row d)) n a b e same = same (row_ok limits s n d e).0
rest_same limits s (Ok End) n a b e same = refl
rest_same limits s (Err q) n a b e same = refl
