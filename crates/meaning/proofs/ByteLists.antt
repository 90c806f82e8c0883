-- Laws of lists of bytes: what is written is bytes.
--   bytes_none, bytes_cons, bytes_append   no byte, one byte before others, bytes after bytes
--   bytes_number                           a number as bytes
--   bytes_end                              the end field
--   bytes_rows                             rows, if their roles are
use Prim.Native.Nat.{◌%◌, ◌/◌, ◌<◌, ◌^◌, suc, zero, ℕ}
use lib.Dec.{eqb}
use lib.ListN.{get_or, length}
use mathlib.Core.Bool.{Bool, false, true}
use mathlib.Core.List.{List, [], ◌++◌, ◌∷◌}
use native.Mathlib.Omega.{arith}
use Rattle.ale.specs.Encoding.{Row, no_row}
use Rattle.ale.specs.PictureSignature.{picture_signature}
use Rattle.ale.specs.Tree.{Kind, exists, forAll}
use Rattle.table.specs.Fields.{end_bytes, row_of}
use Rattle.table.specs.Layout.{end_length, end_tag, name_bytes, number_size, row_length, row_tag}
use Rattle.table.specs.Number.{Bytes, be_bytes}
use Rattle.table.specs.Pick.{pick}
use Rattle.meaning.specs.File.{code_at, kind_code, mark_code, row_at, rows_from}

pub bytes_none : Bytes []
bytes_none i = omega arith

pub bytes_cons : (n : ℕ) (s : List ℕ) → n < 256 → Bytes s → Bytes (n ∷ s)
bytes_cons n s l h zero = l
bytes_cons n s l h (suc i) = h i

pub bytes_append : (s t : List ℕ) → Bytes s → Bytes t → Bytes (s ++ t)
bytes_append [] t h k = k
bytes_append (n ∷ s) t h k = bytes_cons n (s ++ t) (h 0) (bytes_append s t (λ i. h (suc i)) k)

pub bytes_number : (k n : ℕ) → Bytes (be_bytes k n)
unfolding be_bytes
bytes_number zero n = bytes_none
bytes_number (suc k) n = bytes_cons (n / 256 ^ k % 256) (be_bytes k n) (omega arith) (bytes_number k n)

pub bytes_end : Bytes end_bytes
unfolding end_bytes
bytes_end = bytes_cons end_tag (be_bytes number_size end_length) (omega arith) (bytes_number number_size end_length)

-- ---- rows

kind_byte : (k : Kind) → kind_code k < 256
kind_byte exists = omega arith
kind_byte forAll = omega arith

code_byte : (b : Bool) (n : ℕ) (k : Kind) → n < 256 → pick b n (kind_code k) < 256
code_byte true n k l = l
code_byte false n k l = kind_byte k

mark_byte : (b : Bool) → mark_code b < 256
mark_byte true = omega arith
mark_byte false = omega arith

bytes_row : (parent kind role mark wanted excluded : ℕ) → kind < 256 → role < 256 → mark < 256 → Bytes (row_of parent kind role mark wanted excluded)
unfolding row_of
bytes_row parent kind role mark wanted excluded k r m =
    let sets = be_bytes name_bytes wanted ++ be_bytes name_bytes excluded in
    let after = (kind ∷ role ∷ mark ∷ []) ++ sets in
    bytes_cons row_tag (be_bytes number_size row_length ++ (be_bytes number_size parent ++ after)) (omega arith)
    (bytes_append (be_bytes number_size row_length) (be_bytes number_size parent ++ after) (bytes_number number_size row_length)
    (bytes_append (be_bytes number_size parent) after (bytes_number number_size parent)
    (bytes_cons kind (role ∷ mark ∷ sets) k (bytes_cons role (mark ∷ sets) r (bytes_cons mark sets m
    (bytes_append (be_bytes name_bytes wanted) (be_bytes name_bytes excluded) (bytes_number name_bytes wanted) (bytes_number name_bytes excluded)))))))

pub bytes_rows : (ws : List (Row picture_signature)) (y : ℕ) →
    ((j : ℕ) → j < length ws → (get_or ws j (no_row picture_signature)).role < 256) → Bytes (rows_from y ws)
bytes_rows [] y h = bytes_none
bytes_rows (w ∷ ws) y h =
    bytes_append (row_at y w) (rows_from (suc y) ws)
    (bytes_row w.parent (code_at y w.kind) w.role (mark_code w.label.bottom) w.label.wanted.set w.label.excluded.set
    (code_byte (eqb y 0) _ w.kind (omega arith)) (h 0 (omega arith)) (mark_byte w.label.bottom))
    (bytes_rows ws (suc y) (λ j l. h (suc j) (omega arith)))
