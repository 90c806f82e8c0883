-- What is written as evidence is bytes.
--   bytes_map          a map file, whatever the images are
--   bytes_refutation   a refutation file, if the roles are
use Prim.Native.Nat.{◌*◌, ◌<◌, suc, zero, ℕ}
use lib.ListN.{get_or, length}
use mathlib.Core.List.{List, [], ◌++◌, ◌∷◌}
use native.Mathlib.Omega.{arith}
use Rattle.ale.specs.Encoding.{Row, encode, encoded, no_row}
use Rattle.ale.specs.PictureSignature.{picture_signature}
use Rattle.ale.specs.Tree.{Tree}
use Rattle.countermodel.specs.Layout.{individual_length, individual_tag}
use Rattle.countermodel.specs.Writing.{individual_bytes, individuals_of, refutation_file}
use Rattle.homomorphism.specs.Layout.{map_tag}
use Rattle.homomorphism.specs.Map.{image_bytes, map_file}
use Rattle.meaning.proofs.ByteLists.{bytes_append, bytes_cons, bytes_end, bytes_none, bytes_number}
use Rattle.table.specs.Fields.{end_bytes}
use Rattle.table.specs.Layout.{name_bytes, number_size}
use Rattle.table.specs.Number.{Bytes, be_bytes}

-- ---- a map

bytes_images : (im : ℕ → ℕ) (n : ℕ) → Bytes (image_bytes im n)
bytes_images im zero = bytes_none
bytes_images im (suc n) = bytes_append (image_bytes im n) (be_bytes number_size (im n)) (bytes_images im n) (bytes_number number_size (im n))

pub bytes_map : (rows : ℕ) (im : ℕ → ℕ) → Bytes (map_file rows im)
unfolding map_file
bytes_map rows im =
    let says = be_bytes number_size (number_size * rows) in
    bytes_append (map_tag ∷ says) (image_bytes im rows ++ end_bytes) (bytes_cons map_tag says (omega arith) (bytes_number number_size (number_size * rows)))
    (bytes_append (image_bytes im rows) end_bytes (bytes_images im rows) bytes_end)

-- ---- a refutation

bytes_individual : (parent role names : ℕ) → role < 256 → Bytes (individual_bytes parent role names)
unfolding individual_bytes
bytes_individual parent role names l =
    let after = role ∷ be_bytes name_bytes names in
    bytes_cons individual_tag (be_bytes number_size individual_length ++ (be_bytes number_size parent ++ after)) (omega arith)
    (bytes_append (be_bytes number_size individual_length) (be_bytes number_size parent ++ after) (bytes_number number_size individual_length)
    (bytes_append (be_bytes number_size parent) after (bytes_number number_size parent)
    (bytes_cons role (be_bytes name_bytes names) l (bytes_number name_bytes names))))

bytes_individuals : (ws : List (Row picture_signature)) →
    ((k : ℕ) → k < length ws → (get_or ws k (no_row picture_signature)).role < 256) → Bytes (individuals_of ws)
bytes_individuals [] h = bytes_none
bytes_individuals (w ∷ ws) h =
    bytes_append (individual_bytes w.parent w.role w.label.wanted.set) (individuals_of ws)
    (bytes_individual w.parent w.role w.label.wanted.set (h 0 (omega arith))) (bytes_individuals ws (λ k l. h (suc k) (omega arith)))

pub bytes_refutation : (b : Tree picture_signature) →
    ((k : ℕ) → k < length (encode picture_signature b) → (encoded picture_signature b).role k < 256) → Bytes (refutation_file b)
unfolding refutation_file
bytes_refutation b h =
    bytes_append (individuals_of (encode picture_signature b)) end_bytes (bytes_individuals (encode picture_signature b) h) bytes_end
