-- Laws of what the parts of the writer write.
--   put_individual              its head put, and then its names: its field put
--   individuals_append          individuals after individuals
--   written_none, written_one   nothing, and one individual
--   written_append              some individuals and then others
--   written_kept                the file keeps its length
--   written_same, room_same     the same individuals
--   room_left, room_right       room for both is room for the first, and then for the others
--   room_here                   and for the first one alone
--   written_node, room_node     an individual of a tree, and then what hangs from it
use Prim.Native.Nat.{◌%◌, ◌+◌, ◌/◌, ◌<◌, ◌≤◌, suc, ℕ}
use lib.ListN.{length, length-append}
use mathlib.Core.Bool.{false}
use mathlib.Core.List.{List, [], ◌++◌, ◌∷◌, append_assoc, append-nil}
use mathlib.Core.Path.{◌∙◌, ◌≡◌, ap, refl, subst, sym}
use native.Mathlib.Nat.{div-one}
use native.Mathlib.Omega.{arith}
use Rattle.ale.specs.Countermodel.{individual}
use Rattle.ale.specs.Encoding.{Row, encode_forest, encode_tree}
use Rattle.ale.specs.PictureSignature.{NameSet, picture_signature}
use Rattle.ale.specs.Tree.{Forest, exists}
use Rattle.countermodel.specs.Layout.{individual_length, individual_names_offset, individual_place, individual_size, individual_tag, most_individuals}
use Rattle.countermodel.specs.Writing.{individual_bytes, individuals_of}
use Rattle.table.specs.Layout.{name_bytes}
use Rattle.table.specs.Number.{be_bytes}
use Rattle.table.specs.Put.{put}
use Rattle.countermodel.proofs.Writings.{length_individuals}
use Rattle.table.proofs.Puts.{length_put, put_nil, put_put}
use Rattle.refutation_writer.specs.Writing.{Room, Written}

pub put_individual : (d mid end : List ℕ) (k parent role names i j : ℕ) → i ≡ individual_place k 0 → j ≡ individual_place k individual_names_offset →
    mid ≡ put d i (individual_tag ∷ individual_length / 256 ∷ individual_length % 256 ∷ parent / 256 % 256 ∷ parent % 256 ∷ role ∷ []) →
    end ≡ put mid j (be_bytes name_bytes names) → individual_place k individual_size ≤ length d →
    end ≡ put d (individual_place k 0) (individual_bytes parent role names)
unfolding individual_bytes be_bytes
put_individual d mid end k parent role names i j ei ej first rest room =
    let at : individual_place k individual_names_offset ≡ individual_place k 0 + 6 = omega arith in
    rw (rest, first, ei, ej, at, div-one parent)
    (put_put d (individual_place k 0) (individual_tag ∷ 0 ∷ 11 ∷ parent / 256 % 256 ∷ parent % 256 ∷ role ∷ []) (be_bytes name_bytes names) (omega arith))

pub individuals_append : (u v : List (Row picture_signature)) → individuals_of (u ++ v) ≡ individuals_of u ++ individuals_of v
individuals_append [] v = refl
individuals_append (w ∷ u) v =
    let here = individual_bytes w.parent w.role w.label.wanted.set in
    ap (λ l. here ++ l) (individuals_append u v) ∙ sym (append_assoc here (individuals_of u) (individuals_of v))

-- ---- what was written

module _ (out : List ℕ) (k : ℕ) where
  pub written_none : Written out k [] k out
  written_none = record { next_is = omega arith; bytes_are = sym (put_nil out (individual_place k 0)) }

  pub written_one : (w : Row picture_signature) (end : List ℕ) →
      end ≡ put out (individual_place k 0) (individual_bytes w.parent w.role w.label.wanted.set) → Written out k (w ∷ []) (k + 1) end
  written_one w end e =
      record {
        next_is = refl;
        bytes_are = e ∙ ap (put out (individual_place k 0)) (sym (append-nil (individual_bytes w.parent w.role w.label.wanted.set)));
      }

  pub written_same : (u v : List (Row picture_signature)) (a : ℕ) (end : List ℕ) → u ≡ v → Written out k u a end → Written out k v a end
  written_same u v a end e w = subst (λ ws. Written out k ws a end) e w

  pub room_same : (u v : List (Row picture_signature)) → u ≡ v → Room out k u → Room out k v
  room_same u v e r = subst (λ ws. Room out k ws) e r

  pub written_kept : (ws : List (Row picture_signature)) (a : ℕ) (end : List ℕ) → Room out k ws → Written out k ws a end → length end ≡ length out
  written_kept ws a end room w =
      ap length w.bytes_are ∙ length_put out (individual_place k 0) (individuals_of ws) (omega (arith, length_individuals ws, room.fits))

-- ---- individuals, and then others

module _ (out : List ℕ) (k : ℕ) (u v : List (Row picture_signature)) (room : Room out k (u ++ v)) where
  pub room_left : Room out k u
  room_left =
      let n = length-append u v in
      record { most = omega (arith, room.most); fits = omega (arith, room.fits) }

  module _ (a : ℕ) (mid : List ℕ) (first : Written out k u a mid) where
    pub room_right : Room mid a v
    room_right =
        let n = length-append u v in
        let same = written_kept out k u a mid room_left first in
        record { most = omega (arith, room.most, first.next_is); fits = omega (arith, room.fits, first.next_is) }

    pub written_append : (b : ℕ) (end : List ℕ) → Written mid a v b end → Written out k (u ++ v) b end
    written_append b end rest =
        let at = individual_place k 0 in
        let here : individual_place a 0 ≡ at + length (individuals_of u) = omega (arith, first.next_is, length_individuals u) in
        record {
          next_is = omega (arith, length-append u v, first.next_is, rest.next_is);
          bytes_are =
              rest.bytes_are
              ∙ rw (first.bytes_are, here) (put_put out at (individuals_of u) (individuals_of v) (omega (arith, length_individuals u, room_left.fits)))
              ∙ ap (put out at) (sym (individuals_append u v));
        }

-- ---- an individual of a tree, and then what hangs from it

pub room_here : (out : List ℕ) (k : ℕ) (w : Row picture_signature) (ws : List (Row picture_signature)) → Room out k (w ∷ ws) →
    (k < most_individuals) × (individual_place k individual_size ≤ length out)
room_here out k w ws room = (omega (arith, room.most), omega (arith, room.fits))

module _ (out : List ℕ) (k parent role : ℕ) (names : NameSet) (f : Forest picture_signature)
    (room : Room out k (encode_tree picture_signature (individual picture_signature names f) parent exists role k)) (mid : List ℕ)
    (here : mid ≡ put out (individual_place k 0) (individual_bytes parent role names.set)) where
  abbrev root : Row picture_signature
  root = record { parent = parent; kind = exists; role = role; label = record { wanted = names; excluded = picture_signature.none; bottom = false } }

  next : encode_forest picture_signature f k (suc k) ≡ encode_forest picture_signature f k (k + 1)
  next = let e : suc k ≡ k + 1 = omega arith in ap (encode_forest picture_signature f k) e

  pub room_node : Room mid (k + 1) (encode_forest picture_signature f k (k + 1))
  room_node =
      let below = encode_forest picture_signature f k (suc k) in
      room_same mid (k + 1) below (encode_forest picture_signature f k (k + 1)) next
      (room_right out k (root ∷ []) below room (k + 1) mid (written_one out k root mid here))

  pub written_node : (b : ℕ) (end : List ℕ) → Written mid (k + 1) (encode_forest picture_signature f k (k + 1)) b end →
      Written out k (encode_tree picture_signature (individual picture_signature names f) parent exists role k) b end
  written_node b end rest =
      let below = encode_forest picture_signature f k (suc k) in
      written_append out k (root ∷ []) below room (k + 1) mid (written_one out k root mid here) b end
      (written_same mid (k + 1) (encode_forest picture_signature f k (k + 1)) below b end (sym next) rest)
