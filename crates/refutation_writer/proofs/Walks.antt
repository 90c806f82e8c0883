-- A walk along the rows that hang from row u writes the individuals that a function f gives for each of them, one row after the other.
--   Split                    f of a row and others is f of the row, and then f of the others; f of none is none
--   WalkAt                   at row v: so far everything before it was written, there is room for what is ahead, and that will complete it
--   walk_start               before the first turn
--   walk_room                there is room for the row it is at
--   walk_next                once its individuals are written it is at the next row
--   walk_end                 at its end everything is written
use Prim.Native.Nat.{◌+◌, ◌<◌, ℕ}
use borrow.Author.Tests.{eq-eqb}
use lib.ListN.{get_or, length}
use mathlib.Core.List.{List, [], ◌++◌, ◌∷◌}
use mathlib.Core.Path.{◌∙◌, ◌≡◌, ap, refl, sym}
use Rattle.ale.proofs.Appends.{encode_forest_append}
use Rattle.ale.proofs.Encodings.{encode_forest_length}
use Rattle.row_sets.proofs.LinkLists.{OnChain, ahead, chain_next, chain_on_first, chain_on_next}
use Rattle.ale.specs.Forest.{append}
use Rattle.ale.specs.PictureSignature.{picture_signature}
use Rattle.ale.specs.Table.{successor_rows}
use Rattle.ale.specs.Tree.{Forest, nil}
use Rattle.meaning.specs.Meaning.{picture_table}
use Rattle.table.specs.Bounds.{max_rows}
use Rattle.table.specs.Fields.{parent_of}
use Rattle.refutation_writer.specs.Refuting.{reached_all}
use Rattle.row_sets.specs.declared.linked.Table.{Table}
use Rattle.refutation_writer.specs.Writing.{Room, Written}
use Rattle.homomorphism_search.proofs.Walks.{successors_ahead}
use Rattle.refutation_writer.proofs.Writings.{room_left, room_right, room_same, written_append, written_kept, written_none, written_same}

pub record Split (f : List ℕ → Forest picture_signature) : Type 0 where
  pub none : f [] ≡ nil
  pub first : (v : ℕ) (vs : List ℕ) → f (v ∷ vs) ≡ append picture_signature (f (v ∷ [])) (f vs)

-- what is ahead at row v of the walk along the rows that hang from row u
abbrev left : (List ℕ → Forest picture_signature) → List ℕ → ℕ → ℕ → ℕ → Forest picture_signature
left f s rows u v = f (ahead (parent_of s) rows u v)

pub record WalkAt (f : List ℕ → Forest picture_signature) (s : List ℕ) (rows u parent : ℕ) (start : List ℕ) (k next : ℕ) (out : List ℕ) (v : ℕ) : Type 0 where
  pub on : OnChain (parent_of s) rows u v
  pub kept : length out ≡ length start
  pub room : Room out next (reached_all (f (ahead (parent_of s) rows u v)) parent next)
  pub rest : (a : ℕ) (end : List ℕ) → Written out next (reached_all (f (ahead (parent_of s) rows u v)) parent next) a end →
      Written start k (reached_all (f (successor_rows picture_signature (picture_table s) u)) parent k) a end

-- the rows of the first of two parts, and of the other from the next number on
parts : (f g : Forest picture_signature) (parent next a : ℕ) → a ≡ next + length (reached_all f parent next) →
    reached_all (append picture_signature f g) parent next ≡ reached_all f parent next ++ reached_all g parent a
parts f g parent next a e =
    encode_forest_append picture_signature f g parent next
    ∙ ap (λ n. reached_all f parent next ++ reached_all g parent n) (ap (λ n. next + n) (sym (encode_forest_length picture_signature f parent next)) ∙ sym e)

module _ {f : List ℕ → Forest picture_signature} (split : Split f) (t : Table) {u parent : ℕ} {start : List ℕ} {k : ℕ} where
  pub walk_start : {v : ℕ} → u < t.rows → v ≡ get_or t.links.now u 0 →
      Room start k (reached_all (f (successor_rows picture_signature (picture_table t.bytes.now) u)) parent k) →
      WalkAt f t.bytes.now t.rows u parent start k k start v
  walk_start l e room =
      let same = ap (λ vs. reached_all (f vs) parent k) (successors_ahead t.bytes.now t.links.now t.rows u t.linked l) in
      rw e (record {
        on = chain_on_first (parent_of t.bytes.now) t.rows u max_rows t.links.now t.linked.linked l;
        kept = refl;
        room = room_same start k _ _ same room;
        rest = λ a end w. written_same start k _ _ a end (sym same) w;
      })

  module _ {v next : ℕ} {out : List ℕ} (z : v ≡ 0 → ⊥) (at : WalkAt f t.bytes.now t.rows u parent start k next out v) where
    -- what is ahead is what row v gives, and then what is ahead of the next row
    turn : (a : ℕ) → a ≡ next + length (reached_all (f (v ∷ [])) parent next) →
        reached_all (left f t.bytes.now t.rows u v) parent next
        ≡ reached_all (f (v ∷ [])) parent next ++ reached_all (left f t.bytes.now t.rows u (get_or t.links.now (max_rows + v) 0)) parent a
    turn a e =
        ap (λ vs. reached_all (f vs) parent next) (chain_next (parent_of t.bytes.now) t.rows u max_rows t.links.now t.linked.linked v z at.on)
        ∙ ap (λ g. reached_all g parent next) (split.first v (ahead (parent_of t.bytes.now) t.rows u (get_or t.links.now (max_rows + v) 0)))
        ∙ parts (f (v ∷ [])) (left f t.bytes.now t.rows u (get_or t.links.now (max_rows + v) 0)) parent next a e

    here : (a : ℕ) → a ≡ next + length (reached_all (f (v ∷ [])) parent next) →
        Room out next
        (reached_all (f (v ∷ [])) parent next ++ reached_all (left f t.bytes.now t.rows u (get_or t.links.now (max_rows + v) 0)) parent a)
    here a e = room_same out next _ _ (turn a e) at.room

    pub walk_room : Room out next (reached_all (f (v ∷ [])) parent next)
    walk_room = let a = next + length (reached_all (f (v ∷ [])) parent next) in room_left out next _ _ (here a refl)

    pub walk_next : {w a : ℕ} {mid : List ℕ} → w ≡ get_or t.links.now (max_rows + v) 0 → Written out next (reached_all (f (v ∷ [])) parent next) a mid →
        WalkAt f t.bytes.now t.rows u parent start k a mid w
    walk_next {a = a} {mid = mid} e one =
        let room = here a one.next_is in
        rw e (record {
          on = chain_on_next (parent_of t.bytes.now) t.rows u max_rows t.links.now t.linked.linked v z at.on;
          kept = written_kept out next _ a mid walk_room one ∙ at.kept;
          room = room_right out next _ _ room a mid one;
          rest = λ b end w.
              at.rest b end (written_same out next _ _ b end (sym (turn a one.next_is)) (written_append out next _ _ room a mid one b end w));
        })

  pub walk_end : {v next : ℕ} {out : List ℕ} → v ≡ 0 → WalkAt f t.bytes.now t.rows u parent start k next out v →
      Written start k (reached_all (f (successor_rows picture_signature (picture_table t.bytes.now) u)) parent k) next out
  walk_end {v = v} {next = next} {out = out} z at =
      let none : left f t.bytes.now t.rows u v ≡ nil = rw (eq-eqb v 0 z) split.none in
      at.rest next out (written_same out next _ _ next out (ap (λ g. reached_all g parent next) (sym none)) (written_none out next))
