-- Questions 17 to 20 of a map, by what the code reads.
--   image_whole                                    where a file has the form of a map, every image stands whole
--   label_marked, label_else                       19, where the image is marked, and where it is not
--   edge_root, edge_elsewhere, edge_joined         whether two rows are joined: not to row 0, not by another parent,
--                                                  else by kind and role
--   edge_stays, edge_apart, edge_unmarked          20, where the image is its parent's and that is marked; where it is
--                                                  another; where it is not marked
--   row_outside, row_unrooted, row_unlike          17, 18, 19 are answered no for a row
--   row_first, row_edge                            they are answered yes: row 0 has no edge, of another row 20 decides
--   asks, map_rows                                 the questions of a map are those of its rows in turn
--   images_inside                                  rows whose questions are answered yes have their images in the first
use Prim.Native.Nat.{◌+◌, ◌<◌, ◌≤◌, ℕ}
use borrow.Author.Tests.{eq-eqb, eqb-true, le-ltb, lt-ltb, ne_eqb}
use lib.Dec.{eqb, ltb}
use lib.ListN.{length}
use mathlib.Core.Bool.{Bool, and-false, false, true}
use mathlib.Core.List.{List}
use mathlib.Core.Path.{◌∙◌, ◌≡◌, refl}
use native.Mathlib.Omega.{arith}
use Rattle.std.proofs.Common.{Err}
use Rattle.ale.specs.PictureSignature.{picture_signature}
use Rattle.ale.specs.RowMap.{edge_agrees, edge_joins, label_agrees}
use Rattle.evidence.proofs.Homomorphisms.{row_exactly}
use Rattle.evidence.specs.Form.{map_form}
use Rattle.evidence.specs.Map.{map_asked, refusal_by, row_asked}
use Rattle.homomorphism.specs.Layout.{image_of, «image_place»}
use Rattle.homomorphism_search.specs.Search.{label_carried, same_edge}
use Rattle.meaning.specs.Meaning.{picture_table}
use Rattle.picture.specs.Asked.{and_then, asked, asked_from, Asked, yes}
use Rattle.picture.specs.Readable.{row_count}
use Rattle.table.proofs.Bools.{both, by_test}
use Rattle.table.proofs.Rows.{ends_parts}
use Rattle.table.specs.Fields.{ends_at, impossible_of, parent_of}
use Rattle.table.specs.Layout.{number_size}
use Rattle.table.specs.Pick.{pick}
use Rattle.picture.proofs.Orders.{YesTo}

pub image_whole : (e : List ℕ) (m i : ℕ) → map_form m e ≡ true → i < m → image_place i + number_size ≤ length e
unfolding map_form
image_whole e m i form l = omega (arith, (ends_parts e (image_place m) (both (ends_at e (image_place m)) _ form).0).0)

-- names and marks

module _ (first second : List ℕ) (v i : ℕ) where
  pub label_marked : impossible_of first v ≡ 1 → label_agrees picture_signature (picture_table first) (picture_table second) i v ≡ true
  label_marked e = simp (eq-eqb (impossible_of first v) 1 e)

  pub label_else : (carried : Bool) → (impossible_of first v ≡ 1 → ⊥) → carried ≡ label_carried first second i v →
      carried ≡ label_agrees picture_signature (picture_table first) (picture_table second) i v
  unfolding label_carried
  label_else carried d told = told ∙ simp (ne_eqb (impossible_of first v) 1 d)

-- edges

module _ (first second : List ℕ) (i u v : ℕ) where
  pub edge_root : v ≡ 0 → edge_joins picture_signature (picture_table first) (picture_table second) i u v ≡ false
  edge_root e = simp (eq-eqb v 0 e)

  pub edge_elsewhere : (parent_of first v ≡ u → ⊥) → edge_joins picture_signature (picture_table first) (picture_table second) i u v ≡ false
  edge_elsewhere d = simp (ne_eqb (parent_of first v) u d, and-false)

  pub edge_joined : (same : Bool) → (v ≡ 0 → ⊥) → parent_of first v ≡ u → same ≡ same_edge first second i v →
      same ≡ edge_joins picture_signature (picture_table first) (picture_table second) i u v
  unfolding same_edge
  edge_joined same d e told = told ∙ simp (ne_eqb v 0 d, eq-eqb (parent_of first v) u e)

  pub edge_stays : v ≡ u → impossible_of first u ≡ 1 → edge_agrees picture_signature (picture_table first) (picture_table second) i u v ≡ true
  edge_stays e marked = simp (eq-eqb v u e, eq-eqb (impossible_of first u) 1 marked)

  module _ (joined : Bool) (told : joined ≡ edge_joins picture_signature (picture_table first) (picture_table second) i u v) where
    pub edge_apart : (v ≡ u → ⊥) → joined ≡ edge_agrees picture_signature (picture_table first) (picture_table second) i u v
    edge_apart d = told ∙ simp (ne_eqb v u d, and-false)

    pub edge_unmarked : (impossible_of first u ≡ 1 → ⊥) → joined ≡ edge_agrees picture_signature (picture_table first) (picture_table second) i u v
    edge_unmarked d = told ∙ simp (ne_eqb (impossible_of first u) 1 d)

-- the questions in order

-- a row, by its image v
module _ (first second e : List ℕ) (n i v : ℕ) (counted : n ≡ row_count first) (image : v ≡ image_of e i) where
  abbrev Row : Asked → Type 0
  Row answer = row_asked (picture_table first) (picture_table second) (image_of e) i ≡ answer

  row_read : (label edge : Bool) → label ≡ label_agrees picture_signature (picture_table first) (picture_table second) i v →
      edge
      ≡ edge_agrees picture_signature (picture_table first) (picture_table second) i (image_of e (parent_of second i)) v →
      Row (and_then (asked (ltb v n) (refusal_by 17))
      (and_then (asked (pick (eqb i 0) (eqb v 0) true) (refusal_by 18))
      (and_then (asked label (refusal_by 19))
      (asked (pick (eqb i 0) true edge) (refusal_by 20)))))
  unfolding row_asked
  row_read label edge labelled edged = rw (labelled, edged, counted, image)

  pub row_outside : n ≤ v → Row (Err (refusal_by 17))
  row_outside l = row_read _ _ refl refl ∙ simp (le-ltb v n l)

  pub row_unrooted : v < n → i ≡ 0 → (v ≡ 0 → ⊥) → Row (Err (refusal_by 18))
  row_unrooted l z d = row_read _ _ refl refl ∙ simp (lt-ltb v n l, eq-eqb i 0 z, ne_eqb v 0 d)

  -- 17 and 18 are answered yes
  module _ (inside : v < n) (root : i ≡ 0 → v ≡ 0) (label : Bool)
      (labelled : label ≡ label_agrees picture_signature (picture_table first) (picture_table second) i v) where
    rooted : pick (eqb i 0) (eqb v 0) true ≡ true
    rooted = by_test (eqb i 0) (λ z. rw z (eq-eqb v 0 (root (eqb-true i 0 z)))) (λ z. rw z)

    pub row_unlike : label ≡ false → Row (Err (refusal_by 19))
    row_unlike h = row_read label _ labelled refl ∙ simp (lt-ltb v n inside, rooted, h)

    pub row_first : label ≡ true → i ≡ 0 → Row yes
    row_first h z = row_read label _ labelled refl ∙ simp (lt-ltb v n inside, eq-eqb v 0 (root z), h, eq-eqb i 0 z)

    pub row_edge : label ≡ true → (i ≡ 0 → ⊥) → (u : ℕ) → u ≡ image_of e (parent_of second i) →
        (edge : Bool) → edge ≡ edge_agrees picture_signature (picture_table first) (picture_table second) i u v →
        Row (asked edge (refusal_by 20))
    row_edge h d u above edge edged =
        row_read label edge labelled (rw above at edged) ∙ simp (lt-ltb v n inside, h, ne_eqb i 0 d)

module _ (first second e : List ℕ) where
  abbrev pub asks : ℕ → Asked
  asks = row_asked (picture_table first) (picture_table second) (image_of e)

  pub images_inside : (n i : ℕ) → n ≡ row_count first → YesTo asks i → (k : ℕ) → k < i → image_of e k < n
  images_inside n i counted before k l =
      rw counted ((row_exactly (picture_table first) (picture_table second) (image_of e) k).0 (before k l)).inside

  pub map_rows : (m : ℕ) → m ≡ row_count second →
      map_asked (picture_table first) (picture_table second) (image_of e) ≡ asked_from asks m 0
  unfolding map_asked
  map_rows m counted = rw counted
