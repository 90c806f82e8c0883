-- A tree of individuals as a refutation file: what was written reads back, so the file is the interpretation that the tree is when it is numbered.
--   length_refutation_file, refutation_file_count   the length of the file, and its individuals
--   individual_byte                               the field of individual k has the bytes of row k
--   written_tag .. written_names                  what it reads back as; the parent, if it fits its field
--   SameIndividuals                               two tables of as many rows that agree on parents, roles and wanted names
--   same_fits                                     so their individuals fit the same trees, and the labels' other parts and the kinds do not matter
--   refutation_file_form                           16: the file has the form of a refutation, if its individuals are not too many
--   refutation_file_passes                         21: and its individuals are as they should be, if the roles are known
--   refutation_file_same                           it says what the tree's rows say
--   refutation_file_fits                           individual 0 fits what individual 0 of the numbered tree fits, and no more
use Prim.Native.Nat.{◌*◌, ◌+◌, ◌<◌, ◌^◌, ◌≤◌, suc, zero, ℕ}
use lib.Dec.{T}
use lib.ListN.{get_or-append, get_or, length, length-append, take}
use lib.Seq.{get_or-append-add}
use mathlib.Core.Bool.{true}
use mathlib.Core.List.{List, [], ◌++◌, ◌∷◌, append_assoc}
use mathlib.Core.Logic.{◌↔◌}
use mathlib.Core.Path.{◌∙◌, ◌≡◌, ap, refl, subst, sym}
use native.Mathlib.Nat.{add_assoc}
use native.Mathlib.Omega.{arith}
use Rattle.ale.proofs.Bisimulations.{Bisimulation, bisimilar_fits, converse}
use Rattle.ale.proofs.Encodings.{encoded_parents_first}
use Rattle.ale.specs.Countermodel.{encoded_inhabited, interpretation_of, numbered, reached}
use Rattle.ale.specs.Encoding.{Row, encode, encoded, no_row}
use Rattle.ale.specs.Interpretation.{structure_of}
use Rattle.ale.specs.PictureSignature.{below, picture_signature}
use Rattle.ale.specs.Signature.{Signature}
use Rattle.ale.specs.Structure.{Fits, Structure}
use Rattle.ale.specs.Table.{KnownRoles, Table}
use Rattle.ale.specs.Tree.{Tree, node}
use Rattle.meaning.proofs.FileTables.{set_at_set}
use Rattle.meaning.specs.Meaning.{set_at}
use Rattle.table.proofs.Numbers.{be_inside, be_same}
use Rattle.table.proofs.Ranges.{at_each}
use Rattle.table.proofs.Rows.{length_end_bytes}
use Rattle.table.specs.Fields.{end_bytes}
use Rattle.table.specs.declared.layout.Limits.{Limits}
use Rattle.table.specs.Layout.{end_size, length_offset, name_bytes, number_size}
use Rattle.table.specs.Number.{be, be_bytes}
use Rattle.table.specs.Range.{each}
use Rattle.countermodel.specs.Individual.{individual_names, individual_ok, individual_parent, individual_role, individual_table, individuals, refutation_form}
use Rattle.countermodel.specs.Layout.{individual_count, individual_length, individual_place, individual_size, individual_tag, individuals_within, individual_names_offset, individual_parent_offset, individual_role_offset}
use Rattle.countermodel.specs.Writing.{individual_bytes, individuals_of, refutation_file}
use Rattle.countermodel.proofs.Files.{file_refutation, question_21}
use Rattle.countermodel.proofs.Writings.{length_individual, length_individuals}

abbrev row_in : List (Row picture_signature) → ℕ → Row picture_signature
row_in ws k = get_or ws k (no_row picture_signature)

abbrev bytes_of : Row picture_signature → List ℕ
bytes_of w = individual_bytes w.parent w.role w.label.wanted.set

-- ---- what was written reads back

pub individual_byte : (ws : List (Row picture_signature)) (rest : List ℕ) (k : ℕ) → k < length ws → (i : ℕ) → i < individual_size →
    get_or (individuals_of ws ++ rest) (individual_place k i) 0 ≡ get_or (bytes_of (row_in ws k)) i 0
individual_byte [] rest k l i h = absurd (omega arith)
individual_byte (w ∷ ws) rest zero l i h =
    let size = length_individual w.parent w.role w.label.wanted.set in
    let z : individual_place 0 i ≡ i = omega arith in
    rw (append_assoc (bytes_of w) (individuals_of ws) rest, z) (get_or-append (bytes_of w) (individuals_of ws ++ rest) 0 i (omega arith))
individual_byte (w ∷ ws) rest (suc k) l i h =
    let size = length_individual w.parent w.role w.label.wanted.set in
    let z : individual_place (suc k) i ≡ length (bytes_of w) + individual_place k i = omega arith in
    rw (append_assoc (bytes_of w) (individuals_of ws) rest, z)
    (get_or-append-add (bytes_of w) (individuals_of ws ++ rest) (individual_place k i) 0 ∙ individual_byte ws rest k (omega arith) i h)

module _ (b : Tree picture_signature) where
  abbrev e : List ℕ
  e = refutation_file b

  abbrev ws : List (Row picture_signature)
  ws = encode picture_signature b

  pub length_refutation_file : length (refutation_file b) ≡ individual_place (length (encode picture_signature b)) end_size
  unfolding refutation_file
  length_refutation_file = omega (arith, length-append (individuals_of ws) end_bytes, length_individuals ws, length_end_bytes)

  pub refutation_file_count : individual_count (refutation_file b) ≡ length (encode picture_signature b)
  unfolding individual_count
  refutation_file_count = omega (arith, length_refutation_file)

  module _ (k : ℕ) (l : k < length (encode picture_signature b)) where
    byte : (i : ℕ) → i < individual_size → get_or e (individual_place k i) 0 ≡ get_or (bytes_of (row_in ws k)) i 0
    unfolding refutation_file
    byte i h = individual_byte ws end_bytes k l i h

    number : (at width : ℕ) → at + width ≤ individual_size → be e (individual_place k at) width ≡ be (bytes_of (row_in ws k)) at width
    number at width h =
        be_same e (bytes_of (row_in ws k)) (individual_place k at) at width (λ i m. rw (add_assoc (individual_size * k) at i) (byte (at + i) (omega arith)))

    pub written_tag : get_or (refutation_file b) (individual_place k 0) 0 ≡ individual_tag
    unfolding individual_bytes
    written_tag = byte 0 (omega arith)

    pub written_length : be (refutation_file b) (individual_place k length_offset) number_size ≡ individual_length
    unfolding individual_bytes be_bytes be
    written_length = number length_offset number_size (omega arith)

    pub written_parent : (row_in ws k).parent < 256 ^ number_size → individual_parent (refutation_file b) k ≡ (row_in ws k).parent
    unfolding individual_bytes be_bytes
    written_parent f = number individual_parent_offset number_size (omega arith) ∙ be_inside (take individual_parent_offset (bytes_of (row_in ws k))) _ number_size (row_in ws k).parent f

    pub written_role : individual_role (refutation_file b) k ≡ (row_in ws k).role
    unfolding individual_bytes be_bytes
    written_role = byte individual_role_offset (omega arith)

    pub written_names : individual_names (refutation_file b) k ≡ (row_in ws k).label.wanted.set
    unfolding individual_bytes be_bytes
    written_names =
        number individual_names_offset name_bytes (omega arith)
        ∙ be_inside (take individual_names_offset (bytes_of (row_in ws k))) [] name_bytes (row_in ws k).label.wanted.set (below (row_in ws k).label.wanted)

  -- the end field stands after the last individual
  end_byte : (i : ℕ) → get_or e (individual_place (length ws) i) 0 ≡ get_or end_bytes i 0
  unfolding refutation_file
  end_byte i =
      let before : individual_place (length ws) i ≡ length (individuals_of ws) + i = omega (arith, length_individuals ws) in
      rw before (get_or-append-add (individuals_of ws) end_bytes i 0)

  end_length_is : be e (individual_place (length ws) 1) 2 ≡ 0
  unfolding end_bytes be_bytes be
  end_length_is = be_same e end_bytes (individual_place (length ws) 1) 1 2 (λ i m. rw (add_assoc (individual_size * length ws) 1 i) (end_byte (1 + i)))

  pub refutation_file_form : (limits : Limits) → length (encode picture_signature b) ≤ individuals_within limits → refutation_form limits (refutation_file b) ≡ true
  unfolding end_bytes
  refutation_file_form limits few =
      let n = length ws in
      let first : (k : ℕ) → individual_place k 0 ≡ 14 * k = λ k. omega arith in
      file_refutation limits e n (record {
        some = encoded_inhabited picture_signature b;
        most = few;
        size = length_refutation_file;
        tags = λ k l. ap (λ at. get_or e at 0) (sym (first k)) ∙ written_tag k l;
        lengths = written_length;
        end_tag_is = ap (λ at. get_or e at 0) (sym (first n)) ∙ end_byte 0;
        end_length_is = end_length_is;
      })

-- ---- tables of the same individuals

module _ (S : Signature) (p q : Table S) where
  pub record SameIndividuals : Type 0 where
    pub rows : p.rows ≡ q.rows
    pub names : (j : ℕ) → j < p.rows → (p.label j).wanted ≡ (q.label j).wanted
    pub parents : (j : ℕ) → j < p.rows → ¬ (j ≡ 0) → p.parent j ≡ q.parent j
    pub roles : (j : ℕ) → j < p.rows → ¬ (j ≡ 0) → p.role j ≡ q.role j

  module _ (same : SameIndividuals) (pp : 0 < p.rows) (pq : 0 < q.rows) where
    abbrev M : Structure S
    M = structure_of S (interpretation_of S p pp)

    abbrev N : Structure S
    N = structure_of S (interpretation_of S q pq)

    reached_same : (r x y : ℕ) → y < p.rows → reached S p r x y ≡ reached S q r x y
    reached_same r x zero l = refl
    reached_same r x (suc y) l = rw (same.parents (suc y) l (λ z. omega arith), same.roles (suc y) l (λ z. omega arith))

    -- an individual and the individual of the same number
    abbrev related : Bisimulation S M N
    related = record {
      Related = λ x y. (x ≡ y) × (x < p.rows);
      atoms = λ x y (i, l) n. ap (λ a. S.has a n) (same.names x l) ∙ ap (λ j. S.has (q.label j).wanted n) i;
      forth = λ x y (i, l) r z (m, h).
          (z, (omega (arith, same.rows), subst (λ j. T (reached S q r j z)) i (subst T (reached_same r x z m) h)), (refl, m));
      back = λ x y (i, l) r z (m, h).
          let m' : z < p.rows = omega (arith, same.rows) in
          (z, (m', subst T (sym (reached_same r x z m')) (subst (λ j. T (reached S q r j z)) (sym i) h)), (refl, m'));
    }

    pub same_fits : (t : Tree S) → Fits S (structure_of S (interpretation_of S p pp)) t 0 ↔ Fits S (structure_of S (interpretation_of S q pq)) t 0
    same_fits t = (bisimilar_fits S M N related t 0 0 (refl, pp), bisimilar_fits S N M (converse S M N related) t 0 0 (refl, pp))

-- ---- the file is the interpretation

root_row_is : (b : Tree picture_signature) → ((row_in (encode picture_signature b) 0).parent ≡ 0) × ((row_in (encode picture_signature b) 0).role ≡ 0)
root_row_is (node l f) = (refl, refl)

module _ (b : Tree picture_signature) (few : length (encode picture_signature b) ≤ 256 ^ number_size) where
  parent_read : (k : ℕ) → k < length (encode picture_signature b) → individual_parent (refutation_file b) k ≡ (row_in (encode picture_signature b) k).parent
  parent_read zero l = written_parent b 0 l (omega (arith, (root_row_is b).0))
  parent_read (suc k) l = written_parent b (suc k) l (omega (arith, encoded_parents_first picture_signature b (suc k) l (λ z. omega arith)))

  pub refutation_file_passes : KnownRoles picture_signature (encoded picture_signature b) →
      each (individual_ok (refutation_file b)) (individual_count (refutation_file b)) 0 ≡ true
  refutation_file_passes known =
      let e = refutation_file b in
      at_each (individual_ok e) (individual_count e) 0 (λ k a c.
      let l : k < length (encode picture_signature b) = omega (arith, refutation_file_count b) in
      (question_21 e k).1 (
        λ z. (
          parent_read k l ∙ ap (λ j. (row_in (encode picture_signature b) j).parent) z ∙ (root_row_is b).0,
          written_role b k l ∙ ap (λ j. (row_in (encode picture_signature b) j).role) z ∙ (root_row_is b).1,
        ),
        λ z. (omega (arith, parent_read k l, encoded_parents_first picture_signature b k l z), omega (arith, written_role b k l, known k l)),
      ))

  pub refutation_file_same : SameIndividuals picture_signature (individual_table (refutation_file b)) (encoded picture_signature b)
  refutation_file_same =
      let n = refutation_file_count b in
      record {
        rows = n;
        names = λ j h.
            let l : j < length (encode picture_signature b) = omega arith in
            ap set_at (written_names b j l) ∙ set_at_set (row_in (encode picture_signature b) j).label.wanted;
        parents = λ j h z. parent_read j (omega arith);
        roles = λ j h z. written_role b j (omega arith);
      }

  pub refutation_file_fits : (some : 0 < individual_count (refutation_file b)) (t : Tree picture_signature) →
      Fits picture_signature (structure_of picture_signature (individuals (refutation_file b) some)) t 0
      ↔ Fits picture_signature (structure_of picture_signature (numbered picture_signature b)) t 0
  refutation_file_fits some t =
      same_fits picture_signature (individual_table (refutation_file b)) (encoded picture_signature b) refutation_file_same some (encoded_inhabited picture_signature b) t
