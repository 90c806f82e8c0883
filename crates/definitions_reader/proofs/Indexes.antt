-- The index of a definitions book, field by field.
--   IndexedTo                  of the first k definitions: their names, whether two are the same, and, if not, where
--                              each picture begins
--   index_start, index_next    no definition; one more
--   part_file, part_there      the part of the book from there is the definition's picture, and lies in the book
--   at_most, at_counted,
--   at_place, at_inside,
--   at_name                    definition k, where the code finds it
--   is_once,
--   IndexedAll, index_all      all of them: the defined names, 26, and, where that is answered yes, where each begins
--   indexes_once               that is the index then
--   index_there                that there is one
use Prim.Native.Nat.{◌+◌, ◌-◌, ◌<◌, ◌^◌, ◌≤◌, suc, zero, ℕ}
use borrow.Author.Count.{below_more}
use borrow.Author.Tests.{eq-eqb, eqb-true, lt-ltb, ne_eqb, not-false, not-true}
use lib.Dec.{eqb, ltb}
use lib.ListN.{drop, get_or, length, length-set, set, take}
use lib.Seq.{drop-drop, get_or-set_other, get_or-set_same, take-nil}
use mathlib.Core.Bool.{Bool, ◌&&◌, ◌||◌, false, false≢true, not, or-true, true, true≢false}
use mathlib.Core.List.{List, [], ◌∷◌}
use mathlib.Core.Logic.{⊎_elim}
use mathlib.Core.Path.{◌∙◌, ◌≡◌, ap, refl, subst, sym}
use native.Mathlib.Decide.{dec_lt, ℕ_discrete}
use native.Mathlib.Omega.{arith}
use Rattle.std.proofs.Common.{Err, Ok, Result, is_ok}
use Rattle.table.proofs.Bools.{both, by_test, either}
use Rattle.table.proofs.NameSets.{has_none, has_power, has_union, subset_power}
use Rattle.table.proofs.Ranges.{at_each, at_some, some_at}
use Rattle.table.proofs.SetsBelow.{word_is}
use Rattle.table.proofs.Tests.{refuted}
use Rattle.table.specs.Bounds.{Bounded}
use Rattle.table.specs.Layout.{head_size, length_offset, name_count, number_size}
use Rattle.table.specs.NameSet.{has, none, subset, union}
use Rattle.table.specs.NameValues.{set_of}
use Rattle.table.specs.Number.{be}
use Rattle.table.specs.Range.{each}
use Rattle.table.specs.declared.layout.Limits.{Limits}
use Rattle.table.specs.declared.names.Names.{Names}
use Rattle.picture.specs.Readable.{Readable}
use Rattle.meaning.specs.Meaning.{picture_table}
use Rattle.fields.proofs.Forms.{field_whole, fields_before, length_value}
use Rattle.fields.specs.Form.{field_place, field_value, length_said, most_fields}
use Rattle.field_places.specs.declared.places.Fields.{Fields}
use Rattle.definitions.proofs.Coverings.{name_below, name_byte, place_name, place_only}
use Rattle.definitions.proofs.Idle.{word_set}
use Rattle.definitions.proofs.Unfolds.{defined_place}
use Rattle.definitions.specs.Form.{definition_count, definition_file, definition_tag, definitions_form, name_of}
use Rattle.definitions_form.specs.Formed.{Formed}
use Rattle.definitions.specs.Tbox.{defined_word, defines, place_of, tbox_of}
use Rattle.definitions.specs.Unfolded.{named_once}
use Rattle.definition_parts.specs.Parts.{Agrees, Opened, Part, part_at}
use Rattle.definition_parts.proofs.Parts.{readable_widest}
use Rattle.definitions_reader.specs.Index.{AllReadable, Indexed, Indexes, picture_start}
use Rattle.definitions_reader.specs.declared.index.Index.{Index}

pub record IndexedTo (tbox starts : List ℕ) (defined : ℕ) (once : Bool) (k : ℕ) : Type 0 where
  pub size : length starts ≡ name_count
  pub most : k ≤ definition_count tbox
  pub met : (j : ℕ) → j < k → has defined (name_of tbox j) ≡ true
  pub meets : (n : ℕ) → has defined n ≡ true → (j : ℕ) × (j < k) × (name_of tbox j ≡ n)
  pub differ : once ≡ true → (i j : ℕ) → i < j → j < k → ¬ (name_of tbox i ≡ name_of tbox j)
  pub agree : once ≡ false → (i : ℕ) × (j : ℕ) × (i < j) × (j < k) × (name_of tbox i ≡ name_of tbox j)
  pub start : once ≡ true → (j : ℕ) → j < k → get_or starts (name_of tbox j) 0 ≡ picture_start tbox j

module _ (tbox starts : List ℕ) where
  pub index_start : (defined : ℕ) → defined ≡ none → length starts ≡ name_count → IndexedTo tbox starts defined true 0
  index_start defined z size = record {
    size = size;
    most = omega arith;
    met = λ j l. absurd (omega arith);
    meets = λ n h. absurd (false≢true (sym (ap (λ d. has d n) z ∙ has_none n) ∙ h));
    differ = λ e i j a l. absurd (omega arith);
    agree = λ e. absurd (true≢false e);
    start = λ e j l. absurd (omega arith);
  }

-- of definition k the name, the set of it alone, and where its picture begins; then the set and the test with it
module _ (tbox starts : List ℕ) (defined : ℕ) (once : Bool) (k : ℕ) (so : IndexedTo tbox starts defined once k)
    (l : k < definition_count tbox) (name only at : ℕ) (is : name ≡ name_of tbox k) (below : name < name_count)
    (alone : only ≡ 2 ^ name) (begins : at ≡ picture_start tbox k) (word : ℕ) (joined : word ≡ union defined only)
    (still : Bool) (new : still ≡ (once && not (subset only defined))) where
  after : (n : ℕ) → has word n ≡ (has defined n || eqb n name)
  after n =
      ap (λ w. has w n) (joined ∙ ap (union defined) alone)
      ∙ has_union defined (2 ^ name) n ∙ ap (λ b. has defined n || b) (has_power name n)

  seen : subset only defined ≡ has defined name
  seen = ap (λ w. subset w defined) alone ∙ subset_power name defined

  -- the definition is the first of its name
  first : still ≡ true → (once ≡ true) × ((j : ℕ) → j < k → ¬ (name_of tbox j ≡ name))
  first e =
      let (so_far, unseen) = both once (not (subset only defined)) (sym new ∙ e) in (
        so_far,
        λ j b same.
            true≢false (sym (so.met j b) ∙ ap (has defined) same ∙ sym seen ∙ not-true (subset only defined) unseen),
      )

  pub index_next : IndexedTo tbox (set starts name at) word still (k + 1)
  index_next = record {
    size = length-set starts name at ∙ so.size;
    most = omega arith;
    met = below_more (λ j. has word (name_of tbox j) ≡ true) k
        (λ j b. after (name_of tbox j) ∙ ap (λ t. t || eqb (name_of tbox j) name) (so.met j b))
        (after (name_of tbox k)
        ∙ ap (λ t. has defined (name_of tbox k) || t) (eq-eqb (name_of tbox k) name (sym is))
        ∙ or-true (has defined (name_of tbox k)));
    meets = λ n h.
        ⊎_elim (λ e. let (j, b, same) = so.meets n e in (j, omega arith, same))
        (λ e. (k, omega arith, sym is ∙ sym (eqb-true n name e)))
        (either (has defined n) (eqb n name) (sym (after n) ∙ h));
    differ = λ e i j a u.
        below_more (λ j. i < j → ¬ (name_of tbox i ≡ name_of tbox j)) k
        (λ j b c. so.differ (first e).0 i j c b) (λ c same. (first e).1 i c (same ∙ sym is)) j u a;
    agree = λ e. by_test once
        (λ (t : once ≡ true).
        let again : subset only defined ≡ true =
        not-false (subset only defined) (sym (new ∙ ap (λ b. b && not (subset only defined)) t) ∙ e) in
        let (i, b, same) = so.meets name (sym seen ∙ again) in
        (i, k, b, omega arith, same ∙ is))
        (λ t. let (i, j, a, b, same) = so.agree t in (i, j, a, omega arith, same));
    start = λ e. below_more (λ j. get_or (set starts name at) (name_of tbox j) 0 ≡ picture_start tbox j) k
        (λ j b. get_or-set_other starts name (name_of tbox j) at 0 ((first e).1 j b) ∙ so.start (first e).0 j b)
        (ap (λ n. get_or (set starts name at) n 0) (sym is)
        ∙ get_or-set_same starts name at 0 (omega (arith, so.size, below)) ∙ begins);
  }

-- ---- where a picture begins

rest_take : (n : ℕ) (s : List ℕ) → drop 1 (take n s) ≡ take (n - 1) (drop 1 s)
rest_take zero s = refl
rest_take (suc n) [] = sym (take-nil (suc n - 1))
rest_take (suc n) (x ∷ s) = ap (λ m. take m s) (let e : n ≡ suc n - 1 = omega arith in e)

module _ (tbox : List ℕ) (k : ℕ) where
  said : be tbox (picture_start tbox k - head_size - 1 + length_offset) number_size ≡ length_said tbox (field_place tbox k)
  said = ap (λ at. be tbox at number_size) (omega arith)

  pub part_file : part_at tbox (picture_start tbox k) ≡ definition_file tbox k
  unfolding definition_file field_value
  part_file =
      ap (λ n. take (n - 1) (drop (picture_start tbox k) tbox)) said
      ∙ sym (rest_take (length_said tbox (field_place tbox k)) (drop (field_place tbox k + head_size) tbox)
      ∙ ap (take (length_said tbox (field_place tbox k) - 1)) (drop-drop 1 (field_place tbox k + head_size) tbox))

  pub part_there : definitions_form tbox ≡ true → k < definition_count tbox → Part tbox (picture_start tbox k)
  part_there form l =
      let whole = field_whole definition_tag tbox (field_place tbox k) (fields_before definition_tag tbox k l) in
      let long : 1 ≤ length_said tbox (field_place tbox k) =
      subst (λ n. 1 ≤ n) (length_value definition_tag tbox k l) (name_byte tbox form k l) in
      record {
        after_head = omega arith;
        named = subst (λ n. 1 ≤ n) (sym said) long;
        whole = omega (arith, said);
      }

-- ---- definition k, where the code finds it

module _ (tbox : List ℕ) (fields : Fields) (formed : Formed tbox fields) (k : ℕ) (l : k < fields.count) where
  pub at_most : k < most_fields
  at_most = omega (arith, formed.placed.located.most)

  pub at_counted : k < definition_count tbox
  at_counted = omega (arith, formed.placed.counted)

  pub at_place : get_or fields.places k 0 ≡ field_place tbox k
  at_place = formed.placed.located.placed k (omega arith)

  pub at_inside : picture_start tbox k ≤ length tbox
  at_inside = omega (arith, (part_there tbox k formed.form at_counted).whole)

  pub at_name : (n : ℕ) → n ≡ name_of tbox k → n < name_count
  at_name n is = rw is (name_below tbox formed.form k at_counted)

-- ---- all of them

pub record IndexedAll (tbox : List ℕ) (index : Index) (once : Bool) : Type 0 where
  pub names : set_of index.defined ≡ defined_word tbox
  pub single : once ≡ named_once tbox
  pub agrees : once ≡ true → Agrees (tbox_of tbox) tbox index.starts (set_of index.defined)
  pub opened : once ≡ true → (limits : Limits) → Bounded limits → AllReadable limits tbox →
      Opened tbox index.starts (set_of index.defined)

module _ (tbox : List ℕ) (form : definitions_form tbox ≡ true) (index : Index) (once : Bool) (k : ℕ)
    (whole : k ≡ definition_count tbox) (to : IndexedTo tbox index.starts (set_of index.defined) once k) where
  so : IndexedTo tbox index.starts (set_of index.defined) once (definition_count tbox)
  so = subst (IndexedTo tbox index.starts (set_of index.defined) once) whole to

  abbrev word : ℕ
  word = set_of index.defined

  -- a name that is met is below name_count, and defined
  has_defines : (n : ℕ) → has word n ≡ (ltb n name_count && defines tbox n)
  has_defines n =
      by_test (has word n)
      (λ e.
      let (j, l, same) = so.meets n e in
      let found = at_some (λ k. eqb (name_of tbox k) n) (definition_count tbox) 0 j (omega arith) (omega arith)
      (eq-eqb (name_of tbox j) n same) in
      let low = subst (λ m. m < name_count) same (name_below tbox form j l) in
      e ∙ sym (ap (λ b. b && defines tbox n) (lt-ltb n name_count low) ∙ found))
      (λ e. e ∙ sym (refuted (ltb n name_count && defines tbox n) (λ t.
      let (k, a, b, same) =
      some_at (λ k. eqb (name_of tbox k) n) (definition_count tbox) 0 (both (ltb n name_count) (defines tbox n) t).1 in
      true≢false (sym (so.met k (omega arith)) ∙ ap (has word) (eqb-true (name_of tbox k) n same) ∙ e))))

  is_defined : word ≡ defined_word tbox
  unfolding defined_word
  is_defined = word_is (defines tbox) word name_count has_defines

  apart : once ≡ true → (j k : ℕ) → j < definition_count tbox → k < definition_count tbox →
      (eqb j k || not (eqb (name_of tbox j) (name_of tbox k))) ≡ true
  apart e j k a b = elim (ℕ_discrete j k) [
    | yes same ↦ ap (λ t. t || not (eqb (name_of tbox j) (name_of tbox k))) (eq-eqb j k same)
    | no other ↦
        ap (λ t. eqb j k || not t) (ne_eqb (name_of tbox j) (name_of tbox k) (elim (dec_lt j k) [
          | yes l ↦ so.differ e j k l b
          | no u ↦ λ same. so.differ e k j (omega (arith, other)) a (sym same)
        ])) ∙ or-true (eqb j k)
  ]

  pub is_once : once ≡ named_once tbox
  unfolding named_once
  is_once =
      by_test once
      (λ e. e ∙ sym (at_each
      (λ k. each (λ j. eqb j k || not (eqb (name_of tbox j) (name_of tbox k))) (definition_count tbox) 0)
      (definition_count tbox) 0 (λ k a b. at_each (λ j. eqb j k || not (eqb (name_of tbox j) (name_of tbox k)))
      (definition_count tbox) 0 (λ j c d. apart e j k (omega arith) (omega arith)))))
      (λ e. e ∙ sym (refuted (named_once tbox) (λ t.
      let (i, j, a, b, same) = so.agree e in
      let here : i ≡ j =
      sym (place_only tbox t i (omega arith)) ∙ ap (place_of tbox) same ∙ place_only tbox t j b in
      omega arith)))

  -- where the picture of a name begins, and that it is the definition's
  starts_at : once ≡ true → (n j : ℕ) → j < definition_count tbox → name_of tbox j ≡ n →
      get_or index.starts n 0 ≡ picture_start tbox j
  starts_at e n j l same = ap (λ m. get_or index.starts m 0) (sym same) ∙ so.start e j l

  agrees : once ≡ true → Agrees (tbox_of tbox) tbox index.starts word
  agrees e = record {
    names = word_set tbox ∙ sym is_defined;
    pictures = λ n d.
        let k = place_of tbox n in
        let l : k < definition_count tbox = defined_place tbox n d in
        ap picture_table (sym (ap (part_at tbox) (starts_at e n k l (place_name tbox n l)) ∙ part_file tbox k));
  }

  opened : once ≡ true → (limits : Limits) → Bounded limits → AllReadable limits tbox →
      Opened tbox index.starts word
  opened e limits bounded readable = record {
    parts = λ n h.
        let (j, l, same) = so.meets n h in
        subst (Part tbox) (sym (starts_at e n j l same)) (part_there tbox j form l);
    readings = λ n h.
        let (j, l, same) = so.meets n h in
        readable_widest limits (part_at tbox (get_or index.starts n 0)) bounded
        (subst (Readable limits) (sym (ap (part_at tbox) (starts_at e n j l same) ∙ part_file tbox j)) (readable j l));
  }

  pub index_all : IndexedAll tbox index once
  index_all = record { names = is_defined; single = is_once; agrees = agrees; opened = opened }

pub indexes_once : (tbox : List ℕ) (index : Index) (once : Bool) → IndexedAll tbox index once → once ≡ true →
    Indexes tbox index
indexes_once tbox index once all e = record { names = all.names; agrees = all.agrees e; opened = all.opened e }

pub index_there : (tbox : List ℕ) (r : Result Index Names) → Indexed tbox r → named_once tbox ≡ true → is_ok r ≡ true
index_there tbox (Ok index) found once = refl
index_there tbox (Err names) found once = absurd (true≢false (sym once ∙ found.0))
