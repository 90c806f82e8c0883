-- Laws of fields with one tag by place, and of the form of a file of such fields.
--   field_first, after_field    the first field begins the file, each other begins where the one before it stops
--   fields_before, last_field   the fields before the count have the tag and are whole; the one there has not or is
--                               not, unless so many are read as a file may have
--   count_most                  the count is at most that
--   count_is                    and it is the number for which both are so
--   field_tag, field_whole      the tag of such a field, and that it lies in the file
--   inside                      each of them begins in the file, and so does the one after them
--   length_value                a value has the length that its head says
--   FieldsOf                    n fields stand in the file, no more than it may have, and then the end field, where the
--                               file stops
--   form_count, count_form      a file of n fields has the form, and its count is n; a file with the form is one of its
--                               count
--   fields_form_is                 a file has the form exactly if it is of n fields for some n
--   one_count                   and there is no other n
--   too_many_fields             a file that begins with one field more than it may have has not the form
use Prim.Native.Nat.{◌+◌, ◌<◌, ◌≤◌, suc, zero, ℕ}
use borrow.Author.Tests.{eqb-true, leb-true}
use lib.Dec.{eqb, leb}
use lib.ListN.{drop, get_or, length, length-drop}
use lib.Seq.{length-take-le}
use mathlib.Core.Bool.{Bool, false, false≢true, true}
use mathlib.Core.List.{List}
use mathlib.Core.Logic.{◌↔◌, ⊎_elim}
use mathlib.Core.Path.{◌∙◌, ◌≡◌, refl, sym}
use native.Mathlib.Decide.{dec_lt}
use native.Mathlib.Nat.{eq-or-lt_of_le}
use native.Mathlib.Numerals.{add-one}
use native.Mathlib.Omega.{arith}
use Rattle.table.proofs.Tests.{refuted}
use Rattle.table.proofs.Bools.{both, by_test}
use Rattle.table.proofs.Rows.{ends_parts}
use Rattle.table.specs.Fields.{ends_at}
use Rattle.table.specs.Layout.{end_tag, head_size}
use Rattle.fields.specs.Form.{
  field_count,
  field_place,
  field_value,
  field_with,
  fields_form,
  fields_from,
  length_said,
  most_fields,
  place_after,
}

-- ---- the places

pub field_first : (file : List ℕ) → field_place file 0 ≡ 0
unfolding field_place
field_first file = refl

pub after_field : (file : List ℕ) (k : ℕ) → field_place file (k + 1) ≡ place_after file (field_place file k)
unfolding field_place
after_field file k = rw (add-one k)

-- ---- the count

module _ (tag : ℕ) (file : List ℕ) where
  abbrev is_field : ℕ → Bool
  is_field k = field_with tag file (field_place file k)

  -- what is found from field k on, with `more` fields to read
  record From (more k n : ℕ) : Type 0 where
    least : k ≤ n
    most : n ≤ k + more
    fields : (j : ℕ) → k ≤ j → j < n → is_field j ≡ true
    last : n < k + more → is_field n ≡ false

  from : (more k : ℕ) → From more k (fields_from tag file more k)
  unfolding fields_from
  from zero k = record {
    least = omega arith;
    most = omega arith;
    fields = λ j a b. absurd (omega arith);
    last = λ l. absurd (omega arith);
  }
  from (suc more) k =
      by_test (is_field k)
      (λ e. rw e (let f = from more (k + 1) in record {
        least = omega (arith, f.least);
        most = omega (arith, f.most);
        fields = λ j a b.
            ⊎_elim (λ (z : k ≡ j). rw (← z) e) (λ (l : k < j). f.fields j (omega arith) b) (eq-or-lt_of_le a);
        last = λ l. f.last (omega arith);
      }))
      (λ e. rw e (record {
        least = omega arith;
        most = omega arith;
        fields = λ j a b. absurd (omega arith);
        last = λ l. e;
      }))

  counted : From most_fields 0 (field_count tag file)
  unfolding field_count
  counted = from most_fields 0

  pub fields_before : (k : ℕ) → k < field_count tag file → field_with tag file (field_place file k) ≡ true
  fields_before k l = counted.fields k (omega arith) l

  pub last_field :
      field_count tag file < most_fields → field_with tag file (field_place file (field_count tag file)) ≡ false
  last_field l = counted.last (omega arith)

  pub count_most : field_count tag file ≤ most_fields
  count_most = omega (arith, counted.most)

  pub count_is : (n : ℕ) → n ≤ most_fields → ((k : ℕ) → k < n → field_with tag file (field_place file k) ≡ true) →
      (n < most_fields → field_with tag file (field_place file n) ≡ false) → field_count tag file ≡ n
  count_is n most fields last =
      let c = field_count tag file in
      let top = count_most in
      elim (dec_lt c n) [
        | yes l ↦ absurd (false≢true (sym (last_field (omega arith)) ∙ fields c l))
        | no u ↦ elim (dec_lt n c) [
          | yes l ↦ absurd (false≢true (sym (last (omega arith)) ∙ fields_before n l))
          | no v ↦ omega arith
        ]
      ]

  -- ---- the fields

  module _ (at : ℕ) (h : field_with tag file at ≡ true) where
    halves : (eqb (get_or file at 0) tag ≡ true) × (leb (place_after file at) (length file) ≡ true)
    unfolding field_with
    halves = both (eqb (get_or file at 0) tag) (leb (place_after file at) (length file)) h

    pub field_tag : get_or file at 0 ≡ tag
    field_tag = eqb-true (get_or file at 0) tag halves.0

    pub field_whole : place_after file at ≤ length file
    field_whole = leb-true (place_after file at) (length file) halves.1

  pub inside : (k : ℕ) → k ≤ field_count tag file → field_place file k ≤ length file
  unfolding field_place
  inside zero l = omega arith
  inside (suc k) l = field_whole (field_place file k) (fields_before k (omega arith))

  pub length_value :
      (k : ℕ) → k < field_count tag file → length (field_value file k) ≡ length_said file (field_place file k)
  unfolding field_value
  length_value k l =
      let whole = field_whole (field_place file k) (fields_before k l) in
      length-take-le (length_said file (field_place file k)) (drop (field_place file k + head_size) file)
      (rw length-drop (omega arith))

-- ---- the form

pub record FieldsOf (tag : ℕ) (file : List ℕ) (n : ℕ) : Type 0 where
  pub most : n ≤ most_fields
  pub fields : (k : ℕ) → k < n → field_with tag file (field_place file k) ≡ true
  pub ends : ends_at file (field_place file n) ≡ true

-- a tag other than that of the end field
module _ (tag : ℕ) (file : List ℕ) (other : tag ≡ end_tag → ⊥) where
  -- the end field is none of them
  end_other : (at : ℕ) → ends_at file at ≡ true → field_with tag file at ≡ true → ⊥
  end_other at h c = other (sym (field_tag tag file at c) ∙ (ends_parts file at h).1)

  pub form_count : (n : ℕ) → FieldsOf tag file n → (fields_form tag file ≡ true) × (field_count tag file ≡ n)
  unfolding fields_form
  form_count n b =
      let last = refuted (field_with tag file (field_place file n)) (end_other (field_place file n) b.ends) in
      let e = count_is tag file n b.most b.fields (λ l. last) in
      (rw e b.ends, e)

  pub count_form : fields_form tag file ≡ true → FieldsOf tag file (field_count tag file)
  unfolding fields_form
  count_form h = record { most = count_most tag file; fields = fields_before tag file; ends = h }

  pub fields_form_is : (fields_form tag file ≡ true) ↔ ((n : ℕ) × FieldsOf tag file n)
  fields_form_is = (λ h. (field_count tag file, count_form h), λ (n, b). (form_count n b).0)

  pub one_count : (m n : ℕ) → FieldsOf tag file m → FieldsOf tag file n → m ≡ n
  one_count m n b c = sym (form_count m b).1 ∙ (form_count n c).1

  pub too_many_fields :
      ((k : ℕ) → k ≤ most_fields → field_with tag file (field_place file k) ≡ true) → fields_form tag file ≡ false
  too_many_fields h =
      let n = field_count tag file in
      by_test (fields_form tag file)
      (λ e. absurd (end_other (field_place file n) (count_form e).ends (h n (count_most tag file))))
      (λ e. e)
