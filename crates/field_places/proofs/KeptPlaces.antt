-- Laws of the places of a book's fields, as the code finds and keeps them.
--   not_head, not_tag, whole_field       whether a whole field stands at a place, by what the code reads
--   Scanned                              the first k fields have the tag and are whole, and their places are kept
--   scan_start, scan_next, scan_stop, scan_full   no field; one more; the first that is none; as many as there may be
--   place_from, place_to, place_part     the part of the file from one kept place to the next is the value
use Prim.Native.Nat.{◌+◌, ◌-◌, ◌<◌, ◌≤◌, ℕ}
use borrow.Author.Tests.{le-leb, leb-false, leb-true, lt-leb}
use lib.Dec.{eqb, leb}
use lib.ListN.{drop, get_or, length, length-set, set, take}
use lib.Seq.{get_or-set_other, get_or-set_same}
use mathlib.Core.Bool.{Bool, ◌&&◌, false, true}
use mathlib.Core.List.{List}
use mathlib.Core.Path.{◌∙◌, ◌≡◌, ap, subst, sym}
use native.Mathlib.Decide.{ℕ_discrete}
use native.Mathlib.Omega.{arith}
use Rattle.table.proofs.Tests.{and_none}
use Rattle.table.proofs.Bools.{by_test}
use Rattle.table.specs.Layout.{head_size}
use Rattle.fields.specs.Form.{field_count, field_place, field_value, field_with, length_said, most_fields, place_after}
use Rattle.fields.proofs.Forms.{after_field, count_is, field_first, inside}
use Rattle.field_places.specs.Places.{Located, Placed}
use Rattle.field_places.specs.declared.places.Fields.{Fields}

-- ---- one field

module _ (tag : ℕ) (file : List ℕ) (at : ℕ) where
  abbrev tagged : Bool
  tagged = eqb (get_or file at 0) tag

  abbrev whole : Bool
  whole = leb (place_after file at) (length file)

  pub not_head : length file < at + head_size → false ≡ field_with tag file at
  unfolding field_with
  not_head short =
      sym (ap (λ (b : Bool). tagged && b) (lt-leb (place_after file at) (length file) (omega arith)) ∙ and_none tagged)

  pub not_tag : tagged ≡ false → false ≡ field_with tag file at
  unfolding field_with
  not_tag other = sym (ap (λ (b : Bool). b && whole) other)

  pub whole_field : (said : ℕ) → tagged ≡ true → said ≡ length_said file at → at + head_size ≤ length file →
      leb said (length file - at - head_size) ≡ field_with tag file at
  unfolding field_with
  whole_field said is-tagged is head =
      let rest = length file - at - head_size in
      let second : (tagged && whole) ≡ whole = ap (λ (b : Bool). b && whole) is-tagged in
      by_test (leb said rest)
      (λ e. let few = leb-true said rest e in
      e ∙ sym (second ∙ le-leb (place_after file at) (length file) (omega (arith, few, is, head))))
      (λ e. let many = leb-false said rest e in
      e ∙ sym (second ∙ lt-leb (place_after file at) (length file) (omega (arith, many, is, head))))

-- ---- the fields in turn

pub record Scanned (tag : ℕ) (file places : List ℕ) (k at : ℕ) : Type 0 where
  pub most : k ≤ most_fields
  pub size : length places ≡ most_fields + 1
  pub at_is : at ≡ field_place file k
  pub at_inside : at ≤ length file
  pub placed : (j : ℕ) → j ≤ k → get_or places j 0 ≡ field_place file j
  pub fields : (j : ℕ) → j < k → field_with tag file (field_place file j) ≡ true

module _ (tag : ℕ) (file places : List ℕ) where
  pub scan_start : length places ≡ most_fields + 1 → get_or places 0 0 ≡ 0 → Scanned tag file places 0 0
  scan_start size begins =
      let first = field_first file in
      record {
        most = omega arith;
        size = size;
        at_is = sym first;
        at_inside = omega arith;
        placed = λ j l.
            let zeroth : j ≡ 0 = omega arith in
            ap (λ (i : ℕ). get_or places i 0) zeroth ∙ begins ∙ sym (ap (field_place file) zeroth ∙ first);
        fields = λ j l. absurd (omega arith);
      }

  module _ (k at : ℕ) (scanned : Scanned tag file places k at) where
    here : (b : Bool) → field_with tag file at ≡ b → field_with tag file (field_place file k) ≡ b
    here b is = ap (field_with tag file) (sym scanned.at_is) ∙ is

    pub scan_next : (next : ℕ) → k < most_fields → field_with tag file at ≡ true → next ≡ place_after file at →
        next ≤ length file → Scanned tag file (set places (k + 1) next) (k + 1) next
    scan_next next l is e fits =
        let there : next ≡ field_place file (k + 1) =
        e ∙ ap (place_after file) scanned.at_is ∙ sym (after_field file k) in
        record {
          most = omega arith;
          size = length-set places (k + 1) next ∙ scanned.size;
          at_is = there;
          at_inside = fits;
          placed = λ j b. elim (ℕ_discrete j (k + 1)) [
            | yes s ↦
                ap (λ (i : ℕ). get_or (set places (k + 1) next) i 0) s
                ∙ get_or-set_same places (k + 1) next 0 (omega (arith, scanned.size))
                ∙ there ∙ sym (ap (field_place file) s)
            | no u ↦ get_or-set_other places (k + 1) j next 0 u ∙ scanned.placed j (omega (arith, u))
          ];
          fields = λ j b. elim (ℕ_discrete j k) [
            | yes s ↦ ap (λ (i : ℕ). field_with tag file (field_place file i)) s ∙ here true is
            | no u ↦ scanned.fields j (omega (arith, u))
          ];
        }

    kept : field_count tag file ≡ k → Placed tag file (record { places = places; count = k })
    kept e = record {
      located = record {
        size = scanned.size;
        most = scanned.most;
        placed = scanned.placed;
        inside = λ j l. inside tag file j (omega arith);
      };
      counted = sym e;
    }

    pub scan_stop : field_with tag file at ≡ false → Placed tag file (record { places = places; count = k })
    scan_stop is = kept (count_is tag file k scanned.most scanned.fields (λ l. here false is))

    pub scan_full : k ≡ most_fields → Placed tag file (record { places = places; count = most_fields })
    scan_full full =
        subst (λ (n : ℕ). Placed tag file (record { places = places; count = n })) full
        (kept (count_is tag file k scanned.most scanned.fields (λ l. absurd (omega (arith, full)))))

-- ---- a value as a part of the file

module _ (file : List ℕ) (fields : Fields) (k : ℕ) (so : Located file fields) (l : k < fields.count) where
  abbrev start : ℕ
  start = get_or fields.places k 0 + head_size

  abbrev end : ℕ
  end = get_or fields.places (k + 1) 0

  abbrev said : ℕ
  said = length_said file (field_place file k)

  from_is : get_or fields.places k 0 ≡ field_place file k
  from_is = so.placed k (omega (arith, l))

  to_is : end ≡ field_place file (k + 1)
  to_is = so.placed (k + 1) (omega (arith, l))

  next_place : end ≡ start + said
  next_place = to_is ∙ after_field file k ∙ ap (λ (n : ℕ). n + head_size + said) (sym from_is)

  pub place_from : start ≤ end
  place_from = omega (arith, next_place)

  pub place_to : end ≤ length file
  place_to = omega (arith, to_is, so.inside (k + 1) (omega (arith, l)))

  pub place_part : take (end - start) (drop start file) ≡ field_value file k
  unfolding field_value
  place_part =
      let long : end - start ≡ said = omega (arith, next_place) in
      ap (λ (n : ℕ). take n (drop start file)) long ∙ ap (λ (n : ℕ). take said (drop (n + head_size) file)) from_is
