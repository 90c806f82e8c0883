-- 01, "Evidence": the individuals of a refutation file, and question 21.
--   individual_parent, individual_role, individual_names   what stands in an individual's field
--   individual_head       the head of a field is that of an individual
--   refutation_form       16: 1 to so many fields, then the end field, and the file stops there
--   individual_ok         21 of one individual
--   individual_table      the individuals as a table: each hangs from its parent by its role, and its names hold of it
--   individuals          the finite interpretation: an individual is reached from its parent by its role, and no other pairs exist
use Rattle.std.specs.Prelude.{ℕ, ◌<◌, eqb, leb, ltb, get_or, Bool, ◌&&◌, false, List}
use Rattle.table.specs.Fields.{ends_at}
use Rattle.table.specs.Layout.{length_offset, name_bytes, number_size, roles}
use Rattle.table.specs.Number.{be}
use Rattle.table.specs.Pick.{pick}
use Rattle.table.specs.Range.{each}
use Rattle.table.specs.declared.layout.Limits.{Limits}
use Rattle.ale.specs.Countermodel.{interpretation_of}
use Rattle.ale.specs.Interpretation.{Interpretation}
use Rattle.ale.specs.PictureSignature.{picture_signature}
use Rattle.ale.specs.Table.{Table}
use Rattle.ale.specs.Tree.{exists}
use Rattle.meaning.specs.Meaning.{set_at}
use Rattle.countermodel.specs.Layout.{individual_count, individual_length, individual_place, individual_tag, individuals_within, individual_names_offset, individual_parent_offset, individual_role_offset}

abbrev pub individual_parent : List ℕ → ℕ → ℕ
individual_parent e k = be e (individual_place k individual_parent_offset) number_size

abbrev pub individual_role : List ℕ → ℕ → ℕ
individual_role e k = get_or e (individual_place k individual_role_offset) 0

abbrev pub individual_names : List ℕ → ℕ → ℕ
individual_names e k = be e (individual_place k individual_names_offset) name_bytes

unfoldable pub individual_head : List ℕ → ℕ → Bool
individual_head e k = eqb (get_or e (individual_place k 0) 0) individual_tag && eqb (be e (individual_place k length_offset) number_size) individual_length

unfoldable pub refutation_form : Limits → List ℕ → Bool
refutation_form limits e =
    ltb 0 (individual_count e)
    && (leb (individual_count e) (individuals_within limits)
    && (ends_at e (individual_place (individual_count e) 0)
    && each (individual_head e) (individual_count e) 0))

-- 21. Parent below its number, role below 32, both 0 for individual 0?
unfoldable pub individual_ok : List ℕ → ℕ → Bool
individual_ok e k =
    pick (eqb k 0) (eqb (individual_parent e k) 0 && eqb (individual_role e k) 0) (ltb (individual_parent e k) k && ltb (individual_role e k) roles)

abbrev pub individual_table : List ℕ → Table picture_signature
individual_table e =
    record {
      rows = individual_count e;
      parent = individual_parent e;
      kind = λ k. exists;
      role = individual_role e;
      label = λ k. record { wanted = set_at (individual_names e k); excluded = picture_signature.none; bottom = false };
    }

abbrev pub individuals : (e : List ℕ) → 0 < individual_count e → Interpretation picture_signature
individuals e some = interpretation_of picture_signature (individual_table e) some
