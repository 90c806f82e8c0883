-- What the code needs of an opened definitions book, at a place and at a defined name.
--   part_length        the part at a place is as long as its field says
--   readable_widest    what is readable within some limits is so within the widest
--   opened_readable                the picture of a defined name is readable
--   opened_some, opened_most       it has from 1 to 256 rows
--   opened_has                     each of them stands in it: table_rows' HasRow
--   opened_length                  how long it is
--   tbox_readable, tbox_some, tbox_has   the same of a book as one value
use Rattle.std.specs.Prelude.{Ok}
use Prim.Native.Nat.{◌<◌, ◌≤◌, ℕ}
use native.Mathlib.Omega.{arith}
use lib.ListN.{drop, get_or, length, length-drop}
use lib.Seq.{length-take-le}
use mathlib.Core.Bool.{true}
use mathlib.Core.List.{List}
use mathlib.Core.Path.{◌∙◌, ◌≡◌, ap, sym}
use Rattle.table.specs.Bounds.{Bounded, max_rows}
use Rattle.table.specs.Fields.{parent_of}
use Rattle.table.specs.Layout.{end_size, row_size, «place»}
use Rattle.table.specs.NameSet.{has}
use Rattle.table.specs.NameValues.{set_of}
use Rattle.table.specs.declared.layout.Limits.{Limits}
use Rattle.picture.specs.Depth.{depth}
use Rattle.picture.specs.Read.{reading_of}
use Rattle.picture.specs.Readable.{Readable, row_count}
use Rattle.picture.proofs.Fields.{RowOk}
use Rattle.picture.proofs.Questions.{depth_most, ok_depth}
use Rattle.picture.proofs.Readables.{
  formed_reading,
  readable_count,
  readable_has,
  readable_length,
  readable_most,
  readable_some,
  reading_formed,
}
use Rattle.definition_parts.specs.declared.opened.Tbox.{Tbox}
use Rattle.definition_parts.specs.Parts.{Opened, Part, part_at, part_length_of, widest_limits}
use Rattle.definition_parts.specs.Tboxes.{picture_of}

pub part_length : (tbox : List ℕ) (at : ℕ) → Part tbox at → length (part_at tbox at) ≡ part_length_of tbox at
part_length tbox at p = length-take-le (part_length_of tbox at) (drop at tbox) (rw length-drop (omega (arith, p.whole)))

pub readable_widest : (limits : Limits) (s : List ℕ) → Bounded limits → Readable limits s →
    reading_of widest_limits s ≡ Ok (row_count s)
readable_widest limits s bounded r =
    let formed = reading_formed limits s r.rows r.reads in
    formed_reading widest_limits s r.rows
    (record {
      rows = λ k l. row_widest k (formed.rows k l);
      end = formed.end;
    })
    ∙ ap Ok (sym (readable_count limits s r))
  where
    row_widest : (k : ℕ) → RowOk limits s k → RowOk widest_limits s k
    row_widest k ok = record {
      tag = ok.tag;
      row_length_is = ok.row_length_is;
      few = omega (arith, ok.few, bounded.0);
      whole = ok.whole;
      kind = ok.kind;
      role = ok.role;
      parent = ok.parent;
      shallow = ok_depth widest_limits (depth (parent_of s) k)
          (omega (arith, bounded.1, depth_most limits (depth (parent_of s) k) ok.shallow));
      impossible = ok.impossible;
    }

module _ (tbox starts : List ℕ) (defined n : ℕ) (opened : Opened tbox starts defined)
    (member : has defined n ≡ true) where
  abbrev picture : List ℕ
  picture = part_at tbox (get_or starts n 0)

  pub opened_readable : Readable widest_limits picture
  opened_readable = record { rows = row_count picture; reads = opened.readings n member }

  pub opened_some : 0 < row_count picture
  opened_some = readable_some widest_limits picture opened_readable

  pub opened_most : row_count picture ≤ max_rows
  opened_most = readable_most widest_limits picture opened_readable

  pub opened_has : (k : ℕ) → k < row_count picture →
      (k < max_rows) × (place k row_size ≤ length picture)
  opened_has = readable_has widest_limits picture opened_readable (omega arith, omega arith)

  pub opened_length : length picture ≡ place (row_count picture) end_size
  opened_length = readable_length widest_limits picture opened_readable

module _ (tbox : Tbox) (n : ℕ) (member : has (set_of tbox.defined) n ≡ true) where
  pub tbox_readable : Readable widest_limits (picture_of tbox n)
  tbox_readable = opened_readable tbox.bytes.now tbox.starts.now (set_of tbox.defined) n tbox.opened member

  pub tbox_some : 0 < row_count (picture_of tbox n)
  tbox_some = opened_some tbox.bytes.now tbox.starts.now (set_of tbox.defined) n tbox.opened member

  pub tbox_has : (k : ℕ) → k < row_count (picture_of tbox n) →
      (k < max_rows) × (place k row_size ≤ length (picture_of tbox n))
  tbox_has = opened_has tbox.bytes.now tbox.starts.now (set_of tbox.defined) n tbox.opened member
