-- The pictures that are asked, by lots.
--   most_in, askable    no lot has more pictures than the code can number, nor longer ones than it can hold
--   first_lot, own_lot  what is known of the first picture, and of the definitions
--   lots_all            the lots, one after the other, are all pictures
use Prim.Native.Nat.{◌≤◌, ℕ}
use mathlib.Core.List.{List, ◌++◌}
use mathlib.Core.Path.{◌≡◌, ap}
use native.Mathlib.Omega.{arith}
use Rattle.std.specs.Borrow.{Bor}
use Rattle.table.specs.Bounds.{Bounded}
use Rattle.table.specs.declared.layout.Limits.{Limits}
use Rattle.picture.proofs.Readables.{readable_most}
use Rattle.picture.specs.Readable.{Readable}
use Rattle.fields.specs.Form.{listed, most_fields}
use Rattle.definitions.specs.Asked.{definitions_of}
use Rattle.field_places.specs.declared.places.Fields.{Fields}
use Rattle.definitions_form.specs.Formed.{Formed}
use Rattle.definitions_reader.specs.Index.{AllReadable}
use Rattle.definitions_asked.specs.Given.{given_of}
use Rattle.definitions_asked.specs.Lots.{Askable, ReadLot, There, count_of, file_of, lot_of, picture_of}
use Rattle.definitions_asked.specs.declared.lots.Lot.{Lot}
use Rattle.definitions_asked.specs.declared.lots.Lot.TheVariants.{First, Nothing, Second, Cards, Definitions}

pub most_in : (lot : Lot) → There lot → count_of lot ≤ most_fields
most_in (First file) there = omega arith
most_in Nothing there = omega arith
most_in (Second file) there = omega arith
most_in (Cards file fields) there = there.located.most
most_in (Definitions file fields) there = there.placed.located.most

pub askable : (limits : Limits) → Bounded limits → (lot : Lot) → ReadLot limits lot → Askable lot
askable limits bounded lot read = record {
  there = read.there;
  small = λ k l. omega (arith, readable_most limits (file_of lot k) (read.readable k l), bounded.0);
}

pub first_lot : (limits : Limits) (first : Bor (List ℕ)) → Readable limits first.now → ReadLot limits (First first)
first_lot limits first readable = record { there = tt; readable = λ k l. readable }

module _ (tbox : Bor (List ℕ)) (fields : Fields) (formed : Formed tbox.now fields) where
  pub own_lot : (limits : Limits) → AllReadable limits tbox.now → ReadLot limits (Definitions tbox fields)
  own_lot limits readable = record {
    there = formed;
    readable = λ k l. readable k (omega (arith, formed.placed.counted));
  }

  pub lots_all : (first : Bor (List ℕ)) (rest : Lot) →
      (lot_of (First first) ++ lot_of rest) ++ lot_of (Definitions tbox fields)
      ≡ given_of first.now rest ++ definitions_of tbox.now
  lots_all first rest =
      ap (λ n. given_of first.now rest ++ listed (picture_of (Definitions tbox fields)) n 0) formed.placed.counted
