-- Row i stands as it was copied. Where it wants no defined name it stays; else it is written anew, and what it took in
-- is hung to it.
use native.Mathlib.Omega.{arith}
use mathlib.Core.Bool.{false}
use mathlib.Core.Path.{◌∙◌, ◌≡◌, ap, refl, sym}
use Rattle.table.specs.Fields.{wanted_of}
use Rattle.table.specs.NameValues.{overlap, set_of}
use Rattle.unfold_rows.proofs.Rising.{anew_length, has_row, risen_anew, risen_idle}
use Rattle.unfold_rows.proofs.unfold.come_up.Goals as goal

pub wanted-names-requires : goal.wanted-names-requires
wanted-names-requires c = has_row _ _ _ _ c.requires

pub returns-then-not-overlaps : goal.returns-then-not-overlaps
returns-then-not-overlaps c =
    let a = c.args in
    let wanted = c.wanted-names in
    let none : overlap (wanted_of a.out.now a.i) (set_of a.tbox.now.defined) ≡ false =
    ap (λ z. overlap z (set_of a.tbox.now.defined)) (sym wanted.ensures.0) ∙ sym c.overlaps.ensures
    ∙ c.if-not-overlaps.true in
    record {
      same_length = refl;
      capped = λ D p v agrees standing.
          risen_idle D a.tbox.now.bytes.now a.tbox.now.starts.now (set_of a.tbox.now.defined) agrees a.i
          a.table.rows a.limit a.out.now v p standing c.requires.here c.requires.within none;
    }

pub label_of-requires : goal.label_of-requires
label_of-requires c = has_row _ _ _ _ c.requires

pub take_in-s-requires : goal.take_in-s-requires
take_in-s-requires c = c.label_of.ensures.taken

pub relabel-requires : goal.relabel-requires
relabel-requires c = has_row _ _ _ _ c.requires

pub hang_all-requires : goal.hang_all-requires
hang_all-requires c =
    let a = c.args in
    let take_in = c.take_in-s in
    let same = anew_length a.out.now _ a.i take_in.result (set_of a.tbox.now.defined)
    (has_row _ _ _ _ c.requires)
    c.relabel.ensures in
    record {
      known = take_in.ensures.known;
      started = omega (arith, c.requires.within);
      small = c.requires.small;
      room = omega (arith, c.requires.room, same);
    }

pub returns : goal.returns
returns c =
    let a = c.args in
    let take_in = c.take_in-s in
    let label = c.label_of in
    record {
      same_length = c.hang_all.ensures.same_length ∙ anew_length a.out.now _ a.i take_in.result (set_of a.tbox.now.defined) (has_row _ _ _ _ c.requires) c.relabel.ensures;
      capped = λ D p v agrees standing.
          risen_anew D a.tbox.now.bytes.now a.tbox.now.starts.now (set_of a.tbox.now.defined) agrees a.i
          a.table.rows a.limit a.out.now v p standing c.requires.here label.result take_in.result c.requires.within
          label.ensures take_in.ensures _ _ _ _ refl c.relabel.ensures
          c.hang_all.ensures;
    }
