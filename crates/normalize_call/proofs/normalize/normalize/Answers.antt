-- A result buffer that is too short is 1; otherwise the reading decides, and then what is asked under the book.
use mathlib.Core.Path.{◌∙◌, sym}
use native.Mathlib.Omega.{arith}
use lib.ListN.{length}
use Rattle.picture.proofs.Exits.{exits}
use Rattle.picture.proofs.Orders.{refused_no, rows_yes}
use Rattle.picture.proofs.Readables.{answer_reading}
use Rattle.picture.specs.declared.answer.Input.TheVariants.{First}
use Rattle.normalize_call.proofs.Writings.{one_read, one_short, one_unread, under_by, under_no}
use Rattle.normalize_call.proofs.normalize.normalize.Goals as goal

pub returns-then-res-place : goal.returns-then-res-place
returns-then-res-place c =
    let a = c.args in
    let short = one_short a.limits a.tbox.now a.picture.now (length a.res.now)
    (omega (arith, c.if-res-place.true, c.place.ensures)) in
    rw c.short_buffer.ensures
    (under_no a.limits c.requires a.tbox.now a.picture.now a.res.now _ short)

pub write_under-requires : goal.write_under-requires
write_under-requires c =
    let a = c.args in
    record {
      bounded = c.requires;
      readable = record {
        rows = _;
        reads = answer_reading a.limits a.picture.now First _
            (sym c.read.ensures ∙ c.in_ok-read.was);
      };
      space = omega (arith, c.if-res-place.false, c.place.ensures);
    }

pub returns : goal.returns
returns c =
    let a = c.args in
    let asks = one_read a.limits a.tbox.now a.picture.now (length a.res.now)
    (omega (arith, c.if-res-place.false, c.place.ensures))
    (rows_yes a.limits First a.picture.now _ (sym c.read.ensures ∙ c.in_ok-read.was)) in
    under_by a.limits c.requires a.tbox.now a.picture.now a.res.now _ _ _ asks
    c.write_under.ensures

pub returns-in_err-read : goal.returns-in_err-read
returns-in_err-read c =
    let a = c.args in
    let asks = one_unread a.limits a.tbox.now a.picture.now (length a.res.now)
    (omega (arith, c.if-res-place.false, c.place.ensures)) _
    (refused_no a.limits First a.picture.now _ (sym c.read.ensures ∙ c.in_err-read.was)) in
    rw (exits c.from_residual.result _ c.from_residual.ensures.1)
    (under_no a.limits c.requires a.tbox.now a.picture.now a.res.now _ asks)
