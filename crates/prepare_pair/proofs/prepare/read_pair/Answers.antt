-- The first reading that refuses is the answer; of two readable pictures the questions of the book are asked.
-- the way back from the reading of the first to the entry
use mathlib.Core.Path.{◌∙◌, sym}
use Rattle.picture.proofs.Exits.{exits}
use Rattle.picture.proofs.Readables.{answer_reading}
use Rattle.picture.specs.declared.answer.Input.TheVariants.{First, Second}
use Rattle.picture.proofs.Orders.{on_no}
use Rattle.picture.proofs.Keeping.{kept_no}
use Rattle.prepare_pair.proofs.TabledPairs.{both_read, refused_first, refused_second}
use Rattle.prepare_pair.proofs.prepare.read_pair.Goals as goal

pub open_pair-requires : goal.open_pair-requires
open_pair-requires c =
    let a = c.args in
    record {
      bounded = c.requires.0;
      first_readable = record {
        rows = _;
        reads = answer_reading a.limits a.first.now First _ (sym c.read.ensures ∙ c.in_ok-read.was);
      };
      second_readable = record {
        rows = _;
        reads = answer_reading a.limits a.second.now Second _ (sym c.read-2.ensures ∙ c.in_ok-read-2.was);
      };
      space = c.requires.1;
    }

pub returns : goal.returns
returns c =
    let a = c.args in
    rw (both_read a.limits a.tbox.now a.first.now a.second.now _ (sym c.read.ensures ∙ c.in_ok-read.was)
    _ (sym c.read-2.ensures ∙ c.in_ok-read-2.was)) c.open_pair.ensures

pub returns-in_err-read-2 : goal.returns-in_err-read-2
returns-in_err-read-2 c =
    let a = c.args in
    let no-is = refused_second a.limits a.tbox.now a.first.now a.second.now _
    (sym c.read.ensures ∙ c.in_ok-read.was) _ (sym c.read-2.ensures ∙ c.in_err-read-2.was) in (
      exits c.from_residual-in_err-read-2.result _ c.from_residual-in_err-read-2.ensures.1 ∙ sym (on_no _ _ _ no-is),
      sym (kept_no _ _ _ _ no-is),
    )

pub returns-in_err-read : goal.returns-in_err-read
returns-in_err-read c =
    let a = c.args in
    let no-is = refused_first a.limits a.tbox.now a.first.now a.second.now _
    (sym c.read.ensures ∙ c.in_err-read.was) in (
      exits c.from_residual.result _ c.from_residual.ensures.1 ∙ sym (on_no _ _ _ no-is),
      sym (kept_no _ _ _ _ no-is),
    )
