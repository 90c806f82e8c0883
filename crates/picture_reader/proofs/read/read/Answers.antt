-- The reading with the input named. Where it fails, the rows before are within the limits.
use mathlib.Core.Path.{◌∙◌, sym}
use native.Mathlib.Omega.{arith}
use Rattle.picture.proofs.Readables.{failed_field, failed_most}
use Rattle.picture.specs.Read.{answer_of}
use Rattle.picture_reader.proofs.read.read.Goals as goal

pub returns-in-Ok : goal.returns-in-Ok
unfolding answer_of
returns-in-Ok c = rw (sym c.scan.ensures, c.in-Ok.is)

pub returns-in-Err : goal.returns-in-Err
unfolding answer_of
returns-in-Err c =
    let scanned = c.scan in
    rw (sym scanned.ensures, c.in-Err.is, c.refuse_at.ensures)

pub refuse_at-requires : goal.refuse_at-requires
refuse_at-requires c =
    let limits = c.args.limits in
    let s = c.args.s.now in
    let number = c.in-Err.at.number in
    let n = c.in-Err.at.rows in
    let fails = (failed_field limits s number n).0 (sym c.scan.ensures ∙ c.in-Err.is) in
    omega (arith, failed_most limits s number n fails, c.requires.0)
