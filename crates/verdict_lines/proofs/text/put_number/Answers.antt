-- What `io::decimal` leaves are the digits of the definition, and the byte is put after them.
use lib.ListN.{length}
use mathlib.Core.List.{[], ◌∷◌}
use mathlib.Core.Path.{ap, subst}
use native.Mathlib.Omega.{arith}
use Rattle.verdict_lines.specs.Gathering.{Added}
use Rattle.verdict_lines.specs.Lines.{decimal}
use Rattle.verdict_lines.proofs.Decimals.{decimal_digits}
use Rattle.verdict_lines.proofs.Gatherings.{added_on}
use Rattle.verdict_lines.proofs.text.put_number.Goals as goal

pub put_text-end-requires : goal.put_text-end-requires
put_text-end-requires c =
    let made = c.decimal-k in
    let spelled = decimal_digits made.result c.args.n c.ranges.n.fits made.ensures.len made.ensures.digits in
    omega (arith, ap length spelled)

pub put_text-requires : goal.put_text-requires
put_text-requires c =
    let made = c.decimal-k in
    let spelled = decimal_digits made.result c.args.n c.ranges.n.fits made.ensures.len made.ensures.digits in
    omega (arith, ap length spelled, c.put_text-end.ensures.place, c.put_text-end.auto, c.requires)

pub returns : goal.returns
returns c =
    let a = c.args in
    let made = c.decimal-k in
    let digits = c.put_text-end in
    let last = c.put_text in
    let spelled = decimal_digits made.result a.n c.ranges.n.fits made.ensures.len made.ensures.digits in
    let put = subst (λ s. Added a.out.now a.at s digits.result digits.new.out) spelled digits.ensures in
    added_on a.out.now digits.new.out last.new.out a.at digits.result last.result (decimal a.n) (a.after ∷ [])
    (omega (arith, c.requires)) put last.ensures
