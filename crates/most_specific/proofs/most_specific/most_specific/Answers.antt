-- 1, the case, and then the book.
use Prim.Native.Nat.{◌≤◌}
use native.Mathlib.Omega.{arith}
use lib.ListN.{length}
use Rattle.picture.proofs.Exits.{exits}
use Rattle.workspace.specs.Prepare.{work_size}
use Rattle.most_specific.proofs.Calls.{case_passed, case_readable, case_refused, short_call}
use Rattle.most_specific.proofs.most_specific.most_specific.Goals as goal

pub returns-then-work-half : goal.returns-then-work-half
returns-then-work-half c =
    let a = c.args in
    rw c.short_buffer.ensures
    (short_call a.limits c.requires a.tbox.now a.case.now a.book.now a.work.now
    (omega (arith, c.half_size-half.ensures, c.if-work-half.true)))

pub ask_book-requires : goal.ask_book-requires
ask_book-requires c =
    let long : work_size c.args.limits ≤ length c.args.work.now = omega (arith, c.half_size-half.ensures, c.if-work-half.false) in
    let a = c.args in
    record {
      bounded = c.requires;
      readable =
          case_readable a.limits c.requires a.tbox.now a.case.now a.book.now a.work.now
          (long) c.read.result c.read.ensures _ c.in_ok-read.was;
      room = long;
    }

pub returns : goal.returns
returns c =
    let long : work_size c.args.limits ≤ length c.args.work.now = omega (arith, c.half_size-half.ensures, c.if-work-half.false) in
    let a = c.args in
    let asked = c.ask_book in
    case_passed a.limits c.requires a.tbox.now a.case.now a.book.now a.work.now
    (long) c.read.result c.read.ensures _ c.in_ok-read.was asked.result
    asked.new.work asked.ensures

pub returns-in_err-read : goal.returns-in_err-read
returns-in_err-read c =
    let long : work_size c.args.limits ≤ length c.args.work.now = omega (arith, c.half_size-half.ensures, c.if-work-half.false) in
    let a = c.args in
    rw (exits c.from_residual.result _ c.from_residual.ensures.1)
    (case_refused a.limits c.requires a.tbox.now a.case.now a.book.now a.work.now
    (long) c.read.result c.read.ensures _ c.in_err-read.was)
