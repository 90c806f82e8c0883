-- 1, and then what `prepare` has answered and written; 16 to 23 are asked of the two tables, and write nothing more.
-- the ways back: from what `prepare` has given to the entry, from the parts to the former
use borrow.Author.Tests.{leb-true}
use lib.Dec.{leb}
use lib.ListN.{length}
use mathlib.Core.Path.{◌∙◌, ◌≡◌, ap}
use native.Mathlib.Omega.{arith}
use Prim.Native.Nat.{◌+◌}
use Rattle.std.proofs.Common.{Err}
use Rattle.picture.proofs.Exits.{exits}
use Rattle.workspace.specs.Prepare.{work_size}
use Rattle.prepare_pair.proofs.TablesIn.{Lending, first_lies, prepared_in, prepared_no, prepared_tables, prepared_yes}
use Rattle.evidence_check.proofs.CheckLaws.{prepared_call, tables_check}
use Rattle.picture.specs.Asked.{yes}
use Rattle.evidence_check.proofs.verify.verify.Goals as goal
use Rattle.evidence_check.proofs.verify.verify.Goals.{After-prepare}

-- what `prepare` was lent, gave and left
lending : (c : After-prepare) → let a = c.args in let half = c.half_size-half.result in
    Lending a.limits (leb (half + half) (length a.work.now)) a.tbox.now a.first.now a.second.now a.work.now
    c.prepare.new.work c.prepare.result
lending c =
    let half = c.half_size-half in
    record {
      bounded = c.requires;
      long = λ e. omega (arith, half.ensures, leb-true (half.result + half.result) (length c.args.work.now) e);
      is = c.prepare.ensures.0;
      written = c.prepare.ensures.1;
    }

room : (c : After-prepare) → let half = c.half_size-half.result in
    leb (half + half) (length c.args.work.now) ≡ leb (work_size c.args.limits) (length c.args.work.now)
room c = ap (λ n. leb (n + n) (length c.args.work.now)) c.half_size-half.ensures

pub prepare-requires : goal.prepare-requires
prepare-requires c =
    let half = c.half_size-half in (
      c.requires,
      λ e. omega (arith, half.ensures, leb-true (half.result + half.result) (length c.args.work.now) e),
    )

pub first_table-low-requires : goal.first_table-low-requires
first_table-low-requires c =
    first_lies (prepared_in (lending (goal.at.first_table-low-requires c).After-prepare) c.in_ok-pair.was)

pub second_table-high-requires : goal.second_table-high-requires
second_table-high-requires c =
    (c.requires, prepared_in (lending (goal.at.second_table-high-requires c).After-prepare) c.in_ok-pair.was)

pub check-requires : goal.check-requires
check-requires c =
    let normal = prepared_tables (lending (goal.at.check-requires c).After-prepare) c.in_ok-pair.was
    c.first_table-low.ensures c.second_table-high.ensures in
    (c.requires, (normal.first_checked, normal.second_checked))

pub returns : goal.returns
returns c =
    let here = (goal.at.returns c).After-prepare in
    let l = lending here in
    let a = c.args in
    let normal = prepared_tables l c.in_ok-pair.was c.first_table-low.ensures c.second_table-high.ensures in
    let (answer, space) =
    prepared_call a.limits c.requires a.tbox.now a.first.now a.second.now a.evidence.now
    a.work.now _ (room here) yes (prepared_yes l c.in_ok-pair.was).0 _ l.written in
    (c.check.ensures ∙ tables_check c.requires normal a.evidence.now ∙ answer, space)

pub returns-in_err-pair : goal.returns-in_err-pair
returns-in_err-pair c =
    let here = (goal.at.returns-in_err-pair c).After-prepare in
    let l = lending here in
    let a = c.args in
    let (answer, space) =
    prepared_call a.limits c.requires a.tbox.now a.first.now a.second.now
    a.evidence.now a.work.now _ (room here) (Err _) (prepared_no l _ c.in_err-pair.was) _ l.written in
    (exits c.from_residual.result _ c.from_residual.ensures.1 ∙ answer, space)
