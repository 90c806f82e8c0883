-- The definitions book is the end field alone, so the call is the one without a book. The buffers have the lengths laid
-- down, so what the call leaves in the result buffer is what the lines are made of.
use lib.ListN.{length}
use mathlib.Core.List.{List}
use mathlib.Core.Path.{◌∙◌, ◌≡◌, subst}
use native.Mathlib.Omega.{arith}
use Prim.Native.Nat.{ℕ}
use Rattle.std.proofs.Common.{Result}
use Rattle.table.specs.Bounds.{Bounded, bench_limits}
use Rattle.table.specs.Fields.{end_bytes}
use Rattle.table.specs.Number.{be_bytes}
use Rattle.table.specs.declared.layout.Limits.{Limits}
use Rattle.definitions.proofs.Empty.{end_count, end_form}
use Rattle.subsumption.specs.Verdict.{evidence_size}
use Rattle.under.proofs.Empty.{empty_subsumes, empty_subsumes_result}
use Rattle.under.specs.Calls.{subsumes_result_under, subsumes_under}
use Rattle.workspace.specs.Prepare.{work_size}
use Rattle.verdict_lines.specs.Gathering.{Front, Told}
use Rattle.verdict_lines.specs.Lines.{output, printed}
use Rattle.verdict_tool.proofs.Verdicts.{call_lines}
use Rattle.subsumption.specs.declared.verdict.Verdict.{Verdict}
use Rattle.picture.specs.declared.answer.Refusal.{Refusal}
use Rattle.verdict_tool.proofs.answer.Goals as goal

shown : (limits : Limits) (first second buffer left : List ℕ) (work : ℕ) (v : Result Verdict Refusal) → limits ≡ bench_limits →
    Bounded limits → work ≡ work_size bench_limits → length buffer ≡ evidence_size bench_limits →
    v ≡ subsumes_under limits end_bytes first second work (length buffer) →
    left ≡ subsumes_result_under limits end_bytes first second work buffer →
    Told v left × (output v left ≡ printed first second)
shown limits first second buffer left work v bench bounded room long answer written =
    call_lines limits first second buffer left work v bench bounded room long
    (answer ∙ empty_subsumes limits end_bytes end_count end_form first second work (length buffer))
    (written ∙ empty_subsumes_result limits end_bytes end_count end_form first second work buffer)

pub gather-requires : goal.gather-requires
unfolding end_bytes be_bytes
gather-requires c =
    let a = c.args in
    let call = c.subsumes-verdict in
    let told = shown c.bench.result a.first.now a.second.now a.res.now call.new.res (length a.work.now)
    call.result c.bench.ensures.0 c.bench.ensures.1 c.requires.work_long c.requires.result_long call.ensures.0
    call.ensures.1.1 in
    (omega (arith, c.requires.out_long), told.0)

pub returns : goal.returns
unfolding end_bytes be_bytes
returns c =
    let a = c.args in
    let call = c.subsumes-verdict in
    let told = shown c.bench.result a.first.now a.second.now a.res.now call.new.res (length a.work.now)
    call.result c.bench.ensures.0 c.bench.ensures.1 c.requires.work_long c.requires.result_long call.ensures.0
    call.ensures.1.1 in
    subst (λ s. Front c.gather.new.out s c.gather.result) told.1 c.gather.ensures
