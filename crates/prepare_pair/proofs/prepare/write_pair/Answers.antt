-- 14 is asked of both before a byte is written; then both halves are built.
use Prim.Native.Nat.{◌≤◌}
use borrow.Author.Tests.{leb-true}
use mathlib.Core.Path.{◌∙◌, ap, sym}
use Rattle.std.proofs.Common.{Ok}
use Rattle.meaning.specs.NormalTable.{merged_count}
use Rattle.picture.proofs.Orders.{on_no, on_yes}
use Rattle.picture.proofs.Keeping.{kept_no, kept_yes}
use Rattle.workspace.specs.Prepare.{Acceptable}
use Rattle.prepare_pair.proofs.TabledPairs.{both_few, many_first, many_second}
use Rattle.prepare_pair.proofs.prepare.write_pair.Goals as goal

pub returns-then-not-is_within : goal.returns-then-not-is_within
returns-then-not-is_within c =
    let a = c.args in
    let many = sym c.is_within.ensures ∙ c.if-not-is_within.true in
    let no-is = many_first a.limits a.first.now a.second.now many in
    rw c.too_many.ensures (sym (on_no _ _ _ no-is), sym (kept_no _ _ _ _ no-is))

pub returns-then-not-is_within-2 : goal.returns-then-not-is_within-2
returns-then-not-is_within-2 c =
    let first_few : let a = c.args in merged_count a.limits a.first.now ≤ a.limits.rows = leb-true _ _ (sym c.is_within.ensures ∙ c.if-not-is_within.false) in
    let a = c.args in
    let many = sym c.is_within-2.ensures ∙ c.if-not-is_within-2.true in
    let no-is = many_second a.limits a.first.now a.second.now (first_few) many in
    rw c.too_many-then-not-is_within-2.ensures (sym (on_no _ _ _ no-is), sym (kept_no _ _ _ _ no-is))

pub build_halves-requires : goal.build_halves-requires
build_halves-requires c =
    let first_few : let a = c.args in merged_count a.limits a.first.now ≤ a.limits.rows = leb-true _ _ (sym c.is_within.ensures ∙ c.if-not-is_within.false) in
    let accepted : let a = c.args in Acceptable a.limits a.first.now a.second.now = let pre = c.requires in
    record {
      first_readable = pre.first_readable;
      second_readable = pre.second_readable;
      first_few = first_few;
      second_few = leb-true _ _ (sym c.is_within-2.ensures ∙ c.if-not-is_within-2.false);
    } in
    let pre = c.requires in
    record { bounded = pre.bounded; accepted = accepted; space = pre.space }

pub returns : goal.returns
returns c =
    let first_few : let a = c.args in merged_count a.limits a.first.now ≤ a.limits.rows = leb-true _ _ (sym c.is_within.ensures ∙ c.if-not-is_within.false) in
    let accepted : let a = c.args in Acceptable a.limits a.first.now a.second.now = let pre = c.requires in
    record {
      first_readable = pre.first_readable;
      second_readable = pre.second_readable;
      first_few = first_few;
      second_few = leb-true _ _ (sym c.is_within-2.ensures ∙ c.if-not-is_within-2.false);
    } in
    let yes_both = accepted in
    let a = c.args in
    let built = c.build_halves in
    let all = both_few a.limits a.first.now a.second.now yes_both.first_few yes_both.second_few in (
      ap Ok built.ensures.0 ∙ sym (on_yes _ _ all),
      built.ensures.1 ∙ sym (kept_yes _ _ _ all),
    )
