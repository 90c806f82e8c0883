-- 14 is asked of both, unfolded, before a byte is written; then both halves are built.
-- the ways back: from 14 of the first to the entry, from 14 of the second to the former
use Prim.Native.Nat.{◌≤◌}
use borrow.Author.Tests.{leb-true}
use mathlib.Core.Path.{◌∙◌, ap, sym}
use Rattle.std.proofs.Common.{Ok}
use Rattle.meaning.specs.NormalTable.{merged_count}
use Rattle.picture.proofs.Orders.{on_no, on_yes}
use Rattle.picture.proofs.Keeping.{kept_no, kept_yes}
use Rattle.definitions.specs.Unfolded.{unfolded_file}
use Rattle.prepare_pair.proofs.TabledPairs.{both_few, many_first, many_second}
use Rattle.prepare_pair.proofs.unfolded.write_unfolded.Goals as goal

pub returns-then-not-is_unfolded_within : goal.returns-then-not-is_unfolded_within
returns-then-not-is_unfolded_within c =
    let a = c.args in
    let many = sym c.is_unfolded_within.ensures ∙ c.if-not-is_unfolded_within.true in
    let no-is = many_first a.limits (unfolded_file a.limits a.tbox.now.bytes.now a.first.now)
    (unfolded_file a.limits a.tbox.now.bytes.now a.second.now) many in
    rw c.too_many.ensures (sym (on_no _ _ _ no-is), sym (kept_no _ _ _ _ no-is))

pub returns-then-not-is_unfolded_within-2 : goal.returns-then-not-is_unfolded_within-2
returns-then-not-is_unfolded_within-2 c =
    let first_few : let a = c.args in merged_count a.limits (unfolded_file a.limits a.tbox.now.bytes.now a.first.now) ≤ a.limits.rows = leb-true _ _ (sym c.is_unfolded_within.ensures ∙ c.if-not-is_unfolded_within.false) in
    let a = c.args in
    let many = sym c.is_unfolded_within-2.ensures ∙ c.if-not-is_unfolded_within-2.true in
    let no-is = many_second a.limits (unfolded_file a.limits a.tbox.now.bytes.now a.first.now)
    (unfolded_file a.limits a.tbox.now.bytes.now a.second.now) (first_few) many in
    rw c.too_many-then-not-is_unfolded_within-2.ensures (sym (on_no _ _ _ no-is), sym (kept_no _ _ _ _ no-is))

pub build_unfolded-requires : goal.build_unfolded-requires
build_unfolded-requires c =
    let first_few : let a = c.args in merged_count a.limits (unfolded_file a.limits a.tbox.now.bytes.now a.first.now) ≤ a.limits.rows = leb-true _ _ (sym c.is_unfolded_within.ensures ∙ c.if-not-is_unfolded_within.false) in
    let second_few : let a = c.args in merged_count a.limits (unfolded_file a.limits a.tbox.now.bytes.now a.second.now) ≤ a.limits.rows = leb-true _ _ (sym c.is_unfolded_within-2.ensures ∙ c.if-not-is_unfolded_within-2.false) in
    record { pair = c.requires; first_few = first_few; second_few = second_few }

pub returns : goal.returns
returns c =
    let first_few : let a = c.args in merged_count a.limits (unfolded_file a.limits a.tbox.now.bytes.now a.first.now) ≤ a.limits.rows = leb-true _ _ (sym c.is_unfolded_within.ensures ∙ c.if-not-is_unfolded_within.false) in
    let second_few : let a = c.args in merged_count a.limits (unfolded_file a.limits a.tbox.now.bytes.now a.second.now) ≤ a.limits.rows = leb-true _ _ (sym c.is_unfolded_within-2.ensures ∙ c.if-not-is_unfolded_within-2.false) in
    let a = c.args in
    let built = c.build_unfolded in
    let all = both_few a.limits (unfolded_file a.limits a.tbox.now.bytes.now a.first.now)
    (unfolded_file a.limits a.tbox.now.bytes.now a.second.now) (first_few) (second_few) in (
      ap Ok built.ensures.0 ∙ sym (on_yes _ _ all),
      built.ensures.1 ∙ sym (kept_yes _ _ _ all),
    )
