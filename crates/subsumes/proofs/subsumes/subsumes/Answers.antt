-- 1, and then what `prepare` has answered and written; the verdict is on the tables that it has put into the work space.
-- the ways back: from the answer to 1 and from what `prepare` has given to the entry, from the parts to the latter
use lib.ListN.{length}
use Prim.Native.Nat.{◌≤◌}
use mathlib.Core.Bool.{true}
use mathlib.Core.Path.{◌∙◌, ◌≡◌, ap, sym}
use native.Mathlib.Omega.{arith}
use Rattle.std.proofs.Common.{Err, Ok}
use Rattle.picture.proofs.Exits.{exits}
use Rattle.countermodel.proofs.Individuals.{within_most}
use Rattle.workspace.proofs.Lendings.{room_both}
use Rattle.workspace.specs.Lent.{roomy}
use Rattle.workspace.specs.Prepare.{work_size}
use Rattle.prepare_pair.proofs.TablesIn.{Lending, first_lies, long_enough, prepared_in, prepared_no, prepared_tables, prepared_yes}
use Rattle.subsumption.specs.Verdict.{evidence_size}
use Rattle.subsumes.proofs.Decisions.{prepared_call, tables_decided, tables_settled}
use Rattle.picture.specs.Asked.{yes}
use Rattle.subsumes.proofs.subsumes.subsumes.Goals as goal
use Rattle.subsumes.proofs.subsumes.subsumes.Goals.{After-has_room-enough, After-prepare}

-- the answer to 1, and what it says of the buffers
room : (c : After-has_room-enough) → let a = c.args in
    c.has_room-enough.result ≡ roomy a.limits (evidence_size a.limits) (length a.work.now) (length a.res.now)
room c =
    let a = c.args in
    let place = c.individual_place-size in
    let size : place.result ≡ evidence_size a.limits = omega (arith, place.ensures, c.individuals_within.ensures) in
    c.has_room-enough.ensures ∙ ap (λ n. roomy a.limits n (length a.work.now) (length a.res.now)) size

long : (c : After-has_room-enough) → c.has_room-enough.result ≡ true →
    (work_size c.args.limits ≤ length c.args.work.now) × (evidence_size c.args.limits ≤ length c.args.res.now)
long c e =
    let a = c.args in
    room_both a.limits (evidence_size a.limits) (length a.work.now) (length a.res.now) (sym (room c) ∙ e)

-- what `prepare` was lent, gave and left
lending : (c : After-prepare) → (c.has_room-enough.result ≡ true → work_size c.args.limits ≤ length c.args.work.now) →
    Lending c.args.limits c.has_room-enough.result c.args.tbox.now c.args.first.now c.args.second.now c.args.work.now
    c.prepare.new.work c.prepare.result
lending c long = record {
  bounded = c.requires;
  long = long;
  is = c.prepare.ensures.0;
  written = c.prepare.ensures.1;
}

pub individual_place-size-requires : goal.individual_place-size-requires
individual_place-size-requires c = (omega (arith, c.individuals_within.ensures, within_most c.args.limits c.requires), omega arith)

pub prepare-requires : goal.prepare-requires
prepare-requires c = (c.requires, λ e. (long (goal.at.prepare-requires c).After-has_room-enough e).0)

pub first_table-low-requires : goal.first_table-low-requires
first_table-low-requires c =
    let at = goal.at.first_table-low-requires c in
    first_lies (prepared_in (lending at.After-prepare (λ e. (long at.After-has_room-enough e).0)) c.in_ok-pair.was)

pub second_table-high-requires : goal.second_table-high-requires
second_table-high-requires c =
    let at = goal.at.second_table-high-requires c in
    (c.requires, prepared_in (lending at.After-prepare (λ e. (long at.After-has_room-enough e).0)) c.in_ok-pair.was)

pub decide-requires : goal.decide-requires
decide-requires c =
    let at = goal.at.decide-requires c in
    let l = lending at.After-prepare (λ e. (long at.After-has_room-enough e).0) in
    let tables = prepared_tables l c.in_ok-pair.was c.first_table-low.ensures c.second_table-high.ensures in
    let most = (long at.After-has_room-enough (long_enough l c.in_ok-pair.was)).1 in
    (tables.first_checked, (tables.second_checked, tables_settled c.requires tables (length c.args.res.now) most))

pub returns : goal.returns
returns c =
    let at = goal.at.returns c in
    let l = lending at.After-prepare (λ e. (long at.After-has_room-enough e).0) in
    let tables = prepared_tables l c.in_ok-pair.was c.first_table-low.ensures c.second_table-high.ensures in
    let a = c.args in
    let decide = c.decide in
    let (answered, put) = tables_decided c.requires tables
    decide.result a.res.now decide.new.out decide.ensures.0 decide.ensures.1 in
    let (answer, (space, buffer)) =
    prepared_call a.limits c.requires a.tbox.now a.first.now a.second.now a.work.now
    a.res.now _ (room at.After-has_room-enough) yes (prepared_yes l c.in_ok-pair.was).0 _ l.written in
    (ap Ok answered ∙ answer, (space, put ∙ buffer))

pub returns-in_err-pair : goal.returns-in_err-pair
returns-in_err-pair c =
    let at = goal.at.returns-in_err-pair c in
    let l = lending at.After-prepare (λ e. (long at.After-has_room-enough e).0) in
    let a = c.args in
    let (answer, buffers) =
    prepared_call a.limits c.requires a.tbox.now a.first.now a.second.now a.work.now
    a.res.now _ (room at.After-has_room-enough) (Err _) (prepared_no l _ c.in_err-pair.was) _ l.written in
    (exits c.from_residual.result _ c.from_residual.ensures.1 ∙ answer, buffers)
