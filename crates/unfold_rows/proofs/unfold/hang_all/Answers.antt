use native.Mathlib.Omega.{arith}
use mathlib.Core.Path.{◌∙◌, refl}
use Rattle.table.specs.Bounds.{bench_limits}
use Rattle.table.specs.NameValues.{set_of}
use Rattle.definition_parts.proofs.NameWalks.{walk_all, walk_held, walk_next}
use Rattle.definition_parts.proofs.Parts.{tbox_readable}
use Rattle.unfold_rows.proofs.Attaching.{hung_most, hung_of, onward_end, onward_next, onward_start, readable_source}
use Rattle.unfold_rows.proofs.unfold.hang_all.Goals as goal

pub loop-name-init : goal.loop-name-init
loop-name-init c =
    let a = c.args in
    rw (c.into_iter-name-iterator.ensures.into_iter_gives, c.over-name-items.ensures)
    (record {
      few = c.requires.started;
      same_length = refl;
      walk = walk_all (set_of a.taken);
      onward = onward_start a.tbox.now.bytes.now a.tbox.now.starts.now (set_of a.taken) a.i a.limit a.table.rows
          a.out.now;
    })

pub definition-requires : goal.definition-requires
definition-requires c =
    let (low, named) = walk_held _ _ _ _ c.loop-name.invariant.walk c.in-Some.ensures.steps in
    (low, c.requires.known _ named)

pub hang-grown-requires : goal.hang-grown-requires
hang-grown-requires c =
    let (low, named) = walk_held _ _ _ _ c.loop-name.invariant.walk c.in-Some.ensures.steps in
    let readable = tbox_readable c.args.tbox.now _ (c.requires.known _ named) in
    record {
      source = rw c.definition.ensures (readable_source bench_limits _ readable (omega arith, omega arith));
      started = c.loop-name.invariant.few;
      small = c.requires.small;
      room = omega (arith, c.requires.room, c.loop-name.invariant.same_length);
    }

pub loop-name-preserved : goal.loop-name-preserved
loop-name-preserved c =
    let a = c.args in
    let l = c.loop-name in
    let (low, named) = walk_held _ _ _ _ l.invariant.walk c.in-Some.ensures.steps in
    let h = c.hang-grown.ensures in
    let hung = hung_of _ _ a.i a.limit l.grown.rows _ c.hang-grown.result.rows _ c.definition.ensures h in
    record {
      few = hung_most _ a.i a.limit l.grown.rows _ c.hang-grown.result.rows _ hung;
      same_length = hung.same_length ∙ l.invariant.same_length;
      walk = walk_next _ _ _ _ l.invariant.walk c.in-Some.ensures.steps;
      onward = onward_next a.tbox.now.bytes.now a.tbox.now.starts.now (set_of a.taken) a.i a.limit a.table.rows
          a.out.now l.grown.rows c.in-Some.name c.hang-grown.result.rows _ _ _ _ bench_limits
          (tbox_readable a.tbox.now _ (c.requires.known _ named)) named c.in-Some.ensures.steps l.invariant.onward hung;
    }

pub returns : goal.returns
returns c =
    let a = c.args in
    let l = c.loop-name in
    record {
      same_length = l.invariant.same_length;
      capped = onward_end a.tbox.now.bytes.now a.tbox.now.starts.now (set_of a.taken) a.i a.limit a.table.rows a.out.now
          l.grown.rows _ l.out c.in-None.ensures.steps.0 l.invariant.onward;
    }
