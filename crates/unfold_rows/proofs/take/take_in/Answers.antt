use Prim.Native.Nat.{◌+◌, ◌-◌}
use native.Mathlib.Omega.{arith}
use mathlib.Core.Path.{◌≡◌, refl, subst}
use Rattle.table.specs.Layout.{name_count}
use Rattle.table.specs.NameValues.{set_of}
use Rattle.definition_parts.proofs.Parts.{tbox_has, tbox_some}
use Rattle.unfold_rows.proofs.TakingLaws.{
  Onward,
  known_next,
  known_none,
  name_found,
  onward_done,
  onward_next,
  onward_stop,
  taken_below,
}
use Rattle.unfold_rows.proofs.take.take_in.Goals as goal

pub loop-round-init : goal.loop-round-init
loop-round-init c = record {
  below = omega (arith, c.requires);
  known = known_none _ _ c.requires;
  onward = λ D t a h. (t, h, refl);
}

pub next_name-name-requires : goal.next_name-name-requires
next_name-name-requires c = c.loop-round.invariant.below

pub returns-then-name-eq-NAMES : goal.returns-then-name-eq-NAMES
returns-then-name-eq-NAMES c =
    let l = c.loop-round in
    record {
      known = l.invariant.known;
      shows = onward_stop _ _ _ c.args.start l.s _ _ l.invariant.onward c.next_name-name.ensures
          c.if-name-eq-NAMES.true;
    }

pub definition-requires : goal.definition-requires
definition-requires c = name_found c.loop-round.s _ _ c.next_name-name.ensures c.if-name-eq-NAMES.false

pub take_one-s-requires : goal.take_one-s-requires
take_one-s-requires c =
    let found = name_found c.loop-round.s _ _ c.next_name-name.ensures c.if-name-eq-NAMES.false in
    let tbox = c.args.tbox.now in
    let name = c.next_name-name.result in
    (rw c.definition.ensures (tbox_has tbox name found.1 0 (tbox_some tbox name found.1)), found.0)

pub loop-round-preserved : goal.loop-round-preserved
loop-round-preserved c =
    let l = c.loop-round in
    let tbox = c.args.tbox.now in
    let name = c.next_name-name in
    let found = name_found l.s _ _ name.ensures c.if-name-eq-NAMES.false in
    let took = rw c.definition.ensures at c.take_one-s.ensures in
    let left : name_count - l._round - 1 ≡ name_count - (l._round + 1) = omega arith in
    record {
      below = taken_below (set_of l.s.taken) name.result _ l.invariant.below found.0 took.taken;
      known = known_next _ (set_of l.s.taken) name.result _ took.taken l.invariant.known found.1;
      onward = subst (Onward tbox.bytes.now tbox.starts.now (set_of tbox.defined) c.args.start c.take_one-s.result) left
          (onward_next _ _ _ c.args.start l.s _ _ name.result l.invariant.onward (omega arith) name.ensures found.0
          took);
    }

pub returns : goal.returns
returns c =
    let l = c.loop-round in
    record {
      known = l.invariant.known;
      shows = onward_done _ _ _ c.args.start l.s _ l.invariant.onward (omega arith);
    }
