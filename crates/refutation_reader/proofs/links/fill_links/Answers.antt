use Prim.Native.Nat.{◌-◌}
use native.Mathlib.Omega.{arith}
use Rattle.table_rows.proofs.Links.{link_done, link_next, link_none}
use Rattle.countermodel.specs.Individual.{individual_parent}
use Rattle.countermodel.specs.Layout.{most_individuals}
use Rattle.refutation_reader.proofs.Individuals.{parent_before}
use Rattle.refutation_reader.proofs.links.fill_links.Goals as goal

pub loop-k-init : goal.loop-k-init
loop-k-init c = link_none _ _ _ _ c.requires.1.1

pub bounds-links-above : goal.bounds-links-above
bounds-links-above c =
    let before = parent_before c.args.e.now c.args.n (c.loop-k.k - 1) c.requires.1.0 (omega arith) (omega arith) in
    omega (arith, before, c.requires.0.most)

pub bounds-links-above-in-loop-k : goal.bounds-links-above-in-loop-k
bounds-links-above-in-loop-k c =
    let before = parent_before c.args.e.now c.args.n (c.loop-k.k - 1) c.requires.1.0 (omega arith) (omega arith) in
    omega (arith, before, c.requires.0.most)

pub loop-k-preserved : goal.loop-k-preserved
loop-k-preserved c =
    let e = c.args.e.now in
    let n = c.args.n in
    let k = c.loop-k.k - 1 in
    let above = c.parent-above in
    let before = parent_before e n k c.requires.1.0 (omega arith) (omega arith) in
    link_next (individual_parent e) n most_individuals k c.loop-k.k above.result c.loop-k.links (omega arith)
    (λ z. omega arith) (omega arith) c.requires.0.most above.ensures.0 (omega (arith, before, above.ensures.0)) c.loop-k.invariant

pub returns : goal.returns
returns c = link_done (individual_parent c.args.e.now) c.args.n most_individuals c.loop-k.k c.loop-k.links c.loop-k-test.false c.loop-k.invariant
