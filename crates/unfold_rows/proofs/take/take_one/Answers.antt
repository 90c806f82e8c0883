-- Each part is united with the root's.
use Prim.Native.Nat.{◌<◌, ◌^◌}
use lib.Dec.{eqb}
use mathlib.Core.Path.{◌∙◌, ap, subst}
use Rattle.table.specs.Layout.{name_count}
use Rattle.table.specs.NameSet.{union}
use Rattle.table.specs.NameValues.{set_of}
use Rattle.table.specs.Pick.{pick}
use Rattle.unfold_rows.proofs.take.take_one.Goals as goal

pub returns : goal.returns
returns c =
    let s = c.args.s in
    let w = c.wanted in
    let x = c.excluded in
    record {
      wanted = c.union.ensures
          ∙ ap (union (set_of s.wanted)) w.ensures.0;
      excluded = c.union-2.ensures ∙ ap (union (set_of s.excluded)) x.ensures.0;
      impossible = c.either_mark.ensures
          ∙ ap (λ z. pick (eqb z 1) 1 s.impossible) c.impossible.ensures;
      taken = c.union-3.ensures ∙ ap (union (set_of s.taken)) c.only.ensures;
      wanted_below = subst (λ z. z < 2 ^ name_count) w.ensures.0 w.ensures.1;
      excluded_below = subst (λ z. z < 2 ^ name_count) x.ensures.0 x.ensures.1;
    }
