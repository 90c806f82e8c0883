use Prim.Native.Nat.{◌≤◌}
use native.Mathlib.Omega.{arith}
use mathlib.Core.Path.{◌≡◌, refl, subst, sym}
use Rattle.table.specs.Bounds.{max_rows}
use Rattle.table.specs.NameValues.{set_of}
use Rattle.picture.specs.Readable.{row_count}
use Rattle.fields.specs.Form.{listed}
use Rattle.definitions.specs.Asked.{question_of}
use Rattle.definitions.specs.Unfolded.{excludes_none}
use Rattle.definitions_asked.specs.Lots.{Asks, count_of, picture_of}
use Rattle.definitions_asked.proofs.AskedInTurn.{asks_next, asks_none, excluded_one}
use Rattle.definitions_asked.proofs.PictureLots.{most_in}
use Rattle.definitions_asked.proofs.excluded.ask_excluded.Goals as goal

pub loop-k-init : goal.loop-k-init
loop-k-init c = (omega arith, λ tbox names. asks_none (question_of 27 (excludes_none tbox)) c.args.before)

pub picture-picture-requires : goal.picture-picture-requires
picture-picture-requires c = (c.requires.there, omega (arith, c.loop-k-test.true, c.count-k-end.ensures))

pub excludes_none-passes-requires : goal.excludes_none-passes-requires
unfolding row_count
excludes_none-passes-requires c =
    let few = c.requires.small c.loop-k.k (omega (arith, c.loop-k-test.true, c.count-k-end.ensures)) in
    (refl, subst (λ s. row_count s ≤ max_rows) (sym c.picture-picture.ensures) few)

pub overflow_cast-k : goal.overflow_cast-k
overflow_cast-k c =
    omega (arith, c.loop-k-test.true, c.count-k-end.ensures, most_in c.args.lot.now c.requires.there)

pub loop-k-preserved : goal.loop-k-preserved
loop-k-preserved c =
    let a = c.args in
    let k = c.loop-k.k in (
      omega (arith, c.loop-k-test.true),
      λ tbox names.
          asks_next (question_of 27 (excludes_none tbox)) (picture_of a.lot.now) k a.before
          c.loop-k.asked c.and_then-asked.result (c.loop-k.invariant.1 tbox names)
          (excluded_one tbox (set_of a.defined) names (picture_of a.lot.now k)
          c.picture-picture.result.now c.picture-picture.ensures
          c.excludes_none-passes.result c.excludes_none-passes.ensures
          c.input.result c.input.ensures
          c.loop-k.asked c.question.result c.and_then-asked.result
          c.question.ensures c.and_then-asked.ensures),
    )

pub returns : goal.returns
returns c =
    let a = c.args in
    let all : c.loop-k.k ≡ count_of a.lot.now = omega (arith, c.loop-k-test.false, c.loop-k.invariant.0, c.count-k-end.ensures) in
    λ tbox names.
    subst (λ n. Asks (question_of 27 (excludes_none tbox)) (listed (picture_of a.lot.now) n 0)
    a.before c.loop-k.asked) all (c.loop-k.invariant.1 tbox names)
