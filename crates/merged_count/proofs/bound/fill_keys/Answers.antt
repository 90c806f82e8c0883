-- A row gets its key below that of its parent, and a some-row is tallied under it.
use native.Mathlib.Omega.{arith}
use mathlib.Core.Path.{refl}
use Rattle.merged_count.proofs.Keyings.{key_next, key_room}
use Rattle.merged_count.proofs.bound.fill_keys.Goals as goal

pub overflow_add-somes : goal.overflow_add-somes
overflow_add-somes c =
    let key = c.key_below-key in
    let a = c.args in
    let l = c.loop-j in
    omega (arith, key_room a.s.now a.rows l.j key.result l.keys l.somes l.invariant key.ensures.1, c.some_count.ensures.1, c.requires.checked.most)

pub loop-j-preserved : goal.loop-j-preserved
loop-j-preserved c =
    let key = c.key_below-key in
    let parent = c.above in
    let l = c.loop-j in
    let a = c.args in
    key_next a.s.now a.rows l.j parent.result _ c.role.result key.result c.some_count.result l.keys
    l.somes c.requires.checked c.loop-j-test.true l.invariant parent.ensures.0 refl
    c.role.ensures key.ensures.0 key.ensures.1 c.some_count.ensures.0
