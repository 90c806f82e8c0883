-- The questions are asked in their order, and the first that is answered no decides. The image of a row's parent was
-- asked before, so it is a row of the first.
use Prim.Native.Nat.{◌<◌}
use mathlib.Core.Path.{◌∙◌, ◌≡◌, ap, sym}
use native.Mathlib.Omega.{arith}
use Rattle.std.proofs.Common.{Err}
use Rattle.picture.specs.Asked.{asked}
use Rattle.meaning.specs.Meaning.{picture_table}
use Rattle.homomorphism.specs.Layout.{image_of}
use Rattle.evidence.specs.Map.{refusal_by, row_asked}
use Rattle.map_check.proofs.MapLaws.{image_whole, row_edge, row_first, row_outside, row_unlike, row_unrooted}
use Rattle.map_check.proofs.map.row_asked.Goals.{then-i-eq0+else-v-ne0, else-i-eq0}
use Rattle.map_check.proofs.map.row_asked.Goals as goal

pub image-v-requires : goal.image-v-requires
image-v-requires c =
    let a = c.args in
    let (second, (form, (inside, before))) = c.requires.1 in
    (omega (arith, second.most, inside), image_whole a.e.now a.m a.i form inside)

pub returns-then-n-v : goal.returns-then-n-v
returns-then-n-v c =
    let a = c.args in
    let image = c.image-v in
    ap Err c.refusal_by.ensures
    ∙ sym (row_outside a.first.now a.second.now a.e.now a.n a.i image.result
    c.requires.0.counted image.ensures c.if-n-v.true)

pub returns-then-v-ne0 : goal.returns-then-v-ne0
returns-then-v-ne0 c =
    let a = c.args in
    let image = c.image-v in
    ap Err c.refusal_by-then-v-ne0.ensures
    ∙ sym (row_unrooted a.first.now a.second.now a.e.now a.n a.i image.result
    c.requires.0.counted image.ensures c.if-n-v.false c.if-i-eq0.true c.if-v-ne0.true)

pub returns-then-not-label_agrees : goal.returns-then-not-label_agrees
returns-then-not-label_agrees c =
    let rooted : c.args.i ≡ 0 → c.image-v.result ≡ 0 =
    elim c.if-i-eq0.branch [
      | then-i-eq0+else-v-ne0 w ↦ λ z. w.if-v-ne0.false
      | else-i-eq0 w ↦ λ z. absurd (w.if-i-eq0.false z)
    ] in
    let a = c.args in
    let image = c.image-v in
    let label = c.label_agrees in
    ap Err c.refusal_by-then-not-label_agrees.ensures
    ∙ sym (row_unlike a.first.now a.second.now a.e.now a.n a.i image.result
    c.requires.0.counted image.ensures c.if-n-v.false rooted
    label.result label.ensures c.if-not-label_agrees.true)

pub image-requires : goal.image-requires
image-requires c =
    let above : c.parent.result < c.args.i = let (second, (form, (inside, before))) = c.requires.1 in
    omega (arith, second.parents c.args.i c.if-i-ne0.true inside, c.parent.ensures.0) in
    let a = c.args in
    let (second, (form, (inside, before))) = c.requires.1 in
    let parent-inside : c.parent.result < a.m = omega (arith, above, inside) in
    (omega (arith, parent-inside, second.most), image_whole a.e.now a.m c.parent.result form parent-inside)

pub edge_agrees-requires : goal.edge_agrees-requires
edge_agrees-requires c =
    let above : c.parent.result < c.args.i = let (second, (form, (inside, before))) = c.requires.1 in
    omega (arith, second.parents c.args.i c.if-i-ne0.true inside, c.parent.ensures.0) in
    let (first, (second, (form, (inside, before)))) = c.requires in
    let above-inside = before c.parent.result above in
    let image-inside : c.image.result < c.args.n = omega (arith, above-inside, c.image.ensures) in
    (first, (second, ((image-inside, c.if-n-v.false), (inside, c.if-i-ne0.true))))

pub returns-then-not-edge_agrees : goal.returns-then-not-edge_agrees
returns-then-not-edge_agrees c =
    let rooted : c.args.i ≡ 0 → c.image-v.result ≡ 0 =
    elim c.if-i-eq0.branch [
      | then-i-eq0+else-v-ne0 w ↦ λ z. w.if-v-ne0.false
      | else-i-eq0 w ↦ λ z. absurd (w.if-i-eq0.false z)
    ] in
    let edge-asked : let a = c.args in row_asked (picture_table a.first.now) (picture_table a.second.now) (image_of a.e.now) a.i ≡ asked c.edge_agrees.result (refusal_by 20) = let a = c.args in
    let image = c.image-v in
    let label = c.label_agrees in
    row_edge a.first.now a.second.now a.e.now a.n a.i image.result
    c.requires.0.counted image.ensures c.if-n-v.false rooted
    label.result label.ensures c.if-not-label_agrees.false
    c.if-i-ne0.true
    c.image.result (c.image.ensures ∙ ap (image_of a.e.now) c.parent.ensures.0)
    c.edge_agrees.result c.edge_agrees.ensures in
    ap Err c.refusal_by-then-not-edge_agrees.ensures
    ∙ sym (edge-asked ∙ rw c.if-not-edge_agrees.true)

pub returns-else-not-edge_agrees : goal.returns-else-not-edge_agrees
returns-else-not-edge_agrees c =
    let rooted : c.args.i ≡ 0 → c.image-v.result ≡ 0 =
    elim c.if-i-eq0.branch [
      | then-i-eq0+else-v-ne0 w ↦ λ z. w.if-v-ne0.false
      | else-i-eq0 w ↦ λ z. absurd (w.if-i-eq0.false z)
    ] in
    let edge-asked : let a = c.args in row_asked (picture_table a.first.now) (picture_table a.second.now) (image_of a.e.now) a.i ≡ asked c.edge_agrees.result (refusal_by 20) = let a = c.args in
    let image = c.image-v in
    let label = c.label_agrees in
    row_edge a.first.now a.second.now a.e.now a.n a.i image.result
    c.requires.0.counted image.ensures c.if-n-v.false rooted
    label.result label.ensures c.if-not-label_agrees.false
    c.if-i-ne0.true
    c.image.result (c.image.ensures ∙ ap (image_of a.e.now) c.parent.ensures.0)
    c.edge_agrees.result c.edge_agrees.ensures in
    sym (edge-asked ∙ rw c.if-not-edge_agrees.false)

pub returns-else-i-ne0 : goal.returns-else-i-ne0
returns-else-i-ne0 c =
    let rooted : c.args.i ≡ 0 → c.image-v.result ≡ 0 =
    elim c.if-i-eq0.branch [
      | then-i-eq0+else-v-ne0 w ↦ λ z. w.if-v-ne0.false
      | else-i-eq0 w ↦ λ z. absurd (w.if-i-eq0.false z)
    ] in
    let a = c.args in
    let image = c.image-v in
    let label = c.label_agrees in
    sym (row_first a.first.now a.second.now a.e.now a.n a.i image.result
    c.requires.0.counted image.ensures c.if-n-v.false rooted
    label.result label.ensures c.if-not-label_agrees.false c.if-i-ne0.false)
