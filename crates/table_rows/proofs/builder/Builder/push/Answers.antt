-- The head, the wanted and the excluded names are put one after the other, which is putting the row: `put_three`.
use mathlib.Core.Path.{refl}
use native.Mathlib.Omega.{arith}
use Rattle.table.specs.Layout.{«place»}
use Rattle.table.specs.Number.{be_bytes}
use Rattle.table.specs.Fields.{row_of}
use Rattle.table.proofs.Puts.{put_three}
use Rattle.table_rows.proofs.builder.Builder.push.Goals as goal

pub returns : goal.returns
unfolding row_of be_bytes
returns c =
    let a = c.args in
    let q = c.store in
    let r = c.store-2 in
    let head = rw (c.number_bytes-length.ensures, c.number_bytes-parent.ensures) at c.copy_in.ensures in (
      refl,
      put_three a.out.now c.copy_in.new.dst q.new.out r.new.out (place a.self.rows 0) _ _ _ _ _ _
          c.place.ensures (omega (arith, c.place-2.ensures)) (omega (arith, c.place-3.ensures))
          head q.ensures r.ensures (omega arith),
    )
