-- Each field is read from the row.
use mathlib.Core.Path.{sym}
use Rattle.unfold_rows.proofs.Copying.{set_whole}
use Rattle.unfold_rows.proofs.copy.copied.Goals as goal

pub returns : goal.returns
returns c =
    rw (
      c.kind.ensures,
      c.role.ensures,
      c.impossible.ensures,
      sym (set_whole _ _ c.wanted.ensures.0 c.wanted.ensures.1),
      sym (set_whole _ _ c.excluded.ensures.0 c.excluded.ensures.1),
    )
