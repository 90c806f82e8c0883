-- 15, as the code asks it of two tables as bytes, s (the first) and t (the second). Nobody has to believe this.
--   large_in   the common picture of two normal tables has at most the rows of the limit
use Rattle.std.specs.Prelude.{ℕ, leb, List}
use Rattle.table.specs.declared.layout.Limits.{Limits}
use Rattle.ale.specs.PictureSignature.{picture_signature}
use Rattle.ale.specs.Tree.{size}
use Rattle.picture.specs.Asked.{asked, Asked}
use Rattle.lcs.specs.Call.{too_large}
use Rattle.product_writer.specs.Tables.{product_at}

unfoldable pub large_in : Limits → List ℕ → List ℕ → Asked
large_in limits s t = asked (leb (size picture_signature (product_at s t limits.depth 0 0)) limits.rows) too_large
