-- The depths that the reader has noted. Nobody has to believe this.
--   Known   of the rows before row n: each stands after its parent, and the table `depths` has its depth
use Rattle.std.specs.Prelude.{◌<◌, ℕ, get_or, List, ◌≡◌}
use Rattle.picture.specs.Depth.{depth}
use Rattle.table.specs.Fields.{parent_of}

-- of the rows before row n: each stands after its parent, and the table `depths` has its depth
pub record Known (s : List ℕ) (n : ℕ) (depths : List ℕ) : Type 0 where
  pub ordered : (k : ℕ) → 0 < k → k < n → parent_of s k < k
  pub depths_hold : (k : ℕ) → k < n → get_or depths k 0 ≡ depth (parent_of s) k
