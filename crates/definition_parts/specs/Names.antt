-- The names of a set, rising.
use Rattle.std.specs.Prelude.{ℕ, List}
use Rattle.table.specs.Layout.{name_count}
use Rattle.table.specs.NameSet.{has}
use Rattle.ale.specs.Rows.{filter_below}

unfoldable pub names_of : ℕ → List ℕ
names_of set = filter_below (has set) name_count
