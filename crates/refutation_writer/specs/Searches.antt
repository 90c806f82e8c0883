-- The bytes of the two tables of a search that failed. Nobody has to believe these.
use Rattle.std.specs.Prelude.{ℕ, List}
use Rattle.refutation_writer.specs.declared.refute.FailedSearch.{FailedSearch}

abbrev pub first_of : FailedSearch → List ℕ
first_of search = search.first.now.bytes.now

abbrev pub second_of : FailedSearch → List ℕ
second_of search = search.second.now.bytes.now
