-- What the contracts of the leaves say of sets of names. Nobody has to believe these.
--   overlap a b   whether some name is in both
--   set_of         the set that a value of the code stands for
use Rattle.std.specs.Prelude.{ℕ, eqb, Bool, not}
use Rattle.std.specs.Int.Bits.{bit_and}
use Rattle.table.specs.declared.names.Names.{Names}

abbrev pub overlap : ℕ → ℕ → Bool
overlap a b = not (eqb (bit_and a b) 0)

abbrev pub set_of : Names → ℕ
set_of a = a.word
