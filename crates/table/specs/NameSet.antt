-- A set of names as a number: name n is the bit of weight 2^n.
--   bit a n           bit n of a, 0 or 1
--   has a n           whether name n is in a
--   none              the set of no name
--   union a b         the names in a or in b
--   intersection a b  the names in both
--   complement a      the names that are not in a
--   subset a b        whether every name of a is in b
--   set_below test n   the numbers below n that pass a test
use Rattle.std.specs.Prelude.{Bool, ℕ, zero, suc, ◌+◌, ◌-◌, ◌/◌, ◌%◌, ◌^◌, eqb}
use Rattle.std.specs.Int.Bits.{bit_and, bit_or}
use Rattle.table.specs.Layout.{name_count}
use Rattle.table.specs.Pick.{pick}

abbrev pub bit : ℕ → ℕ → ℕ
bit a n = a / 2 ^ n % 2

unfoldable pub has : ℕ → ℕ → Bool
has a n = eqb (bit a n) 1

abbrev pub none : ℕ
none = 0

abbrev pub union : ℕ → ℕ → ℕ
union a b = bit_or a b

abbrev pub intersection : ℕ → ℕ → ℕ
intersection a b = bit_and a b

abbrev pub complement : ℕ → ℕ
complement a = 2 ^ name_count - 1 - a

abbrev pub subset : ℕ → ℕ → Bool
subset a b = eqb (bit_and a b) a

unfoldable pub set_below : (ℕ → Bool) → ℕ → ℕ
set_below test zero = 0
set_below test (suc n) = set_below test n + pick (test n) (2 ^ n) 0
