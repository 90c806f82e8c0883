-- Numbers of several bytes, the high byte first.
use Rattle.std.specs.Prelude.{List, [], ◌∷◌, ℕ, zero, suc, ◌+◌, ◌*◌, ◌/◌, ◌%◌, ◌^◌, ◌<◌, get_or}

-- a list of bytes
abbrev pub Bytes : List ℕ → Type 0
Bytes s = (i : ℕ) → get_or s i 0 < 256

-- the number of the k bytes of s from `at` on
unfoldable pub be : List ℕ → ℕ → ℕ → ℕ
be s at zero = 0
be s at (suc k) = be s at k * 256 + get_or s (at + k) 0

-- the k bytes of a number
unfoldable pub be_bytes : ℕ → ℕ → List ℕ
be_bytes zero n = []
be_bytes (suc k) n = n / 256 ^ k % 256 ∷ be_bytes k n
