-- Bytes put into a list: the others keep their contents.
--   put     bytes in the place of others
--   zeros   so many zero bytes
use Rattle.std.specs.Prelude.{List, ◌++◌, ℕ, ◌+◌, length, take, drop, replicate}

-- s in the place of what d has from `at` on
unfoldable pub put : List ℕ → ℕ → List ℕ → List ℕ
put d at s = take at d ++ s ++ drop (at + length s) d

unfoldable pub zeros : ℕ → List ℕ
zeros n = replicate n 0
