-- Sets of row numbers, as rising lists.
--   member            whether a number is in the list
--   filter_from        of the n numbers from o on, those that pass a test, rising
--   filter_below       the numbers below n that pass
--   with_row           a set of rows below n with one row more, again rising
--   first_from         of the n numbers from o on, the first that passes, or o + n
--   course            a list of n numbers, each made from those before it and its place
use Rattle.std.specs.Prelude.{suc, zero, ℕ, eqb, Bool, ◌||◌, false, List, [], ◌++◌, ◌∷◌}
use Rattle.table.specs.Pick.{pick}

abbrev pub member : ℕ → List ℕ → Bool
member i [] = false
member i (j ∷ s) = eqb i j || member i s

abbrev pub filter_from : (ℕ → Bool) → ℕ → ℕ → List ℕ
filter_from q o zero = []
filter_from q o (suc n) = pick (q o) (o ∷ filter_from q (suc o) n) (filter_from q (suc o) n)

abbrev pub filter_below : (ℕ → Bool) → ℕ → List ℕ
filter_below q n = filter_from q 0 n

abbrev pub with_row : ℕ → ℕ → List ℕ → List ℕ
with_row n c s = filter_below (λ j. eqb j c || member j s) n

abbrev pub first_from : (ℕ → Bool) → ℕ → ℕ → ℕ
first_from q o zero = o
first_from q o (suc n) = pick (q o) o (first_from q (suc o) n)

abbrev pub course : (List ℕ → ℕ → ℕ) → ℕ → List ℕ
course f zero = []
course f (suc n) = course f n ++ (f (course f n) n ∷ [])
