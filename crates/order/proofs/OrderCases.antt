-- A worked case, computed: the numbers 1, 2, 2, 3, 6, 12, 4 by divisibility; number i covers number j if it divides it.
use Prim.Native.Nat.{ℕ, ◌%◌}
use lib.Dec.{eqb}
use lib.ListN.{get_or}
use mathlib.Core.Bool.{Bool, false, true}
use mathlib.Core.List.{List, [], ◌∷◌, map}
use mathlib.Core.Path.{◌≡◌, refl}
use Rattle.table.specs.Range.{some}
use Rattle.order.specs.Preorder.{minimal, is_passed_over}

abbrev divides : ℕ → ℕ → Bool
divides i j =
    let numbers : List ℕ = 1 ∷ 2 ∷ 2 ∷ 3 ∷ 6 ∷ 12 ∷ 4 ∷ [] in
    eqb (get_or numbers j 0 % get_or numbers i 1) 0

abbrev places : List ℕ
places = 0 ∷ 1 ∷ 2 ∷ 3 ∷ 4 ∷ 5 ∷ 6 ∷ []

-- of those that divide 2 (1, 2, 2) the two equal ones are minimal, and 1 is passed over
two_case : map (minimal divides 7 (λ k. divides k 1)) places
    ≡ false ∷ true ∷ true ∷ false ∷ false ∷ false ∷ false ∷ []
unfolding minimal is_passed_over some
two_case = refl

-- of those that divide 12 only 12 is
twelve_case : map (minimal divides 7 (λ k. divides k 5)) places
    ≡ false ∷ false ∷ false ∷ false ∷ false ∷ true ∷ false ∷ []
unfolding minimal is_passed_over some
twelve_case = refl
