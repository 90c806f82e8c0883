-- Rings, computed (28). Names 3, 4 and 5 are defined.
--   no_uses, chain_of_three       no ring: no definition uses another; 5 uses 4, which uses 3
--   ring_of_one, ring_of_two      a root wants its own name; two roots want each other's
--   ring_below                    a row below the root wants the name
--   ring_unused                   4 and 5 use each other, and 3, which nobody uses either, is in no ring
use mathlib.Core.Bool.{false, true}
use mathlib.Core.List.{[], ◌∷◌}
use mathlib.Core.Path.{◌≡◌, refl}
use Rattle.table.specs.NameSet.{has}
use Rattle.table.specs.Range.{each, some}
use Rattle.ale.specs.Tree.{exists}
use Rattle.ale.proofs.CasesTree.{Sig, five, none, three}
use Rattle.tbox.specs.Acyclic.{acyclic}
use Rattle.tbox.proofs.CasesBooks.{define, four, plain, root, row}

pub no_uses : acyclic Sig (define plain plain plain) ≡ true
unfolding each has some
no_uses = refl

pub chain_of_three : acyclic Sig (define plain (root three ∷ []) (root none ∷ row 0 exists 8 four ∷ [])) ≡ true
unfolding each has some
chain_of_three = refl

pub ring_of_one : acyclic Sig (define (root three ∷ []) plain plain) ≡ false
unfolding each has some
ring_of_one = refl

pub ring_of_two : acyclic Sig (define (root five ∷ []) plain (root three ∷ [])) ≡ false
unfolding each has some
ring_of_two = refl

pub ring_below : acyclic Sig (define (root none ∷ row 0 exists 8 three ∷ []) plain plain) ≡ false
unfolding each has some
ring_below = refl

pub ring_unused : acyclic Sig (define plain (root five ∷ []) (root four ∷ [])) ≡ false
unfolding each has some
ring_unused = refl
