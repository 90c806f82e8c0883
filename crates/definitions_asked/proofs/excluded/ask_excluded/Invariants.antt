-- At the loop's head the pictures before picture k are asked.
use Prim.Native.Nat.{◌≤◌, ℕ}
use mathlib.Core.List.{List}
use mathlib.Core.Path.{◌≡◌}
use Rattle.table.specs.NameValues.{set_of}
use Rattle.fields.specs.Form.{listed}
use Rattle.definitions.specs.Asked.{question_of}
use Rattle.definitions.specs.Tbox.{defined_word}
use Rattle.definitions.specs.Unfolded.{excludes_none}
use Rattle.definitions_asked.specs.Lots.{Asks, picture_of}
use Rattle.definitions_asked.proofs.excluded.ask_excluded.Given as goal

abbrev pub invariant-loop-k : goal.invariant-loop-k
invariant-loop-k l =
    (l.k ≤ l.k-end)
    × ((tbox : List ℕ) → set_of l.defined ≡ defined_word tbox →
    Asks (question_of 27 (excludes_none tbox)) (listed (picture_of l.lot) l.k 0) l.initial.asked l.asked)
