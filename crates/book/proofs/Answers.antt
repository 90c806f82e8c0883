-- Laws of the sixth call at any limits: when its questions are answered yes.
--   ask_decides    with room and of an acceptable book, exactly; else 1, or the first no
use Prim.Native.Nat.{◌<◌, ◌≤◌, ℕ}
use lib.Dec.{leb}
use mathlib.Core.List.{List}
use mathlib.Core.Logic.{◌⊎◌}
use mathlib.Core.Path.{◌≡◌}
use Rattle.picture.proofs.Orders.{Decides, and_decides, test_decides}
use Rattle.picture.specs.Asked.{room_asked}
use Rattle.picture.specs.Refusal.{short_buffer}
use Rattle.table.specs.declared.layout.Limits.{Limits}
use Rattle.workspace.specs.Prepare.{work_size}
use Rattle.book.specs.Call.{AcceptableBook, book_asked, most_specific_asked}
use Rattle.book.specs.Refusals.{FirstNo}
use Rattle.book.proofs.Orders.{book_decides}

module _ (limits : Limits) (case book : List ℕ) (room : ℕ) where
  pub ask_decides : Decides (most_specific_asked limits case book room) ((work_size limits ≤ room)
      × AcceptableBook limits case book)
      (λ r. ((room < work_size limits) × (r ≡ short_buffer)) ⊎ ((work_size limits ≤ room) × FirstNo limits case book r))
  ask_decides =
      and_decides (room_asked (leb (work_size limits) room)) (book_asked limits case book)
      (test_decides (work_size limits) room short_buffer)
      (λ long. book_decides limits case book)
