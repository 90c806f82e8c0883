-- Laws of the fifth call at any limits: when its questions are answered yes.
--   lent_decides   what is asked before the evidence: a work space that is long enough, and an acceptable pair
--   verify_yes     all is answered yes exactly then, of evidence that is a map or a refutation of the pair
use Prim.Native.Nat.{ℕ, ◌<◌, ◌≤◌}
use borrow.Author.Tests.{le-leb, leb-false, leb-true, lt-leb}
use lib.Dec.{leb}
use mathlib.Core.List.{List}
use mathlib.Core.Logic.{◌↔◌, ◌⊎◌, inl, inr, ⊎_elim}
use mathlib.Core.Path.{◌≡◌}
use Rattle.table.specs.Bounds.{Bounded}
use Rattle.table.specs.declared.layout.Limits.{Limits}
use Rattle.picture.proofs.Orders.{Decides, and_yes, said_so}
use Rattle.picture.specs.Refusal.{short_buffer}
use Rattle.workspace.proofs.Pairs.{PairNo}
use Rattle.workspace.proofs.Pairs as pairs
use Rattle.workspace.specs.Prepare.{Acceptable, work_size}
use Rattle.evidence.specs.Call.{evidence_asked, verify_asked, verify_lent}
use Rattle.evidence.specs.Taken.{MapOf, RefutationOf}
use Rattle.picture.specs.Asked.{yes}
use Rattle.evidence.proofs.Soundness.{evidence_taken}

module _ (limits : Limits) (first second : List ℕ) (room : ℕ) where
  pub lent_decides : Decides (verify_lent limits first second room)
      ((work_size limits ≤ room) × Acceptable limits first second)
      (λ r. ((room < work_size limits) × (r ≡ short_buffer)) ⊎ ((work_size limits ≤ room) × PairNo limits first second r))
  lent_decides =
      let n = work_size limits in
      said_so (verify_lent limits first second room) (pairs.lent_decides limits first second (leb n room))
      (λ (e, pair). (leb-true n room e, pair), λ (l, pair). (le-leb n room l, pair))
      (λ r. (
        ⊎_elim (λ (e, is). inl (leb-false n room e, is)) (λ (e, one). inr (leb-true n room e, one)),
        ⊎_elim (λ (l, is). inl (lt-leb n room l, is)) (λ (l, one). inr (le-leb n room l, one)),
      ))

-- 1 to 14 are answered yes: with room, and of an acceptable pair; 16 to 23: of a map or a refutation of it
module _ (limits : Limits) (first second e : List ℕ) (room : ℕ) (bounded : Bounded limits) where
  pub verify_yes : (verify_asked limits first second e room ≡ yes) ↔
      ((work_size limits ≤ room) × Acceptable limits first second
      × (MapOf limits first second e ⊎ RefutationOf limits first second e))
  verify_yes =
      let both = and_yes (verify_lent limits first second room) (evidence_asked limits first second e) in (
        λ all.
            let (lent, taken) = both.0 all in
            let (enough, pair) = (lent_decides limits first second room).yes.0 lent in
            (enough, pair, (evidence_taken limits first second e bounded pair).0 taken),
        λ (enough, pair, taken).
            both.1 (
              (lent_decides limits first second room).yes.1 (enough, pair),
              (evidence_taken limits first second e
                  bounded pair).1 taken,
            ),
      )
