-- When all questions of a call under a definitions book are answered yes.
--   one_yes      of the normal table: with room, of a picture that is readable, unfolds under a definable book, and has
--                few rows when unfolded and merged
--   pair_yes     1 to 14 of two pictures: with room, of an acceptable pair
--   lcs_yes      the same and 15: their product has few rows too
--   check_lent   1 to 14 of a check
--   verify_yes   the same and 16 to 23: the evidence is a map or a refutation of the unfolded pictures
use Prim.Native.Nat.{◌≤◌, ℕ}
use borrow.Author.Tests.{le-leb, leb-true}
use lib.Dec.{leb}
use mathlib.Core.List.{List}
use mathlib.Core.Logic.{◌↔◌, ◌⊎◌}
use mathlib.Core.Path.{◌≡◌}
use Rattle.table.specs.Bounds.{Bounded, picture_size}
use Rattle.table.specs.declared.layout.Limits.{Limits}
use Rattle.picture.proofs.Orders.{and_yes, test_decides}
use Rattle.meaning.specs.NormalTable.{merged_count}
use Rattle.workspace.proofs.Lendings.{room_both, room_yes}
use Rattle.workspace.specs.Lent.{roomy}
use Rattle.workspace.specs.Prepare.{work_size}
use Rattle.evidence.proofs.Soundness.{evidence_taken}
use Rattle.evidence.specs.Call.{evidence_asked}
use Rattle.evidence.specs.Taken.{MapOf, RefutationOf}
use Rattle.lcs.specs.Call.{large_asked, too_large}
use Rattle.lcs.specs.Product.{lcs_count}
use Rattle.definitions.specs.Unfolded.{unfolded_file}
use Rattle.under.specs.Given.{AcceptableUnder, one}
use Rattle.under.proofs.Calls.{lcs_all, normalize_all, pair_all, verify_all, verify_lent_all}
use Rattle.under.proofs.Givens.{PreparedUnder, acceptable_unfolded}
use Rattle.picture.specs.Asked.{yes}
use Rattle.under.proofs.Orders.{one_decides, pair_decides}

module _ (limits : Limits) (bounded : Bounded limits) (tbox : List ℕ) where
  pub one_yes : (picture : List ℕ) (room : ℕ) → (normalize_all limits tbox picture room ≡ yes)
      ↔ ((picture_size limits ≤ room) × PreparedUnder limits tbox (one picture)
      × (merged_count limits (unfolded_file limits tbox picture) ≤ limits.rows))
  one_yes picture room =
      let decides = (one_decides limits bounded tbox picture room).yes in (
        λ e. let ((long, ok), few) = decides.0 e in (leb-true (picture_size limits) room long, ok, few),
        λ (long, ok, few). decides.1 ((le-leb (picture_size limits) room long, ok), few),
      )

  module _ (first second : List ℕ) where
    abbrev p : List ℕ
    p = unfolded_file limits tbox first

    abbrev q : List ℕ
    q = unfolded_file limits tbox second

    abbrev Accepted : Type 0
    Accepted = AcceptableUnder limits tbox first second

    pub pair_yes : (size work result : ℕ) → (pair_all limits tbox first second size work result ≡ yes)
        ↔ ((work_size limits ≤ work) × (size ≤ result) × Accepted)
    pair_yes size work result =
        let decides = (pair_decides limits bounded tbox first second (roomy limits size work result)).yes in (
          λ e.
              let (room, ok) = decides.0 e in
              let (enough, long) = room_both limits size work result room in
              (enough, long, ok),
          λ (enough, long, ok). decides.1 (room_yes limits size work result enough long, ok),
        )

    pub lcs_yes : (work result : ℕ) → (lcs_all limits tbox first second work result ≡ yes)
        ↔ ((work_size limits ≤ work) × (picture_size limits ≤ result) × Accepted × (lcs_count limits p q ≤ limits.rows))
    lcs_yes work result =
        let size = picture_size limits in
        let both = and_yes (pair_all limits tbox first second size work result) (large_asked limits p q) in
        let lent = pair_yes size work result in
        let large = (test_decides (lcs_count limits p q) limits.rows too_large).yes in (
          λ e. let (a, b) = both.0 e in let (enough, long, ok) = lent.0 a in (enough, long, ok, large.0 b),
          λ (enough, long, ok, few). both.1 (lent.1 (enough, long, ok), large.1 few),
        )

    pub check_lent : (room : ℕ) → (verify_lent_all limits tbox first second room ≡ yes)
        ↔ ((work_size limits ≤ room) × Accepted)
    check_lent room =
        let decides = (pair_decides limits bounded tbox first second (leb (work_size limits) room)).yes in (
          λ e. let (enough, ok) = decides.0 e in (leb-true (work_size limits) room enough, ok),
          λ (enough, ok). decides.1 (le-leb (work_size limits) room enough, ok),
        )

    pub verify_yes : (evidence : List ℕ) (room : ℕ) → (verify_all limits tbox first second evidence room ≡ yes)
        ↔ ((work_size limits ≤ room) × Accepted × (MapOf limits p q evidence ⊎ RefutationOf limits p q evidence))
    verify_yes evidence room =
        let both = and_yes (verify_lent_all limits tbox first second room) (evidence_asked limits p q evidence) in
        let lent = check_lent room in (
          λ e. let (a, b) = both.0 e in let (enough, ok) = lent.0 a in (enough, ok, (taken ok).0 b),
          λ (enough, ok, is). both.1 (lent.1 (enough, ok), (taken ok).1 is),
        )
      where
        taken : (ok : Accepted) →
            (evidence_asked limits p q evidence ≡ yes) ↔ (MapOf limits p q evidence ⊎ RefutationOf limits p q evidence)
        taken ok =
            evidence_taken limits p q evidence bounded (acceptable_unfolded limits tbox first second bounded ok)
