-- "Checks, after all reading and before the first 14" (02, U3): what a call under a definitions book asks in all, up to
-- 14. The unfolded pictures are readable, so reading them refuses nothing: after what is asked before the first 14
-- comes 14 alone, of each of them.
--   one_order, pair_order       so of one picture; of two, with any buffers
--   OneNo, PairNo               the first no
--   one_decides, pair_decides   all yes exactly with room and of an acceptable picture or pair; the first no exactly
--                               that
--   one_refuses, pair_refuses   what every refusal has
use Prim.Native.Nat.{◌≤◌, ℕ}
use borrow.Author.Tests.{leb-true}
use lib.Dec.{leb}
use mathlib.Core.Bool.{Bool, true}
use mathlib.Core.List.{List}
use mathlib.Core.Logic.{◌⊎◌}
use mathlib.Core.Path.{◌∙◌, ◌≡◌, subst, sym}
use Rattle.table.specs.Bounds.{Bounded, picture_size}
use Rattle.table.specs.declared.layout.Limits.{Limits}
use Rattle.picture.proofs.Orders.{Decides, EveryRefusal, and_decides, and_refuses, read_decides, said_so, then_same}
use Rattle.picture.specs.Asked.{and_then, Asked, yes}
use Rattle.picture.specs.Readable.{Readable}
use Rattle.picture.specs.Refusal.{too_many}
use Rattle.picture.specs.declared.answer.Input.TheVariants.{First, Second}
use Rattle.picture.specs.declared.answer.Refusal.{Refusal}
use Rattle.meaning.specs.NormalTable.{merged_count}
use Rattle.normal.proofs.Answers.{TooMany, merged_decides, merged_refuses, one_read}
use Rattle.normal.specs.Call.{merged_asked, one_asked}
use Rattle.workspace.proofs.Pairs.{lent_pair}
use Rattle.workspace.specs.Lent.{lent_asked}
use Rattle.workspace.specs.Prepare.{pair_asked}
use Rattle.definitions.proofs.Unfolds.{unfolded_readable}
use Rattle.definitions.specs.Unfolded.{unfolded_file}
use Rattle.under.specs.Calls.{normalize_before}
use Rattle.under.specs.Given.{AcceptableUnder, lent_under, one, pair}
use Rattle.under.proofs.Calls.{normalize_all}
use Rattle.under.proofs.Givens.{LentNo, PreparedUnder, acceptable_prepared, lent_decides, lent_yes}

-- what comes after a yes
module _ (limits : Limits) (bounded : Bounded limits) (tbox : List ℕ) where
  -- ---- one picture

  module _ (picture : List ℕ) (room : ℕ) where
    abbrev s : List ℕ
    s = unfolded_file limits tbox picture

    abbrev enough : Bool
    enough = leb (picture_size limits) room

    abbrev OneReady : Type 0
    OneReady = (enough ≡ true) × PreparedUnder limits tbox (one picture)

    pub one_order : normalize_all limits tbox picture room
        ≡ and_then (normalize_before limits tbox picture room) (merged_asked limits First s)
    one_order =
        then_same (normalize_before limits tbox picture room) (one_asked limits s room) (merged_asked limits First s)
        (λ e.
        let (long, ok) = (lent_yes limits tbox (one picture) enough).0 e in
        one_read limits s room (leb-true (picture_size limits) room long) yes
        ((read_decides limits First s).yes.1
        (unfolded_readable limits bounded tbox ok.definable picture ok.readable.0 ok.unfolds.0)))

    abbrev pub OneNo : Refusal → Type 0
    OneNo r = LentNo limits tbox (one picture) enough r ⊎ (OneReady × TooMany limits First s r)

    pub one_decides : Decides (normalize_all limits tbox picture room)
        (OneReady × (merged_count limits s ≤ limits.rows)) OneNo
    one_decides =
        subst (λ a. Decides a (OneReady × (merged_count limits s ≤ limits.rows)) OneNo) (sym one_order)
        (and_decides (normalize_before limits tbox picture room) (merged_asked limits First s)
        (lent_decides limits tbox (one picture) enough) (λ ok. merged_decides limits First s))

    pub one_refuses : (P : Refusal → Type 0) → EveryRefusal P (normalize_before limits tbox picture room) →
        P (too_many First) → EveryRefusal P (normalize_all limits tbox picture room)
    one_refuses P early many =
        subst (EveryRefusal P) (sym one_order)
        (and_refuses P (normalize_before limits tbox picture room) (merged_asked limits First s) early
        (merged_refuses limits First s P many))

  -- ---- two pictures, and whether the buffers are long enough

  module _ (first second : List ℕ) (roomy : Bool) where
    abbrev p : List ℕ
    p = unfolded_file limits tbox first

    abbrev q : List ℕ
    q = unfolded_file limits tbox second

    abbrev before : Asked
    before = lent_under limits roomy tbox (pair first second)

    abbrev merged : Asked
    merged = and_then (merged_asked limits First p) (merged_asked limits Second q)

    pub pair_order : and_then before (lent_asked limits roomy p q) ≡ and_then before merged
    unfolding pair_asked
    pair_order =
        then_same before (lent_asked limits roomy p q) merged
        (λ e.
        let (long, ok) = (lent_yes limits tbox (pair first second) roomy).0 e in
        let readable = unfolded_readable limits bounded tbox ok.definable in
        lent_pair limits p q roomy long
        ∙ reads (readable first ok.readable.0 ok.unfolds.0)
        (readable second ok.readable.1.0 ok.unfolds.1.0))
      where
        reads : Readable limits p → Readable limits q → pair_asked limits p q ≡ merged
        reads r s = rw ((read_decides limits First p).yes.1 r, (read_decides limits Second q).yes.1 s)

    abbrev PairReady : Type 0
    PairReady = (roomy ≡ true) × PreparedUnder limits tbox (pair first second)

    abbrev pub PairNo : Refusal → Type 0
    PairNo r =
        LentNo limits tbox (pair first second) roomy r
        ⊎ (PairReady × (TooMany limits First p r
        ⊎ ((merged_count limits p ≤ limits.rows) × TooMany limits Second q r)))

    pub pair_decides : Decides (and_then before (lent_asked limits roomy p q))
        ((roomy ≡ true) × AcceptableUnder limits tbox first second) PairNo
    pair_decides =
        subst (λ a. Decides a ((roomy ≡ true) × AcceptableUnder limits tbox first second) PairNo) (sym pair_order)
        (said_so (and_then before merged)
        (and_decides before merged (lent_decides limits tbox (pair first second) roomy)
        (λ ok. and_decides (merged_asked limits First p) (merged_asked limits Second q) (merged_decides limits First p)
        (λ few. merged_decides limits Second q))) (
          λ ((long, ok), (few, few-second)). (
            long,
            record {
              definable = ok.definable;
              first_readable = ok.readable.0;
              second_readable = ok.readable.1.0;
              first_unfolds = ok.unfolds.0;
              second_unfolds = ok.unfolds.1.0;
              first_few = few;
              second_few = few-second;
            },
          ),
          λ (long, ok).
              ((long, acceptable_prepared limits tbox first second ok), (ok.first_few, ok.second_few)),
        )
        (λ r. (λ h. h, λ h. h)))

    pub pair_refuses : (P : Refusal → Type 0) → EveryRefusal P before → P (too_many First) → P (too_many Second) →
        EveryRefusal P (and_then before (lent_asked limits roomy p q))
    pair_refuses P early many many_second =
        subst (EveryRefusal P) (sym pair_order)
        (and_refuses P before merged early
        (and_refuses P (merged_asked limits First p) (merged_asked limits Second q)
        (merged_refuses limits First p P many) (merged_refuses limits Second q P many_second)))
