-- The end field behind the unfolded rows.
--   filed         written where the rows are within the limit
--   filed_large   not written where they are too many
use Prim.Native.Nat.{◌<◌, ◌≤◌, ℕ}
use lib.ListN.{length, take}
use mathlib.Core.List.{List, ◌++◌}
use mathlib.Core.Path.{◌∙◌, ◌≡◌, ap}
use native.Mathlib.Omega.{arith}
use Rattle.table.specs.Fields.{end_bytes}
use Rattle.table.specs.Layout.{end_size, «place»}
use Rattle.table.specs.Put.{put}
use Rattle.table.proofs.Puts.{length_put}
use Rattle.table.proofs.Rows.{length_end_bytes}
use Rattle.table_rows.proofs.Prefixes.{take_before, take_put}
use Rattle.table_rows.specs.Rows.{prefix}
use Rattle.unfold_rows.specs.Growing.{Filed, Unfolded}

module _ (picture tbox starts : List ℕ) (defined limit r : ℕ) (d e : List ℕ)
    (unfolded : Unfolded picture tbox starts defined limit r d e) where
  pub filed : (f : List ℕ) → place r end_size ≤ length e → f ≡ put e (place r 0) end_bytes →
      Filed picture tbox starts defined limit r d f
  filed f room at = record {
    same_length =
        ap length at ∙ length_put e (place r 0) end_bytes (omega (arith, length_end_bytes)) ∙ unfolded.same_length;
    few = λ D agrees few.
        let (count, rows) = unfolded.few D agrees few in (
          count,
          ap (prefix r) at ∙ take_before e (place r 0) end_bytes (omega arith) ∙ rows,
          ap (take (place r end_size)) at
              ∙ take_put e (place r 0) end_bytes (place r end_size) (omega arith) (omega (arith, length_end_bytes))
              ∙ ap (λ z. z ++ end_bytes) rows,
        );
    many = unfolded.many;
  }

  pub filed_large : limit < r → Filed picture tbox starts defined limit r d e
  filed_large l = record {
    same_length = unfolded.same_length;
    few = λ D agrees few. absurd (omega (arith, (unfolded.few D agrees few).0));
    many = unfolded.many;
  }
