-- Rows come up in number order, until none is left or there are too many. The laws of the loop.
--   Grows         the table has the rows after i of them have come up, or more than the limit
--   grows_start   the picture's own rows
--   grows_next    one row more has come up
--   grows_stop    more rows than the limit: they stay too many
--   grows_end     every row has come up: further ones would change nothing
use Prim.Native.Nat.{◌+◌, ◌-◌, ◌<◌, ◌≤◌, suc, zero, ℕ}
use borrow.Author.Tests.{ltb-false, ltb-true}
use lib.Dec.{ltb}
use lib.ListN.{length}
use mathlib.Core.List.{List}
use mathlib.Core.Path.{◌∙◌, ◌≡◌, ap, refl, subst, sym}
use native.Mathlib.Omega.{arith}
use Rattle.table.specs.declared.layout.Limits.{Limits}
use Rattle.table.proofs.Bools.{by_test}
use Rattle.ale.specs.PictureSignature.{picture_signature}
use Rattle.tbox.specs.Definitions.{Definitions}
use Rattle.tbox.specs.Unfold.{Origin, copies, grown, rows_for}
use Rattle.tbox.proofs.Origins.{copies_length}
use Rattle.tbox.proofs.UnfoldedTables.{grown_large, grown_more}
use Rattle.picture.specs.Readable.{Readable, row_count}
use Rattle.picture.proofs.Readables.{readable_impossible, readable_root}
use Rattle.meaning.specs.File.{rows_from}
use Rattle.meaning.specs.Meaning.{picture_table}
use Rattle.definition_parts.specs.Parts.{Agrees}
use Rattle.table_rows.specs.Rows.{prefix}
use Rattle.unfold_rows.specs.Copies.{Added, copy_bytes}
use Rattle.unfold_rows.specs.Growing.{Capped, Risen, Standing, Unfolded, mixed}
use Rattle.unfold_rows.proofs.Attaching.{readable_copies}
use Rattle.unfold_rows.proofs.Bridge.{Copyable}
use Rattle.unfold_rows.proofs.Mixed.{mixed_all, own_written}

-- own rows are copied to their own places
own_copies : (limits : Limits) (s : List ℕ) → Readable limits s → (j : ℕ) → j < row_count s → Copyable s (0 + j) (0 + j)
own_copies limits s readable zero l =
    record { kinds = sym (readable_root limits s readable); marks = readable_impossible limits s readable 0 l }
own_copies limits s readable (suc j) l =
    readable_copies limits s readable (0 + suc j) (0 + suc j) (λ z. omega arith) (λ z. omega arith) (omega arith)

-- a table that has at most as many rows as the limit has the rows of v
capped_stands : (D : Definitions picture_signature) (limit i rows : ℕ) (v : List (Origin picture_signature))
    (d : List ℕ) →
    Capped D limit i v rows d → rows ≤ limit → Standing D i v rows d
capped_stands D limit i rows v d c l =
    by_test (ltb limit (length v)) (λ t. absurd (omega (arith, c.many (ltb-true limit (length v) t))))
    (λ f. c.few (ltb-false limit (length v) f))

capped_large : (D : Definitions picture_signature) (limit i rows : ℕ) (v : List (Origin picture_signature)) (d : List ℕ) →
    Capped D limit i v rows d → limit < rows → limit < length v
capped_large D limit i rows v d c l =
    by_test (ltb limit (length v)) (λ t. ltb-true limit (length v) t)
    (λ f. let b = ltb-false limit (length v) f in absurd (omega (arith, (c.few b).count)))

module _ (picture tbox starts : List ℕ) (defined limit : ℕ) where
  abbrev pub Grows : ℕ → List ℕ → ℕ → Type 0
  Grows rows out i =
      (D : Definitions picture_signature) → Agrees D tbox starts defined →
      Capped D limit i (grown picture_signature D (picture_table picture) i) rows out

  pub grows_start : (limits : Limits) → Readable limits picture → (rows r : ℕ) (d e : List ℕ) →
      rows ≡ row_count picture →
      r ≡ rows → Added d e (copy_bytes picture (λ p. p) 0 rows) 0 rows → rows ≤ limit → Grows r e 0
  grows_start limits readable rows r d e count same added l D agrees =
      let own = copies_length picture_signature (picture_table picture) (λ i. i) 0 (row_count picture) in
      record {
        few = λ b. record {
          count = omega (arith, own);
          bytes =
              ap (λ n. prefix n e) same
              ∙ own_written D picture e rows d added
              (subst (λ n. (j : ℕ) → j < n → Copyable picture (0 + j) (0 + j)) (sym count)
              (own_copies limits picture readable)) refl
              ∙ ap (λ n. rows_from 0 (mixed D 0 (copies picture_signature (picture_table picture) (λ p. p) 0 n))) count;
        };
        many = λ b. absurd (omega (arith, own));
      }

  pub grows_next : (rows r i : ℕ) (d e : List ℕ) → Grows rows d i → rows ≤ limit →
      Risen tbox starts defined i limit rows d r e → Grows r e (i + 1)
  grows_next rows r i d e g l risen D agrees =
      let v = grown picture_signature D (picture_table picture) i in
      subst (λ n. Capped D limit n (grown picture_signature D (picture_table picture) n) r e)
      (let z : suc i ≡ i + 1 = omega arith in z)
      (risen.capped D (picture_table picture) v agrees (capped_stands D limit i rows v d (g D agrees) l))

  pub grows_stop : (rows i : ℕ) (out₀ out : List ℕ) → Grows rows out i → length out ≡ length out₀ → i ≤ limit →
      limit < rows → Unfolded picture tbox starts defined limit rows out₀ out
  grows_stop rows i out₀ out g same b l =
      let large : (D : Definitions picture_signature) → Agrees D tbox starts defined →
      limit < length (grown picture_signature D (picture_table picture) limit) =
      λ D agrees.
      subst (λ n. limit < length (grown picture_signature D (picture_table picture) n))
      (let z : limit - i + i ≡ limit = omega arith in z)
      (grown_large picture_signature D (picture_table picture) limit i
      (capped_large D limit i rows (grown picture_signature D (picture_table picture) i) out (g D agrees) l)
      (limit - i)) in
      record {
        same_length = same;
        few = λ D agrees few. absurd (omega (arith, large D agrees));
        many = λ D agrees many. l;
      }

  pub grows_end : (rows i : ℕ) (out₀ out : List ℕ) → Grows rows out i → length out ≡ length out₀ → i ≤ limit →
      rows ≤ i → Unfolded picture tbox starts defined limit rows out₀ out
  grows_end rows i out₀ out g same b l =
      let v : Definitions picture_signature → List (Origin picture_signature) =
      λ D. grown picture_signature D (picture_table picture) i in
      let stands : (D : Definitions picture_signature) → Agrees D tbox starts defined → Standing D i (v D) rows out =
      λ D agrees. capped_stands D limit i rows (v D) out (g D agrees) (omega arith) in
      let still : (D : Definitions picture_signature) → Agrees D tbox starts defined →
      v D ≡ grown picture_signature D (picture_table picture) limit =
      λ D agrees.
      sym (grown_more picture_signature D (picture_table picture) i (omega (arith, (stands D agrees).count)) (limit - i))
      ∙ ap (grown picture_signature D (picture_table picture)) (let z : limit - i + i ≡ limit = omega arith in z) in
      record {
        same_length = same;
        few = λ D agrees few. (
          (stands D agrees).count ∙ ap length (still D agrees),
          (stands D agrees).bytes
              ∙ ap (rows_from 0) (mixed_all D i (v D) (omega (arith, (stands D agrees).count))
              ∙ ap (rows_for picture_signature D) (still D agrees)),
        );
        many = λ D agrees many. absurd (let e = ap length (still D agrees) in omega (arith, (stands D agrees).count));
      }
