-- 14 of the unfolded case decides; else the cards do.
use Prim.Native.Nat.{ℕ}
use native.Mathlib.Omega.{arith}
use borrow.Author.Tests.{leb-true}
use mathlib.Core.List.{List}
use mathlib.Core.Path.{◌∙◌, refl, sym}
use Rattle.meaning.specs.NormalTable.{merged_count}
use Rattle.normal.proofs.Answers.{merged_decides, merged_many}
use Rattle.picture.specs.declared.answer.Input.TheVariants.{First}
use Rattle.definitions.specs.Unfolded.{unfolded_file}
use Rattle.book_tables.proofs.CardTables.{card_unfolding}
use Rattle.book_tables.proofs.merged.ask_merged.Goals as goal

pub is_unfolded_within-requires : goal.is_unfolded_within-requires
is_unfolded_within-requires c =
    let pre = c.requires in
    record {
      ready = pre.ready;
      readable = pre.prepared.case_readable;
      unfolds = pre.prepared.case_unfolds;
    }

pub returns-then-not-is_unfolded_within : goal.returns-then-not-is_unfolded_within
returns-then-not-is_unfolded_within c =
    let asked_of : List ℕ = let a = c.args in unfolded_file a.limits a.tbox.now.bytes.now a.case.now in
    let many = sym c.is_unfolded_within.ensures ∙ c.if-not-is_unfolded_within.true in
    sym (rw (merged_many c.args.limits First (asked_of) many, c.too_many.ensures))

pub ask_cards-requires : goal.ask_cards-requires
ask_cards-requires c =
    let pre = c.requires in
    record {
      places_are = pre.places_are;
      each = λ k l.
          card_unfolding pre.ready pre.prepared k (omega (arith, l, pre.places_are.counted)) refl;
    }

pub returns : goal.returns
returns c =
    let asked_of : List ℕ = let a = c.args in unfolded_file a.limits a.tbox.now.bytes.now a.case.now in
    let limits = c.args.limits in
    let few = leb-true (merged_count limits (asked_of)) limits.rows
    (sym c.is_unfolded_within.ensures ∙ c.if-not-is_unfolded_within.false) in
    rw ((merged_decides limits First (asked_of)).yes.1 few) c.ask_cards.ensures
