use Prim.Native.Nat.{ℕ}
use native.Mathlib.Omega.{arith}
use borrow.Author.Tests.{leb-true}
use lib.Dec.{leb}
use mathlib.Core.List.{List}
use mathlib.Core.Path.{◌∙◌, ◌≡◌, ap, subst, sym}
use Rattle.table.specs.NameValues.{set_of}
use Rattle.meaning.specs.NormalTable.{merged_count}
use Rattle.normal.proofs.Answers.{merged_decides, merged_many}
use Rattle.picture.proofs.Orders.{to_no, to_yes, yes_on}
use Rattle.picture.specs.Refusal.{too_many}
use Rattle.picture.specs.declared.answer.Input.TheVariants.{Card}
use Rattle.book.specs.Form.{card}
use Rattle.definitions.specs.Unfolded.{unfolded_file}
use Rattle.under.specs.Asked.{card_few}
use Rattle.unfold_tables.specs.Ready.{Unfolding}
use Rattle.book_tables.proofs.merged.ask_cards.Goals as goal

pub loop-k-init : goal.loop-k-init
loop-k-init c = λ j l. absurd (omega arith)

pub card-requires : goal.card-requires
card-requires c = (c.requires.places_are, omega arith)

pub is_unfolded_within-requires : goal.is_unfolded_within-requires
is_unfolded_within-requires c =
    let a = c.args in
    subst (λ s. Unfolding a.limits a.tbox.now.bytes.now a.tbox.now.starts.now (set_of a.tbox.now.defined) s)
    (sym c.card.ensures)
    (c.requires.each c.loop-k.k (omega arith))

pub overflow_cast-k : goal.overflow_cast-k
overflow_cast-k c =
    let most = c.requires.places_are.located.most in
    omega (arith, most)

pub returns-then-not-is_unfolded_within : goal.returns-then-not-is_unfolded_within
returns-then-not-is_unfolded_within c =
    let asked_of : List ℕ = let a = c.args in unfolded_file a.limits a.tbox.now.bytes.now (card a.book.now c.loop-k.k) in
    let says : let a = c.args in c.is_unfolded_within.result ≡ leb (merged_count a.limits (asked_of)) a.limits.rows = let a = c.args in
    c.is_unfolded_within.ensures
    ∙ ap (λ (s : List _). leb (merged_count a.limits (unfolded_file a.limits a.tbox.now.bytes.now s)) a.limits.rows)
    c.card.ensures in
    let a = c.args in
    let k = c.loop-k.k in
    let no = merged_many a.limits (Card k) (asked_of)
    (sym (says) ∙ c.if-not-is_unfolded_within.true) in
    rw c.too_many.ensures
    (sym (to_no (card_few a.limits a.tbox.now.bytes.now a.book.now) a.cards.count k (too_many (Card k))
    (omega arith) no c.loop-k.invariant))

pub loop-k-preserved : goal.loop-k-preserved
loop-k-preserved c =
    let asked_of : List ℕ = let a = c.args in unfolded_file a.limits a.tbox.now.bytes.now (card a.book.now c.loop-k.k) in
    let says : let a = c.args in c.is_unfolded_within.result ≡ leb (merged_count a.limits (asked_of)) a.limits.rows = let a = c.args in
    c.is_unfolded_within.ensures
    ∙ ap (λ (s : List _). leb (merged_count a.limits (unfolded_file a.limits a.tbox.now.bytes.now s)) a.limits.rows)
    c.card.ensures in
    let a = c.args in
    let k = c.loop-k.k in
    let few = leb-true (merged_count a.limits (asked_of)) a.limits.rows
    (sym (says) ∙ c.if-not-is_unfolded_within.false) in
    yes_on (card_few a.limits a.tbox.now.bytes.now a.book.now) k
    ((merged_decides a.limits (Card k) (asked_of)).yes.1 few) c.loop-k.invariant

pub returns : goal.returns
returns c =
    let a = c.args in
    let loop = c.loop-k in
    sym (to_yes (card_few a.limits a.tbox.now.bytes.now a.book.now) a.cards.count loop.k
    c.loop-k-test.false loop.invariant)
