-- Where 14 is answered yes for all, the word is that of the most specific cards; else nothing is written.
use Prim.Native.Nat.{◌+◌}
use native.Mathlib.Omega.{arith}
use lib.ListN.{drop, length, take}
use lib.Seq.{length-take-le}
use mathlib.Core.List.{◌++◌}
use mathlib.Core.Path.{◌∙◌, ◌≡◌, ap, sym}
use Rattle.picture.proofs.Exits.{exits}
use Rattle.workspace.specs.Prepare.{work_size}
use Rattle.most_specific.specs.Asking.{after_definitions, word_under}
use Rattle.most_specific.proofs.Calls.{cleared_part, done, merged_accepted, merged_passed, merged_refused}
use Rattle.most_specific.proofs.Calls.{stopped}
use Rattle.most_specific.proofs.most_specific.select.Goals as goal

pub half_size-half-requires : goal.half_size-half-requires
half_size-half-requires c = c.requires.0.ready.bounded

pub specific_cards-requires : goal.specific_cards-requires
specific_cards-requires c =
    let lent : let size = c.half_size-half.result + c.half_size-half.result in length (take size c.args.work.now) ≡ size = length-take-le (c.half_size-half.result + c.half_size-half.result) c.args.work.now
    (omega (arith, c.half_size-half.ensures, c.requires.1)) in
    let a = c.args in
    let pre = c.requires.0 in
    record {
      ready = pre.ready;
      placed = pre.places_are;
      accepted =
          merged_accepted a.limits a.tbox.now a.case.now a.book.now a.cards pre
          c.ask_merged.result c.ask_merged.ensures c.in_ok-ask_merged.was;
      long = lent ∙ omega (arith, c.half_size-half.ensures);
    }

pub slice_bounds-specific_cards-end-2 : goal.slice_bounds-specific_cards-end-2
slice_bounds-specific_cards-end-2 c =
    let lent : let size = c.half_size-half.result + c.half_size-half.result in length (take size c.args.work.now) ≡ size = length-take-le (c.half_size-half.result + c.half_size-half.result) c.args.work.now
    (omega (arith, c.half_size-half.ensures, c.requires.1)) in
    sym (lent)

pub returns : goal.returns
returns c =
    let a = c.args in
    let half = c.half_size-half in
    let chosen = c.specific_cards in
    done a.limits (word_under a.limits a.tbox.now.bytes.now a.case.now a.book.now) a.work.now
    (after_definitions a.limits a.tbox.now.bytes.now a.case.now a.book.now)
    (merged_passed a.limits a.tbox.now a.case.now a.book.now a.cards
    c.requires.0 c.ask_merged.result c.ask_merged.ensures
    c.in_ok-ask_merged.was)
    chosen.result _ chosen.ensures.0
    (ap (λ l. l ++ drop (half.result + half.result) a.work.now) chosen.ensures.1
    ∙ cleared_part a.work.now (work_size a.limits) (half.result + half.result) (omega (arith, half.ensures)))

pub returns-in_err-ask_merged : goal.returns-in_err-ask_merged
returns-in_err-ask_merged c =
    let a = c.args in
    rw (exits c.from_residual.result _ c.from_residual.ensures.1)
    (stopped a.limits (word_under a.limits a.tbox.now.bytes.now a.case.now a.book.now) a.work.now
    (after_definitions a.limits a.tbox.now.bytes.now a.case.now a.book.now) _
    (merged_refused a.limits a.tbox.now a.case.now a.book.now a.cards
    c.requires.0 c.ask_merged.result c.ask_merged.ensures _
    c.in_err-ask_merged.was))
