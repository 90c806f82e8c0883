-- 21, and with it what the links and the model check need; then 22 and 23, each the answer of the model check.
-- the ways back: from the answer to 21 to the entry, from that to 22 to that to 21, from that to 23 to that to 22
use mathlib.Core.Bool.{not, true}
use mathlib.Core.Path.{◌∙◌, ◌≡◌, ap, refl, sym}
use Rattle.std.proofs.Common.{Err}
use Rattle.table_rows.proofs.Stores.{blank}
use Rattle.picture.specs.Asked.{asked}
use Rattle.meaning.specs.Meaning.{picture_table}
use Rattle.countermodel.specs.Model.{row_tree}
use Rattle.evidence.specs.Check.{refutation_asked}
use Rattle.evidence.specs.Map.{refusal_by}
use Rattle.evidence_check.proofs.CheckLaws.{asks_first, asks_individuals, asks_second}
use Rattle.evidence_check.proofs.check.refutation_asked.Goals as goal

pub returns-then-not-individuals_ok : goal.returns-then-not-individuals_ok
returns-then-not-individuals_ok c =
    let a = c.args in
    let individuals = c.individuals_ok in
    ap Err c.refusal_by.ensures
    ∙ sym (asks_individuals a.first.now a.second.now a.e.now a.k individuals.result
    c.requires.1.1.counted individuals.ensures (c.if-not-individuals_ok.true))

pub fill_links-requires : goal.fill_links-requires
fill_links-requires c =
    let ok : c.individuals_ok.result ≡ true = c.if-not-individuals_ok.false in
    (c.requires.1.1, (sym c.individuals_ok.ensures ∙ ok, blank _ _ refl))

pub returns-then-not-fits_table : goal.returns-then-not-fits_table
returns-then-not-fits_table c =
    let ok : c.individuals_ok.result ≡ true = c.if-not-individuals_ok.false in
    let a = c.args in
    let individuals = c.individuals_ok in
    let first = c.fits_table in
    ap Err c.refusal_by-then-not-fits_table.ensures
    ∙ sym (asks_first a.first.now a.second.now a.e.now a.k individuals.result
    c.requires.1.1.counted individuals.ensures (ok) first.result first.ensures
    (c.if-not-fits_table.true))

pub returns-then-fits_table : goal.returns-then-fits_table
returns-then-fits_table c =
    let ok : c.individuals_ok.result ≡ true = c.if-not-individuals_ok.false in
    let second-asked : let a = c.args in refutation_asked (row_tree (picture_table a.first.now) 0) (row_tree (picture_table a.second.now) 0) a.e.now ≡ asked (not c.fits_table-2.result) (refusal_by 23) = let a = c.args in
    let individuals = c.individuals_ok in
    let first = c.fits_table in
    asks_second a.first.now a.second.now a.e.now a.k individuals.result
    c.requires.1.1.counted individuals.ensures (ok) first.result first.ensures
    (c.if-not-fits_table.false) c.fits_table-2.result c.fits_table-2.ensures in
    ap Err c.refusal_by-then-fits_table.ensures ∙ sym (second-asked ∙ rw c.if-fits_table.true)

pub returns : goal.returns
returns c =
    let ok : c.individuals_ok.result ≡ true = c.if-not-individuals_ok.false in
    let second-asked : let a = c.args in refutation_asked (row_tree (picture_table a.first.now) 0) (row_tree (picture_table a.second.now) 0) a.e.now ≡ asked (not c.fits_table-2.result) (refusal_by 23) = let a = c.args in
    let individuals = c.individuals_ok in
    let first = c.fits_table in
    asks_second a.first.now a.second.now a.e.now a.k individuals.result
    c.requires.1.1.counted individuals.ensures (ok) first.result first.ensures
    (c.if-not-fits_table.false) c.fits_table-2.result c.fits_table-2.ensures in
    sym (second-asked ∙ rw c.if-fits_table.false)
