-- Both tables get their links; what the search says is the verdict, and what it leaves behind is what the evidence is written from.
use mathlib.Core.Path.{refl}
use lib.ListN.{length}
use Rattle.table_rows.proofs.Stores.{blank}
use Rattle.subsumes.proofs.Decisions.{decided_no, decided_yes, map_fits, mapped}
use Rattle.subsumes.proofs.verdict.decide.Goals as goal

pub fill_links-requires : goal.fill_links-requires
fill_links-requires c = (c.requires.0, blank 512 512 refl)

pub fill_links-requires-2 : goal.fill_links-requires-2
fill_links-requires-2 c = (c.requires.1.0, blank 512 512 refl)

pub write_map-requires : goal.write_map-requires
write_map-requires c =
    let a = c.args in
    let settled = c.requires.1.1 in
    record {
      first = c.requires.0;
      second = c.requires.1.0;
      mapped = mapped a.first.now a.second.now a.depth c.maps.result c.maps.ensures.is (length a.out.now) _ settled c.maps.ensures.found c.if-maps.true;
      room = map_fits a.first.now a.second.now a.depth a.m (length a.out.now) c.requires.1.0 settled;
    }

pub returns-then-maps : goal.returns-then-maps
returns-then-maps c =
    let a = c.args in
    decided_yes a.first.now a.second.now a.depth c.maps.result c.maps.ensures.is c.write_map.result a.out.now c.write_map.new.out
    c.if-maps.true c.write_map.ensures.length c.write_map.ensures.bytes

pub write_refutation-requires : goal.write_refutation-requires
write_refutation-requires c = record { missed = c.maps.ensures.missed c.if-maps.false; room = c.requires.1.1.refutation_room }

pub returns : goal.returns
returns c =
    let a = c.args in
    decided_no a.first.now a.second.now a.depth c.maps.result c.maps.ensures.is c.write_refutation.result a.out.now c.write_refutation.new.out
    c.if-maps.false c.write_refutation.ensures.length c.write_refutation.ensures.bytes
