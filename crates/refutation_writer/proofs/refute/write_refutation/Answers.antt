-- The individuals of the countermodel of the two roots, from the first byte on, and the end field after them.
use Rattle.refutation_writer.specs.Refuting.{against_tree}
use Rattle.refutation_writer.proofs.RefutingTurns.{refutation_end, refutation_room}
use Rattle.refutation_writer.proofs.refute.write_refutation.Goals as goal

pub write_against-count-requires-clause-room : goal.write_against-count-requires-clause-room
write_against-count-requires-clause-room c =
    let a = c.args in refutation_room (against_tree a.first.now.bytes.now a.second.now.bytes.now a.depth 0 0) a.out.now c.requires.room

pub returns-clause-length : goal.returns-clause-length
returns-clause-length c =
    let a = c.args in
    (refutation_end (against_tree a.first.now.bytes.now a.second.now.bytes.now a.depth 0 0) a.out.now c.requires.room
    _ _ c.write_against-count.ensures _ _ c.individual_place-end.ensures c.write_end.ensures).0

pub returns-clause-bytes : goal.returns-clause-bytes
returns-clause-bytes c =
    let a = c.args in
    (refutation_end (against_tree a.first.now.bytes.now a.second.now.bytes.now a.depth 0 0) a.out.now c.requires.room
    _ _ c.write_against-count.ensures _ _ c.individual_place-end.ensures c.write_end.ensures).1
