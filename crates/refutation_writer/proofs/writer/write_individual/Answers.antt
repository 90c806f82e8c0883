-- The head and the names are put one after the other, which is putting the individual: `put-individual`.
use Rattle.table.specs.NameValues.{set_of}
use Rattle.refutation_writer.proofs.Writings.{put_individual}
use Rattle.refutation_writer.proofs.writer.write_individual.Goals as goal

pub returns : goal.returns
returns c =
    let a = c.args in
    let p = c.copy_in in
    let q = c.store in
    let i = c.individual_place in
    let j = c.individual_place-2 in
    put_individual a.out.now p.new.dst q.new.out a.k a.parent a.role (set_of a.names) i.result j.result
    i.ensures j.ensures p.ensures q.ensures c.requires.1
