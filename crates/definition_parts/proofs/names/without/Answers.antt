-- An intersection with the complement of the set of one name.
use Rattle.table.specs.NameValues.{set_of}
use Rattle.definition_parts.proofs.NameWalks.{struck_has}
use Rattle.definition_parts.proofs.names.without.Goals as goal

pub returns : goal.returns
returns c =
    rw (c.intersection.ensures, c.complement.ensures, c.only-one.ensures)
    (struck_has (set_of c.args.set) c.args.name c.requires)
