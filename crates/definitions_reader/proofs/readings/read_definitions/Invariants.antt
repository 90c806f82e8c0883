-- At the loop's head the definitions below k have passed.
use Rattle.picture.proofs.ReadInTurn.{ReadTo}
use Rattle.picture.specs.declared.answer.Input.TheVariants.{Definition}
use Rattle.definitions.specs.Form.{definition_count, definition_file}
use Rattle.definitions_reader.proofs.readings.read_definitions.Given as goal

abbrev pub invariant-loop-k : goal.invariant-loop-k
invariant-loop-k l = ReadTo l.limits Definition (definition_file l.tbox) (definition_count l.tbox) l.k
