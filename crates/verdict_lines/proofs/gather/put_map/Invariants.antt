-- At the loop's head the lines of the rows before this one stand in the buffer; there is room for all.
use Rattle.verdict_lines.specs.Gathering.{Added}
use Rattle.verdict_lines.specs.Lines.{map_lines}
use Rattle.verdict_lines.proofs.gather.put_map.Given as goal

abbrev pub invariant-loop-row : goal.invariant-loop-row
invariant-loop-row l = Added l.initial.out l.at (map_lines l.e l.row) l.end l.out
