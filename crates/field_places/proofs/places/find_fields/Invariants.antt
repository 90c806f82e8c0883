-- Each whole field with the tag is counted, and the place after it kept; the first other one, or the most there may be,
-- ends the count.
use Rattle.field_places.specs.Places.{tag_of}
use Rattle.field_places.proofs.KeptPlaces.{Scanned}
use Rattle.field_places.proofs.places.find_fields.Given as goal

abbrev pub invariant-loop-k : goal.invariant-loop-k
invariant-loop-k l = Scanned (tag_of l.kind) l.file l.places l.k l.at
