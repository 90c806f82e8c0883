-- The rows before the field are at most the limit, so their number and the field's place fit two bytes each.
use Rattle.picture.proofs.answer.refuse_at.Goals as goal

pub returns : goal.returns
returns c = rw c.place-byte.ensures
