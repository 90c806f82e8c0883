-- 01, "Order: 1; first (or case); second, or 24 and the cards in turn; 14 for each in that order; then 15 or 16 to 23":
-- the questions of a call one after the other, all answered yes or the first that is answered no; what is answered
-- then, and what a buffer lent for writing holds.
--   Asked        nothing where all are answered yes, else the refusal of the first that is answered no
--   asked       a question by its test, and what it refuses
--   and_then     a question, and those after it
--   asked_from   one question of `more` things in turn, from number k on
--   room_asked   1: whether the buffers lent for writing are long enough
--   read_asked   2 to 13 of a picture
--   on_asked     what is answered where all is answered yes, else the refusal
--   kept        a buffer: its new contents where all is answered yes, else its old ones
use Rattle.std.specs.Prelude.{ℕ, zero, suc, ◌+◌, Bool, List, Err, Ok, Result}
use Rattle.table.specs.Pick.{pick}
use Rattle.table.specs.declared.layout.Limits.{Limits}
use Rattle.picture.specs.Read.{reading_of}
use Rattle.picture.specs.Refusal.{refusal_at, short_buffer}
use Rattle.picture.specs.declared.answer.Input.{Input}
use Rattle.picture.specs.declared.read.Failure.{Failure}
use Rattle.picture.specs.declared.answer.Refusal.{Refusal}

abbrev pub Asked : Type 0
Asked = Result (Unit {0}) Refusal

abbrev pub yes : Asked
yes = Ok tt

abbrev pub asked : Bool → Refusal → Asked
asked test r = pick test yes (Err r)

abbrev pub and_then : Asked → Asked → Asked
and_then (Ok _) next = next
and_then (Err r) next = Err r

unfoldable pub asked_from : (ℕ → Asked) → ℕ → ℕ → Asked
asked_from ask zero k = yes
asked_from ask (suc more) k = and_then (ask k) (asked_from ask more (k + 1))

abbrev pub room_asked : Bool → Asked
room_asked enough = asked enough short_buffer

abbrev pub reading_asked : Input → Result ℕ Failure → Asked
reading_asked input (Ok n) = yes
reading_asked input (Err at) = Err (refusal_at at.number input at.rows)

unfoldable pub read_asked : Limits → Input → List ℕ → Asked
read_asked limits input s = reading_asked input (reading_of limits s)

abbrev pub on_asked : {A : Type 0} → Asked → Result A Refusal → Result A Refusal
on_asked (Ok _) answer = answer
on_asked (Err r) answer = Err r

abbrev pub kept : Asked → List ℕ → List ℕ → List ℕ
kept (Ok _) new old = new
kept (Err r) new old = old
