-- Laws of the second call at any limits: which answer is given for which picture and result buffer.
--   merged_decides, merged_many,
--   merged_refuses                   14 of a picture
--   OfPicture                        what every refusal of a picture has, by 2 to 13 and by 14
--   Accepted                         the buffer is long enough, the picture readable, and its merged rows are few
--   OneNo                            the first no: the buffer is short; else a question from 2 to 13; else 14
--   one_decides, one_refuses         the questions of the call: all yes exactly if accepted, the first no exactly that
--   one_long, one_read               a long buffer leaves 2 to 13, and 14; and the reading, 14
--   normal_by                        the answer and the result buffer, by what the questions answer
--   length_accepted                  a length is given only if accepted, and is that of the normal table,
--   answer_size                      so at most that of the longest picture
use Prim.Native.Nat.{◌<◌, ◌≤◌, ℕ}
use borrow.Author.Tests.{le-leb}
use lib.Dec.{leb}
use lib.ListN.{length}
use mathlib.Core.Bool.{false}
use mathlib.Core.List.{List}
use mathlib.Core.Logic.{◌⊎◌}
use mathlib.Core.Path.{◌∙◌, ◌≡◌, ap}
use Rattle.std.proofs.Common.{Err, Ok}
use Rattle.table.specs.Bounds.{picture_size}
use Rattle.table.specs.Put.{put}
use Rattle.table.specs.declared.layout.Limits.{Limits}
use Rattle.picture.proofs.Orders.{Decides, EveryRefusal, Unreadable, and_decides, and_refuses, asked_refuses, given, read_decides, read_refuses, said_so, test_decides}
use Rattle.picture.specs.Asked.{and_then, kept, on_asked, read_asked, room_asked, Asked}
use Rattle.picture.specs.Readable.{FailsAt, Readable}
use Rattle.picture.specs.Refusal.{refusal_at, short_buffer, too_many}
use Rattle.picture.specs.declared.answer.Input.{Input}
use Rattle.picture.specs.declared.answer.Input.TheVariants.{First}
use Rattle.picture.specs.declared.answer.Refusal.{Refusal}
use Rattle.meaning.proofs.Normals.{normal_size}
use Rattle.meaning.specs.NormalTable.{merged_count, normal_file}
use Rattle.normal.specs.Call.{merged_asked, normalize_answer, normalize_result, one_asked}

module _ (limits : Limits) (input : Input) (s : List ℕ) where
  abbrev pub TooMany : Refusal → Type 0
  TooMany r = (limits.rows < merged_count limits s) × (r ≡ too_many input)

  pub merged_decides : Decides (merged_asked limits input s) (merged_count limits s ≤ limits.rows) TooMany
  unfolding merged_asked
  merged_decides = test_decides (merged_count limits s) limits.rows (too_many input)

  -- by the test that is made
  pub merged_many : leb (merged_count limits s) limits.rows ≡ false → merged_asked limits input s ≡ Err (too_many input)
  unfolding merged_asked
  merged_many e = rw e

  pub merged_refuses : (P : Refusal → Type 0) → P (too_many input) → EveryRefusal P (merged_asked limits input s)
  unfolding merged_asked
  merged_refuses P h = asked_refuses P (leb (merged_count limits s) limits.rows) (too_many input) h

  -- what every refusal of a picture has: 2 to 13, at the field that fails, and 14
  pub record OfPicture (P : Refusal → Type 0) : Type 0 where
    pub reads : (q n : ℕ) → FailsAt limits s q n → P (refusal_at q input n)
    pub merges : P (too_many input)

module _ (limits : Limits) (s : List ℕ) (room : ℕ) where
  pub record Accepted : Type 0 where
    pub enough : picture_size limits ≤ room
    pub readable : Readable limits s
    pub few : merged_count limits s ≤ limits.rows

  abbrev pub OneNo : Refusal → Type 0
  OneNo r =
      ((room < picture_size limits) × (r ≡ short_buffer))
      ⊎ ((picture_size limits ≤ room) × (Unreadable limits First s r ⊎ (Readable limits s × TooMany limits First s r)))

  pub one_decides : Decides (one_asked limits s room) Accepted OneNo
  unfolding one_asked
  one_decides =
      let read = read_asked limits First s in
      let merged = merged_asked limits First s in
      let enough = room_asked (leb (picture_size limits) room) in
      said_so (and_then enough (and_then read merged))
      (and_decides enough (and_then read merged) (test_decides (picture_size limits) room short_buffer)
      (λ long. and_decides read merged (read_decides limits First s) (λ readable. merged_decides limits First s))) (
        λ (enough, (readable, few)). record { enough = enough; readable = readable; few = few },
        λ a. (a.enough, (a.readable, a.few)),
      )
      (λ r. (λ h. h, λ h. h))

  -- the numbers are 1, 2 to 13, 14
  pub one_refuses : (P : Refusal → Type 0) → P short_buffer → OfPicture limits First s P →
      EveryRefusal P (one_asked limits s room)
  unfolding one_asked
  one_refuses P short picture =
      and_refuses P (room_asked (leb (picture_size limits) room))
      (and_then (read_asked limits First s) (merged_asked limits First s))
      (asked_refuses P (leb (picture_size limits) room) short_buffer short)
      (and_refuses P (read_asked limits First s) (merged_asked limits First s)
      (read_refuses P limits First s picture.reads)
      (merged_refuses limits First s P picture.merges))

  pub one_long : picture_size limits ≤ room → one_asked limits s room ≡ and_then (read_asked limits First s)
      (merged_asked limits First s)
  unfolding one_asked
  one_long long = rw (le-leb (picture_size limits) room long)

  -- after the reading
  pub one_read : picture_size limits ≤ room → (a : Asked) → read_asked limits First s ≡ a → one_asked limits s room
      ≡ and_then a (merged_asked limits First s)
  one_read long a e = one_long long ∙ ap (λ q. and_then q (merged_asked limits First s)) e

  pub length_accepted : (n : ℕ) → normalize_answer limits s room ≡ Ok n → Accepted × (n ≡ length (normal_file limits s))
  unfolding normalize_answer
  length_accepted n h =
      let (all, is) = given (Ok (length (normal_file limits s))) n (one_asked limits s room) h in
      (one_decides.yes.0 all, cc)

  pub answer_size : (n : ℕ) → normalize_answer limits s room ≡ Ok n → n ≤ picture_size limits
  answer_size n h = let (a, is) = length_accepted n h in rw is (normal_size limits s a.few)

pub normal_by : (limits : Limits) (s out : List ℕ) (a : Asked) → one_asked limits s (length out) ≡ a →
    (on_asked a (Ok (length (normal_file limits s))) ≡ normalize_answer limits s (length out))
    × (kept a (put out 0 (normal_file limits s)) out ≡ normalize_result limits s out)
unfolding normalize_answer normalize_result
normal_by limits s out a e = (rw e, rw e)
