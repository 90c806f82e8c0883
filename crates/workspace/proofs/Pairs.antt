-- Laws of the questions of every call on two pictures, at any limits.
--   PairNo                        the first no: 2 to 13 of the first; of the second; 14 of the first; of the second
--   pair_decides                  all are answered yes exactly of an acceptable pair, and the first no is exactly that
--   pair_refuses, lent_refuses    every refusal is 1 of the buffer, or 2 to 14 of the first or of the second
--   lent_decides                  the questions after 1
--   lent_short, lent_pair         1 is answered no; it is answered yes
use Prim.Native.Nat.{◌≤◌, ℕ}
use mathlib.Core.Bool.{Bool, false, true}
use mathlib.Core.List.{List}
use mathlib.Core.Logic.{◌⊎◌, inl}
use mathlib.Core.Path.{◌≡◌, refl}
use Rattle.std.proofs.Common.{Err}
use Rattle.table.specs.declared.layout.Limits.{Limits}
use Rattle.picture.proofs.Orders.{Decides, EveryRefusal, Unreadable, and_decides, and_refuses, asked_decides, asked_refuses, read_decides, read_refuses, said_so}
use Rattle.picture.specs.Asked.{and_then, read_asked, room_asked, Asked}
use Rattle.picture.specs.Readable.{Readable}
use Rattle.picture.specs.Refusal.{short_buffer}
use Rattle.picture.specs.declared.answer.Input.TheVariants.{First, Second}
use Rattle.picture.specs.declared.answer.Refusal.{Refusal}
use Rattle.meaning.specs.NormalTable.{merged_count}
use Rattle.normal.proofs.Answers.{OfPicture, TooMany, merged_decides, merged_refuses}
use Rattle.normal.specs.Call.{merged_asked}
use Rattle.workspace.specs.Lent.{lent_asked}
use Rattle.workspace.specs.Prepare.{Acceptable, pair_asked}

module _ (limits : Limits) (first second : List ℕ) where
  abbrev pub PairNo : Refusal → Type 0
  PairNo r =
      Unreadable limits First first r
      ⊎ (Readable limits first × (Unreadable limits Second second r
      ⊎ (Readable limits second × (TooMany limits First first r
      ⊎ ((merged_count limits first ≤ limits.rows) × TooMany limits Second second r)))))

  abbrev merged : Asked
  merged = and_then (merged_asked limits First first) (merged_asked limits Second second)

  pub pair_decides : Decides (pair_asked limits first second) (Acceptable limits first second) PairNo
  unfolding pair_asked
  pair_decides =
      let read = read_asked limits First first in
      let read-second = read_asked limits Second second in
      said_so (and_then read (and_then read-second merged))
      (and_decides read (and_then read-second merged) (read_decides limits First first)
      (λ r. and_decides read-second merged (read_decides limits Second second)
      (λ s. and_decides (merged_asked limits First first) (merged_asked limits Second second)
      (merged_decides limits First first)
      (λ few. merged_decides limits Second second)))) (
        λ (r, (s, (few, few-second))). record {
          first_readable = r;
          second_readable = s;
          first_few = few;
          second_few =
              few-second;
        },
        λ a. (a.first_readable, (a.second_readable, (a.first_few, a.second_few))),
      )
      (λ r. (λ h. h, λ h. h))

  module _ (enough : Bool) where
    pub lent_decides : Decides (lent_asked limits enough first second) ((enough ≡ true) × Acceptable limits first second)
        (λ r. ((enough ≡ false) × (r ≡ short_buffer)) ⊎ ((enough ≡ true) × PairNo r))
    unfolding lent_asked
    lent_decides = and_decides (room_asked enough) (pair_asked limits first second) (asked_decides enough short_buffer)
        (λ e. pair_decides)

    pub lent_short : enough ≡ false → lent_asked limits enough first second ≡ Err short_buffer
    lent_short e = (lent_decides.no short_buffer).1 (inl (e, refl))

    pub lent_pair : enough ≡ true → lent_asked limits enough first second ≡ pair_asked limits first second
    unfolding lent_asked
    lent_pair e = rw e

  -- the numbers are 2 to 14, of the first and of the second
  module _ (P : Refusal → Type 0) (of-first : OfPicture limits First first P)
      (of-second : OfPicture limits Second second P) where
    pub pair_refuses : EveryRefusal P (pair_asked limits first second)
    unfolding pair_asked
    pair_refuses =
        let read = read_asked limits First first in
        let read-second = read_asked limits Second second in
        and_refuses P read (and_then read-second merged)
        (read_refuses P limits First first of-first.reads)
        (and_refuses P read-second merged
        (read_refuses P limits Second second of-second.reads)
        (and_refuses P (merged_asked limits First first) (merged_asked limits Second second)
        (merged_refuses limits First first P of-first.merges)
        (merged_refuses limits Second second P of-second.merges)))

    pub lent_refuses : P short_buffer → (enough : Bool) → EveryRefusal P (lent_asked limits enough first second)
    unfolding lent_asked
    lent_refuses short enough =
        and_refuses P (room_asked enough) (pair_asked limits first second) (asked_refuses P enough short_buffer short)
        pair_refuses
