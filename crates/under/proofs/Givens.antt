-- What is asked of given pictures under a definitions book before the first 14.
--   PreparedUnder            a book and the given pictures of which all that is answered yes
--   ReadNo, UnderNo, LentNo  the first no: 2 to 13 of a given picture; else a question of the definitions book; with 1
--   reads_decides            2 to 13 of pictures in turn
--   under_decides, under_yes     all yes exactly of such a book and pictures, and the first no is exactly that; its
--                            first half
--   lent_decides, lent_yes   with 1; its first half
--   lent_short               1 is answered no
--   under_refuses, lent_refuses  what every refusal has
--   acceptable_prepared      two pictures as conditions 2 and 3 suppose them under a book are such,
--   acceptable_unfolded      and unfolded they are as the conditions suppose them without one
--   covers_same              covering of two such pictures under the book is that of the unfolded ones
use Prim.Native.Nat.{ℕ}
use mathlib.Core.Bool.{Bool, false, true}
use mathlib.Core.List.{List, [], ◌∷◌}
use mathlib.Core.Logic.{◌↔◌, ◌⊎◌, inl}
use mathlib.Core.Path.{◌≡◌, refl}
use Rattle.std.proofs.Common.{Err}
use Rattle.table.specs.Bounds.{Bounded}
use Rattle.table.specs.declared.layout.Limits.{Limits}
use Rattle.picture.proofs.Orders.{Decides, EveryRefusal, Unreadable, and_decides, and_refuses, asked_decides, asked_refuses, read_decides, read_refuses, said_so}
use Rattle.picture.specs.Asked.{and_then, room_asked, yes}
use Rattle.picture.specs.Readable.{FailsAt, Readable}
use Rattle.picture.specs.Refusal.{refusal_at, short_buffer}
use Rattle.picture.specs.declared.answer.Refusal.{Refusal}
use Rattle.meaning.specs.Covering.{Covers}
use Rattle.workspace.specs.Prepare.{Acceptable}
use Rattle.definitions.specs.Asked.{Picture, asked_of, definitions_asked, read_of}
use Rattle.definitions.specs.Covering.{CoversUnder}
use Rattle.definitions.specs.Unfolded.{Definable, Unfolds, unfolded_file}
use Rattle.definitions.proofs.Coverings.{under_unfolded}
use Rattle.definitions.proofs.Questions.{OfDefinitions, definitions_decides, definitions_refuses, of_decides, of_refuses}
use Rattle.definitions.specs.Refusals.{AllOf, DefinitionsNo, FirstOf}
use Rattle.definitions.proofs.Unfolds.{unfolded_readable}
use Rattle.under.specs.Given.{AcceptableUnder, lent_under, pair, under_asked}

pub record PreparedUnder (limits : Limits) (tbox : List ℕ) (given : List Picture) : Type 0 where
  pub definable : Definable limits tbox
  pub readable : AllOf (λ p. Readable limits p.file) given
  pub unfolds : AllOf (λ p. Unfolds limits tbox p.file) given

module _ (limits : Limits) where
  abbrev Reads : Picture → Type 0
  Reads p = Readable limits p.file

  -- the first of given pictures that is not readable is refused, or else a question of the definitions book
  abbrev pub ReadNo : List Picture → Refusal → Type 0
  ReadNo given r = FirstOf Reads (λ p. Unreadable limits p.input p.file r) given

  abbrev pub UnderNo : List ℕ → List Picture → Refusal → Type 0
  UnderNo tbox given r = ReadNo given r ⊎ (AllOf Reads given × DefinitionsNo limits tbox given r)

  -- with 1; the argument after the book and the pictures says whether the buffers are long enough
  abbrev pub LentNo : List ℕ → List Picture → Bool → Refusal → Type 0
  LentNo tbox given enough r = ((enough ≡ false) × (r ≡ short_buffer)) ⊎ ((enough ≡ true) × UnderNo tbox given r)

  pub reads_decides : (given : List Picture) →
      Decides (asked_of (read_of limits) given) (AllOf Reads given) (ReadNo given)
  reads_decides =
      of_decides (read_of limits) Reads (λ p. Unreadable limits p.input p.file)
      (λ p. read_decides limits p.input p.file)

  module _ (tbox : List ℕ) (given : List Picture) where
    pub under_decides : Decides (under_asked limits tbox given) (PreparedUnder limits tbox given) (UnderNo tbox given)
    unfolding under_asked
    under_decides =
        said_so (and_then (asked_of (read_of limits) given) (definitions_asked limits tbox given))
        (and_decides (asked_of (read_of limits) given) (definitions_asked limits tbox given) (reads_decides given)
        (λ r. definitions_decides limits tbox given)) (
          λ (r, (d, u)). record { definable = d; readable = r; unfolds = u },
          λ ok. (ok.readable, (ok.definable, ok.unfolds)),
        )
        (λ r. (λ h. h, λ h. h))

    pub under_yes : (under_asked limits tbox given ≡ yes) ↔ PreparedUnder limits tbox given
    under_yes = under_decides.yes

    pub lent_decides : (enough : Bool) → Decides (lent_under limits enough tbox given)
        ((enough ≡ true) × PreparedUnder limits tbox given) (LentNo tbox given enough)
    unfolding lent_under
    lent_decides enough =
        and_decides (room_asked enough) (under_asked limits tbox given) (asked_decides enough short_buffer)
        (λ e. under_decides)

    pub lent_yes : (enough : Bool) →
        (lent_under limits enough tbox given ≡ yes) ↔ ((enough ≡ true) × PreparedUnder limits tbox given)
    lent_yes enough = (lent_decides enough).yes

    pub lent_short : (enough : Bool) → enough ≡ false → lent_under limits enough tbox given ≡ Err short_buffer
    lent_short enough e = ((lent_decides enough).no short_buffer).1 (inl (e, refl))

    -- 1; 2 to 13 of the given pictures, and where; 25 to 30, and 2 to 13 of the definitions
    module _ (P : Refusal → Type 0)
        (of_given : AllOf (λ p. (q n : ℕ) → FailsAt limits p.file q n → P (refusal_at q p.input n)) given)
        (of-book : OfDefinitions limits tbox given P) where
      pub under_refuses : EveryRefusal P (under_asked limits tbox given)
      unfolding under_asked
      under_refuses =
          and_refuses P (asked_of (read_of limits) given) (definitions_asked limits tbox given)
          (of_refuses (read_of limits) P given (each given of_given)) (definitions_refuses limits tbox given P of-book)
        where
          each : (ps : List Picture) →
              AllOf (λ p. (q n : ℕ) → FailsAt limits p.file q n → P (refusal_at q p.input n)) ps →
              AllOf (λ p. EveryRefusal P (read_of limits p)) ps
          each [] h = tt
          each (p ∷ ps) h = (read_refuses P limits p.input p.file h.0, each ps h.1)

      pub lent_refuses : P short_buffer → (enough : Bool) → EveryRefusal P (lent_under limits enough tbox given)
      unfolding lent_under
      lent_refuses short enough =
          and_refuses P (room_asked enough) (under_asked limits tbox given) (asked_refuses P enough short_buffer short)
          under_refuses

  -- ---- two pictures

  module _ (tbox first second : List ℕ) where
    abbrev p : List ℕ
    p = unfolded_file limits tbox first

    abbrev q : List ℕ
    q = unfolded_file limits tbox second

    pub acceptable_prepared : AcceptableUnder limits tbox first second →
        PreparedUnder limits tbox (pair first second)
    acceptable_prepared ok = record {
      definable = ok.definable;
      readable = (ok.first_readable, (ok.second_readable, tt));
      unfolds = (ok.first_unfolds, (ok.second_unfolds, tt));
    }

    pub acceptable_unfolded : Bounded limits → AcceptableUnder limits tbox first second → Acceptable limits p q
    acceptable_unfolded bounded ok =
        let unfolds = unfolded_readable limits bounded tbox ok.definable in
        record {
          first_readable = unfolds first ok.first_readable ok.first_unfolds;
          second_readable = unfolds second ok.second_readable ok.second_unfolds;
          first_few = ok.first_few;
          second_few = ok.second_few;
        }

    pub covers_same : Bounded limits → PreparedUnder limits tbox (pair first second) →
        CoversUnder limits tbox second first ↔ Covers limits q p
    covers_same bounded ok =
        under_unfolded limits bounded tbox ok.definable first second ok.readable.0 ok.readable.1.0
        ok.unfolds.0 ok.unfolds.1.0
