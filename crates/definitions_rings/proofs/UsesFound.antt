-- The uses of the defined names, one by one.
--   Finding                      the array has those of each defined name that has come
--   finding_start, finding_next  before the first name; one name more
--   finding_done                 after the last it has all
use Prim.Native.Nat.{◌<◌, ◌≤◌, ℕ}
use lib.ListN.{get_or, length, length-set, set}
use lib.Seq.{get_or-set_other, get_or-set_same}
use mathlib.Core.Bool.{false≢true, true}
use mathlib.Core.List.{List}
use mathlib.Core.Path.{◌∙◌, ◌≡◌, ap, subst, sym}
use native.Mathlib.Decide.{dec_lt, ℕ_discrete}
use native.Mathlib.Omega.{arith}
use Rattle.table.specs.Layout.{name_count}
use Rattle.table.specs.NameSet.{has, none}
use Rattle.table.specs.NameValues.{set_of}
use Rattle.table.specs.declared.names.Names.{Names}
use Rattle.definition_parts.specs.Parts.{part_at}
use Rattle.definition_parts.proofs.NameSteps.{Walk, walk_between, walk_next, walk_start}
use Rattle.definition_parts.proofs.NameWalks.{Lowest, Struck}
use Rattle.definitions_rings.specs.Rings.{Uses, used_in, uses_at}

module _ (tbox starts : List ℕ) (defined : ℕ) where
  abbrev RightAt : List Names → ℕ → Type 0
  RightAt uses n = (m : ℕ) → has (uses_at uses n) m ≡ used_in (part_at tbox (get_or starts n 0)) defined m

  pub record Finding (uses : List Names) (left name : ℕ) : Type 0 where
    pub size : length uses ≡ name_count
    pub walk : Walk defined left name
    pub right : (n : ℕ) → n < name → has defined n ≡ true → RightAt uses n

  pub finding_start : (uses : List Names) (name : ℕ) → length uses ≡ name_count → Lowest defined name →
      Finding uses defined name
  finding_start uses name e l = record {
    size = e;
    walk = walk_start defined name l;
    right = λ n b d. absurd (false≢true (sym (l.1.0 n b) ∙ d));
  }

  pub finding_next : (uses : List Names) (left name next to : ℕ) (used : Names) →
      Finding uses left name → name < name_count →
      ((m : ℕ) → has (set_of used) m ≡ used_in (part_at tbox (get_or starts name 0)) defined m) →
      Struck left name next → Lowest next to → Finding (set uses name used) next to
  finding_next uses left name next to used f low u s l = record {
    size = length-set uses name used ∙ f.size;
    walk = walk_next defined left name next to f.walk low s l;
    right = λ n b d.
        elim (ℕ_discrete n name) [
          | yes e ↦ subst (RightAt (set uses name used)) (sym e) (λ m.
              ap (λ (v : Names). has (set_of v) m)
              (get_or-set_same uses name used (record { word = none }) (omega (arith, f.size)))
              ∙ u m)
          | no o ↦ λ m.
              ap (λ (v : Names). has (set_of v) m) (get_or-set_other uses name n used (record { word = none }) o)
              ∙ f.right n (earlier n b d o) d m
        ];
  }
    where
      -- a defined name before the next one, and another than this, has come before
      earlier : (n : ℕ) → n < to → has defined n ≡ true → (n ≡ name → ⊥) → n < name
      earlier n b d o =
          elim (dec_lt n name) [
            | yes h ↦ h
            | no h ↦ absurd (false≢true (
                sym (walk_between defined left name next to f.walk low s l n (omega arith) b) ∙ d))
          ]

  pub finding_done : (uses : List Names) (left name : ℕ) → Finding uses left name → name_count ≤ name →
      Uses tbox starts defined uses
  finding_done uses left name f past = record { right = λ n b d. f.right n (omega arith) d }
