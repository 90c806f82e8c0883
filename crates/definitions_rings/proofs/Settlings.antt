-- One round: of the defined names that have come, those whose uses are all in the set are found.
--   Settling         what is found, and what is left of the names
--   settling_start   before the first name
--   settling_next    one name more
--   settling_done    after the last it is the round's set
use Prim.Native.Nat.{ℕ}
use borrow.Author.Tests.{eqb-true}
use lib.Dec.{eqb, ltb}
use mathlib.Core.Bool.{Bool, ◌&&◌, ◌||◌, false, true}
use mathlib.Core.List.{List, [], ◌∷◌}
use mathlib.Core.Path.{◌∙◌, ◌≡◌, ap, refl, sym}
use Rattle.table.specs.Layout.{name_count}
use Rattle.table.specs.NameSet.{has, none, subset}
use Rattle.table.proofs.Bools.{by_test, or_none}
use Rattle.table.proofs.NameSets.{has_none}
use Rattle.table.proofs.SetsBelow.{word_is}
use Rattle.table.proofs.Tests.{and_none}
use Rattle.ale.specs.Rows.{member}
use Rattle.definition_parts.specs.Names.{names_of}
use Rattle.definition_parts.proofs.NameWalks.{Walk, names_member, walk_all, walk_next}
use Rattle.definitions_rings.specs.Rings.{settle_set}

and_assoc : (a b c : Bool) → ((a && b) && c) ≡ (a && (b && c))
and_assoc true b c = refl
and_assoc false b c = refl

-- a name moves from those that are left to those that are found
moved : (f s b : Bool) → ((f || (s && true)) || (b && s)) ≡ (f || s)
moved true s b = refl
moved false true b = refl
moved false false true = refl
moved false false false = refl

module _ (uses : ℕ → ℕ) (defined done : ℕ) where
  abbrev fits : ℕ → Bool
  fits m = subset (uses m) done

  pub record Settling (found : ℕ) (left : List ℕ) : Type 0 where
    pub walk : Walk defined left
    pub all : (m : ℕ) → (has found m || (member m left && fits m)) ≡ (ltb m name_count && (has defined m && fits m))

  pub settling_start : Settling none (names_of defined)
  settling_start = record {
    walk = walk_all defined;
    all = λ m. rw (has_none m, names_member defined m) (and_assoc (ltb m name_count) (has defined m) (fits m));
  }

  pub settling_next : (found more name : ℕ) (left next : List ℕ) → left ≡ name ∷ next → Settling found left →
      ((m : ℕ) → has more m ≡ (has found m || (fits name && eqb m name))) → Settling more next
  settling_next found more name left next is before adds = record {
    walk = walk_next defined name left next before.walk is;
    all = λ m.
        ap (λ (b : Bool). b || (member m next && fits m)) (adds m)
        ∙ step m
        ∙ ap (λ (s : List ℕ). has found m || (member m s && fits m)) (sym is)
        ∙ before.all m;
  }
    where
      step : (m : ℕ) → ((has found m || (fits name && eqb m name)) || (member m next && fits m))
          ≡ (has found m || ((eqb m name || member m next) && fits m))
      step m =
          by_test (eqb m name)
          (λ e. rw (e, sym (ap fits (eqb-true m name e))) (moved (has found m) (fits m) (member m next)))
          (λ e. rw (e, and_none (fits name), or_none (has found m)))

  pub settling_done : (found : ℕ) (left : List ℕ) → left ≡ [] → Settling found left →
      found ≡ settle_set uses defined done
  settling_done found left is s =
      word_is (λ m. has defined m && fits m) found name_count (λ m.
      sym (or_none (has found m))
      ∙ ap (λ (s : List ℕ). has found m || (member m s && fits m)) (sym is)
      ∙ s.all m)
