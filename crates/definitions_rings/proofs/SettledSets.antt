-- Rounds over words: what they are, that none takes a name away, and that they stand still after one that adds none.
--   settle_has                     the names of `settleSet`
--   settled_none, settled_suc,
--   settled_more                   no round; one round more
--   settle_within, settled_within  more to lean on settles no less; so no round takes a name away
--   settled_still                  after a round that adds none, every number of rounds gives the same
--   round_more, round_last         so of what the code has
--   some_more                      a test over one number more
use Prim.Native.Nat.{◌+◌, ◌-◌, ◌≤◌, suc, zero, ℕ}
use native.Mathlib.Numerals.{add-one}
use native.Mathlib.Omega.{arith}
use lib.Dec.{ltb}
use mathlib.Core.Bool.{Bool, ◌&&◌, ◌||◌, false≢true, true}
use mathlib.Core.Path.{◌∙◌, ◌≡◌, ap, refl, sym}
use Rattle.table.specs.Layout.{name_count}
use Rattle.table.specs.NameSet.{has, none, subset}
use Rattle.table.specs.Range.{some}
use Rattle.table.proofs.Bools.{both, or_assoc, or_none}
use Rattle.table.proofs.NameSets.{has_none, has_subset, set_ext, subset_has}
use Rattle.table.proofs.SetsBelow.{has_set_below}
use Rattle.definition_parts.proofs.NameWalks.{same_test}
use Rattle.definitions_rings.specs.Rings.{settle_set, settled_set}

both_true : (a b : Bool) → a ≡ true → b ≡ true → (a && b) ≡ true
both_true a b p q = rw (p, q)

subset_same : (a b : ℕ) → subset a b ≡ true → subset b a ≡ true → a ≡ b
subset_same a b p q = set_ext a b (λ n. same_test (has a n) (has b n) (subset_has a b p n) (subset_has b a q n))

module _ (uses : ℕ → ℕ) (defined : ℕ) where
  abbrev settles : ℕ → ℕ → Bool
  settles done n = has defined n && subset (uses n) done

  pub settle_has : (done n : ℕ) →
      has (settle_set uses defined done) n ≡ (ltb n name_count && (has defined n && subset (uses n) done))
  settle_has done n = has_set_below (settles done) name_count n

  pub settled_none : settled_set uses defined 0 ≡ none
  unfolding settled_set
  settled_none = refl

  pub settled_suc : (k : ℕ) → settled_set uses defined (suc k) ≡ settle_set uses defined (settled_set uses defined k)
  unfolding settled_set
  settled_suc k = refl

  pub settled_more : (k : ℕ) → settled_set uses defined (k + 1) ≡ settle_set uses defined (settled_set uses defined k)
  settled_more k = rw add-one (settled_suc k)

  subset_on : (a b c : ℕ) → subset b c ≡ true → subset a b ≡ true → subset a c ≡ true
  subset_on a b c q p = has_subset a c (λ n h. subset_has b c q n (subset_has a b p n h))

  pub settle_within : (a b : ℕ) → subset a b ≡ true →
      subset (settle_set uses defined a) (settle_set uses defined b) ≡ true
  settle_within a b p =
      has_subset (settle_set uses defined a) (settle_set uses defined b) (λ n h.
      let (l, s) = both (ltb n name_count) (settles a n) (sym (settle_has a n) ∙ h) in
      let (d, u) = both (has defined n) (subset (uses n) a) s in
      settle_has b n
      ∙ both_true (ltb n name_count) (settles b n) l
      (both_true (has defined n) (subset (uses n) b) d (subset_on (uses n) a b p u)))

  pub settled_within : (k : ℕ) → subset (settled_set uses defined k) (settled_set uses defined (k + 1)) ≡ true
  settled_within zero =
      has_subset (settled_set uses defined 0) (settled_set uses defined 1) (λ n h.
      absurd (false≢true (sym (ap (λ (w : ℕ). has w n) settled_none ∙ has_none n) ∙ h)))
  settled_within (suc k) =
      let w = settled_set uses defined in
      let e : w (suc k) ≡ settle_set uses defined (w k) = settled_suc k in
      let f : w (suc k + 1) ≡ settle_set uses defined (w (suc k)) = settled_more (suc k) in
      let z : suc k ≡ k + 1 = omega arith in
      let p : subset (w k) (w (suc k)) ≡ true = ap (λ (i : ℕ). subset (w k) (w i)) z ∙ settled_within k in
      ap (λ (a : ℕ). subset (w (suc k)) a) f ∙ ap (λ (a : ℕ). subset a (settle_set uses defined (w (suc k)))) e
      ∙ settle_within (w k) (w (suc k)) p

  pub settled_still : (k : ℕ) → subset (settled_set uses defined (k + 1)) (settled_set uses defined k) ≡ true →
      (i : ℕ) → settled_set uses defined (i + k) ≡ settled_set uses defined k
  settled_still k s zero = ap (λ (i : ℕ). settled_set uses defined i) (omega arith)
  settled_still k s (suc i) =
      ap (λ (j : ℕ). settled_set uses defined j) (let z : suc i + k ≡ suc (i + k) = omega arith in z)
      ∙ settled_suc (i + k)
      ∙ ap (settle_set uses defined) (settled_still k s i)
      ∙ sym (settled_more k)
      ∙ subset_same (settled_set uses defined (k + 1)) (settled_set uses defined k) s (settled_within k)

  -- what the code's rounds give: one more, and after one that adds none the last
  pub round_more : (k done next : ℕ) → done ≡ settled_set uses defined k → next ≡ settle_set uses defined done →
      next ≡ settled_set uses defined (k + 1)
  round_more k done next e f = f ∙ ap (settle_set uses defined) e ∙ sym (settled_more k)

  pub round_last : (k done next last : ℕ) → done ≡ settled_set uses defined k → next ≡ settle_set uses defined done →
      subset next done ≡ true → k ≤ last → done ≡ settled_set uses defined last
  round_last k done next last e f s l =
      let t : subset (settled_set uses defined (k + 1)) (settled_set uses defined k) ≡ true =
      ap (λ (w : ℕ). subset w (settled_set uses defined k)) (sym (round_more k done next e f))
      ∙ ap (λ (w : ℕ). subset next w) (sym e)
      ∙ s in
      let z : last - k + k ≡ last = omega arith in
      e ∙ sym (settled_still k t (last - k)) ∙ ap (λ (n : ℕ). settled_set uses defined n) z

some_next : (f : ℕ → Bool) (n j : ℕ) → some f (suc n) j ≡ (some f n j || f (j + n))
unfolding some
some_next f zero j = or_none (f j) ∙ ap f (let e : j ≡ j + 0 = omega arith in e)
some_next f (suc n) j =
    ap (λ (b : Bool). f j || b) (some_next f n (j + 1))
    ∙ sym (or_assoc (f j) (some f n (j + 1)) (f (j + 1 + n)))
    ∙ ap (λ (k : ℕ). (f j || some f n (j + 1)) || f k) (let e : j + 1 + n ≡ j + suc n = omega arith in e)

pub some_more : (f : ℕ → Bool) (n j : ℕ) → some f (n + 1) j ≡ (some f n j || f (j + n))
some_more f n j = rw add-one (some_next f n j)
