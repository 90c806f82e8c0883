-- 28 over words is 28 of the theory: of any definitions that agree with what the code finds.
--   subset_each        a set is within another, name by name
--   settled_member     the words of the rounds are the theory's lists
--   rings_acyclic      all defined names are settled exactly if the theory's 28 says so
use Prim.Native.Nat.{◌<◌, suc, zero, ℕ}
use native.Mathlib.Omega.{arith}
use lib.Dec.{ltb}
use borrow.Author.Tests.{ltb-true}
use lib.ListN.{get_or}
use mathlib.Core.Bool.{Bool, ◌&&◌, ◌||◌, false, false≢true, not, true}
use mathlib.Core.List.{List}
use mathlib.Core.Path.{◌∙◌, ◌≡◌, ap, refl, sym}
use Rattle.table.specs.Layout.{name_count}
use Rattle.table.specs.NameSet.{has, subset}
use Rattle.table.specs.Range.{each}
use Rattle.table.specs.declared.names.Names.{Names}
use Rattle.table.proofs.Bools.{both, true_is}
use Rattle.table.proofs.NameSets.{has_below, has_none, has_subset, subset_has}
use Rattle.table.proofs.Ranges.{at_each, each_at}
use Rattle.table.proofs.Tests.{and_same}
use Rattle.ale.specs.PictureSignature.{below, picture_signature}
use Rattle.ale.specs.Rows.{member}
use Rattle.tbox.specs.Definitions.{Definitions, wants_in}
use Rattle.tbox.specs.Acyclic.{acyclic, settle, settled, uses}
use Rattle.meaning.specs.Meaning.{picture_table}
use Rattle.definition_parts.specs.Parts.{Agrees, part_at}
use Rattle.definition_parts.proofs.NameWalks.{member_filter, same_test}
use Rattle.definitions_rings.specs.Rings.{Uses, settle_set, settled_set, uses_at}
use Rattle.definitions_rings.proofs.SettledSets.{settle_has, settled_none, settled_suc}

implies : (a b : Bool) → (a ≡ true → b ≡ true) → (not a || b) ≡ true
implies true b f = f refl
implies false b f = refl

implied : (a b : Bool) → (not a || b) ≡ true → a ≡ true → b ≡ true
implied true b h e = h
implied false b h e = absurd (false≢true e)

pub subset_each : (a b : ℕ) (f g : ℕ → Bool) → ((m : ℕ) → f m ≡ true → m < name_count) →
    ((m : ℕ) → has a m ≡ f m) → ((m : ℕ) → has b m ≡ g m) → subset a b ≡ each (λ m. not (f m) || g m) name_count 0
subset_each a b f g low p q =
    same_test (subset a b) (each (λ m. not (f m) || g m) name_count 0)
    (λ s. at_each (λ m. not (f m) || g m) name_count 0 (λ m _ _.
    implies (f m) (g m) (λ e. sym (q m) ∙ subset_has a b s m (p m ∙ e))))
    (λ h. has_subset a b (λ m e.
    let t = sym (p m) ∙ e in
    let l = low m t in
    q m ∙ implied (f m) (g m) (each_at (λ m. not (f m) || g m) name_count 0 h m (omega arith) (omega arith)) t))

module _ (D : Definitions picture_signature) (tbox starts : List ℕ) (defined : ℕ) (agrees : Agrees D tbox starts defined)
    (sets : List Names) (found : Uses tbox starts defined sets) where
  abbrev words_at : ℕ → ℕ
  words_at k = settled_set (uses_at sets) defined k

  defined_same : (n : ℕ) → has defined n ≡ has D.defined.set n
  defined_same n = ap (λ (w : ℕ). has w n) (sym agrees.names)

  defined_below : (n : ℕ) → has D.defined.set n ≡ true → n < name_count
  defined_below n e = has_below D.defined.set n (below D.defined) e

  uses_same : (n : ℕ) → n < name_count → has defined n ≡ true →
      (m : ℕ) → has (uses_at sets n) m ≡ uses picture_signature D n m
  uses_same n l d m =
      found.right n l d m
      ∙ ap (λ (b : Bool). b && wants_in picture_signature (picture_table (part_at tbox (get_or starts n 0))) m)
      (defined_same m)
      ∙ ap (λ q. has D.defined.set m && wants_in picture_signature q m)
      (sym (agrees.pictures n (true_is (has D.defined.set n) (sym (defined_same n) ∙ d))))

  settles_same : (w : ℕ) (s : List ℕ) → ((m : ℕ) → has w m ≡ member m s) → (n : ℕ) →
      has (settle_set (uses_at sets) defined w) n ≡ member n (settle picture_signature D s)
  settles_same w s same n =
      let X : Bool = each (λ m. not (uses picture_signature D n m) || member m s) name_count 0 in
      let q : ℕ → Bool =
      λ n. has D.defined.set n && each (λ m. not (uses picture_signature D n m) || member m s) name_count 0 in
      settle_has (uses_at sets) defined w n
      ∙ and_same (ltb n name_count) (has defined n && subset (uses_at sets n) w) (q n) (λ l.
      and_same (has defined n) (subset (uses_at sets n) w) X (λ d.
      subset_each (uses_at sets n) w (uses picture_signature D n) (λ m. member m s)
      (λ m u. defined_below m (both (has D.defined.set m) (wants_in picture_signature (D.picture n) m) u).0)
      (uses_same n (ltb-true n name_count l) d) same)
      ∙ ap (λ (b : Bool). b && X) (defined_same n))
      ∙ sym (member_filter q name_count n)

  pub settled_member : (k n : ℕ) → has (words_at k) n ≡ member n (settled picture_signature D k)
  settled_member zero n = ap (λ (w : ℕ). has w n) (settled_none (uses_at sets) defined) ∙ has_none n
  settled_member (suc k) n =
      ap (λ (w : ℕ). has w n) (settled_suc (uses_at sets) defined k)
      ∙ settles_same (words_at k) (settled picture_signature D k) (settled_member k) n

  pub rings_acyclic : subset defined (words_at name_count) ≡ acyclic picture_signature D
  rings_acyclic =
      subset_each defined (words_at name_count) (λ n. has D.defined.set n)
      (λ n. member n (settled picture_signature D name_count)) defined_below defined_same (settled_member name_count)
