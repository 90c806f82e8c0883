-- Each name of an individual of the refutation that is written is one that the first picture wants or the second
-- excludes: so it is of the countermodel of the two normal trees (ale: `countermodel-named`, `normal-named`).
--   refutation_mentions   the refutation
--   evidence_mentions     the evidence, where the verdict is no
use Prim.Native.Nat.{◌<◌, ℕ}
use lib.ListN.{length}
use mathlib.Core.Bool.{false, true}
use mathlib.Core.List.{List}
use mathlib.Core.Logic.{◌⊎◌, inl, inr}
use mathlib.Core.Path.{◌∙◌, ◌≡◌, ap, sym}
use native.Mathlib.Omega.{arith}
use Rattle.ale.proofs.CountermodelNames.{Named, Whatever, countermodel_named, encoded_named, normal_named}
use Rattle.ale.specs.Countermodel.{countermodel}
use Rattle.ale.specs.Encoding.{encode}
use Rattle.ale.specs.PictureSignature.{picture_signature}
use Rattle.ale.specs.Tree.{Tree}
use Rattle.countermodel.proofs.Refutables.{refutation_file_count, written_names}
use Rattle.countermodel.specs.Individual.{individual_names}
use Rattle.countermodel.specs.Layout.{individual_count}
use Rattle.meaning.specs.Meaning.{label_at, picture_table}
use Rattle.meaning.specs.NormalTable.{normal_tree_of}
use Rattle.picture.proofs.Readables.{readable_some}
use Rattle.table.proofs.Bools.{is_true, true_is}
use Rattle.table.specs.NameSet.{has}
use Rattle.table.specs.declared.layout.Limits.{Limits}
use Rattle.workspace.specs.Prepare.{Acceptable}
use Rattle.subsumption.specs.Mentions.{Excludes, Wants}
use Rattle.subsumption.specs.Verdict.{evidence_of, refutation_of, verdict_of}

module _ (limits : Limits) (first second : List ℕ) (pair : Acceptable limits first second) where
  abbrev Either : ℕ → Type 0
  Either n = Wants first n ⊎ Excludes second n

  abbrev Any : ℕ → Type 0
  Any = Whatever picture_signature

  first_named : Named picture_signature Either Any (normal_tree_of limits first)
  unfolding normal_tree_of
  first_named =
      normal_named picture_signature Either Any (picture_table first)
      (λ i l. (λ n h. inl (i, l, is_true (has (label_at first i).wanted.set n) h), λ n h. tt))
      (readable_some limits first pair.first_readable) limits.depth

  second_named : Named picture_signature Any Either (normal_tree_of limits second)
  unfolding normal_tree_of
  second_named =
      normal_named picture_signature Any Either (picture_table second)
      (λ i l. (λ n h. tt, λ n h. inr (i, l, is_true (has (label_at second i).excluded.set n) h)))
      (readable_some limits second pair.second_readable) limits.depth

  abbrev b : Tree picture_signature
  b = countermodel picture_signature (normal_tree_of limits second) (normal_tree_of limits first)

  pub refutation_mentions : (k n : ℕ) → k < individual_count (refutation_of limits first second) →
      has (individual_names (refutation_of limits first second) k) n ≡ true → Wants first n ⊎ Excludes second n
  unfolding refutation_of
  refutation_mentions k n l h =
      let named = countermodel_named picture_signature Either (normal_tree_of limits second) (normal_tree_of limits first)
      second_named first_named in
      let inside : k < length (encode picture_signature b) = omega (arith, l, refutation_file_count b) in
      (encoded_named picture_signature Either Any b named k inside).0 n
      (true_is _ (ap (λ a. has a n) (sym (written_names b k inside)) ∙ h))

  pub evidence_mentions : verdict_of limits first second ≡ false → (k n : ℕ) →
      k < individual_count (evidence_of limits first second) →
      has (individual_names (evidence_of limits first second) k) n ≡ true → Wants first n ⊎ Excludes second n
  unfolding evidence_of
  evidence_mentions e = rw e refutation_mentions
