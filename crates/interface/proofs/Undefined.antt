-- The rows of an unfolded picture, as a file, mention no defined name; so no row of a normal table or of a common
-- picture that is made of unfolded pictures does (ale: `normal-named`, `product-named`, `encoded-named`).
--   plain_mentions      a file of rows whose labels have no defined name mentions none
--   tree_mentions       the file of a tree whose labels have none
--   rows_plain          what a row of an unfolded picture wants and what it excludes is not defined,
--   unfolded_wants, unfolded_excludes   so of every name that the file wants, or excludes
--   normal_mentions     the normal table of an unfolded picture
--   common_mentions     the common picture of two
use Prim.Native.Nat.{◌<◌, ◌≤◌, ℕ}
use mathlib.Core.Bool.{false}
use mathlib.Core.List.{List}
use mathlib.Core.Logic.{inl, inr}
use mathlib.Core.Path.{◌∙◌, ◌≡◌, ap, subst, sym}
use native.Mathlib.Omega.{arith}
use Rattle.table.proofs.Bools.{is_false, true_is}
use Rattle.table.proofs.Tests.{refuted}
use Rattle.table.proofs.Ranges.{at_some}
use Rattle.table.specs.Bounds.{Bounded}
use Rattle.table.specs.NameSet.{has}
use Rattle.table.specs.declared.layout.Limits.{Limits}
use Rattle.ale.proofs.CountermodelNames.{Named, WithinLabel, encoded_named, normal_named}
use Rattle.ale.proofs.ProductNames.{product_named}
use Rattle.ale.proofs.Tests.{chosen}
use Rattle.ale.specs.Encoding.{Row, encode}
use Rattle.ale.specs.PictureSignature.{picture_signature}
use Rattle.ale.specs.Tree.{Tree, size}
use Rattle.tbox.proofs.Coverings.{Undefined, unfolded_mentions_none}
use Rattle.tbox.proofs.UnfoldedTables.{unfolded_parents}
use Rattle.tbox.proofs.Unfoldings.{rows_for_length}
use Rattle.tbox.specs.Definitions.{Definitions}
use Rattle.tbox.specs.Unfold.{grown, unfold_rows}
use Rattle.picture.proofs.Readables.{readable_some}
use Rattle.picture.specs.Readable.{Readable}
use Rattle.meaning.proofs.EncodedFiles.{encoded_table}
use Rattle.meaning.proofs.FileTables.{file_table, parents_fit}
use Rattle.meaning.proofs.Normals.{normal_count}
use Rattle.meaning.specs.File.{file_of}
use Rattle.meaning.specs.Meaning.{picture_table}
use Rattle.meaning.specs.NormalTable.{merged_count, normal_file, normal_tree_of}
use Rattle.lcs.specs.Product.{lcs_count, lcs_file, lcs_tree}
use Rattle.subsumption.specs.Mentions.{Excludes, Wants}
use Rattle.definitions.proofs.Idle.{apart, word_set}
use Rattle.definitions.proofs.Unfolds.{book_sound, excludes_none_is, picture_unfoldable, unfolded_readable}
use Rattle.definitions.specs.Tbox.{defined_word, tbox_of}
use Rattle.definitions.specs.Unfolded.{Definable, Unfolds, any_defined, unfolded_file, wants_defined}
use Rattle.under.specs.Given.{AcceptableUnder}
use Rattle.interface.specs.Conditions.{MentionsNone}

module _ (tbox : List ℕ) where
  abbrev N : ℕ → Type 0
  N = Undefined picture_signature (tbox_of tbox)

  abbrev Plain : List ℕ → Type 0
  Plain t = (j : ℕ) → j < (picture_table t).rows → WithinLabel picture_signature N N ((picture_table t).label j)

  undefined : (n : ℕ) → N n → has (defined_word tbox) n ≡ false
  undefined n none =
      refuted (has (defined_word tbox) n)
      (λ h. none
      (true_is (picture_signature.has (tbox_of tbox).defined n) (ap (λ (w : ℕ). has w n) (word_set tbox) ∙ h)))

  pub plain_mentions : (t : List ℕ) → Plain t → MentionsNone tbox t
  plain_mentions t plain n (inl (i, l, h)) = undefined n ((plain i l).0 n (true_is _ h))
  plain_mentions t plain n (inr (i, l, h)) = undefined n ((plain i l).1 n (true_is _ h))

  pub tree_mentions : (limits : Limits) → Bounded limits → (t : Tree picture_signature) →
      Named picture_signature N N t → size picture_signature t ≤ limits.rows →
      MentionsNone tbox (file_of (encode picture_signature t))
  tree_mentions limits bounded t named few =
      let same = encoded_table t (omega (arith, few, bounded.0)) in
      plain_mentions (file_of (encode picture_signature t))
      (λ j l. subst (WithinLabel picture_signature N N) (sym (same.labels j l))
      (encoded_named picture_signature N N t named j (omega (arith, l, same.rows))))

module _ (limits : Limits) (bounded : Bounded limits) (tbox s : List ℕ) (ok : Definable limits tbox)
    (readable : Readable limits s) (unfolds : Unfolds limits tbox s) where
  abbrev D : Definitions picture_signature
  D = tbox_of tbox

  abbrev rows : List (Row picture_signature)
  rows = unfold_rows picture_signature D limits.rows (picture_table s)

  -- where a row wants a defined name
  written_plain : Plain tbox (file_of rows)
  written_plain j l =
      let sound = book_sound limits bounded tbox ok in
      let fine = picture_unfoldable limits bounded tbox ok s readable unfolds in
      let w = grown picture_signature D (picture_table s) limits.rows in
      let parents = unfolded_parents picture_signature D sound (picture_table s) fine.some fine.ordered
      limits.rows in
      let fit = parents_fit rows parents (omega (arith, fine.few, rows_for_length picture_signature D w, bounded.0)) in
      let same = file_table rows fit in
      subst (WithinLabel picture_signature (N tbox) (N tbox)) (sym (same.labels j l))
      (unfolded_mentions_none picture_signature D sound limits.rows (picture_table s) fine j
      (omega (arith, l, same.rows)))

  -- where none does
  own_plain : wants_defined tbox s ≡ false → Plain tbox s
  own_plain idle j l = (
    λ n h d. apart tbox ((picture_table s).label j).wanted none n h d,
    λ n h d. excludes_none_is tbox s unfolds.excluding j l n h d,
  )
    where
      none : any_defined tbox ((picture_table s).label j).wanted ≡ false
      none =
          refuted (any_defined tbox ((picture_table s).label j).wanted)
          (λ e.
          let some = at_some (λ j. any_defined tbox ((picture_table s).label j).wanted) (picture_table s).rows 0 j
          (omega arith) (omega (arith, l)) e in
          let z : ◌≡◌ {A = ℕ} 0 1 = cc in omega arith)

  pub rows_plain : Plain tbox (unfolded_file limits tbox s)
  unfolding unfolded_file
  rows_plain =
      chosen (Plain tbox) (wants_defined tbox s) (file_of rows) s (λ t. written_plain)
      (λ t. own_plain (is_false (wants_defined tbox s) t))

  pub unfolded_wants : (n : ℕ) → Wants (unfolded_file limits tbox s) n → has (defined_word tbox) n ≡ false
  unfolded_wants n w = plain_mentions tbox (unfolded_file limits tbox s) rows_plain n (inl w)

  pub unfolded_excludes : (n : ℕ) → Excludes (unfolded_file limits tbox s) n → has (defined_word tbox) n ≡ false
  unfolded_excludes n w = plain_mentions tbox (unfolded_file limits tbox s) rows_plain n (inr w)

  pub normal_plain : Named picture_signature (N tbox) (N tbox) (normal_tree_of limits (unfolded_file limits tbox s))
  unfolding normal_tree_of
  normal_plain =
      let u = unfolded_file limits tbox s in
      normal_named picture_signature (N tbox) (N tbox) (picture_table u) rows_plain
      (readable_some limits u (unfolded_readable limits bounded tbox ok s readable unfolds)) limits.depth

  pub normal_mentions : merged_count limits (unfolded_file limits tbox s) ≤ limits.rows →
      MentionsNone tbox (normal_file limits (unfolded_file limits tbox s))
  unfolding normal_file
  normal_mentions few =
      let u = unfolded_file limits tbox s in
      tree_mentions tbox limits bounded (normal_tree_of limits u) normal_plain (omega (arith, few, normal_count limits u))

pub common_mentions : (limits : Limits) → Bounded limits → (tbox first second : List ℕ) →
    AcceptableUnder limits tbox first second →
    lcs_count limits (unfolded_file limits tbox first) (unfolded_file limits tbox second) ≤ limits.rows →
    MentionsNone tbox (lcs_file limits (unfolded_file limits tbox first) (unfolded_file limits tbox second))
unfolding lcs_file lcs_count lcs_tree
common_mentions limits bounded tbox first second pair few =
    let p = unfolded_file limits tbox first in
    let q = unfolded_file limits tbox second in
    let plain = normal_plain limits bounded tbox in
    tree_mentions tbox limits bounded (lcs_tree limits p q)
    (product_named picture_signature (N tbox) (N tbox) (normal_tree_of limits p) (normal_tree_of limits q)
    (plain first pair.definable pair.first_readable pair.first_unfolds)
    (plain second pair.definable pair.second_readable pair.second_unfolds)) few
