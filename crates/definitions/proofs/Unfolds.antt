-- An unfolded picture is a picture: it can be read, and its tree is that of the theory's unfolded table. So everything
-- that is known of pictures is known of it.
--   defined_place       a defined name has a definition
--   excludes_none_is       27, as the theory says it
--   table_some          a readable picture has a row
--   picture_tree_is        its tree, down to the limit, is whole
--   asked_sound         once 2 to 13 and 27 are answered yes, the definitions of a book are such as the theory asks for
--   book_sound          so they are once all is answered yes
--   picture_unfoldable  and so is a picture that is answered yes
--   unfolded_readable   the unfolded picture can be read
--   unfolded_tree_is       its tree, down to the limit, is that of the unfolded table
use Prim.Native.Nat.{◌<◌, ◌≤◌, suc, ℕ}
use borrow.Author.Tests.{leb-true, not-true}
use lib.Dec.{T, eqb, leb, ltb}
use lib.ListN.{length}
use mathlib.Core.Bool.{false, not, true}
use mathlib.Core.List.{List}
use mathlib.Core.Path.{◌∙◌, ◌≡◌, ap, sym}
use native.Mathlib.Omega.{arith}
use Rattle.std.proofs.Common.{Ok}
use Rattle.table.proofs.Bools.{both, is_false, is_true, true_is}
use Rattle.table.proofs.Ranges.{each_at, some_at}
use Rattle.table.proofs.SetsBelow.{has_set_below}
use Rattle.table.specs.Bounds.{Bounded}
use Rattle.table.specs.Fields.{parent_of}
use Rattle.table.specs.Layout.{name_count}
use Rattle.table.specs.NameSet as Set
use Rattle.table.specs.declared.layout.Limits.{Limits}
use Rattle.ale.proofs.Depths.{ranked_by_depth}
use Rattle.ale.proofs.LowestMap.{first_from_passes}
use Rattle.ale.proofs.Tests.{chosen}
use Rattle.ale.proofs.WholeTrees.{whole_tree_is}
use Rattle.ale.specs.Encoding.{Row, table_of}
use Rattle.ale.specs.PictureSignature.{picture_signature}
use Rattle.ale.specs.Table.{KnownRoles, ParentsFirst, Table}
use Rattle.tbox.proofs.Coverings.{Unfoldable, unfolded_some}
use Rattle.tbox.proofs.Origins.{Sound}
use Rattle.tbox.proofs.UnfoldedTables.{unfolded_known, unfolded_own, unfolded_parents}
use Rattle.tbox.proofs.Unfoldings.{rows_for_length}
use Rattle.tbox.specs.Theory.{ExcludesNone, whole_tree}
use Rattle.tbox.specs.Definitions.{Definitions}
use Rattle.tbox.specs.Unfold.{grown, unfold_rows}
use Rattle.picture.proofs.Depths.{depth_under}
use Rattle.picture.proofs.Readables.{readable_root_parent, readable_root_role, readable_some}
use Rattle.picture.specs.Depth.{depth}
use Rattle.picture.specs.Read.{reading_of}
use Rattle.picture.specs.Readable.{Readable}
use Rattle.meaning.proofs.FileReadings.{Writable, file_readable}
use Rattle.meaning.proofs.FileTables.{file_tree, parents_fit}
use Rattle.meaning.proofs.Pictures.{picture_known, picture_parents, picture_ranked}
use Rattle.meaning.specs.File.{file_of}
use Rattle.meaning.specs.Meaning.{picture_table, picture_tree}
use Rattle.definitions.specs.Form.{definition_count, definition_file, name_of}
use Rattle.definitions.specs.Tbox.{defined_word, defines, place_of, tbox_of}
use Rattle.definitions.specs.Unfolded.{Definable, Unfolds, any_defined, excludes_none, unfolded_count, unfolded_few}
use Rattle.definitions.specs.Unfolded.{unfolded_file, unfolded_shallow, unfolded_table, wants_defined}
use Rattle.definitions.proofs.Idle.{apart, rows_own, tree_own, word_set}

module _ (book : List ℕ) where
  pub defined_place : (n : ℕ) → T (picture_signature.has (tbox_of book).defined n) →
      place_of book n < definition_count book
  unfolding defined_word
  defined_place n t =
      let h : Set.has (defined_word book) n ≡ true =
      ap (λ w. Set.has w n) (sym (word_set book)) ∙ is_true (picture_signature.has (tbox_of book).defined n) t in
      let (a, b) = both (ltb n name_count) (defines book n) (sym (has_set_below (defines book) name_count n) ∙ h) in
      let (k, l, u, e) = some_at (λ k. eqb (name_of book k) n) (definition_count book) 0 b in
      let (f, g) = first_from_passes (λ k. eqb (name_of book k) n) 0 (definition_count book) k
      (true_is (eqb (name_of book k) n) e) l u in
      omega arith

  pub excludes_none_is : (s : List ℕ) → excludes_none book s ≡ true →
      ExcludesNone picture_signature (tbox_of book) (picture_table s)
  unfolding excludes_none
  excludes_none_is s e k l =
      apart book ((picture_table s).label k).excluded
      (not-true (any_defined book ((picture_table s).label k).excluded)
      (each_at (λ j. not (any_defined book ((picture_table s).label j).excluded)) (picture_table s).rows 0 e k
      (omega arith) (omega arith)))

pub table_some : (limits : Limits) (s : List ℕ) → Readable limits s → 0 < (picture_table s).rows
table_some limits s readable = readable_some limits s readable

module _ (limits : Limits) (bounded : Bounded limits) (book : List ℕ) where
  abbrev D : Definitions picture_signature
  D = tbox_of book

  pub asked_sound : ((k : ℕ) → k < definition_count book → Readable limits (definition_file book k)) →
      ((k : ℕ) → k < definition_count book → excludes_none book (definition_file book k) ≡ true) → Sound picture_signature D
  asked_sound readable excluding = record {
    rooted = λ n d. table_some limits (definition_file book (place_of book n))
        (readable (place_of book n) (defined_place book n d));
    ordered = λ n d. picture_parents limits (definition_file book (place_of book n))
        (readable (place_of book n) (defined_place book n d));
    excluding = λ n d. excludes_none_is book (definition_file book (place_of book n))
        (excluding (place_of book n) (defined_place book n d));
  }

  module _ (ok : Definable limits book) where
    readable_of : (n : ℕ) → T (picture_signature.has D.defined n) →
        Readable limits (definition_file book (place_of book n))
    readable_of n d = ok.readable (place_of book n) (defined_place book n d)

    pub book_sound : Sound picture_signature D
    book_sound = asked_sound ok.readable (λ k l. (ok.unfolds k l).excluding)

    pub picture_tree_is : (s : List ℕ) → Readable limits s →
        picture_tree limits s ≡ whole_tree picture_signature (picture_table s)
    picture_tree_is s readable =
        whole_tree_is picture_signature (picture_table s) (picture_parents limits s readable) (depth (parent_of s))
        limits.depth (picture_ranked limits s readable) 0

    module _ (s : List ℕ) (readable : Readable limits s) (unfolds : Unfolds limits book s) where
      abbrev p : Table picture_signature
      p = picture_table s

      abbrev rows : List (Row picture_signature)
      rows = unfold_rows picture_signature D limits.rows p

      abbrev u : Table picture_signature
      u = unfolded_table limits book s

      few : length (grown picture_signature D p limits.rows) ≤ limits.rows
      unfolding unfolded_few unfolded_count
      few = leb-true (length (grown picture_signature D p limits.rows)) limits.rows unfolds.few

      pub picture_unfoldable : Unfoldable picture_signature D limits.rows p
      picture_unfoldable = record {
        some = table_some limits s readable;
        ordered = picture_parents limits s readable;
        excluding = excludes_none_is book s unfolds.excluding;
        few = few;
      }

      parents : ParentsFirst picture_signature u
      parents =
          unfolded_parents picture_signature D book_sound p (table_some limits s readable)
          (picture_parents limits s readable)
          limits.rows

      known : KnownRoles picture_signature u
      known =
          unfolded_known picture_signature D book_sound p (table_some limits s readable)
          (picture_parents limits s readable)
          limits.rows (picture_known limits s readable)
          (λ n d. picture_known limits (definition_file book (place_of book n)) (readable_of n d))

      root : (u.parent 0 ≡ p.parent 0) × (u.role 0 ≡ p.role 0)
      root =
          let own = unfolded_own picture_signature D book_sound p (table_some limits s readable)
          (picture_parents limits s readable) limits.rows 0 (table_some limits s readable) in
          (own.1, own.3)

      shallow : (j : ℕ) → j < u.rows → depth u.parent j ≤ limits.depth
      unfolding unfolded_shallow
      shallow j l =
          leb-true (depth u.parent j) limits.depth
          (each_at (λ j. leb (depth u.parent j) limits.depth) u.rows 0 unfolds.shallow j
          (omega arith) (omega arith))

      writable : Writable limits rows
      writable = record {
        some = unfolded_some picture_signature D book_sound limits.rows p picture_unfoldable;
        most = omega (arith, few, rows_for_length picture_signature D (grown picture_signature D p limits.rows));
        root_parent = root.0 ∙ readable_root_parent limits s readable;
        root_role = root.1 ∙ readable_root_role limits s readable;
        parents_first = parents;
        roles_known = known;
        shallow = shallow;
      }

      -- where a row wants a defined name
      written_reads : reading_of limits (file_of rows) ≡ Ok (length rows)
      written_reads = file_readable limits rows bounded writable

      written_tree : picture_tree limits (file_of rows) ≡ whole_tree picture_signature u
      written_tree =
          file_tree rows (parents_fit rows parents (omega (arith, writable.most, bounded.0))) limits.depth 0
          writable.some
          ∙ whole_tree_is picture_signature u parents (depth u.parent) limits.depth
          (ranked_by_depth picture_signature u (depth u.parent) limits.depth deeper shallow) 0
        where
          deeper : (j : ℕ) → j < u.rows → ¬ (j ≡ 0) → depth u.parent j ≡ suc (depth u.parent (u.parent j))
          deeper j l z =
              omega (
                arith,
                depth_under u.parent j (omega (arith, z)) (λ k a b. parents k (omega arith) (λ e. omega arith)),
              )

      -- where none does
      own_tree : wants_defined book s ≡ false → picture_tree limits s ≡ whole_tree picture_signature u
      own_tree e =
          picture_tree_is s readable
          ∙ sym (ap (λ ws. whole_tree picture_signature (table_of picture_signature ws))
          (rows_own limits s readable book e) ∙ tree_own p (table_some limits s readable))

      pub unfolded_readable : Readable limits (unfolded_file limits book s)
      unfolding unfolded_file
      unfolded_readable =
          chosen (Readable limits) (wants_defined book s) (file_of rows) s
          (λ t. record { rows = length rows; reads = written_reads }) (λ t. readable)

      pub unfolded_tree_is : picture_tree limits (unfolded_file limits book s) ≡ whole_tree picture_signature u
      unfolding unfolded_file
      unfolded_tree_is =
          chosen (λ z. picture_tree limits z ≡ whole_tree picture_signature u) (wants_defined book s) (file_of rows) s
          (λ t. written_tree) (λ t. own_tree (is_false (wants_defined book s) t))
