-- 01, "A map sends each row of the second normal table to one of the first": maps by rows, and the map that we write.
-- p is the first table, q the second; a map goes from the rows of q to those of p.
--   bottom_at         row v of the first is ⊥ (01: marked)
--   label_agrees      question 19: the image carries all the row's names and its mark, or is ⊥
--   edge_joins        u and v are joined by an edge of row i's kind, and of a role that serves for its role (01: the same role)
--   edge_agrees       question 20: they are so joined, or u is ⊥ and v is u
--   IsHomomorphism   questions 17 to 20 for every row
--   row_maps_to        row i's tree maps to row v's tree
--   next_image        the image of row i where its parent's is u: u itself if it is ⊥, else the lowest row that can be
--   image_from        the image of row i, from those of the rows before it
--   images, image    our map: the lowest possible row each time, parents first
use Rattle.std.specs.Prelude.{◌<◌, ℕ, T, eqb, get_or, Bool, ◌&&◌, ◌||◌, List, ◌≡◌}
use Rattle.table.specs.Pick.{pick}
use Rattle.ale.specs.Homomorphism.{label_within, maps_to, role_serves}
use Rattle.ale.specs.Rows.{course, first_from}
use Rattle.ale.specs.Signature.{Signature}
use Rattle.ale.specs.Table.{Table, successor_of, tree_of}
use Rattle.ale.specs.Tree.{same_kind}

module _ (S : Signature) (p : Table S) where
  abbrev pub bottom_at : ℕ → Bool
  bottom_at v = (p.label v).bottom

module _ (S : Signature) (p q : Table S) where
  abbrev pub label_agrees : ℕ → ℕ → Bool
  label_agrees i v = bottom_at S p v || label_within S (q.label i) (p.label v)

  abbrev pub edge_joins : ℕ → ℕ → ℕ → Bool
  edge_joins i u v = successor_of S p u v && (same_kind (q.kind i) (p.kind v) && role_serves S (q.kind i) (p.role v) (q.role i))

  abbrev pub edge_agrees : ℕ → ℕ → ℕ → Bool
  edge_agrees i u v = (bottom_at S p u && eqb v u) || edge_joins i u v

  pub record IsHomomorphism (im : ℕ → ℕ) : Type 0 where
    pub inside : (i : ℕ) → i < q.rows → im i < p.rows
    pub root : im 0 ≡ 0
    pub labels : (i : ℕ) → i < q.rows → T (label_agrees i (im i))
    pub edges : (i : ℕ) → i < q.rows → ¬ (i ≡ 0) → T (edge_agrees i (im (q.parent i)) (im i))

  abbrev pub row_maps_to : ℕ → ℕ → Bool
  row_maps_to i v = maps_to S (tree_of S q q.rows i) (tree_of S p p.rows v)

  abbrev pub next_image : ℕ → ℕ → ℕ
  next_image i u = pick (bottom_at S p u) u (first_from (λ v. edge_joins i u v && row_maps_to i v) 0 p.rows)

  abbrev pub image_from : List ℕ → ℕ → ℕ
  image_from s i = pick (eqb i 0) 0 (next_image i (get_or s (q.parent i) 0))

  abbrev pub images : ℕ → List ℕ
  images n = course image_from n

  abbrev pub image : ℕ → ℕ
  image i = get_or (images q.rows) i 0
