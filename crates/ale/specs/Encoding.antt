-- 01, "Tables are written depth first, a parent before its successors": a tree as rows, and rows as a table.
--   Row                        a row of a table by value
--   no_row                      what a list holds past its end
--   table_of                    a list of rows as a table
--   encode_tree, encode_forest   the rows of a tree from place o on, its root hanging from row p by k and r
--   encode                     the rows of a tree; the root's parent, kind and role say nothing
--   encoded                    the table of a tree
use Rattle.std.specs.Prelude.{◌+◌, suc, ℕ, get_or, length, List, [], ◌++◌, ◌∷◌}
use Rattle.ale.specs.Signature.{Signature}
use Rattle.ale.specs.Table.{Table}
use Rattle.ale.specs.Tree.{Forest, Kind, Label, Tree, cons, empty_label, exists, nil, node, size}

module _ (S : Signature) where
  pub record Row : Type 0 where
    pub parent : ℕ
    pub kind : Kind
    pub role : ℕ
    pub label : Label S

  abbrev pub no_row : Row
  no_row = record { parent = 0; kind = exists; role = 0; label = empty_label S }

  abbrev pub table_of : List Row → Table S
  table_of w = record {
    rows = length w;
    parent = λ y. (get_or w y no_row).parent;
    kind = λ y. (get_or w y no_row).kind;
    role = λ y. (get_or w y no_row).role;
    label = λ y. (get_or w y no_row).label;
  }

  abbrev mutual
    pub encode_tree : Tree S → ℕ → Kind → ℕ → ℕ → List Row
    encode_tree (node l f) p k r o = record { parent = p; kind = k; role = r; label = l } ∷ encode_forest f o (suc o)

    pub encode_forest : Forest S → ℕ → ℕ → List Row
    encode_forest nil p o = []
    encode_forest (cons k r t f) p o = encode_tree t p k r o ++ encode_forest f p (o + size S t)

  abbrev pub encode : Tree S → List Row
  encode t = encode_tree t 0 exists 0 0

  abbrev pub encoded : Tree S → Table S
  encoded t = table_of (encode t)
