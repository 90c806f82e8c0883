-- Trees for the cases, at the signature of paper 01. Role r is 8, role s is 9. A set of names is written as its number: {3} is 8, {5} is 32.
--   Sig                            the signature
--   names                          a set of names by its number
--   none, three, five, three_five   {}, {3}, {5}, {3,5}
--   wants, excludes                a label with only wanted, with only excluded names
--   leaf, bottom_leaf                      a node without successors; ⊥
--   under                          a root without names, and its successors
--   single, double                 a root with one successor by r, with two
use Prim.Native.Nat.{◌^◌, ℕ}
use lib.Dec.{T, ltb}
use mathlib.Core.Bool.{false}
use Rattle.table.specs.Layout.{name_count}
use Rattle.ale.specs.PictureSignature.{NameSet, picture_signature}
use Rattle.ale.specs.Signature.{Signature}
use Rattle.ale.specs.Tree.{Forest, Kind, Label, Tree, bottom_tree, cons, nil, node}

abbrev pub Sig : Signature
Sig = picture_signature

abbrev pub names : (n : ℕ) → T (ltb n (2 ^ name_count)) → NameSet
names n t = record { set = n; fits = t }

abbrev pub none : NameSet
none = names 0 tt

abbrev pub three : NameSet
three = names 8 tt

abbrev pub five : NameSet
five = names 32 tt

abbrev pub three_five : NameSet
three_five = names 40 tt

abbrev pub wants : NameSet → Label Sig
wants a = record { wanted = a; excluded = none; bottom = false }

abbrev pub excludes : NameSet → Label Sig
excludes a = record { wanted = none; excluded = a; bottom = false }

abbrev pub leaf : NameSet → Tree Sig
leaf a = node (wants a) nil

abbrev pub bottom_leaf : Tree Sig
bottom_leaf = bottom_tree Sig

abbrev pub under : Forest Sig → Tree Sig
under f = node (wants none) f

abbrev pub single : Kind → Tree Sig → Tree Sig
single k t = under (cons k 8 t nil)

abbrev pub double : Kind → Tree Sig → Kind → Tree Sig → Tree Sig
double j t k u = under (cons j 8 t (cons k 8 u nil))
