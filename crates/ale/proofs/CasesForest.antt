-- Dropping, computed: a trivial all-successor is dropped; a trivial some-successor, which says something, is kept, and so is all r ⊥.
use mathlib.Core.Path.{◌≡◌, refl}
use Rattle.ale.specs.Forest.{cons_reduced}
use Rattle.ale.specs.Tree.{cons, exists, forAll, nil}
use Rattle.ale.proofs.CasesTree.{Sig, bottom_leaf, leaf, none}

pub all_dropped : cons_reduced Sig forAll 8 (leaf none) nil ≡ nil
all_dropped = refl

pub some_kept : cons_reduced Sig exists 8 (leaf none) nil ≡ cons exists 8 (leaf none) nil
some_kept = refl

bottom_kept : cons_reduced Sig forAll 8 bottom_leaf nil ≡ cons forAll 8 bottom_leaf nil
bottom_kept = refl
