-- Countermodels, computed: `countermodel d v` fits v and not d.
use mathlib.Core.Bool.{false, true}
use mathlib.Core.Path.{◌≡◌, refl}
use Rattle.table.specs.Bounds.{max_depth, max_rows}
use Rattle.ale.specs.Countermodel.{countermodel, individual, max_individuals}
use Rattle.ale.specs.ModelCheck.{fits_test}
use Rattle.ale.specs.Tree.{Tree, bottom_label, cons, exists, forAll, nil, node}
use Rattle.ale.proofs.CasesMap.{k7_apart, k7_joined}
use Rattle.ale.proofs.CasesTree.{Sig, excludes, five, leaf, none, single, three, three_five}

-- an individual is a node with its names, no excluded ones, and not ⊥
individual_node : individual Sig five nil ≡ leaf five
individual_node = refl

-- {3} does not subsume {5}: 5 holds and 3 does not
counter_wanted : countermodel Sig (leaf three) (leaf five) ≡ individual Sig five nil
counter_wanted = refl

-- a name that is excluded may hold of ⊤, and no other does
counter_excluded : countermodel Sig (node (excludes three) nil) (leaf none) ≡ individual Sig three nil
counter_excluded = refl

-- what is wanted holds too
counter_more : countermodel Sig (node (excludes three) nil) (leaf five) ≡ individual Sig three_five nil
counter_more = refl

-- K7: two individuals, one with each name
abbrev pub k7_counter : Tree Sig
k7_counter = individual Sig none (cons exists 8 (individual Sig three nil) (cons exists 8 (individual Sig five nil) nil))

counter_k7 : countermodel Sig k7_joined k7_apart ≡ k7_counter
counter_k7 = refl

counter_k7_checked : (fits_test Sig k7_apart k7_counter ≡ true) × (fits_test Sig k7_joined k7_counter ≡ false)
counter_k7_checked = (refl, refl)

-- 3 may hold of the individual that some r {} asks for
counter_some : countermodel Sig (single exists (node (excludes three) nil)) (single exists (leaf none)) ≡
    individual Sig none (cons exists 8 (individual Sig three nil) nil)
counter_some = refl

-- all r {5} does not subsume all r {3}: of an individual reached by r, 3 holds and 5 does not
counter_all : countermodel Sig (single forAll (leaf five)) (single forAll (leaf three)) ≡
    individual Sig none (cons exists 8 (individual Sig three nil) nil)
counter_all = refl

-- nothing fits ⊥, whatever hangs from it: the canonical model will do
counter_bottom : countermodel Sig (node (bottom_label Sig) (cons exists 8 (node (excludes three) nil) nil)) (single exists (leaf none)) ≡
    individual Sig none (cons exists 8 (individual Sig none nil) nil)
counter_bottom = refl

-- the bound on the countermodel's individuals, at the limits of paper 01
counter_limit : max_individuals max_depth max_rows ≡ 3328
counter_limit = refl
