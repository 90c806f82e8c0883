-- The theorems used on cases of paper 01, at its signature.
--   k1_subsumes                                       one empty row subsumes every picture
--   k4_concept                                      fitting is membership in the extension of the concept
--   k3_means                                        a concept means what its tree means
--   k4_equivalent, k4_is_normal                     the normal tree is equivalent to the picture's, and is normal
--   k4_concepts                                     subsumption is inclusion of extensions
--   k7_sound                                        a homomorphism, so subsumption in every structure
--   k7_refuted, k7_small                            no homomorphism: the countermodel fits the first and not the second, and is small
--   k7_checked                                      a refutation that passes the test refutes
--   limit                                           3,328 individuals are enough
--   k8_subsumed, k8_not_subsumed, k8_decided        the test decides subsumption of pictures
--   k8_map                                          subsumption is a map of the normal tables
--   k8_in_all                                        subsumption over all structures, not only finite ones
--   k9_left, k9_right, k9_least                     the least common subsumer subsumes both, and is subsumed by what subsumes both
--   k9_commutative, k9_associative, k9_idempotent   in any order and grouping, with repetition
--   stack_equivalent                                folding in any order, with repetition
--   k9_ordered, k9_bottoms                          the product's successors are ordered, its ⊥ nodes bare
--   k7_lowest, k7_exists, k7_whenever, k7_no_lower  our map by rows is a homomorphism, whenever there is one, and the lowest
use mathlib.Core.Path.{◌≡◌}
use Prim.Native.Nat.{◌*◌, ◌≤◌, suc, zero, ℕ}
use lib.Dec.{T, lit<, lit≤, ltb}
use lib.ListN.{length}
use mathlib.Core.Bool.{◌&&◌, not}
use mathlib.Core.List.{List, [], ◌∷◌}
use mathlib.Core.Logic.{◌↔◌, inr, ⊎_elim}
use native.Mathlib.Omega.{arith}
use Rattle.table.specs.Bounds.{max_depth, max_rows}
use Rattle.table.specs.Layout.{roles}
use Rattle.ale.specs.Concept.{Concept, ConceptSubsumed, InExtension, concept_of, conjunction, primitive, value}
use Rattle.ale.specs.Countermodel.{max_individuals, numbered}
use Rattle.ale.specs.Encoding.{Row, encode, encoded}
use Rattle.ale.specs.Theory.{one, two, CanonicalBottom, Normal, Ordered, lcs, lcs_table, SubsumedInAll}
use Rattle.ale.specs.Homomorphism.{maps_to}
use Rattle.ale.specs.Interpretation.{Equivalent, Interpretation, Subsumed, structure_of}
use Rattle.ale.specs.Merged.{merged}
use Rattle.ale.specs.Normal.{normal_tree}
use Rattle.ale.specs.RowMap.{IsHomomorphism, edge_agrees, image, row_maps_to}
use Rattle.ale.specs.Structure.{Fits, Structure}
use Rattle.ale.specs.Table.{KnownRoles, Table, tree}
use Rattle.ale.specs.Tree.{Tree, exists, forAll, size}
use Rattle.ale.proofs.CasesCountermodel.{k7_counter}
use Rattle.ale.proofs.CasesNormal.{impossible, k4_normal, k4_rows, meaning, normal, picture, root, row}
use Rattle.ale.proofs.CasesProduct.{k9_common, k9_first, k9_second}
use Rattle.ale.proofs.CasesTree.{Sig, five, leaf, none, three, three_five}
use Rattle.ale.proofs.CommonSubsumers.{lcs_least, lcs_left, lcs_right}
use Rattle.ale.proofs.ConceptTrees.{concept_tree, concept_tree_means, picture_singletons}
use Rattle.ale.proofs.Concepts.{Means, fits_concept, subsumed_concepts}
use Rattle.ale.proofs.Encodings.{encoded_parents_first}
use Rattle.ale.proofs.Foldings.{folding_equivalent, lcs_associative, lcs_commutative, lcs_idempotent}
use Rattle.ale.proofs.Forests.{trivial_fits}
use Rattle.ale.proofs.LowestMap.{image_lowest, lowest_homomorphism}
use Rattle.ale.proofs.MapExistence.{encoded_homomorphism, lowest_whenever, subsumed_map}
use Rattle.ale.proofs.ModelChecks.{refutation_refutes}
use Rattle.ale.proofs.NormalBottoms.{lcs_canonical}
use Rattle.ale.proofs.ProductOrderings.{lcs_ordered}
use Rattle.ale.proofs.RoleLaws.{encoded_known, rows_known}
use Rattle.ale.proofs.Sizes.{countermodel_bound, small_countermodel}
use Rattle.ale.proofs.Soundness.{maps_to_sound}
use Rattle.ale.proofs.Structures.{in_all_subsumed}
use Rattle.ale.proofs.Subsumption.{normal_equivalent, normal_tree_normal, not_subsumed, subsumed_decidable, subsumed_in_all, subsumption_homomorphism}

k1_subsumes : (t : Tree Sig) → SubsumedInAll Sig t (meaning [])
k1_subsumes t M x f = trivial_fits Sig M (meaning []) tt x

k4_concept : (M : Structure Sig) (x : M.Element) → Fits Sig M k4_normal x ↔ InExtension Sig M (concept_of Sig k4_normal) x
k4_concept M x = fits_concept Sig M k4_normal x

-- ∀r.P3 ⊓ ∀r.P5
abbrev k3_concept : Concept
k3_concept = conjunction (value 8 (primitive 3)) (value 8 (primitive 5))

k3_means : Means Sig (concept_tree Sig picture_singletons k3_concept) k3_concept
k3_means = concept_tree_means Sig picture_singletons k3_concept ((lit< tt, lit< tt), (lit< tt, lit< tt))

-- pictures of one and of two rows of known roles, below an empty root
known_one : (a : Row Sig) → T (ltb a.role roles) → KnownRoles Sig (picture (a ∷ []))
known_one a t = rows_known Sig (root none ∷ a ∷ []) (lit< tt, (lit< t, tt))

known_two : (a b : Row Sig) → T (ltb a.role roles) → T (ltb b.role roles) → KnownRoles Sig (picture (a ∷ b ∷ []))
known_two a b t u = rows_known Sig (root none ∷ a ∷ b ∷ []) (lit< tt, (lit< t, (lit< u, tt)))

k4_known : KnownRoles Sig (picture k4_rows)
k4_known = known_two (row 0 forAll 8 three) (row 0 exists 8 five) tt tt

k4_equivalent : Equivalent Sig (meaning k4_rows) k4_normal
k4_equivalent = normal_equivalent Sig (picture k4_rows) k4_known 2

k4_concepts : ConceptSubsumed Sig (concept_of Sig (meaning k4_rows)) (concept_of Sig k4_normal)
k4_concepts = (subsumed_concepts Sig (meaning k4_rows) k4_normal).0 k4_equivalent.0

k4_is_normal : Normal Sig k4_normal
k4_is_normal = normal_tree_normal Sig (picture k4_rows) k4_known 2

-- some r {3}, some r {5}
abbrev k7_rows : List (Row Sig)
k7_rows = row 0 exists 8 three ∷ row 0 exists 8 five ∷ []

-- some r {3,5}
abbrev k7_narrow : List (Row Sig)
k7_narrow = row 0 exists 8 three_five ∷ []

k7_sound : SubsumedInAll Sig (meaning k7_narrow) (meaning k7_rows)
k7_sound = maps_to_sound Sig (meaning k7_rows) (meaning k7_narrow) tt

k7_known : KnownRoles Sig (picture k7_rows)
k7_known = known_two (row 0 exists 8 three) (row 0 exists 8 five) tt tt

k7_refuted : let I = structure_of Sig (numbered Sig k7_counter) in Fits Sig I (meaning k7_rows) 0 × (Fits Sig I (meaning k7_narrow) 0 → ⊥)
k7_refuted = not_subsumed Sig (picture k7_rows) (picture k7_narrow) k7_known (known_one (row 0 exists 8 three_five) tt) 2 2 tt

-- the same by the test, as a checker of refutations finds it
k7_checked : Subsumed Sig (meaning k7_rows) (meaning k7_narrow) → ⊥
k7_checked = refutation_refutes Sig (encoded Sig k7_counter) (lit< tt) (encoded_parents_first Sig k7_counter) (meaning k7_rows) (meaning k7_narrow) tt tt

k7_small : length (encode Sig k7_counter) ≤ 3 * 3
k7_small = countermodel_bound Sig (picture k7_rows) (picture k7_narrow) 2 3 (lit≤ tt)

-- 3,328 individuals are enough (CasesCountermodel: `counter-limit`) for pictures of at most 256 merged rows, which is question 14
limit : (p q : Table Sig) → KnownRoles Sig p → KnownRoles Sig q → size Sig (merged Sig p max_depth (0 ∷ [])) ≤ max_rows →
    T (not (maps_to Sig (normal_tree Sig q max_depth) (normal_tree Sig p max_depth))) →
    (I : Interpretation Sig) × (I.count ≤ max_individuals max_depth max_rows) × Fits Sig (structure_of Sig I) (tree Sig p max_depth) 0 × (Fits Sig (structure_of Sig I) (tree Sig q max_depth) 0 → ⊥)
limit p q kp kq h t = small_countermodel Sig p q kp kq max_depth max_rows h t

-- all r ⊥
abbrev k8_bottom : List (Row Sig)
k8_bottom = impossible forAll ∷ []

-- all r {5}
abbrev k8_value : List (Row Sig)
k8_value = row 0 forAll 8 five ∷ []

-- some r {}
abbrev k8_some : List (Row Sig)
k8_some = row 0 exists 8 none ∷ []

k8_bottom_known : KnownRoles Sig (picture k8_bottom)
k8_bottom_known = known_one (impossible forAll) tt

k8_value_known : KnownRoles Sig (picture k8_value)
k8_value_known = known_one (row 0 forAll 8 five) tt

k8_some_known : KnownRoles Sig (picture k8_some)
k8_some_known = known_one (row 0 exists 8 none) tt

k8_subsumed : Subsumed Sig (meaning k8_bottom) (meaning k8_value)
k8_subsumed = (subsumption_homomorphism Sig (picture k8_bottom) (picture k8_value) k8_bottom_known k8_value_known 2 2).1 tt

k8_in_all : SubsumedInAll Sig (meaning k8_bottom) (meaning k8_value)
k8_in_all = (subsumed_in_all Sig (picture k8_bottom) (picture k8_value) k8_bottom_known k8_value_known 2 2).0 k8_subsumed

k8_decided : Dec (Subsumed Sig (meaning k8_bottom) (meaning k8_value))
k8_decided = subsumed_decidable Sig (picture k8_bottom) (picture k8_value) k8_bottom_known k8_value_known 2 2

k8_map : (im : ℕ → ℕ) × IsHomomorphism Sig (encoded Sig (normal k8_bottom)) (encoded Sig (normal k8_value)) im
k8_map = (subsumed_map Sig (picture k8_bottom) (picture k8_value) k8_bottom_known k8_value_known 2 2).0 k8_subsumed

k8_not_subsumed : Subsumed Sig (meaning k8_bottom) (meaning k8_some) → ⊥
k8_not_subsumed = (subsumption_homomorphism Sig (picture k8_bottom) (picture k8_some) k8_bottom_known k8_some_known 2 2).0

-- {3}, some r {4}
abbrev first : Table Sig
first = encoded Sig k9_first

-- {3,5}, some r {4,6}, some r {7}
abbrev second : Table Sig
second = encoded Sig k9_second

first_known : KnownRoles Sig first
first_known = encoded_known Sig (lit< tt) k9_first (lit< tt, tt, tt)

second_known : KnownRoles Sig second
second_known = encoded_known Sig (lit< tt) k9_second (lit< tt, tt, (lit< tt, tt, tt))

k9_left : Subsumed Sig (tree Sig first 2) k9_common
k9_left = lcs_left Sig first second 2 2

k9_right : Subsumed Sig (tree Sig second 2) k9_common
k9_right = lcs_right Sig first second 2 2

-- {3} subsumes both
k9_least : Subsumed Sig k9_common (leaf three)
k9_least =
    lcs_least Sig first second first_known second_known 2 2 (leaf three) tt
    (in_all_subsumed Sig (tree Sig first 2) (leaf three) (maps_to_sound Sig (leaf three) (tree Sig first 2) tt))
    (in_all_subsumed Sig (tree Sig second 2) (leaf three) (maps_to_sound Sig (leaf three) (tree Sig second 2) tt))

abbrev both : Table Sig → Table Sig → Table Sig
both p q = lcs_table Sig p q 2

k9_commutative : Equivalent Sig (tree Sig (both first second) 2) (tree Sig (both second first) 2)
k9_commutative = lcs_commutative Sig (lit< tt) 2 first second first_known second_known

k9_associative : Equivalent Sig (tree Sig (both (both first second) first) 2) (tree Sig (both first (both second first)) 2)
k9_associative = lcs_associative Sig (lit< tt) 2 first second first first_known second_known first_known

k9_idempotent : Equivalent Sig (tree Sig (both second second) 2) (tree Sig second 2)
k9_idempotent = lcs_idempotent Sig (lit< tt) 2 second second_known

-- the first and the second normal table
abbrev k7_first : Table Sig
k7_first = encoded Sig (normal k7_narrow)

abbrev k7_second : Table Sig
k7_second = encoded Sig (normal k7_rows)

k7_lowest : IsHomomorphism Sig k7_first k7_second (image Sig k7_first k7_second)
k7_lowest =
    lowest_homomorphism Sig k7_first k7_second (encoded_parents_first Sig (normal k7_narrow)) (encoded_parents_first Sig (normal k7_rows))
    (lit< tt) tt (lit< tt)

k7_exists : (im : ℕ → ℕ) × IsHomomorphism Sig k7_first k7_second im
k7_exists = (encoded_homomorphism Sig (normal k7_narrow) (normal k7_rows)).1 tt

k7_whenever : (im : ℕ → ℕ) → IsHomomorphism Sig k7_first k7_second im → IsHomomorphism Sig k7_first k7_second (image Sig k7_first k7_second)
k7_whenever =
    lowest_whenever Sig k7_first k7_second (encoded_parents_first Sig (normal k7_narrow)) (encoded_parents_first Sig (normal k7_rows)) (lit< tt) (lit< tt)

-- row 2 goes to row 1: row 0 could not be taken
k7_no_lower : T (not (edge_agrees Sig k7_first k7_second 2 0 0 && row_maps_to Sig k7_first k7_second 2 0))
k7_no_lower =
    image_lowest Sig k7_first k7_second (encoded_parents_first Sig (normal k7_narrow)) (encoded_parents_first Sig (normal k7_rows))
    2 0 (lit< tt) (λ e. absurd (let z : ◌≡◌ {A = ℕ} 2 0 = e in omega arith)) (lit< tt) (lit< tt)

-- folded in another order and with repetition
abbrev stack : ℕ → Table Sig
stack zero = first
stack (suc i) = second

stack_known : (i : ℕ) → KnownRoles Sig (stack i)
stack_known zero = first_known
stack_known (suc i) = second_known

stack_equivalent : Equivalent Sig (tree Sig (both first (both second first)) 2) (tree Sig (both second first) 2)
stack_equivalent =
    folding_equivalent Sig (lit< tt) 2 stack (two (one 0) (two (one 1) (one 0))) (two (one 1) (one 0)) (λ i u. stack_known i)
    (λ i. (⊎_elim inr (λ u. u), inr))

k9_ordered : Ordered Sig (lcs Sig first second 2 2)
k9_ordered = lcs_ordered Sig first second 2 2

k9_bottoms : CanonicalBottom Sig (lcs Sig first second 2 2)
k9_bottoms = lcs_canonical Sig first second 2 2
