-- The theorems and their laws, by subject.

-- the main theorems: pictures (003, Theorem 41), evidence for no, maps by rows, common pictures (Theorem 43), folding, Table 1
pub mod Subsumption
pub mod Completeness
pub mod Sizes
pub mod MapExistence
pub mod LowestMap
pub mod CommonSubsumers
pub mod Foldings
pub mod Concepts
pub mod ConceptTrees
-- each used on a case
pub mod Examples
-- tests as types, sets of names, trees, structures
pub mod Tests
pub mod NameLaws
pub mod Labels
pub mod Trees
pub mod Structures
-- a homomorphism gives subsumption
pub mod Soundness
-- merging and tidying: meaning, and normality
pub mod RowLists
pub mod TableLaws
pub mod SameTables
pub mod Forests
pub mod Appends
pub mod Merging
pub mod Tidying
pub mod NormalForms
pub mod Normalizing
pub mod NormalBottoms
pub mod Orderings
-- no homomorphism gives a countermodel: as a tree, its size, its numbering
pub mod TreeStructure
pub mod Countermodels
pub mod CountermodelSize
pub mod CountermodelRoles
pub mod CountermodelNames
pub mod Bisimulations
pub mod Individuals
pub mod Encodings
pub mod ModelChecks
pub mod MetPairs
-- depth and roles
pub mod Depths
pub mod WholeTrees
pub mod MergedDepths
pub mod EncodedDepths
pub mod Confined
pub mod RoleLaws
-- maps by rows
pub mod RowMaps
-- the product
pub mod Pairs
pub mod Products
pub mod ProductNames
pub mod ProductOrderings
pub mod ProductReductions
pub mod PairWalks
pub mod Leastness
-- computed cases, by definition
pub mod CasesTree
pub mod CasesConcept
pub mod CasesForest
pub mod CasesMerged
pub mod CasesNormal
pub mod CasesNormalForm
pub mod CasesMap
pub mod CasesRowMap
pub mod CasesCountermodel
pub mod CasesProduct
pub mod CasesRole
