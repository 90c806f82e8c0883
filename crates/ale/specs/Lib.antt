-- The definitions of ALE, in the order of paper 01 and source 003. Ten of them carry the rest: Tree, Fits, Subsumed, Concept, Table, merged, normalTree,
-- mapsTo, countermodel, product. A reader has to believe what the calls and the conditions cite; Theory is only in
-- theorems.

-- what everything is over
pub mod Signature
-- meaning: description trees, when an individual fits one, finite interpretations and subsumption, Table 1
pub mod Tree
pub mod Structure
pub mod Interpretation
pub mod Concept
-- pictures: rows by number and their tree; rows merged in sets; inconsistent nodes and what is dropped; the normal tree
pub mod Rows
pub mod Table
pub mod Forest
pub mod Merged
pub mod Normal
-- evidence: the homomorphism test, maps by rows, tables of trees, countermodels, the test of fitting
pub mod Homomorphism
pub mod RowMap
pub mod Encoding
pub mod Countermodel
pub mod ModelCheck
-- common pictures
pub mod Product
-- paper 01's own signature
pub mod PictureSignature
-- only in theorems: subsumption over all structures, what normal is, folding common pictures
pub mod Theory
