-- The laws of meaning, by subject.
pub mod ByteLists
pub mod Files
pub mod FileTables
pub mod FileReadings
pub mod EncodedFiles
pub mod Pictures
pub mod Normals
pub mod Coverings
-- computed
pub mod CasePictures
pub mod Cases
