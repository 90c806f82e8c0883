-- The laws of the tables of the cards.
pub mod Parts
pub mod Caches
pub mod CardTables
pub mod CardTests
