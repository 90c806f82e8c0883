-- The laws of the words, what every call answers, the customer's conditions, and the starred cases.
pub mod Words
pub mod Shapes
pub mod Answers
pub mod Places
pub mod Values
pub mod Undefined
pub mod EmptyBooks
pub mod Conditions
pub mod EndFields
pub mod EmptySubsumes
pub mod StarredHold
