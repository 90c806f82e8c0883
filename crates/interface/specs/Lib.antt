-- The answer word, the calls, what each call answers, the customer's conditions, and
-- the starred cases.
pub mod Word
pub mod Calls
pub mod Answers
pub mod Conditions
pub mod StarredClaims
pub mod Starred
