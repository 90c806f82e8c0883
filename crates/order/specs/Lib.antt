-- A preorder on the numbers below n, given by a test.
pub mod Preorder
