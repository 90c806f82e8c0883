-- What a language of descriptions is made of: sets of concept names, and roles. Everything else is over one signature.
--   Names, names                       sets of names; names are the numbers below `names`
--   has, none, union, intersection, complement, subset
--                                      sets by membership, each with its law
--   roles, subrole                     roles are the numbers below `roles`; `subrole r s`: a pair of r is a pair of s (over all numbers, reflexive and transitive)
--   subrole_below                      a subrole of one of the roles is one of them: merging goes through the roles by number
-- In paper 01 a role is a subrole of itself only.
use Rattle.std.specs.Prelude.{◌<◌, ℕ, T, Bool, ◌&&◌, ◌||◌, false, not, ◌≡◌}

pub record Signature : Type 1 where
  pub Names : Type 0
  pub names : ℕ
  pub has : Names → ℕ → Bool
  pub none : Names
  pub union : Names → Names → Names
  pub intersection : Names → Names → Names
  pub complement : Names → Names
  pub subset : Names → Names → Bool
  pub has_below : (a : Names) (n : ℕ) → T (has a n) → n < names
  pub has_none : (n : ℕ) → has none n ≡ false
  pub has_union : (a b : Names) (n : ℕ) → has (union a b) n ≡ (has a n || has b n)
  pub has_intersection : (a b : Names) (n : ℕ) → has (intersection a b) n ≡ (has a n && has b n)
  pub has_complement : (a : Names) (n : ℕ) → n < names → has (complement a) n ≡ not (has a n)
  pub subset_has : (a b : Names) → T (subset a b) → (n : ℕ) → T (has a n) → T (has b n)
  pub subset_intro : (a b : Names) → ((n : ℕ) → T (has a n) → T (has b n)) → T (subset a b)
  pub roles : ℕ
  pub subrole : ℕ → ℕ → Bool
  pub subrole_refl : (r : ℕ) → T (subrole r r)
  pub subrole_trans : (r s t : ℕ) → T (subrole r s) → T (subrole s t) → T (subrole r t)
  pub subrole_below : (r s : ℕ) → T (subrole r s) → s < roles → r < roles
