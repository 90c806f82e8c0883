-- A step of a walk. Nobody has to believe these.
--   Step          along links: nothing at the walk's end, else the row it is at, and it goes on to the next that hangs where that does
--   MemberStep    over the rows of a set: nothing if no row is left, else the next one, and it goes on behind that
--   RoleStep      over the roles of a word: the same
use Rattle.std.specs.Prelude.{ℕ, ◌≡◌, ◌+◌, ◌≤◌, ◌<◌, get_or, false, Option, MatchOption}
use Rattle.table.specs.Bounds.{max_rows}
use Rattle.table.specs.Layout.{roles}
use Rattle.table.specs.NameSet.{has}
use Rattle.row_sets.specs.Rows.{Next}
use Rattle.row_sets.specs.declared.below.Below.{Below}
use Rattle.row_sets.specs.declared.members.Members.{Members}
use Rattle.row_sets.specs.declared.members.Roles.{Roles}

abbrev pub Step : Below → Option ℕ → Below → Type 0
Step b r n =
    MatchOption r ((b.next ≡ 0) × (n ≡ b))
    (λ j. (j ≡ b.next) × (j ≡ 0 → ⊥) × (n.next ≡ get_or b.table.now.links.now (max_rows + j) 0) × (n.table ≡ b.table) × (n.above ≡ b.above))

abbrev pub MemberStep : Members → Option ℕ → Members → Type 0
MemberStep m r n =
    MatchOption r ((Next m.set m.from m.rows m.rows) × (n ≡ m))
    (λ j. (j < m.rows) × (Next m.set m.from m.rows j) × (n.from ≡ j + 1) × (n.set ≡ m.set) × (n.rows ≡ m.rows))

-- none of them from one role on before another
abbrev pub NoneMet : ℕ → ℕ → ℕ → Type 0
NoneMet word from n = (r : ℕ) → from ≤ r → r < n → has word r ≡ false

abbrev pub RoleStep : Roles → Option ℕ → Roles → Type 0
RoleStep m r n =
    MatchOption r ((NoneMet m.word m.from roles) × (n ≡ m))
    (λ j. (m.from ≤ j) × (j < roles) × (NoneMet m.word m.from j) × (n.from ≡ j + 1) × (n.word ≡ m.word))
