-- The book of the revert orders that stand.
use Rattle.std.specs.Prelude.{ℕ, List, map, AllPairs, ◌≢◌}
use Rattle.farm_rules.specs.Orders.{Ordered}
use Rattle.farm_types.specs.declared.commit_id.CommitId.{CommitId}

-- The orders, the oldest first; how many of them were given here, which are the last ones, and numbered from 1; and how
-- many more can be added without memory. The orders before those given were carried over
pub record Book : Type 0 where
  pub orders : List Ordered
  pub given : ℕ
  pub room : ℕ

-- the order to revert a commit, that counts on a day
abbrev pub ordered : CommitId → ℕ → Ordered
ordered commit day = record { commit = commit; day = day }

-- the commits that orders revert
abbrev pub commits_of : List Ordered → List CommitId
commits_of orders = map (λ order. order.commit) orders

-- no two orders are for one commit
abbrev pub IsOnePerCommit : List Ordered → Type 0
IsOnePerCommit orders = AllPairs (λ a b. a ≢ b) (commits_of orders)
