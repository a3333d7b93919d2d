-- What the nearest of the open positions is.
use Rattle.std.specs.Prelude.{◌≡◌, ℕ, ◌<◌, ◌≤◌, Bool, true, false, Option, Some, None}

-- i is the position above the floor and up to n with the least distance among those that pass a test, the smaller one
-- on a tie
pub record IsNearestOf (test : ℕ → Bool) (away : ℕ → ℕ) (low n i : ℕ) : Type 0 where
  pub above : low < i
  pub within : i ≤ n
  pub passes : test i ≡ true
  pub least : (q : ℕ) → low < q → q ≤ n → test q ≡ true → away i ≤ away q
  pub smaller : (q : ℕ) → low < q → q < i → test q ≡ true → away i < away q

-- no position above the floor and up to n is open
abbrev pub AreShut : (test : ℕ → Bool) → (low n : ℕ) → Type 0
AreShut test low n = (q : ℕ) → low < q → q ≤ n → test q ≡ false

-- what is picked is that position, or nothing where no position is open
abbrev pub IsNearestOrNone : (test : ℕ → Bool) → (away : ℕ → ℕ) → (low n : ℕ) → Option ℕ → Type 0
IsNearestOrNone test away low n None = AreShut test low n
IsNearestOrNone test away low n (Some i) = IsNearestOf test away low n i
