-- What contracts see of a runner and of a source of keys in memory.
use Rattle.std.specs.Prelude.{ℕ, ◌+◌, ◌%◌, ◌^◌, List, [], ◌∷◌}
use Rattle.farm_types.specs.declared.key.Key.{Key}
use Rattle.link_io.specs.FaultPlan.{PlannedFaults}
use Rattle.worker_core.specs.declared.tested.Tested.{Tested}
use Rattle.worker_core.specs.Runs.{Asked, asked}
use Rattle.worker_core.specs.declared.list_runner.Told.{Told}

-- what it will say of tests, the calls that are to fail, how often it failed, and what it answered, the newest
-- first
pub record RunnerInMemory : Type 0 where
  pub tested : List Tested
  pub plan : PlannedFaults
  pub count : ℕ
  pub told : List Asked

-- what was told
abbrev pub asked_of : Told → Asked
asked_of told = asked told.test.value told.commit.value told.ran

-- the keys of its list that are left, the number of the last key given, or 0, and the keys given, the newest first
pub record KeysInMemory : Type 0 where
  pub left : List Key
  pub last : ℕ
  pub told : List Key

-- the next key of a list of keys, or else the one that follows a number
abbrev pub key_after : ℕ → List Key → Key
key_after last [] = record { 0 = (last + 1) % 2 ^ 128 }
key_after last (key ∷ keys) = key

-- the next key that a source gives
abbrev pub next_key : KeysInMemory → Key
next_key keys = key_after keys.last keys.left

-- what is left of a list once a key was given
abbrev pub left_after : List Key → List Key
left_after [] = []
left_after (key ∷ keys) = keys

-- a source once it gave a key
abbrev pub keys_after : KeysInMemory → KeysInMemory
keys_after keys = record {
  left = left_after keys.left;
  last = (next_key keys).0;
  told = next_key keys ∷ keys.told;
}
