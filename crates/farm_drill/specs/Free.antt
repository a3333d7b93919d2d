-- Keys that stand in no entry.
use Rattle.std.specs.Prelude.{◌≡◌, ℕ, ◌≤◌, ◌<◌, Bool, true, false, List, length, get_or, None}
use Rattle.std.specs.List.{list_any}
use Rattle.farm_types.specs.declared.key.Key.{Key}
use Rattle.farm_entry.specs.History.{has_key, place_of_key}
use Rattle.farm_entry.specs.declared.entry.Entry.{Entry}
use Rattle.farm_drill.specs.declared.keys.Keys.{Keys}

-- the key with a number
abbrev pub key_numbered : ℕ → Key
key_numbered number = record { 0 = number }

-- the keys from the next one on that aren't marked as used stand in no entry of a history
abbrev pub AreFree : List Entry → Keys → Type 0
AreFree H keys =
    (number : ℕ) → keys.next ≤ number → number < length keys.used.items → get_or keys.used.items number true ≡ false
    → place_of_key H (key_numbered number) ≡ None

-- exactly the small keys that stand in an entry are marked as used
abbrev pub AreMarked : List Entry → (used : List Bool) → Type 0
AreMarked H used =
    (number : ℕ) → number < length used → get_or used number true ≡ list_any (has_key (key_numbered number)) H
