-- How many bytes of a record the entries of some asks take at most, by their kinds.
use Rattle.std.specs.Prelude.{ℕ, List}
use Rattle.std.specs.List.{sum_by}
use Rattle.entry_codec.specs.declared.limits.TheConstants.{MAX_ENTRY_BYTES}
use Rattle.farm_entry.specs.declared.command.Command.{Command}
use Rattle.farm_entry.specs.declared.command.Command.TheVariants.{Open}
use Rattle.farm_entry.specs.declared.entry.Entry.{Entry}
use Rattle.farm_entry.specs.declared.entry.What.{What}
use Rattle.farm_entry.specs.declared.entry.What.TheVariants.{Opened}
use Rattle.farm_store.specs.declared.asking.Ask.{Ask}
use Rattle.farm_store.specs.declared.asking.TheConstants.{MAX_SHORT_ENTRY_BYTES}

-- the most bytes of the entry that a command makes
abbrev pub command_size : Command → ℕ
command_size (Open ask) = MAX_ENTRY_BYTES
command_size _ = MAX_SHORT_ENTRY_BYTES

-- of the entries of all these asks
abbrev pub asks_size : List Ask → ℕ
asks_size asks = sum_by (λ ask. command_size ask.command) asks

-- the most bytes of an entry of this kind
abbrev pub what_size : What → ℕ
what_size (Opened o) = MAX_ENTRY_BYTES
what_size _ = MAX_SHORT_ENTRY_BYTES

-- of all these entries
abbrev pub entries_size : List Entry → ℕ
entries_size entries = sum_by (λ entry. what_size entry.what) entries
