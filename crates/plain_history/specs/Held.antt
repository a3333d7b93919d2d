-- What is known of the entries that a search is opened by.
use Rattle.std.specs.Prelude.{Contains, List, IfSome}
use Rattle.farm_entry.specs.History.{opening_in, openings}
use Rattle.farm_entry.specs.declared.entry.Entry.{Entry}
use Rattle.farm_entry.specs.declared.entry.What.{What}

-- where an entry opened a search, that search is one of the history's
abbrev pub IsHeld : List Entry → What → Type 0
IsHeld H what = IfSome (opening_in what) (Contains (openings H))
