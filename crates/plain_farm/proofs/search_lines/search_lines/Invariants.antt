use Rattle.std.proofs.Common.{◌≡◌, take}
use Rattle.std.specs.List.{filter_map}
use Rattle.std.specs.Option.{option_map}
use Rattle.farm_entry.specs.History.{opening_in}
use Rattle.farm_entry.specs.SearchLines.{search_line}
use Rattle.plain_farm.proofs.search_lines.search_lines.Given as goal

abbrev pub invariant-loop-entry : goal.invariant-loop-entry
invariant-loop-entry l =
    l.lines.items
    ≡ filter_map (λ e. option_map (search_line l.history e.at) (opening_in e.what)) (take l.entry-index l.history)
