use Rattle.std.proofs.Common.{◌≡◌, take}
use Rattle.std.specs.List.{filter_map}
use Rattle.farm_entry.specs.RunPages.{run_line}
use Rattle.plain_farm.proofs.run_page.run_lines.Given as goal

abbrev pub invariant-loop-entry : goal.invariant-loop-entry
invariant-loop-entry l =
    l.lines.items ≡ filter_map (λ e. run_line l.history l.opening e.at e.what) (take l.entry-index l.history)
