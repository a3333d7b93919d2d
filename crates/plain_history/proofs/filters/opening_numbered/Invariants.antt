use Rattle.std.proofs.Common.{◌≡◌, ◌==◌, drop, find}
use Rattle.farm_entry.specs.History.{opening_numbered, openings}
use Rattle.plain_history.proofs.filters.opening_numbered.Given as goal

abbrev pub invariant-loop-entry : goal.invariant-loop-entry
invariant-loop-entry l = find (λ o. o.search == l.search) (openings (drop l.entry-index l.history)) ≡ opening_numbered l.history l.search
