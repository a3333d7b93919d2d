use Rattle.std.proofs.Common.{◌≡◌, take}
use Rattle.search_state.specs.Seen.{seen}
use Rattle.farm_state.proofs.telling.retell.Given as goal

abbrev pub invariant-loop-entry : goal.invariant-loop-entry
invariant-loop-entry l = l.state ≡ seen (take l.entry-index l.books) l.fn.state.opening
