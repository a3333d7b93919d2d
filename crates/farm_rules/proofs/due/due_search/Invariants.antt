use Rattle.std.proofs.Common.{◌≡◌, [], take}
use Rattle.farm_rules.specs.Due.{struck}
use Rattle.farm_rules.proofs.due.due_search.Given as goal

-- No entry before this index is left
abbrev pub invariant-loop-index : goal.invariant-loop-index
invariant-loop-index l = struck (take l.index l.plan) l.outstanding ≡ []
