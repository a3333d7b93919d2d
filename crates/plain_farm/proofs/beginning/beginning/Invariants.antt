use Rattle.std.proofs.Common.{take}
use Rattle.farm_entry.specs.Legal.{IsLegal}
use Rattle.plain_farm.specs.Begun.{HasBegun}
use Rattle.plain_farm.proofs.beginning.beginning.Given as goal

abbrev pub invariant-loop-place : goal.invariant-loop-place
invariant-loop-place l = record {
  legal : IsLegal (take l.place l.list);
  begun : HasBegun (take l.place l.list) l.at l.orders;
}
