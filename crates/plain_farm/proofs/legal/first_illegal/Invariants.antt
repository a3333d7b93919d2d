use Rattle.std.proofs.Common.{take}
use Rattle.farm_entry.specs.Legal.{IsLegal}
use Rattle.plain_farm.specs.Rows.{AreRows}
use Rattle.plain_farm.proofs.legal.first_illegal.Given as goal

abbrev pub invariant-loop-place : goal.invariant-loop-place
invariant-loop-place l = record {
  legal : IsLegal (take l.place l.list);
  kept : AreRows (take l.place l.list) l.rows.items;
}
