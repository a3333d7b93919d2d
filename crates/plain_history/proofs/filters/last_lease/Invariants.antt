use Rattle.std.proofs.Common.{◌≡◌, drop}
use Rattle.farm_entry.specs.History.{is_lease_for, last_lease, last_place}
use Rattle.plain_history.proofs.filters.last_lease.Given as goal

abbrev pub invariant-loop-place : goal.invariant-loop-place
invariant-loop-place l = last_place (is_lease_for l.search) l.place l.found (drop l.place l.history) ≡ last_lease l.history l.search
