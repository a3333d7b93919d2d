use Rattle.std.proofs.Common.{◌≡◌, take}
use Rattle.kept_farm.specs.Places.{lines_at}
use Rattle.kept_farm.proofs.order_places.lines_at.Given as goal

abbrev pub invariant-loop-place : goal.invariant-loop-place
invariant-loop-place l = l.lines.items ≡ lines_at l.history (take l.place-index l.places)
