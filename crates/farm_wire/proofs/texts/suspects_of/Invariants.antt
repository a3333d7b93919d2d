use Rattle.std.proofs.Common.{◌≡◌}
use Rattle.serde_json.specs.Events.{items_len}
use Rattle.json_tape.specs.Views.{items_in}
use Rattle.farm_wire.specs.Forms.{suspects_of}
use Rattle.farm_wire.proofs.Objects.{after}
use Rattle.farm_wire.proofs.texts.suspects_of.Given as goal

abbrev pub invariant-loop-value : goal.invariant-loop-value
invariant-loop-value l =
    suspects_of (items_in l.fn.list) ≡ after l.found.items (suspects_of (items_in l.left))

abbrev pub decreases-loop-value : goal.decreases-loop-value
decreases-loop-value l = items_len (items_in l.left)
