use Rattle.serde_json.specs.Events.{items_len}
use Rattle.json_tape.specs.Views.{items_in}
use Rattle.farm_wire.proofs.texts.count.Given as goal

abbrev pub decreases-loop-left : goal.decreases-loop-left
decreases-loop-left l = items_len (items_in l.left)
