use Rattle.std.proofs.Common.{◌≡◌, drop, map}
use Rattle.json.specs.Tape.{node_token}
use Rattle.json_tape.specs.Ranges.{depths}
use Rattle.json_tape.proofs.range.is_accepted.Given as goal

abbrev pub invariant-loop-node : goal.invariant-loop-node
invariant-loop-node l =
    depths 0 (map node_token l.nodes) ≡ depths l.depth (map node_token (drop l.node-index l.nodes))
