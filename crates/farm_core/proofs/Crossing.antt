-- A farm in memory may be handed to another thread.
use denote.Param.Send.{IsSend, sendable}
use Rattle.std.proofs.Crossing.{crosses}
use Rattle.kept_farm.proofs.Crossing.{kept_farm-send}
use Rattle.farm_core.specs.contracts.farm.Farm as Farm

pub farm-send : IsSend Farm.the_row
farm-send = search (kept_farm-send, sendable, crosses) depth 20
