-- A farm with its openings, leases and orders may be handed to another thread.
use denote.Param.Send.{IsSend, sendable}
use Rattle.std.proofs.Crossing.{crosses}
use Rattle.farm_state.proofs.TurnsCrossing.{farm_turns-send}
use Rattle.farm_ledger.specs.contracts.ledger.Ledger as Ledger
use Rattle.farm_ledger.specs.contracts.register.Register as Register

pub register-send : IsSend Register.the_row
register-send = search (farm_turns-send, sendable, crosses) depth 20

pub ledger-send : IsSend Ledger.the_row
ledger-send = search (register-send, sendable, crosses) depth 20
