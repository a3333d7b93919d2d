use Rattle.farm_store.specs.Answering.{CallSays, as_batch}
use Rattle.farm_store.specs.declared.asking.CallFault.{CallFault}
use Rattle.std.proofs.Common.{◌∷◌, [], Err, subst}
use Rattle.shared_farm.proofs.ByCommands.{by-first, by-says}
use Rattle.farm_drill.proofs.Asks.{refused-says}
use Rattle.farm_drill.proofs.asking.ask.Goals as goal

pub returns-in-Err-Refused-clause-says : goal.returns-in-Err-Refused-clause-says
returns-in-Err-Refused-clause-says c none =
    let said = subst (λ (f : CallFault). CallSays c.args.command.now c.args.at (Err f) c.args.store.now c.call.new.self)
    c.in-Err-Refused.field-0-is c.in-Err-Refused.ensures.says in
    refused-says c.args.store.now c.call.new.self c.args.command.now c.args.at c.in-Err-Refused.refusal said none

pub returns-in-Ok-clause-by_commands : goal.returns-in-Ok-clause-by_commands
returns-in-Ok-clause-by_commands c = λ by.
    by-first c.call.new.self.history c.call.new.self.pending
    (by-says (record { command = c.args.command.now; at = c.args.at } ∷ []) (as_batch c.call.result)
    c.args.store.now c.call.new.self c.call.ensures.says by)

pub returns-in-Err-Refused-clause-by_commands : goal.returns-in-Err-Refused-clause-by_commands
returns-in-Err-Refused-clause-by_commands c = λ by.
    by-first c.call.new.self.history c.call.new.self.pending
    (by-says (record { command = c.args.command.now; at = c.args.at } ∷ []) (as_batch c.call.result)
    c.args.store.now c.call.new.self c.call.ensures.says by)
