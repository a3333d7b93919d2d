-- What one ask came to, as a list of one.
use Rattle.std.proofs.Common.{◌∷◌, []}
use Rattle.farm_store.proofs.Missed.{settles-one}
use Rattle.farm_store.proofs.store.Store.answer.Goals as goal

pub returns-clause-says : goal.returns-clause-says
returns-clause-says g c =
    settles-one (record { command = c.args.command.now; at = c.args.at } ∷ []) c.settle.result c.args.self.now
    c.settle.new.self c.settle.ensures.says
