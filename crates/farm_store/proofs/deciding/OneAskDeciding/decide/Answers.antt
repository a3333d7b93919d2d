-- What one answer comes to, by the lemmas of `Adding`.
use Rattle.farm_entry.specs.Decision.{decide}
use Rattle.farm_store.proofs.Adding.{decided-adds, one-answered}
use Rattle.farm_store.proofs.deciding.OneAskDeciding.decide.Goals as goal

pub returns-clause-gives : goal.returns-clause-gives
returns-clause-gives c =
    one-answered c.answer.result c.args.farm.now.history
    (record { command = c.args.self.now.command.now; at = c.args.self.now.at }) c.answer.ensures.answer

pub returns-clause-added : goal.returns-clause-added
returns-clause-added c =
    decided-adds c.answer.result c.args.farm.now.history c.answer.new.self.history
    (decide c.args.farm.now.history c.args.self.now.command.now c.args.self.now.at) c.answer.ensures.history
    c.answer.ensures.kept
