use Rattle.plain_farm.proofs.Histories.{opened_miss}
use Rattle.plain_farm.proofs.reply.reply_to_opening.Goals as goal

pub budget-requires : goal.budget-requires
budget-requires c = record { told = opened_miss c.args.history.now c.args.opening.now c.requires.legal c.requires.opened }
