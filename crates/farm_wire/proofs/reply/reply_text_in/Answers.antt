use Rattle.std.proofs.Common.{rules}
use Rattle.farm_wire.specs.Replies.{reply_data}
use Rattle.farm_wire.proofs.reply.reply_text_in.Goals as goal

pub returns-in-Search : goal.returns-in-Search
unfolding reply_data
returns-in-Search c = search rules

pub returns-in-Farm : goal.returns-in-Farm
unfolding reply_data
returns-in-Farm c = search rules
