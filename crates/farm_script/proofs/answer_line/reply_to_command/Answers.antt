use Rattle.std.proofs.Common.{◌∙◌}
use Rattle.farm_entry.specs.Decision.{decide}
use Rattle.farm_script.proofs.Dates.{dated}
use Rattle.farm_wire.proofs.Answers.{answer-text}
use Rattle.farm_script.proofs.answer_line.reply_to_command.Goals as goal

pub text_of-requires : goal.text_of-requires
text_of-requires g c =
    let H = g.F.ScriptFarm.history c.args.farm.now in
    let did = c.in_ok-answer.ensures in
    dated H (g.F.ScriptFarm.history c.answer_command.new.self) c.args.command.now c.args.at c.in_ok-answer.answer
    did.answer did.history did.legal

pub returns-clause-reply : goal.returns-clause-reply
returns-clause-reply g c =
    let H = g.F.ScriptFarm.history c.args.farm.now in
    c.in_ok-text_of.ensures
    ∙ answer-text H (decide H c.args.command.now c.args.at) c.in_ok-answer.answer c.in_ok-answer.ensures.answer
