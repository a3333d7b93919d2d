use Rattle.std.proofs.Common.{◌∙◌, [], sym}
use Rattle.std.proofs.lemmas.List.{append-nil}
use Rattle.farm_entry.specs.Decision.{decide}
use Rattle.farm_script.proofs.MemoryAnswers.{added, memory-grows}
use Rattle.farm_script.proofs.memory_farm.FarmScriptFarm.answer_command.Goals as goal

pub returns-in-Ok-clause-images : goal.returns-in-Ok-clause-images
returns-in-Ok-clause-images c =
    let H = c.args.self.now.history in
    let new = added H (decide H c.args.command.now c.args.at) in
    memory-grows _ _ _ _ c.args.self.now _ new.0 (c.in-Ok.ensures.history ∙ new.1)

pub returns-in-Err-clause-images : goal.returns-in-Err-clause-images
returns-in-Err-clause-images c =
    let H = c.args.self.now.history in
    memory-grows _ _ _ _ c.args.self.now _ [] (c.in-Err.ensures.kept ∙ sym (append-nil H))
