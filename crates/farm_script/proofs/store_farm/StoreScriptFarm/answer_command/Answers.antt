use Rattle.std.specs.Prelude.{OnOk}
use Rattle.farm_script.proofs.StoreAnswers.{cause-rises, one-answered, store-grows}
use Rattle.farm_script.proofs.store_farm.StoreScriptFarm.answer_command.Goals as goal

pub returns-clause-answer : goal.returns-clause-answer
returns-clause-answer g c =
    let did = c.answer.ensures in
    (one-answered c.args.command.now c.args.at _ c.args.self.now c.answer.new.self c.requires did.keeps.legal
    did.says).answer

pub returns-clause-history : goal.returns-clause-history
returns-clause-history g c =
    let did = c.answer.ensures in
    (one-answered c.args.command.now c.args.at _ c.args.self.now c.answer.new.self c.requires did.keeps.legal
    did.says).history

pub returns-clause-legal : goal.returns-clause-legal
returns-clause-legal g c =
    let did = c.answer.ensures in
    (one-answered c.args.command.now c.args.at _ c.args.self.now c.answer.new.self c.requires did.keeps.legal
    did.says).legal

pub returns-clause-decided : goal.returns-clause-decided
returns-clause-decided g c =
    let did = c.answer.ensures in
    (one-answered c.args.command.now c.args.at _ c.args.self.now c.answer.new.self c.requires did.keeps.legal
    did.says).decided

pub returns-clause-store_fault : goal.returns-clause-store_fault
returns-clause-store_fault g c =
    let did = c.answer.ensures in
    (one-answered c.args.command.now c.args.at _ c.args.self.now c.answer.new.self c.requires did.keeps.legal
    did.says).store_fault

pub returns-clause-memory : goal.returns-clause-memory
returns-clause-memory g c =
    let did = c.answer.ensures in
    (one-answered c.args.command.now c.args.at _ c.args.self.now c.answer.new.self c.requires did.keeps.legal
    did.says).memory

pub returns-clause-rises : goal.returns-clause-rises
returns-clause-rises g c = cause-rises _ _ _ c.answer.ensures.cause

pub returns-clause-images : goal.returns-clause-images
returns-clause-images g c =
    store-grows g.D.Disk _ c.args.self.now c.answer.new.self c.requires c.answer.ensures.keeps
