use Rattle.std.proofs.Common.{Some}
use Rattle.farm_drill.proofs.Work.{acts-on}
use Rattle.farm_drill.proofs.worker.Worker.act.Goals as goal

pub returns-in-SendReport-clause-acts : goal.returns-in-SendReport-clause-acts
returns-in-SendReport-clause-acts g c =
    acts-on c.args.pass.now.seen c.report.new.pass.seen c.args.self.now.held (Some c.args.action)
    c.report.ensures.keeps.longer c.requires.acts
