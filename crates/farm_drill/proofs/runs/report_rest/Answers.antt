use Rattle.farm_drill.proofs.runs.report_rest.Goals as goal

pub returns-then-reported-clause-reported : goal.returns-then-reported-clause-reported
returns-then-reported-clause-reported c = c.requires.reported c.if-reported.true
