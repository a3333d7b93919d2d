use Rattle.farm_store.proofs.GoingOn.{if-misfit}
use Rattle.farm_store.proofs.admitting.go_on.Goals as goal

pub returns-clause-misfit : goal.returns-clause-misfit
returns-clause-misfit c =
    if-misfit c.args.payload.now c.args.farm.now.history c.in_ok-entries.entries.items
    c.admit_all.new.self.history c.admit_all.result
    c.in_ok-entries.ensures.spelled c.in_ok-entries.ensures.is c.admit_all.ensures.halted
