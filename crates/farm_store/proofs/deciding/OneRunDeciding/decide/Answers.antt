-- What the run of one command comes to, by the lemmas of `Entered` and `Adding`.
use Rattle.std.proofs.Common.{◌∙◌, subst}
use Rattle.farm_core.specs.FarmFaults.{IsRefusedBy}
use Rattle.farm_entry.specs.Decision.{decide}
use Rattle.farm_store.proofs.Adding.{decided-adds}
use Rattle.farm_store.proofs.Entered.{entered-refused, entered-run, refused-after}
use Rattle.farm_store.proofs.deciding.OneRunDeciding.decide.Goals as goal

pub returns-in-Ok-clause-gives : goal.returns-in-Ok-clause-gives
returns-in-Ok-clause-gives c =
    entered-run c.args.farm.now.history (record { command = c.args.self.now.command.now; at = c.args.self.now.at })
    c.in-Ok.run' c.in-Ok.ensures.handed

pub returns-in-Err-Refused-clause-gives : goal.returns-in-Err-Refused-clause-gives
returns-in-Err-Refused-clause-gives c =
    let H = c.args.farm.now.history in
    let q = c.args.self.now.command.now in
    let m = c.args.self.now.at in
    entered-refused H (record { command = q; at = m }) c.in-Err-Refused.refusal
    (subst (IsRefusedBy H q m) c.in-Err-Refused.field-0-is c.in-Err-Refused.ensures.refused)

pub returns-in-Err-Refused-clause-history : goal.returns-in-Err-Refused-clause-history
returns-in-Err-Refused-clause-history c =
    let H = c.args.farm.now.history in
    let q = c.args.self.now.command.now in
    let m = c.args.self.now.at in
    c.in-Err-Refused.ensures.kept
    ∙ refused-after H (decide H q m) c.in-Err-Refused.refusal
    (subst (IsRefusedBy H q m) c.in-Err-Refused.field-0-is c.in-Err-Refused.ensures.refused)

pub returns-in-Ok-clause-added : goal.returns-in-Ok-clause-added
returns-in-Ok-clause-added c =
    decided-adds c.enter.result c.args.farm.now.history c.enter.new.self.history
    (decide c.args.farm.now.history c.args.self.now.command.now c.args.self.now.at) c.enter.ensures.history
    c.enter.ensures.kept

pub returns-in-Err-Refused-clause-added : goal.returns-in-Err-Refused-clause-added
returns-in-Err-Refused-clause-added c =
    decided-adds c.enter.result c.args.farm.now.history c.enter.new.self.history
    (decide c.args.farm.now.history c.args.self.now.command.now c.args.self.now.at) c.enter.ensures.history
    c.enter.ensures.kept

pub returns-in-Err-Memory-clause-added : goal.returns-in-Err-Memory-clause-added
returns-in-Err-Memory-clause-added c =
    decided-adds c.enter.result c.args.farm.now.history c.enter.new.self.history
    (decide c.args.farm.now.history c.args.self.now.command.now c.args.self.now.at) c.enter.ensures.history
    c.enter.ensures.kept
