-- What adding entries comes to, by the lemmas of `Admissions`.
use Rattle.std.proofs.Common.{◌≡◌, ◌++◌, ◌∙◌, ◌-◌, List, ap, length, subst, sym}
use Rattle.farm_core.specs.FarmFaults.{IsHalted}
use Rattle.farm_core.specs.declared.farm.AdmitFault.{AdmitFault}
use Rattle.farm_core.specs.declared.farm.AdmitFault.TheVariants as admit
use Rattle.farm_entry.specs.Legal.{IsLegal}
use Rattle.farm_entry.specs.declared.entry.Entry.{Entry}
use Rattle.farm_store.proofs.Admissions.{halted-back, halted-some, stuck-at}
use Rattle.farm_store.proofs.admitting.add_all.Goals as goal

pub returns-in-Ok-admit_all-clause-adds : goal.returns-in-Ok-admit_all-clause-adds
returns-in-Ok-admit_all-clause-adds c =
    c.in-Ok-admit_all.ensures.admitted ∙ ap (λ (l : List Entry). c.args.farm.now.history ++ l) c.in-Ok.ensures

pub returns-in-Ok-admit_all-clause-legal : goal.returns-in-Ok-admit_all-clause-legal
returns-in-Ok-admit_all-clause-legal c =
    subst IsLegal (sym c.in-Ok-admit_all.ensures.admitted) c.in-Ok-admit_all.ensures.legal

pub retract-requires : goal.retract-requires
retract-requires c =
    let H = c.args.farm.now.history in
    let K = c.admit_all.new.self.history in
    let made = c.in-Ok.made.items in
    let count = length c.history.result.now - length c.history-start.result.now in
    let is : count ≡ length K - length H =
    ap (λ (l : List Entry). length l - length c.history-start.result.now) c.history.ensures.value
    ∙ ap (λ (l : List Entry). length K - length l) c.history-start.ensures.value in
    halted-some H K made c.in-Err.fault c.history-start.ensures.legal c.in-Err.ensures.halted count is

pub returns-in-Illegal-clause-adds : goal.returns-in-Illegal-clause-adds
returns-in-Illegal-clause-adds c =
    let H = c.args.farm.now.history in
    let K = c.admit_all.new.self.history in
    let made = c.in-Ok.made.items in
    let count = length c.history.result.now - length c.history-start.result.now in
    let is : count ≡ length K - length H =
    ap (λ (l : List Entry). length l - length c.history-start.result.now) c.history.ensures.value
    ∙ ap (λ (l : List Entry). length K - length l) c.history-start.ensures.value in
    let halted = subst (λ (l : List Entry). IsHalted H l K admit.Illegal) c.in-Ok.ensures
    (subst (λ (f : AdmitFault). IsHalted H made K f) c.in-Illegal.is c.in-Err.ensures.halted) in (
      c.retract.ensures.history
          ∙ halted-back H K made c.in-Err.fault c.history-start.ensures.legal c.in-Err.ensures.halted count is,
      stuck-at H K c.args.entries.now count halted is,
    )

pub returns-in-Illegal-clause-legal : goal.returns-in-Illegal-clause-legal
returns-in-Illegal-clause-legal c =
    let H = c.args.farm.now.history in
    let K = c.admit_all.new.self.history in
    let made = c.in-Ok.made.items in
    let count = length c.history.result.now - length c.history-start.result.now in
    let is : count ≡ length K - length H =
    ap (λ (l : List Entry). length l - length c.history-start.result.now) c.history.ensures.value
    ∙ ap (λ (l : List Entry). length K - length l) c.history-start.ensures.value in
    subst IsLegal (sym (c.retract.ensures.history
    ∙ halted-back H K made c.in-Err.fault c.history-start.ensures.legal c.in-Err.ensures.halted count is))
    c.history-start.ensures.legal

pub returns-in-Memory-clause-adds : goal.returns-in-Memory-clause-adds
returns-in-Memory-clause-adds c =
    let H = c.args.farm.now.history in
    let K = c.admit_all.new.self.history in
    let made = c.in-Ok.made.items in
    let count = length c.history.result.now - length c.history-start.result.now in
    let is : count ≡ length K - length H =
    ap (λ (l : List Entry). length l - length c.history-start.result.now) c.history.ensures.value
    ∙ ap (λ (l : List Entry). length K - length l) c.history-start.ensures.value in
    c.retract.ensures.history
    ∙ halted-back H K made c.in-Err.fault c.history-start.ensures.legal c.in-Err.ensures.halted count is

pub returns-in-Memory-clause-legal : goal.returns-in-Memory-clause-legal
returns-in-Memory-clause-legal c =
    let H = c.args.farm.now.history in
    let K = c.admit_all.new.self.history in
    let made = c.in-Ok.made.items in
    let count = length c.history.result.now - length c.history-start.result.now in
    let is : count ≡ length K - length H =
    ap (λ (l : List Entry). length l - length c.history-start.result.now) c.history.ensures.value
    ∙ ap (λ (l : List Entry). length K - length l) c.history-start.ensures.value in
    subst IsLegal (sym (c.retract.ensures.history
    ∙ halted-back H K made c.in-Err.fault c.history-start.ensures.legal c.in-Err.ensures.halted count is))
    c.history-start.ensures.legal
