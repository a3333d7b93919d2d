use Rattle.std.proofs.Common.{◌≡◌, ◌++◌, ◌∷◌, [], List, take, refl, sym, ap, subst, ◌∙◌}
use Rattle.farm_entry.specs.Decision.{decide}
use Rattle.farm_entry.specs.Legal.{IsLegal}
use Rattle.farm_entry.specs.declared.entry.Entry.{Entry}
use Rattle.farm_laws.proofs.Induct.{IsLegal-push}
use Rattle.farm_laws.proofs.Recorded.{recorded}
use Rattle.farm_core.specs.Outcome.{IsHandedOut}
use Rattle.farm_core.proofs.Handed.{handed-new}
use Rattle.farm_core.proofs.Named.{added-named, repeated-made}
use Rattle.farm_core.proofs.farm.Farm.enter.Goals as goal

pub repeated_run-requires-clause-made : goal.repeated_run-requires-clause-made
repeated_run-requires-clause-made c =
    repeated-made c.forget_ready.new.self.history c.args.command.now c.args.at _ c.in-Ok-Repeat.place
    c.in-Ok-Repeat.ensures.decided c.in-Ok-Repeat.field-0-is

pub make_ready-requires-clause-next : goal.make_ready-requires-clause-next
make_ready-requires-clause-next c =
    let H = c.forget_ready.new.self.history in
    let e = c.in-Ok-New.entry in
    let said = c.in-Ok-New.ensures in
    IsLegal-push H e said.legal (recorded H c.args.command.now c.args.at e (sym said.decided ∙ c.in-Ok-New.field-0-is))

pub returns-in-Ok-clause-handed : goal.returns-in-Ok-clause-handed
returns-in-Ok-clause-handed c =
    let q = c.args.command.now in
    let H = c.forget_ready.new.self.history in
    let e = c.in-Ok-New.entry in
    let said = c.in-Ok-New.ensures in
    let is : decide H q c.args.at ≡ _ = sym said.decided ∙ c.in-Ok-New.field-0-is in
    subst (λ (K : List Entry). IsHandedOut K (decide K q c.args.at) c.lease-run.result) c.forget_ready.ensures.history
    (subst (IsHandedOut H (decide H q c.args.at)) (sym c.lease-run.ensures)
    (let named = added-named H q c.args.at (decide H q c.args.at) e refl is in
    handed-new H (decide H q c.args.at) e named.0 is
    (IsLegal-push H e said.legal (recorded H q c.args.at e is)) named.1))

pub returns-in-Ok-clause-legal : goal.returns-in-Ok-clause-legal
returns-in-Ok-clause-legal c =
    let H = c.forget_ready.new.self.history in
    let e = c.in-Ok-New.entry in
    let said = c.in-Ok-New.ensures in
    let made = c.in-Ok.ensures in
    let is : c.commit_next.new.self.history ≡ H ++ e ∷ [] =
    c.commit_next.ensures.history
    ∙ ap (λ (K : List Entry). K ++ take 1 c.make_ready.new.self.ready) c.make_ready.ensures.history
    ∙ ap (λ (ready : List Entry). H ++ take 1 ready) made.ready in
    subst IsLegal (sym is)
    (IsLegal-push H e said.legal
    (recorded H c.args.command.now c.args.at e (sym said.decided ∙ c.in-Ok-New.field-0-is)))
