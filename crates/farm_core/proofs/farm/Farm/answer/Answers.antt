use Rattle.std.proofs.Common.{◌≡◌, ◌++◌, ◌∷◌, [], List, take, sym, ap, subst, ◌∙◌}
use Rattle.farm_entry.specs.Legal.{IsLegal, command_of}
use Rattle.farm_entry.specs.declared.entry.Entry.{Entry}
use Rattle.farm_laws.proofs.Induct.{IsLegal-push}
use Rattle.farm_laws.proofs.Recorded.{recorded}
use Rattle.farm_core.proofs.Named.{added-named, repeated-made, some-named}
use Rattle.farm_core.proofs.farm.Farm.answer.Goals as goal

pub repeat-requires-clause-made : goal.repeat-requires-clause-made
repeat-requires-clause-made c =
    repeated-made c.forget_ready.new.self.history c.args.command.now c.args.at _ c.in-Ok-Repeat.place
    c.in-Ok-Repeat.ensures.decided c.in-Ok-Repeat.field-0-is

pub prepare_new-requires-clause-named : goal.prepare_new-requires-clause-named
prepare_new-requires-clause-named c =
    let e = c.in-Ok-New.entry in
    some-named (command_of e.what)
    (added-named c.forget_ready.new.self.history c.args.command.now c.args.at _ e c.in-Ok-New.ensures.decided
    c.in-Ok-New.field-0-is)

pub prepare_new-requires-clause-next : goal.prepare_new-requires-clause-next
prepare_new-requires-clause-next c =
    let H = c.forget_ready.new.self.history in
    let e = c.in-Ok-New.entry in
    let said = c.in-Ok-New.ensures in
    IsLegal-push H e said.legal (recorded H c.args.command.now c.args.at e (sym said.decided ∙ c.in-Ok-New.field-0-is))

pub returns-in-Ok-prepare_new-clause-legal : goal.returns-in-Ok-prepare_new-clause-legal
returns-in-Ok-prepare_new-clause-legal c =
    let H = c.forget_ready.new.self.history in
    let e = c.in-Ok-New.entry in
    let said = c.in-Ok-New.ensures in
    let made = c.in-Ok-prepare_new.ensures in
    let is : c.commit_next.new.self.history ≡ H ++ e ∷ [] =
    c.commit_next.ensures.history ∙ ap (λ (K : List Entry). K ++ take 1 c.prepare_new.new.self.ready) made.history
    ∙ ap (λ (ready : List Entry). H ++ take 1 ready) made.ready in
    subst IsLegal (sym is)
    (IsLegal-push H e said.legal
    (recorded H c.args.command.now c.args.at e (sym said.decided ∙ c.in-Ok-New.field-0-is)))
