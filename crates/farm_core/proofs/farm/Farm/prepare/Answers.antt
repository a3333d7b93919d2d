use Rattle.std.proofs.Common.{◌≡◌, ◌++◌, ◌∷◌, [], true, sym, subst, ◌∙◌}
use Rattle.std.specs.Option.{is_some}
use Rattle.farm_entry.specs.Legal.{IsLegal, command_of}
use Rattle.farm_entry.specs.declared.entry.Entry.{Entry}
use Rattle.farm_laws.proofs.Induct.{IsLegal-push}
use Rattle.farm_laws.proofs.Recorded.{recorded}
use Rattle.farm_core.proofs.Named.{added-named, repeated-made, some-named}
use Rattle.farm_core.proofs.farm.Farm.prepare.Goals as goal

pub repeat-requires-clause-made : goal.repeat-requires-clause-made
repeat-requires-clause-made c =
    let said = c.in_ok-refusal.ensures in
    repeated-made c.forget_ready.new.self.history c.args.command.now c.args.at _ c.in-Repeat.place said.decided
    c.in-Repeat.is

pub prepare_new-requires-clause-next : goal.prepare_new-requires-clause-next
prepare_new-requires-clause-next c =
    let H = c.forget_ready.new.self.history in
    let e = c.in-New.entry in
    let said = c.in_ok-refusal.ensures in
    subst (λ (x : Entry). IsLegal (H ++ x ∷ [])) (sym c.in_ok-copy-in-New.ensures)
    (IsLegal-push H e said.legal (recorded H c.args.command.now c.args.at e (sym said.decided ∙ c.in-New.is)))

pub prepare_new-requires-clause-named : goal.prepare_new-requires-clause-named
prepare_new-requires-clause-named c =
    let H = c.forget_ready.new.self.history in
    let e = c.in-New.entry in
    let said = c.in_ok-refusal.ensures in
    subst (λ (x : Entry). is_some (command_of x.what) ≡ true) (sym c.in_ok-copy-in-New.ensures)
    (some-named (command_of e.what) (added-named H c.args.command.now c.args.at _ e said.decided c.in-New.is))
