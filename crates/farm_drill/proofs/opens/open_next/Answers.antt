use Rattle.std.proofs.Common.{Result, subst, arith}
use Rattle.farm_entry.specs.declared.command.Command.TheVariants.{Open}
use Rattle.farm_entry.specs.declared.refusal.Refusal.{Refusal}
use Rattle.farm_entry.specs.declared.reply.Reply.{Reply}
use Rattle.farm_drill.specs.Asked.{AskSays}
use Rattle.farm_drill.proofs.Steps.{open-done, open-not_refused}
use Rattle.farm_drill.proofs.opens.open_next.Goals as goal

pub unreachable-requires : goal.unreachable-requires
unreachable-requires c =
    let taken = c.planned_opens_are_taken.ensures c.args.store.now.history c.args.before c.requires.start
    (omega arith) in
    let refused = subst (λ (r : Result Reply Refusal). AskSays c.args.store.now.history
    (Open c.in_ok-planned_ask.field-0)
    c.drill_moment.result r c.ask.new.store.history) c.in-Err.is (c.in_ok-ask.ensures.says c.requires.decided) in
    open-not_refused c.args.store.now.history c.args.before c.in_ok-planned_ask.field-0 c.drill_moment.result
    c.in-Err.field-0 c.ask.new.store.history taken c.in_ok-planned_ask.ensures c.drill_moment.ensures refused

pub returns-clause-start : goal.returns-clause-start
returns-clause-start c =
    let taken = c.planned_opens_are_taken.ensures c.args.store.now.history c.args.before c.requires.start
    (omega arith) in
    let done = subst (λ (r : Result Reply Refusal). AskSays c.args.store.now.history (Open c.in_ok-planned_ask.field-0)
    c.drill_moment.result r c.ask.new.store.history) c.in-Ok.is (c.in_ok-ask.ensures.says c.requires.decided) in
    open-done c.args.store.now.history c.args.before c.in_ok-planned_ask.field-0 c.drill_moment.result
    c.in-Ok.field-0 c.ask.new.store.history taken c.in_ok-planned_ask.ensures c.drill_moment.ensures done
