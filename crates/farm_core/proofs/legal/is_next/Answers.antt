use Rattle.std.proofs.Common.{◌≡◌, Bool, Decides, sym, subst, ◌∙◌}
use Rattle.farm_entry.specs.Legal.{command_of}
use Rattle.farm_entry.specs.declared.entry.Entry.{Entry}
use Rattle.farm_laws.proofs.SameEntries.{same_entry-Decides}
use Rattle.farm_core.proofs.Next.{next-tells, not-some, unasked-tells}
use Rattle.farm_core.proofs.legal.is_next.Goals as goal

pub returns-in_default : goal.returns-in_default
returns-in_default c =
    let e : Entry = c.args.entry.now in
    unasked-tells c.args.farm.now e (command_of e.what) c.is_unasked.result
    (sym c.in_ok-command.ensures ∙ not-some c.in_ok-command.field-0 c.in_default.not-Some) c.is_unasked.ensures

pub returns-in-New : goal.returns-in-New
returns-in-New c =
    let e : Entry = c.args.entry.now in
    let made : Entry = c.in-New.made in
    next-tells c.args.farm.now e made c.in-Some.command (command_of e.what) c.eq.result
    (sym c.in_ok-command.ensures ∙ c.in-Some.is) (sym c.in_ok-made.ensures ∙ c.in-New.is)
    (subst (λ (b : Bool). Decides b (made ≡ e)) (sym c.eq.ensures) (same_entry-Decides made e))
