use Rattle.std.proofs.Common.{Bool, Decides, ◌≡◌, sym, subst, ◌∙◌}
use Rattle.farm_entry.specs.Legal.{command_of}
use Rattle.farm_laws.proofs.SameEntries.{same_entry-Decides}
use Rattle.plain_farm.proofs.Growth.{next-tells}
use Rattle.plain_farm.proofs.legal.is_next_by.Goals as goal

pub returns-in-New : goal.returns-in-New
returns-in-New c =
    let e = c.args.entry.now in
    let made = c.in-New.made in
    next-tells c.args.history.now e made c.in-Some.command (command_of e.what) c.eq.result
    (sym c.in_ok-command.ensures ∙ c.in-Some.is) (sym c.in_ok-made.ensures ∙ c.in-New.is)
    (subst (λ (b : Bool). Decides b (made ≡ e)) (sym c.eq.ensures) (same_entry-Decides made e))
