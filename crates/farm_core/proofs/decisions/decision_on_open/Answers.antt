use Rattle.std.proofs.Common.{sym, ap, ◌∙◌, arith}
use Rattle.farm_entry.specs.Decision.{decide}
use Rattle.farm_entry.specs.declared.command.Command.{Command}
use Rattle.farm_laws.proofs.Bounds.{openings-bounded}
use Rattle.farm_core.proofs.Refused.{open-refused}
use Rattle.farm_core.proofs.decisions.decision_on_open.Goals as goal

pub overflow_cast-number : goal.overflow_cast-number
overflow_cast-number c =
    omega (arith, c.searches_count.ensures, openings-bounded c.args.farm.now c.history-history.ensures.legal)

pub overflow_add-number : goal.overflow_add-number
overflow_add-number c =
    omega (arith, c.searches_count.ensures, openings-bounded c.args.farm.now c.history-history.ensures.legal)

pub returns-in-Err : goal.returns-in-Err
returns-in-Err c =
    open-refused c.args.farm.now c.args.ask.now _ c.args.at c.in-Err.fault (sym c.in_ok-opening.ensures ∙ c.in-Err.is)
    ∙ ap (λ (q : Command). decide c.args.farm.now q c.args.at) (sym c.requires)
