use Rattle.std.proofs.Common.{sym, ◌∙◌}
use Rattle.plain_farm.proofs.Histories.{named_in_range}
use Rattle.plain_farm.proofs.due_run.due_by.Goals as goal

pub due_verifying-requires-clause-positive : goal.due_verifying-requires-clause-positive
due_verifying-requires-clause-positive c =
    (named_in_range c.args.history.now c.args.opening.now c.in-Verifying.culprit
    (sym c.in_ok-standing_by.ensures ∙ c.in-Verifying.is)).0
