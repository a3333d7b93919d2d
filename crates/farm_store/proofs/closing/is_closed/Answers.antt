-- What the last entry of a history tells, by the lemmas of `AtClose`.
use Rattle.std.proofs.Common.{◌∙◌, ap, sym}
use Rattle.farm_entry.specs.History.{is_closing}
use Rattle.farm_store.proofs.AtClose.{last-closes, last-not_none, not-closing}
use Rattle.farm_store.proofs.closing.is_closed.Goals as goal

pub returns-in_default : goal.returns-in_default
returns-in_default c = absurd (last-not_none c.args.history.now c.requires c.in_default.ensures.value)

pub returns-in-Closed : goal.returns-in-Closed
returns-in-Closed c =
    sym (last-closes c.args.history.now c.in-Some.last.now c.requires c.in-Some.ensures.value
    ∙ ap is_closing c.in-Closed.is)

pub returns-in_default-matches : goal.returns-in_default-matches
returns-in_default-matches c =
    sym (last-closes c.args.history.now c.in-Some.last.now c.requires c.in-Some.ensures.value
    ∙ not-closing c.in-Some.last.now.what c.in_default-matches.not-Closed)
