use Rattle.std.proofs.Common.{sym, ap, ◌∙◌}
use Rattle.farm_entry.specs.Reply.{reply_to}
use Rattle.farm_entry.specs.declared.entry.What.TheVariants.{Opened}
use Rattle.farm_entry.specs.declared.opening.Opening.{Opening}
use Rattle.plain_farm.proofs.reply.reply_to.Goals as goal

pub returns-in_ok-reply_to_opening-in-Opened : goal.returns-in_ok-reply_to_opening-in-Opened
returns-in_ok-reply_to_opening-in-Opened c =
    c.in_ok-reply_to_opening-in-Opened.ensures
    ∙ ap (λ (o : Opening). reply_to c.args.history.now (Opened o)) c.deref.ensures
    ∙ ap (reply_to c.args.history.now) (sym c.in-Opened.is)
