use Rattle.std.proofs.Common.{sym, ◌∙◌}
use Rattle.std.proofs.lemmas.Option.{none-some}
use Rattle.farm_laws.proofs.Replies.{reply-there}
use Rattle.farm_core.proofs.tail.reply_of.Goals as goal

pub unreachable-requires : goal.unreachable-requires
unreachable-requires c =
    let made = c.requires in
    let there =
    reply-there c.args.kept.now c.args.place made.entry made.command c.history-history.ensures.legal made.there
    made.named in
    none-some there.0 (sym c.in-Ok-None.field-0-is ∙ c.in-Ok-None.ensures ∙ there.1)
