use Rattle.std.proofs.Common.{◌≡◌, ◌+◌, take, Option, refl, sym, ap, subst, ◌∙◌}
use Rattle.std.specs.Option.{option_and_then}
use Rattle.std.specs.Prelude.{IfOk}
use Rattle.std.proofs.lemmas.Option.{slice_get_past, slice_get_read}
use Rattle.farm_entry.specs.Reply.{reply_at, reply_to}
use Rattle.farm_entry.specs.declared.entry.Entry.{Entry}
use Rattle.farm_entry.specs.declared.reply.Reply.{Reply}
use Rattle.plain_history.specs.Held.{IsHeld}
use Rattle.plain_farm.proofs.Growth.{beginning}
use Rattle.plain_history.proofs.Holding.{is_held_early}
use Rattle.plain_farm.proofs.reply.reply_at.Goals as goal

pub reply_to-requires-clause-legal : goal.reply_to-requires-clause-legal
reply_to-requires-clause-legal c =
    beginning c.args.history.now c.args.place c.index-history-place.result c.if-place-history.true c.index-history-place.is c.requires

pub reply_to-requires-clause-held : goal.reply_to-requires-clause-held
reply_to-requires-clause-held c =
    subst (λ (e : Entry). IsHeld (take (c.args.place + 1) c.args.history.now) e.what) c.index-history-place.is
    (is_held_early c.args.history.now c.args.place c.index-history-place.result c.if-place-history.true c.index-history-place.is)

pub returns-then-place-history : goal.returns-then-place-history
returns-then-place-history c =
    let H = c.args.history.now in
    let place = c.args.place in
    let e = c.index-history-place.result in
    let there = slice_get_read H _ place e refl c.if-place-history.true c.index-history-place.is in
    let same : reply_to (take (place + 1) H) e.what ≡ reply_at H place =
    sym (ap (option_and_then (λ (x : Entry). reply_to (take (place + 1) H) x.what)) there) in
    subst (λ (r : Option Reply). IfOk c.reply_to.result (λ reply. reply ≡ r))
    (ap (λ (x : Entry). reply_to (take (place + 1) H) x.what) (sym c.index-history-place.is) ∙ same) c.reply_to.ensures

pub returns-else-place-history : goal.returns-else-place-history
returns-else-place-history c =
    let H = c.args.history.now in
    sym (ap (option_and_then (λ (x : Entry). reply_to (take (c.args.place + 1) H) x.what)) (slice_get_past H c.args.place c.if-place-history.false))
