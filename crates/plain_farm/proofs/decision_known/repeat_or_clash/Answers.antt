use Rattle.std.proofs.Common.{false, true, refl, sym, ap, ◌∙◌, arith}
use Rattle.std.proofs.lemmas.Option.{slice_get_read}
use Rattle.farm_entry.specs.Decision.{asks_for}
use Rattle.farm_entry.specs.declared.entry.Entry.{Entry}
use Rattle.plain_farm.proofs.Histories.{few_entries}
use Rattle.plain_farm.proofs.Repeats.{repeats_or_clashes}
use Rattle.plain_farm.proofs.decision_known.repeat_or_clash.Goals as goal

pub overflow_cast-result : goal.overflow_cast-result
overflow_cast-result c = omega (arith, c.requires.within, few_entries c.args.history.now c.requires.legal)

pub overflow_cast-result-else-branch : goal.overflow_cast-result-else-branch
overflow_cast-result-else-branch c = omega (arith, c.requires.within, few_entries c.args.history.now c.requires.legal)

pub returns-then-branch : goal.returns-then-branch
returns-then-branch c =
    let there = slice_get_read c.args.history.now _ c.args.place c.index-history-place.result refl c.requires.within c.index-history-place.is in
    sym (repeats_or_clashes c.args.history.now c.args.command.now c.args.place c.index-history-place.result c.in_ok-is_asked_by.field-0 true there
    (c.in_ok-is_asked_by.ensures ∙ ap (λ (e : Entry). asks_for e.what c.args.command.now) (sym c.index-history-place.is)) c.if-branch.true)

pub returns-else-branch : goal.returns-else-branch
returns-else-branch c =
    let there = slice_get_read c.args.history.now _ c.args.place c.index-history-place.result refl c.requires.within c.index-history-place.is in
    sym (repeats_or_clashes c.args.history.now c.args.command.now c.args.place c.index-history-place.result c.in_ok-is_asked_by.field-0 false there
    (c.in_ok-is_asked_by.ensures ∙ ap (λ (e : Entry). asks_for e.what c.args.command.now) (sym c.index-history-place.is)) c.if-branch.false)
