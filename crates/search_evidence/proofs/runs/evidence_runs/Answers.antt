use Rattle.std.proofs.Common.{ℕ, ◌<◌, ◌≤◌, List, length, drop, arith, sym, ap, ◌∙◌}
use Rattle.std.proofs.lemmas.List.{drop_all}
use Rattle.farm_entry.specs.declared.entry.Entry.{Entry}
use Rattle.search_evidence.specs.Kept.{kept_runs}
use Rattle.search_evidence.proofs.Keeping.{kept-ends, kept-whole}
use Rattle.search_evidence.proofs.runs.evidence_runs.Goals as goal

pub returns-then-cancels : goal.returns-then-cancels
returns-then-cancels c =
    let H : List Entry = c.args.history.now in
    let o = c.args.opening.now in
    let late = c.in_ok-late.late in
    let place : ℕ = c.loop-entry.entry-index in
    let below : place < length H = omega (arith, c.loop-entry-test.true) in
    kept-whole H o late c.loop-entry.runs.items (kept_runs H o.search late (drop place H)) c.requires.legal
    c.requires.opened c.in_ok-late.ensures c.loop-entry.invariant
    (kept-ends H o.search late place c.entry-item.result below c.entry-item.is
    (sym c.cancels.ensures ∙ c.if-cancels.true))

pub returns : goal.returns
returns c =
    let H : List Entry = c.args.history.now in
    let o = c.args.opening.now in
    let late = c.in_ok-late.late in
    let place : ℕ = c.loop-entry.entry-index in
    let past : length H ≤ place = omega (arith, c.loop-entry-test.false) in
    kept-whole H o late c.loop-entry.runs.items (kept_runs H o.search late (drop place H)) c.requires.legal
    c.requires.opened c.in_ok-late.ensures c.loop-entry.invariant
    (ap (kept_runs H o.search late) (drop_all place H past))
