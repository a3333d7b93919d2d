use Rattle.std.proofs.Common.{◌+◌, ◌<◌, ◌≤◌, ◌++◌, ℕ, List, length, sym, ap, ◌∙◌, arith}
use Rattle.std.specs.List.{flat_map}
use Rattle.std.specs.Prelude.{string_bytes}
use Rattle.std.proofs.lemmas.List.{take_all}
use Rattle.farm_entry.specs.declared.entry.Entry.{Entry}
use Rattle.rates_report.specs.Tally.{tests_of}
use Rattle.rates_report.specs.RateLines.{rate_line, rate_line_at}
use Rattle.rates_report.proofs.Lines.{lines-more}
use Rattle.rates_report.proofs.text.rates_text.Goals as goal

pub loop-index-preserved : goal.loop-index-preserved
loop-index-preserved c =
    let H : List Entry = c.args.history.now in
    let k : ℕ = c.loop-index.index in
    let count = c.tests-index-end.ensures ∙ ap (λ (X : List Entry). length (tests_of X)) c.in_ok-book.ensures in
    let below : k < length (tests_of H) = omega (arith, c.loop-index-test.true, count) in
    c.in_ok-push_line.ensures
    ∙ ap (λ (X : List Entry). string_bytes c.loop-index.text ++ rate_line_at X k) c.in_ok-book.ensures
    ∙ ap (λ (t : List ℕ). t ++ rate_line_at H k) c.loop-index.invariant
    ∙ sym (lines-more H (tests_of H) k below)

pub returns : goal.returns
returns c =
    let H : List Entry = c.args.history.now in
    let k : ℕ = c.loop-index.index in
    let count = c.tests-index-end.ensures ∙ ap (λ (X : List Entry). length (tests_of X)) c.in_ok-book.ensures in
    let out = c.loop-index-test.false in
    let past : length (tests_of H) ≤ k = omega (arith, out, count) in
    c.loop-index.invariant ∙ ap (flat_map (rate_line H)) (take_all k (tests_of H) past)
