use Rattle.std.proofs.Common.{List, length, reverse, sym, ap, ◌∙◌}
use Rattle.std.specs.BTreeSet.{keys}
use Rattle.std.specs.List.{list_any}
use Rattle.farm_entry.specs.declared.entry.Entry.{Entry}
use Rattle.rates_report.specs.Listed.{tells_of}
use Rattle.rates_report.specs.Tally.{tests_of}
use Rattle.rates_report.proofs.Names.{tests-are}
use Rattle.rates_report.proofs.book.FlakeBook.tests.Goals as goal

pub returns : goal.returns
returns c =
    let H : List Entry = reverse c.self.inside.noted in
    let h = c.self.invariant in
    let all =
    tests-are H (keys c.self.inside.tests) c.len.ensures.ordered
    (λ q. h.tests_are q ∙ ap (list_any (tells_of q)) h.searches_are) in
    c.len.ensures.len ∙ ap length (sym all) ∙ ap (λ (X : List Entry). length (tests_of X)) c.self.view_is
