use Rattle.std.proofs.Common.{◌≡◌, ◌<◌, ℕ, List, [], length, get_or, reverse, sym, ap, subst, ◌∙◌}
use Rattle.std.specs.BTreeSet.{keys}
use Rattle.std.specs.List.{list_any, slice_get}
use Rattle.std.specs.Option.{option_map}
use Rattle.std.proofs.lemmas.Iterator.Consumers.{YieldsList-from_rest, nth_from_yields_List}
use Rattle.std.proofs.lemmas.Option.{none-some, slice_get-get_or}
use Rattle.rates_report.specs.Listed.{tells_of}
use Rattle.rates_report.specs.Tally.{tests_of}
use Rattle.rates_report.proofs.Names.{tests-are}
use Rattle.rates_report.proofs.book.FlakeBook.test.Goals as goal

pub unreachable-requires : goal.unreachable-requires
unreachable-requires c =
    let h = c.self.invariant in
    let ks : List (List ℕ) = keys c.self.inside.tests in
    let all : tests_of (reverse c.self.inside.noted) ≡ ks =
    tests-are (reverse c.self.inside.noted) ks c.iter.ensures.ordered
    (λ q. h.tests_are q ∙ ap (list_any (tells_of q)) h.searches_are) in
    let found =
    nth_from_yields_List c.nth.result c.nth.new.self c.args.index c.nth.ensures.ran (YieldsList-from_rest ks c.iter.ensures.rest) in
    let below : c.args.index < length ks =
    subst (λ (l : List (List ℕ)). c.args.index < length l) (ap tests_of (sym c.self.view_is) ∙ all) c.requires in
    none-some (get_or ks c.args.index [])
    (ap (option_map (λ n. n.now)) (sym c.in-None.is) ∙ found ∙ slice_get-get_or ks c.args.index [] below)

pub returns : goal.returns
returns c =
    let h = c.self.invariant in
    let ks : List (List ℕ) = keys c.self.inside.tests in
    let all : tests_of (reverse c.self.inside.noted) ≡ ks =
    tests-are (reverse c.self.inside.noted) ks c.iter.ensures.ordered
    (λ q. h.tests_are q ∙ ap (list_any (tells_of q)) h.searches_are) in
    let found =
    nth_from_yields_List c.nth.result c.nth.new.self c.args.index c.nth.ensures.ran (YieldsList-from_rest ks c.iter.ensures.rest) in
    ap (λ (l : List (List ℕ)). slice_get l c.args.index) (ap tests_of (sym c.self.view_is) ∙ all)
    ∙ sym found
    ∙ ap (option_map (λ n. n.now)) c.in-Some.is
