use Rattle.std.proofs.Common.{◌≡◌, ℕ, List, get_or, take, ap, ◌∙◌, arith}
use Rattle.std.proofs.lemmas.List.Sums.{sum_by_more_le}
use Rattle.rates_report.specs.Noted.{Noted, told_in, told_in_all}
use Rattle.rates_report.proofs.Tallies.{sum-fits, tally-fewer}
use Rattle.rates_report.proofs.notes.told_of_all.Goals as goal

pub overflow_add-fails : goal.overflow_add-fails
overflow_add-fails c =
    let ns : List Noted = c.args.searches.now in
    let test : List ℕ = c.args.test.now in
    let i : ℕ = c.loop-search.search-index in
    let x : Noted = c.search-item.result in
    let one : c.told_of-failed.result.0 ≡ (told_in test (get_or ns i x)).0 =
    ap (λ (p : ℕ × ℕ). p.0) c.told_of-failed.ensures ∙ ap (λ (n : Noted). (told_in test n).0) c.search-item.is in
    let fits =
    sum-fits c.loop-search.fails c.told_of-failed.result.0 (told_in_all test (take i ns)).0 (told_in test (get_or ns i x)).0
    (told_in_all test ns).0 (told_in_all test ns).1 c.loop-search.invariant.fails one
    (sum_by_more_le (λ (n : Noted). (told_in test n).0) ns i x c.loop-search-test.true) (tally-fewer ns test) c.requires.small in
    omega (arith, fits)
