use Rattle.std.proofs.Common.{◌≡◌, ◌≤◌, ◌<◌, ◌^◌, List, ℕ, reverse, sym, ap, subst, ◌∙◌}
use Rattle.farm_entry.specs.declared.entry.Entry.{Entry}
use Rattle.rates_report.specs.Noted.{AreFew, Noted, all_noted, told_in_all}
use Rattle.rates_report.specs.Tally.{tally}
use Rattle.rates_report.proofs.Tallies.{noted-few_all, tally-fewer, tally-small, told-tally}
use Rattle.rates_report.proofs.book.FlakeBook.told.Goals as goal

pub told_of_all-requires-clause-few : goal.told_of_all-requires-clause-few
told_of_all-requires-clause-few c =
    let H : List Entry = reverse c.self.inside.noted in
    let all : c.deref.result.now ≡ all_noted H = c.deref.ensures.value ∙ c.self.invariant.searches_are in
    subst AreFew (sym all) (noted-few_all H c.self.invariant.legal)

pub told_of_all-requires-clause-small : goal.told_of_all-requires-clause-small
told_of_all-requires-clause-small c =
    let H : List Entry = reverse c.self.inside.noted in
    let all : c.deref.result.now ≡ all_noted H = c.deref.ensures.value ∙ c.self.invariant.searches_are in
    subst (λ (ns : List Noted). (told_in_all c.args.test.now ns).1 < 2 ^ 48) (sym all)
    (tally-small H c.args.test.now c.self.invariant.legal)

pub returns-clause-tally : goal.returns-clause-tally
returns-clause-tally c =
    let H : List Entry = reverse c.self.inside.noted in
    let all : c.deref.result.now ≡ all_noted H = c.deref.ensures.value ∙ c.self.invariant.searches_are in
    c.told_of_all.ensures
    ∙ ap (told_in_all c.args.test.now) all
    ∙ told-tally H c.args.test.now
    ∙ ap (λ (X : List Entry). tally X c.args.test.now) c.self.view_is

pub returns-clause-fewer : goal.returns-clause-fewer
returns-clause-fewer c =
    subst (λ (p : ℕ × ℕ). p.0 ≤ p.1) (sym c.told_of_all.ensures) (tally-fewer c.deref.result.now c.args.test.now)

pub returns-clause-small : goal.returns-clause-small
returns-clause-small c =
    let H : List Entry = reverse c.self.inside.noted in
    let all : c.deref.result.now ≡ all_noted H = c.deref.ensures.value ∙ c.self.invariant.searches_are in
    subst (λ (p : ℕ × ℕ). p.1 < 2 ^ 48) (sym (c.told_of_all.ensures ∙ ap (told_in_all c.args.test.now) all))
    (tally-small H c.args.test.now c.self.invariant.legal)
