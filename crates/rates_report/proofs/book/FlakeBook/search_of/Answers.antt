use Rattle.std.proofs.Common.{◌≡◌, List, [], ◌∷◌, ◌++◌, reverse, Some, sym, ap, subst, ◌∙◌, arith}
use Rattle.std.specs.BTreeSet.{keys}
use Rattle.std.specs.Option.{option_copied}
use Rattle.farm_entry.specs.History.{told_in}
use Rattle.farm_entry.specs.Legal.{IsLegal}
use Rattle.farm_entry.specs.declared.entry.Entry.{Entry}
use Rattle.rates_report.specs.Tally.{search_in}
use Rattle.rates_report.proofs.Books.{told-lease, told-place}
use Rattle.rates_report.proofs.Parts.{search-of_opening, search-of_told}
use Rattle.rates_report.proofs.book.FlakeBook.search_of.Goals as goal

pub returns-in-Some : goal.returns-in-Some
returns-in-Some c =
    sym
    (search-of_opening c.args.self.now c.args.entry.now.what c.in-Some.opening.now
    (sym c.opening.ensures ∙ ap option_copied c.in-Some.is))

pub overflow_sub-run : goal.overflow_sub-run
overflow_sub-run c =
    let H : List Entry = reverse c.self.inside.noted in
    let e : Entry = c.args.entry.now in
    let longer : IsLegal (H ++ e ∷ []) =
    subst (λ (X : List Entry). IsLegal (X ++ e ∷ [])) (sym c.self.view_is) c.requires in
    let run = c.in-Some-told.run' in
    let tells : told_in e.what ≡ Some run = sym c.told.ensures ∙ c.in-Some-told.is in
    (told-place H c.self.inside.leases.items c.self.inside.searches.items (keys c.self.inside.tests) e run c.self.invariant
    longer tells).low

pub index-requires : goal.index-requires
index-requires c =
    let H : List Entry = reverse c.self.inside.noted in
    let e : Entry = c.args.entry.now in
    let longer : IsLegal (H ++ e ∷ []) =
    subst (λ (X : List Entry). IsLegal (X ++ e ∷ [])) (sym c.self.view_is) c.requires in
    let run = c.in-Some-told.run' in
    let tells : told_in e.what ≡ Some run = sym c.told.ensures ∙ c.in-Some-told.is in
    let place =
    told-place H c.self.inside.leases.items c.self.inside.searches.items (keys c.self.inside.tests) e run c.self.invariant
    longer tells in
    omega (arith, place.high)

pub returns-in-Some-told : goal.returns-in-Some-told
returns-in-Some-told c =
    let H : List Entry = reverse c.self.inside.noted in
    let e : Entry = c.args.entry.now in
    let longer : IsLegal (H ++ e ∷ []) =
    subst (λ (X : List Entry). IsLegal (X ++ e ∷ [])) (sym c.self.view_is) c.requires in
    let run = c.in-Some-told.run' in
    let tells : told_in e.what ≡ Some run = sym c.told.ensures ∙ c.in-Some-told.is in
    let known =
    told-lease H c.self.inside.leases.items c.self.inside.searches.items (keys c.self.inside.tests) e run
    c.index.result.now c.self.invariant longer tells c.index.ensures in
    sym (ap (λ (X : List Entry). search_in X e.what) (sym c.self.view_is)
    ∙ search-of_told H e.what run c.index.result.now tells known)
