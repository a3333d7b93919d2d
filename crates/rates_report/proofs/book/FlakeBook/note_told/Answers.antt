use Rattle.std.proofs.Common.{List, [], ◌∷◌, ◌++◌, Some, reverse, sym, ap, subst, ◌∙◌, arith}
use Rattle.std.specs.BTreeSet.{keys}
use Rattle.farm_entry.specs.History.{lease_of}
use Rattle.farm_entry.specs.Legal.{IsLegal}
use Rattle.farm_entry.specs.declared.entry.Entry.{Entry}
use Rattle.rates_report.proofs.Books.{told-lease, told-place}
use Rattle.rates_report.proofs.Parts.{counted-of, told-number, told-run}
use Rattle.rates_report.proofs.book.FlakeBook.note_told.Goals as goal

pub overflow_sub-run : goal.overflow_sub-run
overflow_sub-run c =
    let H : List Entry = reverse c.self.inside.noted in
    let e : Entry = c.args.entry.now in
    let longer : IsLegal (H ++ e ∷ []) =
    subst (λ (X : List Entry). IsLegal (X ++ e ∷ [])) (sym c.self.view_is) c.requires.legal in
    (told-place H c.self.inside.leases.items c.self.inside.searches.items (keys c.self.inside.tests) e c.args.run
    c.self.invariant longer c.requires.tells).low

pub index-lease-requires : goal.index-lease-requires
index-lease-requires c =
    let H : List Entry = reverse c.self.inside.noted in
    let e : Entry = c.args.entry.now in
    let longer : IsLegal (H ++ e ∷ []) =
    subst (λ (X : List Entry). IsLegal (X ++ e ∷ [])) (sym c.self.view_is) c.requires.legal in
    let place =
    told-place H c.self.inside.leases.items c.self.inside.searches.items (keys c.self.inside.tests) e c.args.run
    c.self.invariant longer c.requires.tells in
    omega (arith, place.high)

pub note_counted-requires-clause-reports : goal.note_counted-requires-clause-reports
note_counted-requires-clause-reports c =
    (counted-of c.args.entry.now.what c.counted_report.result c.in-Some.report c.in-Some.is c.counted_report.ensures.some).0

pub note_counted-requires-clause-counts : goal.note_counted-requires-clause-counts
note_counted-requires-clause-counts c =
    (counted-of c.args.entry.now.what c.counted_report.result c.in-Some.report c.in-Some.is c.counted_report.ensures.some).1

pub note_counted-requires-clause-leased : goal.note_counted-requires-clause-leased
note_counted-requires-clause-leased c =
    let H : List Entry = reverse c.self.inside.noted in
    let e : Entry = c.args.entry.now in
    let longer : IsLegal (H ++ e ∷ []) =
    subst (λ (X : List Entry). IsLegal (X ++ e ∷ [])) (sym c.self.view_is) c.requires.legal in
    let reports =
    (counted-of e.what c.counted_report.result c.in-Some.report c.in-Some.is c.counted_report.ensures.some).0 in
    ap (lease_of c.args.self.now) (told-run e.what c.args.run c.in-Some.report c.requires.tells reports)
    ∙ ap (λ (X : List Entry). lease_of X c.args.run) (sym c.self.view_is)
    ∙ told-lease H c.self.inside.leases.items c.self.inside.searches.items (keys c.self.inside.tests) e c.args.run
    c.index-lease.result.now c.self.invariant longer c.requires.tells c.index-lease.ensures

pub note_uncounted-requires-clause-tells : goal.note_uncounted-requires-clause-tells
note_uncounted-requires-clause-tells c =
    let H : List Entry = reverse c.self.inside.noted in
    let e : Entry = c.args.entry.now in
    let longer : IsLegal (H ++ e ∷ []) =
    subst (λ (X : List Entry). IsLegal (X ++ e ∷ [])) (sym c.self.view_is) c.requires.legal in
    let known =
    told-lease H c.self.inside.leases.items c.self.inside.searches.items (keys c.self.inside.tests) e c.args.run
    c.index-lease.result.now c.self.invariant longer c.requires.tells c.index-lease.ensures in
    c.requires.tells ∙ ap Some (sym (told-number H c.args.run c.index-lease.result.now known))

pub note_uncounted-requires-clause-leased : goal.note_uncounted-requires-clause-leased
note_uncounted-requires-clause-leased c =
    let H : List Entry = reverse c.self.inside.noted in
    let e : Entry = c.args.entry.now in
    let longer : IsLegal (H ++ e ∷ []) =
    subst (λ (X : List Entry). IsLegal (X ++ e ∷ [])) (sym c.self.view_is) c.requires.legal in
    let known =
    told-lease H c.self.inside.leases.items c.self.inside.searches.items (keys c.self.inside.tests) e c.args.run
    c.index-lease.result.now c.self.invariant longer c.requires.tells c.index-lease.ensures in
    ap (λ (X : List Entry). lease_of X c.index-lease.result.now.run) (sym c.self.view_is)
    ∙ ap (lease_of H) (told-number H c.args.run c.index-lease.result.now known)
    ∙ known

pub note_uncounted-requires-clause-counts_not : goal.note_uncounted-requires-clause-counts_not
note_uncounted-requires-clause-counts_not c = c.counted_report.ensures.none c.in-None.is
