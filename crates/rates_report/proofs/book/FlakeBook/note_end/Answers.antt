use Rattle.std.proofs.Common.{◌-◌, List, [], ◌∷◌, ◌++◌, reverse, set, sym, subst, arith}
use Rattle.std.specs.BTreeSet.{keys}
use Rattle.farm_entry.specs.Legal.{IsLegal}
use Rattle.farm_entry.specs.declared.entry.Entry.{Entry}
use Rattle.rates_report.specs.BookInside.{AreKept}
use Rattle.rates_report.specs.Noted.{Noted}
use Rattle.rates_report.specs.Tally.{StandsAfter}
use Rattle.rates_report.proofs.Books.{cancel-search, kept-ended, told-kept}
use Rattle.rates_report.proofs.book.FlakeBook.note_end.Goals as goal

pub overflow_sub-search : goal.overflow_sub-search
overflow_sub-search c =
    let H : List Entry = reverse c.self.inside.noted in
    let e : Entry = c.args.entry.now in
    let longer : IsLegal (H ++ e ∷ []) =
    subst (λ (X : List Entry). IsLegal (X ++ e ∷ [])) (sym c.self.view_is) c.requires.legal in
    (cancel-search H c.self.inside.leases.items c.self.inside.searches.items (keys c.self.inside.tests) e c.args.search
    c.self.invariant longer c.requires.cancels).low

pub index_mut-requires : goal.index_mut-requires
index_mut-requires c =
    let H : List Entry = reverse c.self.inside.noted in
    let e : Entry = c.args.entry.now in
    let longer : IsLegal (H ++ e ∷ []) =
    subst (λ (X : List Entry). IsLegal (X ++ e ∷ [])) (sym c.self.view_is) c.requires.legal in
    let has =
    cancel-search H c.self.inside.leases.items c.self.inside.searches.items (keys c.self.inside.tests) e c.args.search
    c.self.invariant longer c.requires.cancels in
    omega (arith, has.high)

pub invariant_of-self : goal.invariant_of-self
invariant_of-self c =
    let H : List Entry = reverse c.self.inside.noted in
    let e : Entry = c.args.entry.now in
    let longer : IsLegal (H ++ e ∷ []) =
    subst (λ (X : List Entry). IsLegal (X ++ e ∷ [])) (sym c.self.view_is) c.requires.legal in
    let stands : StandsAfter H e c.args.standing =
    subst (λ (X : List Entry). StandsAfter X e c.args.standing) (sym c.self.view_is) c.requires.stands in
    let s = c.self.inside in
    let x : Noted = c.index_mut.result.now in
    told-kept c.tell.new.self s.noted e s.leases.items (set s.searches.items (c.args.search - 1) c.stand.new.self) (keys s.tests)
    c.tell.ensures
    (subst (λ (n : Noted). AreKept (H ++ e ∷ []) s.leases.items (set s.searches.items (c.args.search - 1) n) (keys s.tests))
    (sym c.stand.ensures)
    (kept-ended H s.leases.items s.searches.items (keys s.tests) e c.args.search c.args.standing x c.self.invariant longer
    c.requires.cancels stands c.index_mut.ensures.value))
