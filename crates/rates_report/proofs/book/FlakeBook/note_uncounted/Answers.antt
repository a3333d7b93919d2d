use Rattle.std.proofs.Common.{◌≡◌, ◌-◌, ℕ, List, [], ◌∷◌, ◌++◌, Some, reverse, set, sym, ap, subst, ◌∙◌, arith}
use Rattle.std.specs.BTreeSet.{keys}
use Rattle.farm_entry.specs.History.{lease_of}
use Rattle.farm_entry.specs.Legal.{IsLegal}
use Rattle.farm_entry.specs.declared.entry.Entry.{Entry}
use Rattle.rates_report.specs.BookInside.{AreKept}
use Rattle.rates_report.specs.Listed.{IsListed}
use Rattle.rates_report.specs.Noted.{Noted}
use Rattle.rates_report.specs.Tally.{StandsAfter}
use Rattle.rates_report.proofs.Books.{kept-uncounted, told-low, told-search, told-kept}
use Rattle.rates_report.proofs.Sets.{get_or-any}
use Rattle.rates_report.proofs.book.FlakeBook.note_uncounted.Goals as goal

pub overflow_sub-index : goal.overflow_sub-index
overflow_sub-index c =
    told-low c.args.self.now c.args.entry.now c.args.lease.run c.args.lease c.requires.legal c.requires.tells c.requires.leased

pub index-requires : goal.index-requires
index-requires c =
    let H : List Entry = reverse c.self.inside.noted in
    let e : Entry = c.args.entry.now in
    let longer : IsLegal (H ++ e ∷ []) =
    subst (λ (X : List Entry). IsLegal (X ++ e ∷ [])) (sym c.self.view_is) c.requires.legal in
    let known : lease_of H c.args.lease.run ≡ Some c.args.lease =
    ap (λ (X : List Entry). lease_of X c.args.lease.run) c.self.view_is ∙ c.requires.leased in
    let has =
    told-search H c.self.inside.leases.items c.self.inside.searches.items (keys c.self.inside.tests) e c.args.lease.run c.args.lease
    c.self.invariant longer c.requires.tells known in
    omega (arith, has.high)

pub index_mut-requires : goal.index_mut-requires
index_mut-requires c =
    let H : List Entry = reverse c.self.inside.noted in
    let e : Entry = c.args.entry.now in
    let longer : IsLegal (H ++ e ∷ []) =
    subst (λ (X : List Entry). IsLegal (X ++ e ∷ [])) (sym c.self.view_is) c.requires.legal in
    let known : lease_of H c.args.lease.run ≡ Some c.args.lease =
    ap (λ (X : List Entry). lease_of X c.args.lease.run) c.self.view_is ∙ c.requires.leased in
    let has =
    told-search H c.self.inside.leases.items c.self.inside.searches.items (keys c.self.inside.tests) e c.args.lease.run c.args.lease
    c.self.invariant longer c.requires.tells known in
    omega (arith, has.high)

pub invariant_of-self-2 : goal.invariant_of-self-2
invariant_of-self-2 c =
    let H : List Entry = reverse c.self.inside.noted in
    let e : Entry = c.args.entry.now in
    let longer : IsLegal (H ++ e ∷ []) =
    subst (λ (X : List Entry). IsLegal (X ++ e ∷ [])) (sym c.self.view_is) c.requires.legal in
    let known : lease_of H c.args.lease.run ≡ Some c.args.lease =
    ap (λ (X : List Entry). lease_of X c.args.lease.run) c.self.view_is ∙ c.requires.leased in
    let stands : StandsAfter H e c.args.standing =
    subst (λ (X : List Entry). StandsAfter X e c.args.standing) (sym c.self.view_is) c.requires.stands in
    let s = c.self.inside in
    let k : ℕ = c.args.lease.search - 1 in
    let has =
    told-search H s.leases.items s.searches.items (keys s.tests) e c.args.lease.run c.args.lease c.self.invariant longer
    c.requires.tells known in
    let x : Noted = c.index_mut.result.now in
    let same : c.index.result.now ≡ x =
    c.index.ensures ∙ get_or-any s.searches.items k c.index.result.now x has.high ∙ sym c.index_mut.ensures.value in
    let listed : IsListed (keys s.tests) (keys c.list.new.tests) x.test c.args.standing =
    subst (λ (t : List ℕ). IsListed (keys s.tests) (keys c.list.new.tests) t c.args.standing)
    (c.test.ensures ∙ ap (λ (n : Noted). n.test) same) c.in_ok-list.ensures.listed in
    told-kept c.tell.new.self s.noted e s.leases.items (set s.searches.items k c.stand.new.self) (keys c.list.new.tests)
    c.tell.ensures
    (subst (λ (n : Noted). AreKept (H ++ e ∷ []) s.leases.items (set s.searches.items k n) (keys c.list.new.tests))
    (sym c.stand.ensures)
    (kept-uncounted H s.leases.items s.searches.items (keys s.tests) (keys c.list.new.tests) e c.args.lease.run c.args.lease
    c.args.standing x c.self.invariant longer c.requires.tells known stands c.requires.counts_not c.index_mut.ensures.value
    listed))
