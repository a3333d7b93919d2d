use Rattle.std.proofs.Common.{◌≡◌, ◌-◌, ℕ, List, [], ◌∷◌, ◌++◌, Some, reverse, set, sym, ap, subst, ◌∙◌, arith}
use Rattle.std.specs.BTreeSet.{keys}
use Rattle.weight_exact.specs.declared.run.Run.{Run}
use Rattle.farm_entry.specs.Decision.{run_with}
use Rattle.farm_entry.specs.History.{lease_of}
use Rattle.farm_entry.specs.Legal.{IsLegal}
use Rattle.farm_entry.specs.declared.entry.Entry.{Entry}
use Rattle.farm_entry.specs.declared.lease.LeasedRun.{LeasedRun}
use Rattle.rates_report.specs.BookInside.{AreKept}
use Rattle.rates_report.specs.Listed.{IsListed}
use Rattle.rates_report.specs.Noted.{Noted, noted_at, with_run}
use Rattle.rates_report.specs.Tally.{StandsAfter}
use Rattle.rates_report.proofs.Books.{kept-counted, report-low, report-search, told-kept, with_run-test}
use Rattle.rates_report.proofs.Sets.{at-set, set-again, set-back}
use Rattle.rates_report.proofs.book.FlakeBook.note_counted.Goals as goal

pub overflow_sub-index : goal.overflow_sub-index
overflow_sub-index c =
    report-low c.args.self.now c.args.entry.now c.args.report c.args.lease c.requires.legal c.requires.reports c.requires.leased

pub index_mut-requires : goal.index_mut-requires
index_mut-requires c =
    let H : List Entry = reverse c.self.inside.noted in
    let e : Entry = c.args.entry.now in
    let longer : IsLegal (H ++ e ∷ []) =
    subst (λ (X : List Entry). IsLegal (X ++ e ∷ [])) (sym c.self.view_is) c.requires.legal in
    let known : lease_of H c.args.report.run ≡ Some c.args.lease =
    ap (λ (X : List Entry). lease_of X c.args.report.run) c.self.view_is ∙ c.requires.leased in
    let has =
    report-search H c.self.inside.leases.items c.self.inside.searches.items (keys c.self.inside.tests) e c.args.report c.args.lease
    c.self.invariant longer c.requires.reports known in
    omega (arith, has.high)

pub index-requires : goal.index-requires
index-requires c =
    let H : List Entry = reverse c.self.inside.noted in
    let e : Entry = c.args.entry.now in
    let longer : IsLegal (H ++ e ∷ []) =
    subst (λ (X : List Entry). IsLegal (X ++ e ∷ [])) (sym c.self.view_is) c.requires.legal in
    let known : lease_of H c.args.report.run ≡ Some c.args.lease =
    ap (λ (X : List Entry). lease_of X c.args.report.run) c.self.view_is ∙ c.requires.leased in
    let has =
    report-search H c.self.inside.leases.items c.self.inside.searches.items (keys c.self.inside.tests) e c.args.report c.args.lease
    c.self.invariant longer c.requires.reports known in
    omega (arith, has.high, c.self.inside.searches.ok.0)

pub index_mut-requires-in-Err : goal.index_mut-requires-in-Err
index_mut-requires-in-Err c =
    let H : List Entry = reverse c.self.inside.noted in
    let e : Entry = c.args.entry.now in
    let longer : IsLegal (H ++ e ∷ []) =
    subst (λ (X : List Entry). IsLegal (X ++ e ∷ [])) (sym c.self.view_is) c.requires.legal in
    let known : lease_of H c.args.report.run ≡ Some c.args.lease =
    ap (λ (X : List Entry). lease_of X c.args.report.run) c.self.view_is ∙ c.requires.leased in
    let has =
    report-search H c.self.inside.leases.items c.self.inside.searches.items (keys c.self.inside.tests) e c.args.report c.args.lease
    c.self.invariant longer c.requires.reports known in
    omega (arith, has.high, c.self.inside.searches.ok.0)

pub index_mut-requires-2 : goal.index_mut-requires-2
index_mut-requires-2 c =
    let H : List Entry = reverse c.self.inside.noted in
    let e : Entry = c.args.entry.now in
    let longer : IsLegal (H ++ e ∷ []) =
    subst (λ (X : List Entry). IsLegal (X ++ e ∷ [])) (sym c.self.view_is) c.requires.legal in
    let known : lease_of H c.args.report.run ≡ Some c.args.lease =
    ap (λ (X : List Entry). lease_of X c.args.report.run) c.self.view_is ∙ c.requires.leased in
    let has =
    report-search H c.self.inside.leases.items c.self.inside.searches.items (keys c.self.inside.tests) e c.args.report c.args.lease
    c.self.invariant longer c.requires.reports known in
    omega (arith, has.high, c.self.inside.searches.ok.0)

-- the run that was added is taken away again
pub invariant_of-self-in-Err : goal.invariant_of-self-in-Err
invariant_of-self-in-Err c =
    let H : List Entry = reverse c.self.inside.noted in
    let e : Entry = c.args.entry.now in
    let longer : IsLegal (H ++ e ∷ []) =
    subst (λ (X : List Entry). IsLegal (X ++ e ∷ [])) (sym c.self.view_is) c.requires.legal in
    let known : lease_of H c.args.report.run ≡ Some c.args.lease =
    ap (λ (X : List Entry). lease_of X c.args.report.run) c.self.view_is ∙ c.requires.leased in
    let s = c.self.inside in
    let k : ℕ = c.args.lease.search - 1 in
    let has =
    report-search H s.leases.items s.searches.items (keys s.tests) e c.args.report c.args.lease c.self.invariant longer
    c.requires.reports known in
    let x : Noted = c.index_mut.result.now in
    let taken : c.index_mut-in-Err.result.now ≡ with_run x c.args.lease.stage c.run_with.result =
    c.index_mut-in-Err.ensures.value
    ∙ at-set s.searches.items k c.add.new.self c.index_mut-in-Err.result.now has.high
    ∙ c.in_ok-add.ensures.added in
    let back : c.take.new.self ≡ x = c.take.ensures x c.run_with.result taken in
    let as_was : set (set s.searches.items k c.add.new.self) k c.take.new.self ≡ s.searches.items =
    ap (set (set s.searches.items k c.add.new.self) k) back
    ∙ set-back s.searches.items k x c.add.new.self has.high c.index_mut.ensures.value in
    subst (λ (ns : List Noted). AreKept H s.leases.items ns (keys c.list.new.tests)) (sym as_was)
    (subst (λ (ts : List (List ℕ)). AreKept H s.leases.items s.searches.items ts) (sym c.in-Err.ensures.kept) c.self.invariant)

pub invariant_of-self-2 : goal.invariant_of-self-2
invariant_of-self-2 c =
    let H : List Entry = reverse c.self.inside.noted in
    let e : Entry = c.args.entry.now in
    let l : LeasedRun = c.args.lease in
    let longer : IsLegal (H ++ e ∷ []) =
    subst (λ (X : List Entry). IsLegal (X ++ e ∷ [])) (sym c.self.view_is) c.requires.legal in
    let known : lease_of H c.args.report.run ≡ Some l =
    ap (λ (X : List Entry). lease_of X c.args.report.run) c.self.view_is ∙ c.requires.leased in
    let stands : StandsAfter H e c.args.standing =
    subst (λ (X : List Entry). StandsAfter X e c.args.standing) (sym c.self.view_is) c.requires.stands in
    let s = c.self.inside in
    let k : ℕ = l.search - 1 in
    let has =
    report-search H s.leases.items s.searches.items (keys s.tests) e c.args.report l c.self.invariant longer c.requires.reports
    known in
    let x : Noted = c.index_mut.result.now in
    let run : Run = run_with l c.args.report.verdict in
    let added : c.add.new.self ≡ with_run x l.stage run =
    c.in_ok-add.ensures.added ∙ ap (with_run x l.stage) c.run_with.ensures in
    let looked : c.index.result.now ≡ with_run x l.stage run =
    c.index.ensures ∙ at-set s.searches.items k c.add.new.self c.index.result.now has.high ∙ added in
    let listed : IsListed (keys s.tests) (keys c.list.new.tests) x.test c.args.standing =
    subst (λ (t : List ℕ). IsListed (keys s.tests) (keys c.list.new.tests) t c.args.standing)
    (c.test.ensures ∙ ap (λ (n : Noted). n.test) looked ∙ with_run-test x l.stage run) c.in_default.ensures.listed in
    let stood : c.stand.new.self ≡ noted_at c.args.standing (with_run x l.stage run) =
    c.stand.ensures
    ∙ ap (noted_at c.args.standing)
    (c.index_mut-2.ensures.value ∙ at-set s.searches.items k c.add.new.self c.index_mut-2.result.now has.high ∙ added) in
    let written : set (set s.searches.items k c.add.new.self) k c.stand.new.self
    ≡ set s.searches.items k (noted_at c.args.standing (with_run x l.stage run)) =
    set-again s.searches.items k c.add.new.self c.stand.new.self ∙ ap (set s.searches.items k) stood in
    told-kept c.tell.new.self s.noted e s.leases.items (set (set s.searches.items k c.add.new.self) k c.stand.new.self)
    (keys c.list.new.tests) c.tell.ensures
    (subst (λ (ns : List Noted). AreKept (H ++ e ∷ []) s.leases.items ns (keys c.list.new.tests)) (sym written)
    (kept-counted H s.leases.items s.searches.items (keys s.tests) (keys c.list.new.tests) e c.args.report l c.args.standing x
    c.self.invariant longer c.requires.reports known stands c.requires.counts c.index_mut.ensures.value listed))
