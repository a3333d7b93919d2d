use Rattle.std.proofs.Common.{List, [], ◌∷◌, ◌++◌, reverse, sym, subst}
use Rattle.std.specs.BTreeSet.{keys}
use Rattle.farm_entry.specs.Legal.{IsLegal}
use Rattle.farm_entry.specs.declared.entry.Entry.{Entry}
use Rattle.farm_entry.specs.declared.lease.LeasedRun.{LeasedRun}
use Rattle.rates_report.specs.BookInside.{AreKept}
use Rattle.rates_report.proofs.Books.{kept-leased, told-kept}
use Rattle.rates_report.proofs.book.FlakeBook.note_lease.Goals as goal

pub invariant_of-self-2 : goal.invariant_of-self-2
invariant_of-self-2 c =
    let H : List Entry = reverse c.self.inside.noted in
    let e : Entry = c.args.entry.now in
    let longer : IsLegal (H ++ e ∷ []) =
    subst (λ (X : List Entry). IsLegal (X ++ e ∷ [])) (sym c.self.view_is) c.requires.legal in
    let s = c.self.inside in
    told-kept c.tell.new.self s.noted e c.push.new.self.items s.searches.items (keys s.tests) c.tell.ensures
    (subst (λ (ls : List LeasedRun). AreKept (H ++ e ∷ []) ls s.searches.items (keys s.tests)) (sym c.in_ok-push.ensures.items)
    (kept-leased H s.leases.items s.searches.items (keys s.tests) e c.args.lease c.self.invariant longer c.requires.leases))
