use Rattle.std.proofs.Common.{List, [], ◌∷◌, ◌++◌, reverse, sym, subst}
use Rattle.std.specs.BTreeSet.{keys}
use Rattle.farm_entry.specs.Legal.{IsLegal}
use Rattle.farm_entry.specs.declared.entry.Entry.{Entry}
use Rattle.rates_report.proofs.Books.{kept-quiet, told-kept}
use Rattle.rates_report.proofs.book.FlakeBook.note_quiet.Goals as goal

pub invariant_of-self : goal.invariant_of-self
invariant_of-self c =
    let H : List Entry = reverse c.self.inside.noted in
    let e : Entry = c.args.entry.now in
    let longer : IsLegal (H ++ e ∷ []) =
    subst (λ (X : List Entry). IsLegal (X ++ e ∷ [])) (sym c.self.view_is) c.requires.legal in
    let s = c.self.inside in
    told-kept c.tell.new.self s.noted e s.leases.items s.searches.items (keys s.tests) c.tell.ensures
    (kept-quiet H s.leases.items s.searches.items (keys s.tests) e c.self.invariant longer c.requires.opens_none
    c.requires.leases_none c.requires.tells_none c.requires.cancels_none)
