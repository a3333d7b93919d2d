use Rattle.std.proofs.Common.{◌≡◌, ℕ, List, [], ◌∷◌, ◌++◌, reverse, sym, ap, subst, ◌∙◌}
use Rattle.std.specs.BTreeSet.{keys}
use Rattle.farm_entry.specs.Legal.{IsLegal}
use Rattle.farm_entry.specs.declared.entry.Entry.{Entry}
use Rattle.farm_entry.specs.declared.opening.Opening.{Opening}
use Rattle.rates_report.specs.BookInside.{AreKept}
use Rattle.rates_report.specs.Noted.{Noted, started}
use Rattle.rates_report.specs.Tally.{StandsAfter}
use Rattle.rates_report.proofs.Books.{kept-opened, told-kept}
use Rattle.rates_report.proofs.book.FlakeBook.note_opening.Goals as goal

pub invariant_of-self-2 : goal.invariant_of-self-2
invariant_of-self-2 c =
    let H : List Entry = reverse c.self.inside.noted in
    let e : Entry = c.args.entry.now in
    let o : Opening = c.args.opening.now in
    let longer : IsLegal (H ++ e ∷ []) =
    subst (λ (X : List Entry). IsLegal (X ++ e ∷ [])) (sym c.self.view_is) c.requires.legal in
    let stands : StandsAfter H e c.args.standing =
    subst (λ (X : List Entry). StandsAfter X e c.args.standing) (sym c.self.view_is) c.requires.stands in
    let s = c.self.inside in
    let made : c.start-notes.result ≡ started o.test c.args.standing =
    c.start-notes.ensures ∙ ap (λ (t : List ℕ). started t c.args.standing) c.in_ok-copy.ensures in
    let pushed : c.push.new.self.items ≡ s.searches.items ++ started o.test c.args.standing ∷ [] =
    c.in_ok-push.ensures.items ∙ ap (λ (n : Noted). s.searches.items ++ n ∷ []) made in
    told-kept c.tell.new.self s.noted e s.leases.items c.push.new.self.items (keys c.list.new.tests) c.tell.ensures
    (subst (λ (ns : List Noted). AreKept (H ++ e ∷ []) s.leases.items ns (keys c.list.new.tests)) (sym pushed)
    (kept-opened H s.leases.items s.searches.items (keys s.tests) (keys c.list.new.tests) e o c.args.standing c.self.invariant longer
    c.requires.opens stands c.in_default.ensures.listed))
