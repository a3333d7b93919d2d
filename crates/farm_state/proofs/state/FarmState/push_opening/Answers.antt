use Rattle.std.proofs.Common.{◌≡◌, List, [], ◌∷◌, ◌++◌, Some, sym, ap, subst, ◌∙◌}
use Rattle.std.proofs.lemmas.Option.{none-some}
use Rattle.farm_entry.specs.History.{opening_in}
use Rattle.farm_entry.specs.Legal.{IsLegal}
use Rattle.farm_entry.specs.declared.entry.Entry.{Entry}
use Rattle.farm_entry.specs.declared.opening.Opening.{Opening}
use Rattle.farm_books.proofs.Entries.{entry-steps}
use Rattle.search_state.specs.SearchView.{SearchView}
use Rattle.search_state.specs.Seen.{all_seen}
use Rattle.search_state.proofs.AllStates.{opened-all}
use Rattle.farm_state.proofs.Searches.{opened-within}
use Rattle.farm_state.proofs.state.FarmState.push_opening.Goals as goal

pub unreachable-requires : goal.unreachable-requires
unreachable-requires c = none-some c.requires.opens.0 (c.in_default.ensures ∙ c.requires.opens.1)

pub start-requires : goal.start-requires
start-requires c =
    opened-within c.args.self.now c.args.entry c.in-Some.opening.now c.requires.legal (sym c.in-Some.ensures)

pub invariant_of-self-in-Ok : goal.invariant_of-self-in-Ok
invariant_of-self-in-Ok c =
    let H : List Entry = c.self.inside.books in
    let e : Entry = c.args.entry in
    let h = c.self.invariant in
    let o : Opening = c.in-Some.opening.now in
    let opens : opening_in e.what ≡ Some o = sym c.in-Some.ensures in
    let step = entry-steps H c.args.self.now e h.legal c.self.view_is c.requires.legal in
    let longer : IsLegal (H ++ e ∷ []) =
    subst (λ (X : List Entry). IsLegal (X ++ e ∷ [])) (sym c.self.view_is) c.requires.legal in
    let is = sym c.in-Ok.ensures.pushed in
    record {
      legal = subst IsLegal is longer;
      searches =
          c.in_ok-push.ensures.items
          ∙ ap (λ (xs : List SearchView). xs ++ c.in_ok-start.field-0 ∷ []) h.searches
          ∙ ap (λ (x : SearchView). all_seen H ++ x ∷ []) c.in_ok-start.ensures
          ∙ sym (opened-all H e o h.legal step opens)
          ∙ ap all_seen is;
    }
