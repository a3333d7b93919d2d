use Rattle.std.proofs.Common.{◌≡◌, ℕ, ◌-◌, List, [], ◌∷◌, ◌++◌, Some, set, length, get_or, sym, ap, subst, ◌∙◌, arith}
use Rattle.farm_entry.specs.Legal.{IsLegal}
use Rattle.farm_entry.specs.declared.entry.Entry.{Entry}
use Rattle.farm_laws.proofs.EntryParts.{cancelled-facts}
use Rattle.farm_books.proofs.Entries.{entry-steps}
use Rattle.search_state.specs.SearchView.{SearchView, cancelled}
use Rattle.search_state.specs.Seen.{all_seen, seen}
use Rattle.search_state.proofs.AllStates.{cancelled-all}
use Rattle.search_state.proofs.Changes.{cancelled-not_opened}
use Rattle.farm_state.proofs.Searches.{IsSearchOf, search-high, search-low, search-of_opening, search-state}
use Rattle.farm_state.proofs.state.FarmState.push_end.Goals as goal

pub overflow_sub-search : goal.overflow_sub-search
overflow_sub-search c =
    let H : List Entry = c.self.inside.books in
    let e : Entry = c.args.entry in
    let h = c.self.invariant in
    let step = entry-steps H c.args.self.now e h.legal c.self.view_is c.requires.legal in
    let facts = cancelled-facts H e.at e.what c.args.search c.requires.cancels step in
    search-low H c.args.search h.legal (search-of_opening H c.args.search (facts.opening, facts.known))

pub index_mut-requires : goal.index_mut-requires
index_mut-requires c =
    let H : List Entry = c.self.inside.books in
    let e : Entry = c.args.entry in
    let h = c.self.invariant in
    let step = entry-steps H c.args.self.now e h.legal c.self.view_is c.requires.legal in
    let facts = cancelled-facts H e.at e.what c.args.search c.requires.cancels step in
    let high = search-high H c.args.search h.legal (search-of_opening H c.args.search (facts.opening, facts.known)) in
    omega (arith, high, ap length h.searches)

pub invariant_of-self-2 : goal.invariant_of-self-2
invariant_of-self-2 c =
    let H : List Entry = c.self.inside.books in
    let e : Entry = c.args.entry in
    let h = c.self.invariant in
    let step = entry-steps H c.args.self.now e h.legal c.self.view_is c.requires.legal in
    let longer : IsLegal (H ++ e ∷ []) =
    subst (λ (X : List Entry). IsLegal (X ++ e ∷ [])) (sym c.self.view_is) c.requires.legal in
    let is = sym c.in_ok-push.ensures.pushed in
    let facts = cancelled-facts H e.at e.what c.args.search c.requires.cancels step in
    let k : ℕ = c.args.search - 1 in
    let s : IsSearchOf H c.args.search = search-of_opening H c.args.search (facts.opening, facts.known) in
    let was : c.index_mut.result.now ≡ seen H s.opening =
    c.index_mut.ensures.value
    ∙ ap (λ (xs : List SearchView). get_or xs k c.index_mut.result.now) h.searches
    ∙ search-state H c.args.search c.index_mut.result.now h.legal s in
    let made : c.cancel.new.self ≡ cancelled (seen H s.opening) = c.cancel.ensures ∙ ap cancelled was in
    let all = cancelled-all H e s.opening h.legal step s.there (cancelled-not_opened e.what c.args.search c.requires.cancels)
    (c.requires.cancels ∙ ap Some s.same) in
    record {
      legal = subst IsLegal is longer;
      searches =
          ap (λ (xs : List SearchView). set xs k c.cancel.new.self) h.searches
          ∙ ap (λ (x : SearchView). set (all_seen H) k x) made
          ∙ ap (λ (n : ℕ). set (all_seen H) (n - 1) (cancelled (seen H s.opening))) s.same
          ∙ sym all
          ∙ ap all_seen is;
    }
