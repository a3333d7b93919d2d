use Rattle.std.proofs.Common.{◌≡◌, ℕ, ◌-◌, List, length, set, get_or, Contains, sym, ap, subst, ◌∙◌, arith}
use Rattle.farm_entry.specs.History.{openings}
use Rattle.farm_entry.specs.declared.entry.Entry.{Entry}
use Rattle.search_state.specs.SearchView.{SearchView}
use Rattle.search_state.specs.Seen.{all_seen, seen}
use Rattle.farm_state.proofs.Popping.{left-of}
use Rattle.farm_state.proofs.Searches.{search-high, search-low}
use Rattle.farm_state.proofs.state.FarmState.pop_about.Goals as goal

pub overflow_sub-search : goal.overflow_sub-search
overflow_sub-search c =
    let H : List Entry = c.self.inside.books in
    let s = left-of H c.args.self.now c.pop.new.self c.args.search c.self.invariant.legal c.self.view_is c.requires.some
    c.requires.about c.pop.ensures in
    search-low H c.args.search c.self.invariant.legal s.now

pub index_mut-requires : goal.index_mut-requires
index_mut-requires c =
    let H : List Entry = c.self.inside.books in
    let s = left-of H c.args.self.now c.pop.new.self c.args.search c.self.invariant.legal c.self.view_is c.requires.some
    c.requires.about c.pop.ensures in
    omega (arith, search-high H c.args.search c.self.invariant.legal s.now, ap length c.self.invariant.searches)

pub retell-requires-clause-there : goal.retell-requires-clause-there
retell-requires-clause-there c =
    let H : List Entry = c.self.inside.books in
    let G : List Entry = c.pop.new.self in
    let h = c.self.invariant in
    let d : SearchView = c.index_mut.result.now in
    let s = left-of H c.args.self.now G c.args.search h.legal c.self.view_is c.requires.some c.requires.about c.pop.ensures in
    let was : d ≡ seen H s.before.opening =
    c.index_mut.ensures.value
    ∙ ap (λ (xs : List SearchView). get_or xs (c.args.search - 1) d) h.searches
    ∙ s.state d in
    subst (Contains (openings G)) (sym (ap (λ (x : SearchView). x.opening) was)) s.before.there

pub retell-requires-clause-search : goal.retell-requires-clause-search
retell-requires-clause-search c =
    let H : List Entry = c.self.inside.books in
    let h = c.self.invariant in
    let d : SearchView = c.index_mut.result.now in
    let s = left-of H c.args.self.now c.pop.new.self c.args.search h.legal c.self.view_is c.requires.some c.requires.about
    c.pop.ensures in
    let was : d ≡ seen H s.before.opening =
    c.index_mut.ensures.value
    ∙ ap (λ (xs : List SearchView). get_or xs (c.args.search - 1) d) h.searches
    ∙ s.state d in
    s.before.same ∙ ap (λ (x : SearchView). x.opening.search) (sym was)

pub invariant_of-self : goal.invariant_of-self
invariant_of-self c =
    let H : List Entry = c.self.inside.books in
    let G : List Entry = c.pop.new.self in
    let h = c.self.invariant in
    let k : ℕ = c.args.search - 1 in
    let d : SearchView = c.index_mut.result.now in
    let s = left-of H c.args.self.now G c.args.search h.legal c.self.view_is c.requires.some c.requires.about c.pop.ensures in
    let was : d ≡ seen H s.before.opening =
    c.index_mut.ensures.value
    ∙ ap (λ (xs : List SearchView). get_or xs k d) h.searches
    ∙ s.state d in
    let made : c.retell.new.state ≡ seen G s.before.opening =
    c.retell.ensures ∙ ap (λ (x : SearchView). seen G x.opening) was in
    record {
      legal = s.last.legal;
      searches =
          ap (λ (xs : List SearchView). set xs k c.retell.new.state) h.searches
          ∙ ap (set (all_seen H) k) made
          ∙ s.all;
    }
