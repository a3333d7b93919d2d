use Rattle.std.proofs.Common.{◌≡◌, ℕ, ◌-◌, List, [], ◌∷◌, ◌++◌, Some, set, length, get_or, sym, ap, subst, ◌∙◌, arith}
use Rattle.farm_entry.specs.History.{lease_of}
use Rattle.farm_entry.specs.Legal.{IsLegal}
use Rattle.farm_entry.specs.declared.entry.Entry.{Entry}
use Rattle.farm_entry.specs.declared.lease.LeasedRun.{LeasedRun}
use Rattle.farm_entry.specs.declared.lease.SkippedRun.{SkippedRun}
use Rattle.farm_laws.proofs.EntryParts.{skipped-facts}
use Rattle.farm_laws.proofs.Numbered.{lease-there}
use Rattle.farm_books.proofs.Entries.{entry-steps}
use Rattle.search_state.specs.SearchView.{IsPlacedAt, SearchView, after_skip, skip_fate_in}
use Rattle.search_state.specs.Seen.{all_seen, seen}
use Rattle.search_state.proofs.AllStates.{skipped-all}
use Rattle.search_state.proofs.Asking.{skip-placed, skip-ruled}
use Rattle.search_state.proofs.Changes.{skip-not_opened}
use Rattle.farm_state.proofs.Searches.{search-high, search-low, search-of_lease, search-state}
use Rattle.farm_state.proofs.state.FarmState.push_skip.Goals as goal

pub unreachable-requires : goal.unreachable-requires
unreachable-requires c =
    let H : List Entry = c.self.inside.books in
    let e : Entry = c.args.entry in
    let h = c.self.invariant in
    let step = entry-steps H c.args.self.now e h.legal c.self.view_is c.requires.legal in
    let facts = skipped-facts H e.at e.what c.args.skip c.requires.skips step in
    c.in_default.not-Some facts.lease (c.lease_of.ensures ∙ facts.known)

pub overflow_sub-index : goal.overflow_sub-index
overflow_sub-index c =
    let H : List Entry = c.self.inside.books in
    let h = c.self.invariant in
    let l : LeasedRun = c.in-Some.lease in
    let known : lease_of H c.args.skip.run ≡ Some l = sym c.lease_of.ensures ∙ c.in-Some.is in
    search-low H l.search h.legal (search-of_lease H c.args.skip.run l h.legal known)

pub index_mut-requires : goal.index_mut-requires
index_mut-requires c =
    let H : List Entry = c.self.inside.books in
    let h = c.self.invariant in
    let l : LeasedRun = c.in-Some.lease in
    let known : lease_of H c.args.skip.run ≡ Some l = sym c.lease_of.ensures ∙ c.in-Some.is in
    let high = search-high H l.search h.legal (search-of_lease H c.args.skip.run l h.legal known) in
    omega (arith, high, ap length h.searches)

pub skip-requires-clause-ruled : goal.skip-requires-clause-ruled
skip-requires-clause-ruled c =
    let H : List Entry = c.self.inside.books in
    let e : Entry = c.args.entry in
    let h = c.self.invariant in
    let l : LeasedRun = c.in-Some.lease in
    let r : SkippedRun = c.args.skip in
    let step = entry-steps H c.args.self.now e h.legal c.self.view_is c.requires.legal in
    let known : lease_of H r.run ≡ Some l = sym c.lease_of.ensures ∙ c.in-Some.is in
    let s = search-of_lease H r.run l h.legal known in
    let was : c.index_mut.result.now ≡ seen H s.opening =
    c.index_mut.ensures.value
    ∙ ap (λ (xs : List SearchView). get_or xs (l.search - 1) c.index_mut.result.now) h.searches
    ∙ search-state H l.search c.index_mut.result.now h.legal s in
    skip-ruled H e s.opening r l h.legal step s.there c.requires.skips known s.same
    ∙ ap (λ (x : SearchView). skip_fate_in x l.stage) (sym was)

pub skip-requires-clause-placed : goal.skip-requires-clause-placed
skip-requires-clause-placed c =
    let H : List Entry = c.self.inside.books in
    let h = c.self.invariant in
    let l : LeasedRun = c.in-Some.lease in
    let r : SkippedRun = c.args.skip in
    let known : lease_of H r.run ≡ Some l = sym c.lease_of.ensures ∙ c.in-Some.is in
    let again : lease_of H l.run ≡ Some l =
    ap (lease_of H) (lease-there H r.run l known).1 ∙ known in
    let s = search-of_lease H r.run l h.legal known in
    let was : c.index_mut.result.now ≡ seen H s.opening =
    c.index_mut.ensures.value
    ∙ ap (λ (xs : List SearchView). get_or xs (l.search - 1) c.index_mut.result.now) h.searches
    ∙ search-state H l.search c.index_mut.result.now h.legal s in
    subst (λ (x : SearchView). IsPlacedAt x l.stage l.position) (sym was)
    (skip-placed H s.opening l h.legal s.there again s.same)

pub invariant_of-self-2 : goal.invariant_of-self-2
invariant_of-self-2 c =
    let H : List Entry = c.self.inside.books in
    let e : Entry = c.args.entry in
    let h = c.self.invariant in
    let l : LeasedRun = c.in-Some.lease in
    let r : SkippedRun = c.args.skip in
    let step = entry-steps H c.args.self.now e h.legal c.self.view_is c.requires.legal in
    let longer : IsLegal (H ++ e ∷ []) =
    subst (λ (X : List Entry). IsLegal (X ++ e ∷ [])) (sym c.self.view_is) c.requires.legal in
    let is = sym c.in_ok-push.ensures.pushed in
    let known : lease_of H r.run ≡ Some l = sym c.lease_of.ensures ∙ c.in-Some.is in
    let s = search-of_lease H r.run l h.legal known in
    let k : ℕ = l.search - 1 in
    let was : c.index_mut.result.now ≡ seen H s.opening =
    c.index_mut.ensures.value
    ∙ ap (λ (xs : List SearchView). get_or xs k c.index_mut.result.now) h.searches
    ∙ search-state H l.search c.index_mut.result.now h.legal s in
    let after : SearchView = after_skip (seen H s.opening) l.position r.fate in
    let made : c.skip.new.self ≡ after =
    c.skip.ensures ∙ ap (λ (x : SearchView). after_skip x l.position r.fate) was in
    let all =
    skipped-all H e s.opening r l h.legal step s.there (skip-not_opened e.what r c.requires.skips) c.requires.skips
    known s.same in
    record {
      legal = subst IsLegal is longer;
      searches =
          ap (λ (xs : List SearchView). set xs k c.skip.new.self) h.searches
          ∙ ap (λ (x : SearchView). set (all_seen H) k x) made
          ∙ ap (λ (n : ℕ). set (all_seen H) (n - 1) after) s.same
          ∙ sym all
          ∙ ap all_seen is;
    }
