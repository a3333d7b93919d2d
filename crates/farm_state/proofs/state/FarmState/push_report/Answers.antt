use Rattle.std.proofs.Common.{◌≡◌, ℕ, ◌+◌, ◌-◌, ◌<◌, List, [], ◌∷◌, ◌++◌, Some, set, length, get_or, sym, ap, subst, ◌∙◌, arith}
use Rattle.farm_entry.specs.Decision.{run_with}
use Rattle.farm_entry.specs.History.{lease_of}
use Rattle.farm_entry.specs.Legal.{IsLegal}
use Rattle.farm_entry.specs.declared.entry.Entry.{Entry}
use Rattle.farm_entry.specs.declared.lease.LeasedRun.{LeasedRun}
use Rattle.farm_entry.specs.declared.lease.ReportedRun.{ReportedRun}
use Rattle.farm_entry.specs.declared.limits.TheConstants.{MAX_ENTRIES}
use Rattle.weight_exact.specs.declared.run.Run.{Run}
use Rattle.farm_laws.proofs.EntryParts.{reported-facts}
use Rattle.farm_laws.proofs.Numbered.{lease-there}
use Rattle.farm_books.proofs.Entries.{entry-steps}
use Rattle.search_state.specs.SearchView.{IsPlaced, SearchView, after_report, fate_in}
use Rattle.search_state.specs.Seen.{all_seen, seen}
use Rattle.search_state.proofs.AllStates.{reported-all}
use Rattle.search_state.proofs.Asking.{report-ruled, reports-few, run-placed}
use Rattle.search_state.proofs.Changes.{report-not_opened}
use Rattle.farm_state.proofs.Searches.{search-high, search-low, search-of_lease, search-state}
use Rattle.farm_state.proofs.state.FarmState.push_report.Goals as goal

pub unreachable-requires : goal.unreachable-requires
unreachable-requires c =
    let H : List Entry = c.self.inside.books in
    let e : Entry = c.args.entry in
    let h = c.self.invariant in
    let step = entry-steps H c.args.self.now e h.legal c.self.view_is c.requires.legal in
    let facts = reported-facts H e.at e.what c.args.report c.requires.reports step in
    c.in_default.not-Some facts.lease (c.lease_of.ensures ∙ facts.known)

pub overflow_sub-index : goal.overflow_sub-index
overflow_sub-index c =
    let H : List Entry = c.self.inside.books in
    let h = c.self.invariant in
    let l : LeasedRun = c.in-Some.lease in
    let known : lease_of H c.args.report.run ≡ Some l = sym c.lease_of.ensures ∙ c.in-Some.is in
    search-low H l.search h.legal (search-of_lease H c.args.report.run l h.legal known)

pub index_mut-requires : goal.index_mut-requires
index_mut-requires c =
    let H : List Entry = c.self.inside.books in
    let h = c.self.invariant in
    let l : LeasedRun = c.in-Some.lease in
    let known : lease_of H c.args.report.run ≡ Some l = sym c.lease_of.ensures ∙ c.in-Some.is in
    let high = search-high H l.search h.legal (search-of_lease H c.args.report.run l h.legal known) in
    omega (arith, high, ap length h.searches)

pub report-requires-clause-ruled : goal.report-requires-clause-ruled
report-requires-clause-ruled c =
    let H : List Entry = c.self.inside.books in
    let e : Entry = c.args.entry in
    let h = c.self.invariant in
    let l : LeasedRun = c.in-Some.lease in
    let r : ReportedRun = c.args.report in
    let step = entry-steps H c.args.self.now e h.legal c.self.view_is c.requires.legal in
    let known : lease_of H r.run ≡ Some l = sym c.lease_of.ensures ∙ c.in-Some.is in
    let s = search-of_lease H r.run l h.legal known in
    let was : c.index_mut.result.now ≡ seen H s.opening =
    c.index_mut.ensures.value
    ∙ ap (λ (xs : List SearchView). get_or xs (l.search - 1) c.index_mut.result.now) h.searches
    ∙ search-state H l.search c.index_mut.result.now h.legal s in
    report-ruled H e s.opening r l h.legal step s.there c.requires.reports known s.same
    ∙ ap (λ (x : SearchView). fate_in x l.stage (run_with l r.verdict)) (sym was)
    ∙ ap (fate_in c.index_mut.result.now l.stage) (sym c.run_with.ensures)

pub report-requires-clause-placed : goal.report-requires-clause-placed
report-requires-clause-placed c =
    let H : List Entry = c.self.inside.books in
    let h = c.self.invariant in
    let l : LeasedRun = c.in-Some.lease in
    let r : ReportedRun = c.args.report in
    let known : lease_of H r.run ≡ Some l = sym c.lease_of.ensures ∙ c.in-Some.is in
    let again : lease_of H l.run ≡ Some l =
    ap (lease_of H) (lease-there H r.run l known).1 ∙ known in
    let s = search-of_lease H r.run l h.legal known in
    let was : c.index_mut.result.now ≡ seen H s.opening =
    c.index_mut.ensures.value
    ∙ ap (λ (xs : List SearchView). get_or xs (l.search - 1) c.index_mut.result.now) h.searches
    ∙ search-state H l.search c.index_mut.result.now h.legal s in
    subst (IsPlaced c.index_mut.result.now l.stage) (sym c.run_with.ensures)
    (subst (λ (x : SearchView). IsPlaced x l.stage (run_with l r.verdict)) (sym was)
    (run-placed H s.opening l r.verdict h.legal s.there again s.same))

pub report-requires-clause-few : goal.report-requires-clause-few
report-requires-clause-few c =
    let H : List Entry = c.self.inside.books in
    let e : Entry = c.args.entry in
    let h = c.self.invariant in
    let l : LeasedRun = c.in-Some.lease in
    let known : lease_of H c.args.report.run ≡ Some l = sym c.lease_of.ensures ∙ c.in-Some.is in
    let s = search-of_lease H c.args.report.run l h.legal known in
    let longer : IsLegal (H ++ e ∷ []) =
    subst (λ (X : List Entry). IsLegal (X ++ e ∷ [])) (sym c.self.view_is) c.requires.legal in
    let was : c.index_mut.result.now ≡ seen H s.opening =
    c.index_mut.ensures.value
    ∙ ap (λ (xs : List SearchView). get_or xs (l.search - 1) c.index_mut.result.now) h.searches
    ∙ search-state H l.search c.index_mut.result.now h.legal s in
    subst (λ (x : SearchView). length x.runs + length x.reruns < MAX_ENTRIES) (sym was)
    (reports-few H e s.opening.search longer)

pub invariant_of-self-2 : goal.invariant_of-self-2
invariant_of-self-2 c =
    let H : List Entry = c.self.inside.books in
    let e : Entry = c.args.entry in
    let h = c.self.invariant in
    let l : LeasedRun = c.in-Some.lease in
    let r : ReportedRun = c.args.report in
    let step = entry-steps H c.args.self.now e h.legal c.self.view_is c.requires.legal in
    let longer : IsLegal (H ++ e ∷ []) =
    subst (λ (X : List Entry). IsLegal (X ++ e ∷ [])) (sym c.self.view_is) c.requires.legal in
    let is = sym c.in_ok-push.ensures.pushed in
    let known : lease_of H r.run ≡ Some l = sym c.lease_of.ensures ∙ c.in-Some.is in
    let s = search-of_lease H r.run l h.legal known in
    let k : ℕ = l.search - 1 in
    let was : c.index_mut.result.now ≡ seen H s.opening =
    c.index_mut.ensures.value
    ∙ ap (λ (xs : List SearchView). get_or xs k c.index_mut.result.now) h.searches
    ∙ search-state H l.search c.index_mut.result.now h.legal s in
    let after : SearchView = after_report (seen H s.opening) l.stage (run_with l r.verdict) r.fate in
    let made : c.report.new.self ≡ after =
    c.report.ensures
    ∙ ap (λ (x : SearchView). after_report x l.stage c.run_with.result r.fate) was
    ∙ ap (λ (x : Run). after_report (seen H s.opening) l.stage x r.fate) c.run_with.ensures in
    let all =
    reported-all H e s.opening r l h.legal step s.there (report-not_opened e.what r c.requires.reports) c.requires.reports
    known s.same in
    record {
      legal = subst IsLegal is longer;
      searches =
          ap (λ (xs : List SearchView). set xs k c.report.new.self) h.searches
          ∙ ap (λ (x : SearchView). set (all_seen H) k x) made
          ∙ ap (λ (n : ℕ). set (all_seen H) (n - 1) after) s.same
          ∙ sym all
          ∙ ap all_seen is;
    }
