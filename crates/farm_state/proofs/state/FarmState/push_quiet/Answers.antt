use Rattle.std.proofs.Common.{List, [], ◌∷◌, ◌++◌, sym, ap, subst, ◌∙◌}
use Rattle.farm_entry.specs.Legal.{IsLegal}
use Rattle.farm_entry.specs.declared.entry.Entry.{Entry}
use Rattle.farm_books.proofs.Entries.{entry-steps}
use Rattle.search_state.specs.Seen.{all_seen}
use Rattle.search_state.proofs.AllStates.{quiet-all}
use Rattle.farm_state.proofs.state.FarmState.push_quiet.Goals as goal

pub invariant_of-self-2 : goal.invariant_of-self-2
invariant_of-self-2 c =
    let H : List Entry = c.self.inside.books in
    let e : Entry = c.args.entry in
    let h = c.self.invariant in
    let step = entry-steps H c.args.self.now e h.legal c.self.view_is c.requires.legal in
    let longer : IsLegal (H ++ e ∷ []) =
    subst (λ (X : List Entry). IsLegal (X ++ e ∷ [])) (sym c.self.view_is) c.requires.legal in
    let is = sym c.in_ok-push.ensures.pushed in
    record {
      legal = subst IsLegal is longer;
      searches =
          h.searches
          ∙ sym (quiet-all H e h.legal step c.requires.opens_none c.requires.reports_none c.requires.cancels_none)
          ∙ ap all_seen is;
    }
