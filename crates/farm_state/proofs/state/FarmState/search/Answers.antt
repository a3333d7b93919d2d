use Rattle.std.proofs.Common.{◌≡◌, ℕ, ◌-◌, inl, inr, List, Some, length, get_or, sym, ap, ◌∙◌, arith}
use Rattle.std.specs.Option.{option_map}
use Rattle.std.proofs.lemmas.List.{length-map}
use Rattle.farm_entry.specs.History.{opening_numbered, openings}
use Rattle.farm_entry.specs.declared.entry.Entry.{Entry}
use Rattle.search_state.specs.SearchView.{SearchView}
use Rattle.search_state.specs.Seen.{all_seen, seen}
use Rattle.farm_state.proofs.Searches.{search-none, search-some}
use Rattle.farm_state.proofs.state.FarmState.search.Goals as goal

pub returns-then-number-eq0 : goal.returns-then-number-eq0
returns-then-number-eq0 c =
    sym (search-none c.self.inside.books c.args.number c.self.invariant.legal (inl c.if-number-eq0.true))
    ∙ ap (λ (H : List Entry). option_map (seen H) (opening_numbered H c.args.number)) c.self.view_is

pub returns-then-number-count : goal.returns-then-number-count
returns-then-number-count c =
    let H : List Entry = c.self.inside.books in
    let long : length (all_seen H) ≡ length (openings H) = length-map (openings H) (seen H) in
    sym (search-none H c.args.number c.self.invariant.legal
    (inr (omega (arith, c.if-number-count.true, c.len-count.ensures, ap length c.self.invariant.searches, long))))
    ∙ ap (λ (X : List Entry). option_map (seen X) (opening_numbered X c.args.number)) c.self.view_is

pub returns : goal.returns
returns c =
    let H : List Entry = c.self.inside.books in
    let n : ℕ = c.args.number in
    let long : length (all_seen H) ≡ length (openings H) = length-map (openings H) (seen H) in
    ap Some (c.index.ensures ∙ ap (λ (xs : List SearchView). get_or xs (n - 1) c.index.result.now) c.self.invariant.searches)
    ∙ sym (search-some H n c.index.result.now c.self.invariant.legal (omega (arith, c.if-number-eq0.false))
    (omega (arith, c.if-number-count.false, c.len-count.ensures, ap length c.self.invariant.searches, long)))
    ∙ ap (λ (X : List Entry). option_map (seen X) (opening_numbered X n)) c.self.view_is
