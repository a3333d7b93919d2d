use Rattle.std.proofs.Common.{◌≡◌, ℕ, List, length, Option, Some, sym, ap, subst, ◌∙◌}
use Rattle.std.specs.Option.{option_copied, option_map}
use Rattle.std.proofs.lemmas.Option.{same_Some}
use Rattle.farm_entry.specs.History.{leases, opening_numbered, runs}
use Rattle.farm_entry.specs.Legal.{IsLegal}
use Rattle.farm_entry.specs.SearchLines.{order_for}
use Rattle.farm_entry.specs.Standing.{named_commit, standing}
use Rattle.farm_entry.specs.declared.entry.Entry.{Entry}
use Rattle.farm_entry.specs.declared.opening.Opening.{Opening}
use Rattle.farm_entry.specs.declared.standing.Standing.{Standing}
use Rattle.search_state.specs.Seen.{seen}
use Rattle.search_state.specs.SearchView.{SearchView, standing_in}
use Rattle.search_books.specs.SearchRows.{RowView, row_numbered}
use Rattle.kept_farm.specs.Lines.{order_in_row}
use Rattle.kept_farm.proofs.Paged.{order-looked_up}
use Rattle.kept_farm.proofs.search_list.search_line.Goals as goal

pub returns : goal.returns
returns c =
    let H : List Entry = c.args.ledger.now in
    let o : Opening = c.args.opening.now in
    let farm : c.state-farm.result.now ≡ H = c.state-farm.ensures ∙ c.turns.ensures in
    let history : c.history.result.now ≡ H = c.history.ensures.history ∙ c.books.ensures ∙ farm in
    let legal : IsLegal H = subst IsLegal (c.books.ensures ∙ farm) c.history.ensures.legal in
    let state : c.in-Some.state.now ≡ seen H o =
    same_Some _ _ (sym (ap option_copied c.in-Some.is)
    ∙ c.search.ensures
    ∙ ap (λ (X : List Entry). option_map (seen X) (opening_numbered X o.search)) farm
    ∙ ap (option_map (seen H)) c.requires.opened) in
    let stands : c.standing-standing.result ≡ standing H o =
    c.standing-standing.ensures ∙ ap (λ (s : SearchView). standing_in s) state in
    let counted : c.counted.result ≡ length (runs H o.search) =
    c.counted.ensures ∙ ap (λ (s : SearchView). length s.runs) state in
    let commit = c.named_commit.ensures ∙ ap (λ (s : Standing). named_commit o s) stands in
    let order : c.order_in_row.result ≡ order_for H o.search =
    c.order_in_row.ensures
    ∙ ap (λ (X : List Entry). order_in_row X (option_copied c.row.result)) history
    ∙ ap (order_in_row H) (c.row.ensures ∙ ap (λ (rows : List RowView). row_numbered o.search rows) c.requires.rows)
    ∙ order-looked_up H o.search legal c.requires.some in
    λ i. record {
      search = o.search;
      test = c.in_ok-copy.ensures i;
      suspects = c.len.ensures.len i;
      opened = c.args.at;
      leases = c.leases_of.ensures i;
      counted = counted i;
      standing = stands i;
      commit = commit i;
      order = order i;
    }
