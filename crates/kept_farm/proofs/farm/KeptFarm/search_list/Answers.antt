use Rattle.std.proofs.Common.{◌≡◌, ℕ, List, sym, ap, subst, ◌∙◌}
use Rattle.farm_entry.specs.Legal.{IsLegal}
use Rattle.farm_entry.specs.RunPages.{lines_from}
use Rattle.farm_entry.specs.declared.entry.Entry.{Entry}
use Rattle.farm_entry.specs.declared.search_list.SearchLine.{SearchLine}
use Rattle.kept_farm.specs.Lines.{search_lines_at}
use Rattle.kept_farm.specs.Searches.{search_rows}
use Rattle.kept_farm.proofs.Paged.{list-paged}
use Rattle.kept_farm.proofs.farm.KeptFarm.search_list.Goals as goal

pub returns : goal.returns
returns c =
    let H : List Entry = c.args.self.now in
    let from : ℕ = c.args.from in
    let legal : IsLegal H = subst IsLegal c.self.view_is c.self.invariant.legal in
    let rows = c.self.invariant.searches ∙ ap search_rows c.self.view_is in
    ap (λ (lines : List SearchLine). record { from = from; searches = lines })
    (c.of.ensures
    ∙ c.in_ok-lines.ensures
    ∙ ap (λ (X : List Entry). search_lines_at X c.lines_from-rows.result.now) c.self.view_is
    ∙ ap (search_lines_at H) (c.lines_from-rows.ensures ∙ ap (lines_from from) (c.rows.ensures ∙ rows))
    ∙ list-paged H from legal)
