use Rattle.std.proofs.Common.{◌≡◌, ℕ, List, sym, ap, subst, ◌∙◌}
use Rattle.farm_entry.specs.Legal.{IsLegal}
use Rattle.farm_entry.specs.RunPages.{lines_from}
use Rattle.farm_entry.specs.declared.entry.Entry.{Entry}
use Rattle.farm_entry.specs.declared.opening.Opening.{Opening}
use Rattle.farm_entry.specs.declared.run_page.RunLine.{RunLine}
use Rattle.search_books.specs.SearchRows.{RowView, row_numbered}
use Rattle.kept_farm.specs.Lines.{run_lines_at, runs_in}
use Rattle.kept_farm.specs.Searches.{search_rows}
use Rattle.kept_farm.proofs.Paged.{runs-paged}
use Rattle.kept_farm.proofs.farm.KeptFarm.runs_page.Goals as goal

pub returns : goal.returns
returns c =
    let H : List Entry = c.args.self.now in
    let o : Opening = c.args.opening.now in
    let from : ℕ = c.args.from in
    let legal : IsLegal H = subst IsLegal c.self.view_is c.self.invariant.legal in
    let rows = c.self.invariant.searches ∙ ap search_rows c.self.view_is in
    ap (λ (lines : List RunLine). record { search = o.search; from = from; runs = lines })
    (c.of.ensures
    ∙ c.in_ok-runs.ensures
    ∙ ap (λ (X : List Entry). run_lines_at X o c.lines_from-places.result.now) c.books.ensures
    ∙ ap (run_lines_at H o)
    (c.lines_from-places.ensures
    ∙ ap (lines_from from) (c.runs_in.ensures ∙ ap runs_in (c.row.ensures ∙ ap (row_numbered o.search) rows)))
    ∙ runs-paged H o from legal)
