use Rattle.std.proofs.Common.{arith, ap, sym, ◌∙◌, None}
use Rattle.std.specs.FinMap.{get}
use Rattle.std.proofs.lemmas.List.{get_or_read}
use Rattle.search_books.specs.RunRows.{RunPlaces}
use Rattle.search_books.proofs.Rows.{get-row, get-past}
use Rattle.search_books.proofs.run_rows.RunRows.find.Goals as goal

pub returns-then-run-len : goal.returns-then-run-len
returns-then-run-len c =
    let rows = c.self.inside.rows.items in
    get_or_read rows c.args.run _ (omega arith) c.index.ensures None
    ∙ (sym (get-row rows c.args.run) ∙ ap (λ (r : RunPlaces). get r.places c.args.run) c.self.view_is)

pub returns-else-run-len : goal.returns-else-run-len
returns-else-run-len c =
    sym (get-past c.self.inside.rows.items c.args.run (omega arith))
    ∙ ap (λ (r : RunPlaces). get r.places c.args.run) c.self.view_is
