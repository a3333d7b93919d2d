use Rattle.std.proofs.Common.{◌<◌, ℕ, List, [], ◌++◌, length, sym, ap, ◌∙◌, arith}
use Rattle.std.specs.List.{cons_option}
use Rattle.farm_entry.specs.declared.search_list.SearchLine.{SearchLine}
use Rattle.search_books.specs.SearchRows.{RowView, new_row}
use Rattle.kept_farm.specs.Lines.{search_line_at}
use Rattle.kept_farm.proofs.Looked.{found-upto}
use Rattle.kept_farm.proofs.search_list.search_lines_at.Goals as goal

pub loop-row-preserved : goal.loop-row-preserved
loop-row-preserved c =
    let rows : List RowView = c.args.rows.now in
    let i : ℕ = c.loop-row.row-index in
    let below : i < length rows = omega arith in
    c.in_ok-push_some.ensures.added
    ∙ ap (λ (ls : List SearchLine). ls ++ cons_option c.in_ok-search_line_at.field-0 []) c.loop-row.invariant
    ∙ sym (found-upto (λ (row : RowView). search_line_at c.args.ledger.now row.opened) rows i c.row-item.result
    c.in_ok-search_line_at.field-0 below
    (c.in_ok-search_line_at.ensures
    ∙ ap (search_line_at c.args.ledger.now) (c.opened.ensures ∙ ap (λ (row : RowView). row.opened) c.row-item.is)))
