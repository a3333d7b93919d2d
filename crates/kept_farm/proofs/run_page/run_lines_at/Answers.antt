use Rattle.std.proofs.Common.{◌<◌, ℕ, List, [], ◌++◌, length, sym, ap, ◌∙◌, arith}
use Rattle.std.specs.List.{cons_option}
use Rattle.farm_entry.specs.declared.run_page.RunLine.{RunLine}
use Rattle.kept_farm.specs.Lines.{run_line_at}
use Rattle.kept_farm.proofs.Looked.{found-upto}
use Rattle.kept_farm.proofs.run_page.run_lines_at.Goals as goal

pub loop-place-preserved : goal.loop-place-preserved
loop-place-preserved c =
    let places : List ℕ = c.args.places.now in
    let i : ℕ = c.loop-place.place-index in
    let below : i < length places = omega arith in
    c.in_ok-push_some.ensures.added
    ∙ ap (λ (ls : List RunLine). ls ++ cons_option c.in_ok-run_line_at.field-0 []) c.loop-place.invariant
    ∙ sym (found-upto (run_line_at c.args.books.now c.args.opening.now) places i 0 c.in_ok-run_line_at.field-0 below
    c.in_ok-run_line_at.ensures)
