use Rattle.std.proofs.Common.{arith, ap, ◌∙◌, ◌≡◌, ◌≤◌, ◌++◌, ◌-◌, Option, None, ℕ, List, length, replicate, take, vec_len}
use Rattle.std.proofs.lemmas.List.{take_all}
use Rattle.search_books.specs.RunRows.{RunPlaces, places_in}
use Rattle.search_books.proofs.Rows.{pad-rows}
use Rattle.search_books.proofs.run_rows.RunRows.reserve.Goals as goal

pub returns-clause-places : goal.returns-clause-places
returns-clause-places c =
    let rows = c.self.inside.rows.items in
    let pad = replicate {A = Option ℕ} (c.max.result - vec_len c.self.inside.rows) None in
    let low : length rows ≤ c.max.result = omega arith in
    let items : c.resize.new.self.items ≡ take c.max.result rows ++ pad = c.in_ok-resize.ensures.items in
    ap (λ (xs : List (Option ℕ)). places_in xs)
    (items ∙ ap (λ (xs : List (Option ℕ)). xs ++ pad) (take_all c.max.result rows low))
    ∙ (pad-rows rows (c.max.result - vec_len c.self.inside.rows) ∙ ap (λ (r : RunPlaces). r.places) c.self.view_is)
