use Rattle.std.proofs.Common.{arith, ap, ◌∙◌, ◌<◌, length}
use Rattle.std.specs.FinMap.{get, remove}
use Rattle.search_books.specs.RunRows.{RunPlaces}
use Rattle.search_books.proofs.Rows.{present-low, take-row}
use Rattle.search_books.proofs.run_rows.RunRows.take.Goals as goal

pub index_mut-requires : goal.index_mut-requires
index_mut-requires c =
    let low : c.args.run < length c.self.inside.rows.items =
    present-low c.self.inside.rows.items c.args.run
    (c.requires.present.0, ap (λ (r : RunPlaces). get r.places c.args.run) c.self.view_is ∙ c.requires.present.1) in
    omega arith

pub returns-clause-places : goal.returns-clause-places
returns-clause-places c =
    let rows = c.self.inside.rows.items in
    let low : c.args.run < length rows =
    present-low rows c.args.run
    (c.requires.present.0, ap (λ (r : RunPlaces). get r.places c.args.run) c.self.view_is ∙ c.requires.present.1) in
    take-row rows c.args.run low ∙ ap (λ (r : RunPlaces). remove r.places c.args.run) c.self.view_is
