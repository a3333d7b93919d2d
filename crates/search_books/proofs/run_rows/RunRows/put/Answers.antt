use Rattle.std.proofs.Common.{arith, ap, ◌∙◌, ◌<◌, length}
use Rattle.std.specs.FinMap.{insert}
use Rattle.search_books.specs.RunRows.{RunPlaces}
use Rattle.search_books.proofs.Rows.{put-row}
use Rattle.search_books.proofs.run_rows.RunRows.put.Goals as goal

pub returns-clause-places : goal.returns-clause-places
returns-clause-places c =
    let low : c.args.run < length c.self.inside.rows.items =
    omega (arith, ap (λ (r : RunPlaces). r.bound) c.self.view_is, c.requires) in
    put-row c.self.inside.rows.items c.args.run low c.args.place
    ∙ ap (λ (r : RunPlaces). insert r.places c.args.run c.args.place) c.self.view_is
