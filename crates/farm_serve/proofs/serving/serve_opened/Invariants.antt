use Rattle.std.specs.Prelude.{Some}
use Rattle.shared_farm.specs.Rests.{begun_of}
use Rattle.farm_serve.proofs.serving.serve_opened.Given as goal

-- what the farm begins with, and the board of its totals
abbrev pub ghosts-serve_store : goal.ghosts-serve_store
ghosts-serve_store g a = record { begun = Some (begun_of g.D.Disk a.posted.store); board = Some a.posted.board }
