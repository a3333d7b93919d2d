use Rattle.std.proofs.Common.{Option, sym, subst}
use Rattle.atomic_table.specs.Seated.{TableId}
use Rattle.shared_farm.specs.Posted.{IsPicked}
use Rattle.shared_farm.proofs.farm.SharedFarm.of.Goals as goal

pub share-requires-clause-board : goal.share-requires-clause-board
share-requires-clause-board g c κs within =
    subst (λ (o : Option TableId). IsPicked o c.in-Ok.posted.board) (sym c.requires.board) tt
