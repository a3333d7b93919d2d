use Rattle.connection_laws.proofs.Loop.{held-none, held-silent, so_far-start}
use Rattle.connection_laws.specs.Moments.{GivenBy}
use Rattle.connection_laws.proofs.laws.nothing_is_answered_at_first.Goals as goal

pub returns : goal.returns
returns g c = record {
  so_far = λ start taken. so_far-start start (GivenBy g.C.Clock c.args.clock.now g.D.Disk.count) g.S.Said.said taken;
  held = λ start final taken over items end i legal f.
      held-none start final (GivenBy g.C.Clock c.args.clock.now g.D.Disk.count) g.S.Said.said taken over items end i
      legal f;
  silent = λ start final f. held-silent start final (GivenBy g.C.Clock c.args.clock.now g.D.Disk.count) g.S.Said.said f;
}
