use Rattle.connection_laws.specs.Progress.{progress_at}
use Rattle.connection_laws.proofs.Loop.{whole-part, part-shorter}
use Rattle.connection_laws.specs.Moments.{GivenBy}
use Rattle.connection_laws.proofs.laws.whole_is_held_as_a_prefix.Goals as goal

pub returns : goal.returns
returns g c = record {
  whole = λ start final taken put over h. whole-part (progress_at start) final
      (GivenBy g.C.Clock c.args.clock.now g.D.Disk.count) g.S.Said.said taken put over h;
  shorter = λ start final taken put less over p h. part-shorter (progress_at start) final
      (GivenBy g.C.Clock c.args.clock.now g.D.Disk.count) g.S.Said.said taken put less over p h;
}
