use Rattle.connection_laws.proofs.Batches.{uncalled-steps, uncalled-progress_after, uncalled-places}
use Rattle.connection_laws.specs.Moments.{GivenBy}
use Rattle.connection_laws.proofs.laws.a_batch_finds_no_memory.Goals as goal

pub returns : goal.returns
returns g c = record {
  are_steps = λ d H items asks q b. uncalled-steps (GivenBy g.C.Clock c.args.clock.now g.D.Disk.count) d H items asks q
      b;
  progress_after = λ d H asks b. uncalled-progress_after d H asks b;
  places = λ H asks. uncalled-places H asks;
}
