use Rattle.connection_laws.proofs.Batches.{answered-steps, answered-progress_after, answered-places}
use Rattle.connection_laws.specs.Moments.{GivenBy}
use Rattle.connection_laws.proofs.laws.a_batch_is_answered.Goals as goal

pub returns : goal.returns
returns g c = record {
  are_steps = λ d H items asks answers steps q b r s. answered-steps (GivenBy g.C.Clock c.args.clock.now g.D.Disk.count)
      d H items asks answers steps q b r s;
  progress_after = λ d H asks answers steps b s. answered-progress_after d H asks answers steps b s;
  places = λ H asks answers steps n s same. answered-places H asks answers steps n s same;
}
