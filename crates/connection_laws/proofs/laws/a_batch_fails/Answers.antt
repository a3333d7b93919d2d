use Rattle.connection_laws.proofs.Batches.{failed-steps, failed-progress_after, failed-places}
use Rattle.connection_laws.specs.Moments.{GivenBy}
use Rattle.connection_laws.proofs.laws.a_batch_fails.Goals as goal

pub returns : goal.returns
returns g c = record {
  are_steps = λ d H before count item items asks q o le b first rose from to.
      failed-steps (GivenBy g.C.Clock c.args.clock.now g.D.Disk.count) d H before count item items asks q o le b first
      rose from to;
  progress_after = λ d H before count ask asks. failed-progress_after d H before count ask asks;
  places = λ H before count asks. failed-places H before count asks;
}
