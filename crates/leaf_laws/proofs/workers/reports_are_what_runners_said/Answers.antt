use Rattle.leaf_laws.proofs.OnceEach.{told-once}
use Rattle.leaf_laws.proofs.Happened.{ever-sound}
use Rattle.leaf_laws.proofs.workers.reports_are_what_runners_said.Goals as goal

pub returns : goal.returns
returns c = record {
  legal = λ settings at starts all. (ever-sound settings at starts all).legal;
  given = λ settings at starts all. (ever-sound settings at starts all).reported;
  said = λ settings at starts all. (ever-sound settings at starts all).said;
  once = λ settings at starts all. told-once _ (ever-sound settings at starts all).legal;
}
