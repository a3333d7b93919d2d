use Rattle.turn_lock.specs.Known.{IsReady}
use Rattle.farm_drill.specs.Passes.{KeepsPlan}
use Rattle.farm_drill.specs.Work.{ActsByPlan, CameByPlan, IsLease}
use Rattle.farm_drill.proofs.worker.Worker.run.Given as goal

abbrev pub invariant-loop : goal.invariant-loop
invariant-loop g l = record {
  goes : (goal.iterator-loop g).can_next l.iterator';
  ends : (goal.iterator-loop g).is_finite l.iterator';
  ready : IsReady l.farm l.pass;
  keeps : KeepsPlan l.fn.pass l.pass;
  asks : IsLease l.self.request;
  acts : ActsByPlan l.pass.seen l.self.held l.self.core.last;
  came : CameByPlan l.pass.seen l.self.held l.self.core.last l.event;
}
