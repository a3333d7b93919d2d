use Rattle.std.proofs.Common.{◌≡◌, ◌≤◌, []}
use Rattle.connection_laws.specs.Moments.{GivenBy}
use Rattle.connection_laws.specs.Progress.{progress_from}
use Rattle.farm_entry.specs.Legal.{IsLegal}
use Rattle.farm_http.specs.Callers.{state_of}
use Rattle.farm_http.specs.Connection.{IsServing, work_left}
use Rattle.link_io.specs.Links.{link_state}
use Rattle.turn_lock.specs.Known.{IsReady}
use Rattle.farm_http.proofs.serve.serve_link.Given as goal

-- the items so far were answered, and the caller knows what they came to
abbrev pub invariant-loop-ended : goal.invariant-loop-ended
invariant-loop-ended g l = record {
  ready : IsReady l.service.farm.now l.caller.pass;
  empty : l.connection.kept.out ≡ [];
  legal : IsLegal l.caller.reader;
  serving : IsServing (progress_from l.fn.caller.pass.seen l.fn.caller.reader l.fn.caller.pass.faults)
      (GivenBy g.C.Clock l.service.clock.now g.D.Disk.count) (state_of l.fn.caller) (state_of l.caller)
      (link_state g.L.Source g.L.Sink l.fn.link)
      (link_state g.L.Source g.L.Sink l.link) l.connection.received l.connection.requests;
  never_falls : g.L.Source.count l.fn.link ≤ g.L.Source.count l.link;
}

abbrev pub decreases-loop-ended : goal.decreases-loop-ended
decreases-loop-ended g l = work_left l.connection.received
