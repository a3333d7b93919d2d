-- What contracts see of a network in memory.
use Rattle.std.specs.Prelude.{ℕ, List, Some}
use Rattle.link_io.specs.FaultPlan.{PlannedFaults}
use Rattle.link_io.specs.Links.{LinkState}
use Rattle.link_io.specs.MemLink.{LinkInMemory}
use Rattle.link_io.specs.Events.{NetworkEvent, accepted, accept_ended, accept_failed, connected, connect_failed, returned}
use Rattle.link_io.specs.declared.memory.mem_network.Happened.{Happened}
use Rattle.link_io.specs.declared.memory.mem_network.Happened.TheVariants as happened

-- the links that it will give to accepts and to connects, the calls that are to fail, accepts and connects counted
-- together, how often it and its links failed, and what it did, the newest first
pub record NetworkInMemory : Type 0 where
  pub accepts : List LinkInMemory
  pub connects : List LinkInMemory
  pub plan : PlannedFaults
  pub count : ℕ
  pub told : List NetworkEvent

-- what a link in memory has done
abbrev pub mem_link_state : LinkInMemory → LinkState
mem_link_state link = record {
  taken = Some link.input.taken;
  put = Some link.put;
  ended = link.input.ended;
  count = link.plan.faults;
  notes = Some link.notes;
}

-- what was told, as an event
abbrev pub event_of : Happened → NetworkEvent
event_of happened.Accepted = accepted
event_of happened.AcceptEnded = accept_ended
event_of happened.AcceptFailed = accept_failed
event_of happened.Connected = connected
event_of happened.ConnectFailed = connect_failed
event_of (happened.Returned link) = returned (mem_link_state link.value)
