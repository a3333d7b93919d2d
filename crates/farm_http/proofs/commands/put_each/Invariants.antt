use Rattle.std.proofs.Common.{length, take, [], ◌-◌, ◌≡◌, ◌≤◌}
use Rattle.farm_http.specs.Bytes.{IsGathered, requests_bytes, said}
use Rattle.farm_http.proofs.Puts.{alike}
use Rattle.farm_http.proofs.commands.put_each.Given as goal

-- the answers to the requests before `place` are gathered or put
abbrev pub invariant-loop-place : goal.invariant-loop-place
invariant-loop-place g l = record {
  within : l.place ≤ length l.requests;
  gathered : IsGathered (requests_bytes (take l.place l.requests) (alike (said l.says) (take l.place l.requests)))
      (record { sent = g.K.Sink.written l.fn.link; held = [] })
      (record { sent = g.K.Sink.written l.link; held = l.out });
  aside : g.K.Sink.aside l.link ≡ g.K.Sink.aside l.fn.link;
  never_falls : g.K.Sink.count l.fn.link ≤ g.K.Sink.count l.link;
}

abbrev pub decreases-loop-place : goal.decreases-loop-place
decreases-loop-place g l = length l.requests - l.place
