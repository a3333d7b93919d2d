use Rattle.std.proofs.Common.{◌≡◌}
use Rattle.tcp_net.specs.Tcp.{link_ended, link_faults}
use Rattle.tcp_net.proofs.link.TcpLink.read.Given as goal

-- a wait counts no fault, and finds no end
abbrev pub invariant-loop : goal.invariant-loop
invariant-loop g l = (link_faults l.self ≡ link_faults l.fn.self) × (link_ended l.self ≡ link_ended l.fn.self)
