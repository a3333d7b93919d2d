use Rattle.std.proofs.Common.{◌≡◌, ◌-◌, length}
use Rattle.std.specs.Io.KnownBytes.{append_known}
use Rattle.test_runners.specs.declared.host.TheConstants.{LOOK_BYTES}
use Rattle.test_runners.proofs.host.take_answer.Given as goal

abbrev pub invariant-takes : goal.invariant-takes
invariant-takes g l = record {
  taken : g.L.Source.taken l.link ≡ append_known (g.L.Source.taken l.fn.link) l.answer.items;
  aside : g.L.Source.aside l.link ≡ g.L.Source.aside l.fn.link;
}

abbrev pub decreases-takes : goal.decreases-takes
decreases-takes g l = LOOK_BYTES - length l.answer.items
