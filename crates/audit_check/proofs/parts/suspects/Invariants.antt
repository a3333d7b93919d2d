use Rattle.std.proofs.Common.{◌≡◌, ◌-◌}
use Rattle.entry_codec.specs.Reading.{suspects_at}
use Rattle.entry_codec.proofs.Suspects.{with_front}
use Rattle.audit_check.proofs.parts.suspects.Given as goal

abbrev pub invariant-loop : goal.invariant-loop
invariant-loop l = with_front l.found.items (suspects_at (l.count - l.counter) l.rest) ≡ suspects_at l.count l.bytes
