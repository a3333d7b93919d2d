use Rattle.std.proofs.Common.{◌≡◌}
use Rattle.http_requests.specs.FieldTexts.{lists_close}
use Rattle.http_requests.proofs.Options.{closes_in, bytes_left}
use Rattle.http_requests.proofs.named.lists_close.Given as goal

abbrev pub invariant-loop-rest : goal.invariant-loop-rest
invariant-loop-rest l = closes_in l.rest ≡ lists_close l.value

abbrev pub decreases-loop-rest : goal.decreases-loop-rest
decreases-loop-rest l = bytes_left l.rest
