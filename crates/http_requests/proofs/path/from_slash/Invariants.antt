use Rattle.std.proofs.Common.{◌≡◌, length}
use Rattle.http_requests.specs.Paths.{from_slash}
use Rattle.http_requests.proofs.path.from_slash.Given as goal

abbrev pub invariant-loop-text : goal.invariant-loop-text
invariant-loop-text l = from_slash l.text ≡ from_slash l.fn.text

abbrev pub decreases-loop-text : goal.decreases-loop-text
decreases-loop-text l = length l.text
