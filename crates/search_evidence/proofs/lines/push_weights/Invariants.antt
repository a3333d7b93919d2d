use Rattle.std.proofs.Common.{◌≡◌, ◌++◌, drop, map}
use Rattle.std.specs.Prelude.{string_bytes}
use Rattle.search_evidence.specs.Evidence.{spaced}
use Rattle.search_evidence.proofs.lines.push_weights.Given as goal

abbrev pub invariant-loop-suspect : goal.invariant-loop-suspect
invariant-loop-suspect l =
    string_bytes l.text ++ spaced (map (λ suspect. suspect.weight) (drop l.suspect-index l.suspects))
    ≡ string_bytes l.fn.text ++ spaced (map (λ suspect. suspect.weight) l.suspects)
