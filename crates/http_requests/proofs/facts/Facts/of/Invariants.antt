use Rattle.std.proofs.Common.{◌≡◌, length, map}
use Rattle.std.specs.List.{All}
use Rattle.httparse.specs.Spans.{IsHeaderWithin, header_bytes}
use Rattle.http_requests.specs.Facts.{facts_of, joined}
use Rattle.http_requests.proofs.facts.Facts.of.Given as goal

-- the facts so far and those of the spans left are those of all
abbrev pub invariant-loop-spans : goal.invariant-loop-spans
invariant-loop-spans l = record {
  facts : joined l.facts (facts_of (map (header_bytes l.bytes) l.spans))
      ≡ facts_of (map (header_bytes l.bytes) l.fields.spans.now);
  within : All (IsHeaderWithin (length l.bytes)) l.spans;
}

abbrev pub decreases-loop-spans : goal.decreases-loop-spans
decreases-loop-spans l = length l.spans
