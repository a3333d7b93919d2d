use Rattle.std.proofs.Common.{◌≡◌, ◌≤◌, length, map}
use Rattle.std.specs.List.{All}
use Rattle.httparse.specs.Spans.{IsHeaderWithin, header_bytes}
use Rattle.http_requests.specs.FieldTexts.{named_values}
use Rattle.http_requests.proofs.fields.Fields.find.Given as goal

-- the spans left have all values of the name
abbrev pub invariant-loop-spans : goal.invariant-loop-spans
invariant-loop-spans l = record {
  values : named_values l.name (map (header_bytes l.bytes) l.spans)
      ≡ named_values l.name (map (header_bytes l.bytes) l.self.spans.now);
  within : All (IsHeaderWithin (length l.bytes)) l.spans;
  fewer : length l.spans ≤ length l.self.spans.now;
}

abbrev pub decreases-loop-spans : goal.decreases-loop-spans
decreases-loop-spans l = length l.spans
