use Rattle.std.proofs.Common.{List, ◌++◌, ap, map, ◌∙◌}
use Rattle.std.specs.Prelude.{string_bytes}
use Rattle.suspect_range.specs.declared.suspect.Suspect.{Suspect}
use Rattle.search_evidence.specs.Evidence.{spaced}
use Rattle.search_evidence.proofs.Pieces.{search-spelled}
use Rattle.search_evidence.proofs.lines.push_search.Goals as goal

pub returns : goal.returns
returns c =
    let head = string_bytes c.write.new.self in
    search-spelled (string_bytes c.args.text.now) head (string_bytes c.push_weights.new.text)
    (string_bytes c.writeln.new.self) (map (λ suspect. suspect.weight) c.args.opening.now.range.suspects) c.a-a.result
    c.b-b.result c.t-t.result c.u-u.result c.calm-calm.result _ _ _ _ _ c.a-a.ensures c.b-b.ensures c.t-t.ensures
    c.u-u.ensures c.calm-calm.ensures.calm c.in_ok-write.ensures.bytes
    (c.in_ok-push_weights.ensures
    ∙ ap (λ (xs : List Suspect). head ++ spaced (map (λ suspect. suspect.weight) xs)) c.suspects.ensures.suspects)
    c.in_ok-writeln.ensures.bytes
