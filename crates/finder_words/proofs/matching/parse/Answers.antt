use Rattle.std.proofs.Common.{◌∙◌, map, string_bytes}
use Rattle.finder_words.proofs.Parsing.{parsed-found, refused-faulty}
use Rattle.finder_words.proofs.matching.parse.Goals as goal

pub returns-in-Ok : goal.returns-in-Ok
returns-in-Ok c =
    parsed-found _ (map string_bytes c.args.words.now) c.in-Ok.matches c.in_ok-command_line.ensures
    c.in-Ok.ensures.kinds c.in-Ok.ensures.matches

pub returns : goal.returns
returns c =
    refused-faulty _ (map string_bytes c.args.words.now) c.in-Err.error c.in_ok-command_line.ensures
    c.in-Err.ensures.kinds (λ memory. c.in_default.not-OutOfMemory (c.kind.ensures ∙ memory))
