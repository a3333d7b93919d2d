use Rattle.std.proofs.Common.{◌∙◌}
use Rattle.finder_words.proofs.Parsing.{rows-found}
use Rattle.finder_words.proofs.matching.read_matches.Goals as goal

pub returns : goal.returns
returns c = c.read_command.ensures ∙ rows-found _ _ _ _ _ c.in_ok-name.ensures.name c.in_ok-name.ensures.rows
