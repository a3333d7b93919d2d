use Rattle.std.proofs.Common.{◌≡◌, ◌≢◌, ◌∙◌, [], MatchOption, ap, map, string_bytes, subst}
use Rattle.clap.specs.Words.{fault_of, subcommand_of, subcommand_rows_of}
use Rattle.finder_words.specs.CommandLine.{command_line, read_rows}
use Rattle.finder_words.proofs.Cases.{decided, refused-fitting, taken-fitting}
use Rattle.finder_words.proofs.matching.match_plain.Goals as goal

pub returns-in-Some : goal.returns-in-Some
returns-in-Some c =
    let words = map string_bytes c.args.words.now in
    let parsed = subst (λ p. MatchOption p (fault_of command_line words ≢ [])
    (λ matches. (fault_of command_line words ≡ []) × (subcommand_rows_of matches ≡ subcommand_of command_line words)))
    c.in-Some.is c.in_ok-matches.ensures in
    c.read_matches.ensures ∙ ap read_rows parsed.1 ∙ taken-fitting words (decided words c.requires) parsed.0

pub returns-in-None : goal.returns-in-None
returns-in-None c =
    let words = map string_bytes c.args.words.now in
    let parsed = subst (λ p. MatchOption p (fault_of command_line words ≢ [])
    (λ matches. (fault_of command_line words ≡ []) × (subcommand_rows_of matches ≡ subcommand_of command_line words)))
    c.in-None.is c.in_ok-matches.ensures in
    refused-fitting words (decided words c.requires) parsed
