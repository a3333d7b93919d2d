use Rattle.std.proofs.Common.{◌∙◌, None, ap, map, string_bytes, sym}
use Rattle.std.proofs.lemmas.Result.{IfOk-weaker}
use Rattle.std.specs.Option.{option_map}
use Rattle.finder_words.specs.Words.{asked_of}
use Rattle.finder_words.proofs.Fitting.{words-matched, words-unmatched}
use Rattle.finder_words.specs.Forms.{words_of}
use Rattle.finder_words.proofs.subcommand.read_subcommand.Goals as goal

pub returns-in-Some-clause-asked : goal.returns-in-Some-clause-asked
returns-in-Some-clause-asked c =
    let asked = words-matched asked_of None (words_of c.in-Some.matched) (map string_bytes c.args.words.now)
    (ap (option_map words_of) (sym c.in-Some.is) ∙ c.in_ok-matched.ensures) in
    IfOk-weaker c.read_matched.result _ _ (λ subcommand is. is ∙ asked) c.read_matched.ensures.asked

pub returns-in-None-clause-asked : goal.returns-in-None-clause-asked
returns-in-None-clause-asked c =
    words-unmatched asked_of None (map string_bytes c.args.words.now)
    (ap (option_map words_of) (sym c.in-None.is) ∙ c.in_ok-matched.ensures)
