use Rattle.std.proofs.Common.{◌∙◌, ap, map, string_bytes, sym}
use Rattle.std.proofs.lemmas.Result.{IfOk-weaker}
use Rattle.std.specs.Option.{option_map}
use Rattle.finder_words.specs.Words.{nowhere, places_asked}
use Rattle.finder_words.proofs.Fitting.{words-matched, words-unmatched}
use Rattle.finder_words.specs.Forms.{words_of}
use Rattle.finder_words.proofs.places.find_places.Goals as goal

pub returns-in-Some : goal.returns-in-Some
returns-in-Some c =
    let named = words-matched places_asked nowhere (words_of c.in-Some.matched) (map string_bytes c.args.words.now)
    (ap (option_map words_of) (sym c.in-Some.is) ∙ c.in_ok-matched.ensures) in
    IfOk-weaker c.matched_places.result _ _ (λ places is. is ∙ named) c.matched_places.ensures

pub returns-in-None : goal.returns-in-None
returns-in-None c =
    c.nowhere.ensures
    ∙ words-unmatched places_asked nowhere (map string_bytes c.args.words.now)
    (ap (option_map words_of) (sym c.in-None.is) ∙ c.in_ok-matched.ensures)
