use Rattle.std.proofs.Common.{◌∙◌, map, string_bytes, sym}
use Rattle.std.proofs.lemmas.List.Folds.{list_all-map}
use Rattle.finder_words.specs.Forms.{is_plain}
use Rattle.finder_words.proofs.Cases.{unplain-fitting}
use Rattle.finder_words.proofs.matching.match_words.Goals as goal

pub match_plain-requires : goal.match_plain-requires
match_plain-requires c = list_all-map is_plain string_bytes c.args.words.now ∙ sym c.are_plain.ensures ∙ c.if-are_plain.true

pub returns-else-are_plain : goal.returns-else-are_plain
returns-else-are_plain c =
    unplain-fitting (map string_bytes c.args.words.now)
    (list_all-map is_plain string_bytes c.args.words.now ∙ sym c.are_plain.ensures ∙ c.if-are_plain.false)
