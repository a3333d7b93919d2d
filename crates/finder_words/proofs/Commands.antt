-- What holds of the commands that are made here.
use Rattle.std.proofs.Common.{◌≡◌, true, false, List, [], ◌∷◌, Bool, not, ◌&&◌}
use Rattle.std.proofs.lemmas.Bool.{and_parts, not-true}
use Rattle.clap.specs.Words.{App, Text, with_rule}
use Rattle.finder_words.specs.CommandLine.{needed, with_words}

-- words that follow change nothing else
pub words-is_plain : (app : App) (ids : List Text) → app.top.is_plain ≡ true → (with_words app ids).top.is_plain ≡ true
words-is_plain app [] plain = plain
words-is_plain app (id ∷ ids) plain = words-is_plain (with_rule app (needed id)) ids plain

-- what the third of a list of tests denies
pub third-denied : (a b c d : Bool) → (a && (b && (not c && d))) ≡ true → c ≡ false
third-denied a b c d all = not-true c (and_parts (not c) d (and_parts b (not c && d) (and_parts a (b && (not c && d)) all).1).1).0
