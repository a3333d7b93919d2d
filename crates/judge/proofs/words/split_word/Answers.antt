use Rattle.std.proofs.Common.{rules}
use Rattle.judge.proofs.Pieces.{words_at, words_whole}
use Rattle.judge.proofs.words.split_word.Goals as goal

pub returns-in-Some : goal.returns-in-Some
returns-in-Some c = words_at c.args.text.now c.in-Some.end (search rules) (search rules) (search rules)

pub returns-in-None : goal.returns-in-None
returns-in-None c = words_whole c.args.text.now (search rules)
