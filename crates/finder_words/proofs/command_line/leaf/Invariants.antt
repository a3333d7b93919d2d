use Rattle.std.proofs.Common.{◌≡◌, drop}
use Rattle.clap.specs.Words.{app_of}
use Rattle.finder_words.specs.CommandLine.{leaf, texts_of, with_words}
use Rattle.finder_words.proofs.command_line.leaf.Given as goal

abbrev pub invariant-loop-id : goal.invariant-loop-id
invariant-loop-id l = with_words (app_of l.command) (texts_of (drop l.id-index l.ids)) ≡ leaf l.fn.name (texts_of l.ids)
