use Rattle.entry_codec.proofs.EntryLaws.{entry_is_read}
use Rattle.entry_codec.proofs.laws.reading_undoes_spelling.Goals as goal

pub returns-clause-again : goal.returns-clause-again
returns-clause-again c = entry_is_read.again

pub returns-clause-spelled : goal.returns-clause-spelled
returns-clause-spelled c = λ bytes rest entry fits read. let took = entry_is_read.takes bytes entry rest fits read in
    (took.fits, took.parts)
