use Rattle.judge.proofs.RoundTrips.{lines-text_of, lines-last, words-join, number-decimal, decimal-number}
use Rattle.judge.proofs.laws.what_is_written_is_read.Goals as goal

pub returns-clause-lines : goal.returns-clause-lines
returns-clause-lines c = lines-text_of

pub returns-clause-last_line : goal.returns-clause-last_line
returns-clause-last_line c = lines-last

pub returns-clause-words : goal.returns-clause-words
returns-clause-words c = words-join

pub returns-clause-number : goal.returns-clause-number
returns-clause-number c = number-decimal

pub returns-clause-one_text : goal.returns-clause-one_text
returns-clause-one_text c = decimal-number
