use Rattle.std.proofs.Common.{◌≡◌, ◌++◌, drop}
use Rattle.rates_report.proofs.replay.book_of.Given as goal

abbrev pub invariant-loop-entry : goal.invariant-loop-entry
invariant-loop-entry l = record {
  book : l.book ≡ l.farm.history;
  all : l.farm.history ++ drop l.entry-index l.others ≡ l.history;
}
