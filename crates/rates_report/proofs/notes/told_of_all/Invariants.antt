use Rattle.std.proofs.Common.{◌≡◌, take}
use Rattle.rates_report.specs.Noted.{told_in_all}
use Rattle.rates_report.proofs.notes.told_of_all.Given as goal

abbrev pub invariant-loop-search : goal.invariant-loop-search
invariant-loop-search l = record {
  fails : l.fails ≡ (told_in_all l.test (take l.search-index l.searches)).0;
  runs : l.runs ≡ (told_in_all l.test (take l.search-index l.searches)).1;
}
