use Rattle.std.proofs.Common.{◌≡◌, take}
use Rattle.entry_codec.specs.Grammar.{AreSpelled}
use Rattle.entry_codec.specs.Spelling.{spelling}
use Rattle.entry_codec.proofs.writing.write_entries_into.Given as goal

abbrev pub invariant-loop-entry : goal.invariant-loop-entry
invariant-loop-entry l = record {
  spelled : l.out.items ≡ spelling (take l.entry-index l.entries);
  readable : AreSpelled (take l.entry-index l.entries);
}
