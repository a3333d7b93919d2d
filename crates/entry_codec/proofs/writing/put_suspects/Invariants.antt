use Rattle.std.proofs.Common.{◌≡◌, ◌++◌, take}
use Rattle.std.specs.List.{flat_map}
use Rattle.entry_codec.specs.Spelling.{suspect_bytes}
use Rattle.entry_codec.proofs.writing.put_suspects.Given as goal

abbrev pub invariant-loop-suspect : goal.invariant-loop-suspect
invariant-loop-suspect l = l.out.items ≡ l.fn.out.items ++ flat_map suspect_bytes (take l.suspect-index l.suspects)
