use Rattle.std.proofs.Common.{◌≡◌, ◌<◌, drop}
use Rattle.test_runners.specs.Index.{hash_after}
use Rattle.test_runners.specs.declared.index.TheConstants.{HASH_SIZE}
use Rattle.test_runners.proofs.index.hash.Given as goal

abbrev pub invariant-loop-byte : goal.invariant-loop-byte
invariant-loop-byte l = record {
  hash : hash_after l.hash (drop l.byte-index l.bytes) ≡ hash_after l.before l.bytes;
  in_range : l.hash < HASH_SIZE;
}
