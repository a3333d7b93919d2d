use Rattle.std.proofs.Common.{◌≡◌, ◌≤◌, ◌*◌, take}
use Rattle.entry_codec.specs.declared.limits.TheConstants.{MAX_ENTRY_BYTES}
use Rattle.farm_store.specs.Sizes.{asks_size}
use Rattle.farm_store.proofs.asking.most_bytes.Given as goal

abbrev pub invariant-loop-ask : goal.invariant-loop-ask
invariant-loop-ask l = record {
  bytes : l.bytes ≡ asks_size (take l.ask-index l.asks);
  most : l.bytes ≤ l.ask-index * MAX_ENTRY_BYTES;
}
