use Rattle.leaf_laws.proofs.OnceEach.{keys-once}
use Rattle.leaf_laws.proofs.entries.each_key_stands_once.Goals as goal

pub returns : goal.returns
returns c = keys-once
