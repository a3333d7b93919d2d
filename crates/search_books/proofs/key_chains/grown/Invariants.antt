use Rattle.std.proofs.Common.{take}
use Rattle.search_books.specs.KeyTable.{IsGrown}
use Rattle.std.specs.Vec.{vec_capacity}
use Rattle.search_books.proofs.key_chains.grown.Given as goal

abbrev pub invariant-loop-item : goal.invariant-loop-item
invariant-loop-item l = IsGrown (take l.item-index l.items) l.size l.heads.items l.moved.items (vec_capacity l.moved)
