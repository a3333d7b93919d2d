use Rattle.std.proofs.Common.{sym, ◌∙◌}
use Rattle.shared_farm.proofs.Picked.{picked-same}
use Rattle.shared_farm.proofs.reader.TotalsMark.take_in.Goals as goal

pub join-requires-clause-own : goal.join-requires-clause-own
join-requires-clause-own g c =
    picked-same g.B.Beginning.board _ _ c.requires.picked c.self.invariant.1 c.reader.invariant.1
    ∙ sym c.deref-2.ensures
