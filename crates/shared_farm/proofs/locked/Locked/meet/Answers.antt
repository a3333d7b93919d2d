use Rattle.std.proofs.Common.{sym, ◌∙◌}
use Rattle.shared_farm.proofs.Picked.{picked-same}
use Rattle.shared_farm.proofs.locked.Locked.meet.Goals as goal

pub meet-requires-clause-other : goal.meet-requires-clause-other
meet-requires-clause-other g c =
    picked-same g.B.Beginning.board _ _ c.requires.picked c.mark.invariant.1 c.self.invariant.6 ∙ sym c.deref.ensures
