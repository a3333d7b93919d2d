use Rattle.std.proofs.Common.{◌≡◌, length, ap, arith}
use Rattle.journal_follow.proofs.Takings.{may-bounded}
use Rattle.journal_follow.proofs.following.ended.Goals as goal

pub overflow_cast-entries : goal.overflow_cast-entries
overflow_cast-entries g c =
    let few = may-bounded c.args.follower.now.held.history c.history.ensures.legal in
    let size : length c.history.result.now ≡ length c.args.follower.now.held.history = ap length c.history.ensures.value in
    omega (arith, few, size)
