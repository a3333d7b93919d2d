-- What taking a page comes to, by its repair and what follows it.
use Rattle.std.proofs.Common.{◌≡◌, ◌≢◌, ◌∙◌, [], Err, sym}
use Rattle.journal_follow.specs.State.{IsSameDisk}
use Rattle.journal_follow.proofs.Holding.{leaves-then, on_memory-weaker, on_ok-weaker}
use Rattle.journal_follow.proofs.Takings.{came-on, came-unrepaired, cause-then, held-same}
use Rattle.journal_follow.proofs.follower.Follower.take.Goals as goal

pub returns-in-Err-clause-takes : goal.returns-in-Err-clause-takes
returns-in-Err-clause-takes g c =
    came-unrepaired c.args.from c.args.entries.now c.args.self.now.held c.repair.new.self.held c.in-Err.fault
    c.in-Err.ensures.repairs

pub returns-in-Err-clause-any_moment : goal.returns-in-Err-clause-any_moment
returns-in-Err-clause-any_moment g c = λ t.
    c.repair.ensures.any_moment t

pub returns-in-Err-clause-memory : goal.returns-in-Err-clause-memory
returns-in-Err-clause-memory g c =
    on_memory-weaker {T = Unit {0}} (Err c.in-Err.fault) (c.args.self.now.held.history ≡ [])
    (c.args.self.now.held.history ≢ [] → c.repair.new.self.held.pending ≡ []) (λ none some. absurd (some none))
    c.in-Err.ensures.memory

pub returns-in-Ok-clause-takes : goal.returns-in-Ok-clause-takes
returns-in-Ok-clause-takes g c =
    came-on c.args.self.now.held c.repair.new.self.held c.in-Ok.ensures.repairs.0 c.in-Ok.ensures.repairs.1
    c.args.from c.args.entries.now c.take_decided-taken.new.self.held c.take_decided-taken.result
    c.take_decided-taken.ensures.takes

pub returns-in-Ok-clause-any_moment : goal.returns-in-Ok-clause-any_moment
returns-in-Ok-clause-any_moment g c = λ t.
    leaves-then c.args.self.now.held c.repair.new.self.held c.take_decided-taken.new.self.held
    c.args.self.now.disk c.repair.new.self.disk c.take_decided-taken.new.self.disk
    c.in-Ok.ensures.repairs.0 c.in-Ok.ensures.repairs.1 (c.repair.ensures.any_moment t)
    (c.take_decided-taken.ensures.any_moment (c.repair.ensures.same ∙ t))

pub returns-in-Ok-clause-untouched : goal.returns-in-Ok-clause-untouched
returns-in-Ok-clause-untouched g c = λ empty same.
    let mid_is = held-same c.args.self.now.held c.repair.new.self.held c.in-Ok.ensures.repairs.0
    c.in-Ok.ensures.repairs.1 empty in
    let idle = c.repair.ensures.idle empty in
    on_ok-weaker c.take_decided-taken.result (IsSameDisk c.repair.new.self c.take_decided-taken.new.self)
    (IsSameDisk c.args.self.now c.take_decided-taken.new.self)
    (λ more. record { disk = more.disk ∙ idle.disk; count = more.count ∙ idle.count })
    (c.take_decided-taken.ensures.untouched (same ∙ sym mid_is))

pub returns-in-Ok-clause-memory : goal.returns-in-Ok-clause-memory
returns-in-Ok-clause-memory g c =
    on_memory-weaker c.take_decided-taken.result (c.take_decided-taken.new.self.held.pending ≡ [])
    (c.args.self.now.held.history ≢ [] → c.take_decided-taken.new.self.held.pending ≡ []) (λ none some. none)
    c.take_decided-taken.ensures.memory

pub returns-in-Ok-clause-cause : goal.returns-in-Ok-clause-cause
returns-in-Ok-clause-cause g c =
    cause-then c.take_decided-taken.result c.faults-before.result c.args.self.now.count c.repair.new.self.count
    c.take_decided-taken.new.self.count c.faults-before.ensures c.repair.ensures.never_falls
    c.take_decided-taken.ensures.cause
