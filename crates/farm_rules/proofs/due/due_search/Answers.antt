use Rattle.std.proofs.Common.{◌≡◌, ◌≤◌, length, nat_lt, true, refl, sym, lt-ltb}
use Rattle.farm_rules.proofs.Striking.{struck-nil}
use Rattle.farm_rules.proofs.PlanEntries.{first_entry-at, length-none_left, struck-none_left}
use Rattle.farm_rules.proofs.due.due_search.Goals as goal

pub loop-index-init : goal.loop-index-init
loop-index-init c = struck-nil c.args.outstanding.now

pub returns-then-is_left-clause-due : goal.returns-then-is_left-clause-due
returns-then-is_left-clause-due c =
    let plan = c.args.plan.now in
    let outstanding = c.args.outstanding.now in
    let room : nat_lt (length outstanding) (length plan) ≡ true = lt-ltb (length outstanding) (length plan) c.if-plan-outstanding.false in
    rw room
    (sym (first_entry-at plan outstanding c.loop-index.index c.loop-index-test.true (c.is_left.ensures.left c.if-is_left.true)))

pub returns-clause-full : goal.returns-clause-full
returns-clause-full c =
    let plan = c.args.plan.now in
    let outstanding = c.args.outstanding.now in
    let many : length plan ≤ length outstanding =
    length-none_left plan outstanding
    (struck-none_left plan outstanding c.loop-index.index c.loop-index-test.false c.loop-index.invariant) in
    (λ _. many, λ _. refl)
