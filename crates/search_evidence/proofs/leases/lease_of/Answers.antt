use Rattle.std.proofs.Common.{◌≡◌, ◌+◌, ◌<◌, ◌==◌, length, find, arith, sym, ap, ◌∙◌}
use Rattle.farm_entry.specs.declared.lease.LeasedRun.{LeasedRun}
use Rattle.search_evidence.proofs.Numbers.{found-at, found-none, numbered-leases}
use Rattle.search_evidence.proofs.leases.lease_of.Goals as goal

pub returns-in_err-place : goal.returns-in_err-place
returns-in_err-place c =
    let all = c.requires.all in
    c.from_residual.ensures
    ∙ sym (ap (find (λ (l : LeasedRun). l.run == c.args.run)) (sym all)
    ∙ found-none (λ (l : LeasedRun). l.run) c.args.leases.now c.args.run (numbered-leases c.requires)
    (λ place below is. omega (arith, is, c.in_err-place.ensures)))

pub returns-then-place-leases : goal.returns-then-place-leases
returns-then-place-leases c =
    let all = c.requires.all in
    let next : c.in_ok-place.place + 1 ≡ c.args.run = omega (arith, c.in_ok-place.ensures) in
    let below : c.in_ok-place.place < length c.args.leases.now = omega (arith, c.if-place-leases.true) in
    sym (ap (find (λ (l : LeasedRun). l.run == c.args.run)) (sym all)
    ∙ found-at (λ (l : LeasedRun). l.run) c.args.leases.now c.in_ok-place.place c.args.run _
    (numbered-leases c.requires) below next)

pub returns-else-place-leases : goal.returns-else-place-leases
returns-else-place-leases c =
    let all = c.requires.all in
    let next : c.in_ok-place.place + 1 ≡ c.args.run = omega (arith, c.in_ok-place.ensures) in
    sym (ap (find (λ (l : LeasedRun). l.run == c.args.run)) (sym all)
    ∙ found-none (λ (l : LeasedRun). l.run) c.args.leases.now c.args.run (numbered-leases c.requires)
    (λ place below is. omega (arith, is, next, below, c.if-place-leases.false)))
