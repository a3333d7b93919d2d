-- What a store leaves, from what the upgrade and the append leave.
use Rattle.std.proofs.Common.{ℕ, ◌∙◌, inr, sym, subst, arith}
use Rattle.farm_journal.specs.Gates.{Rests, Stands}
use Rattle.farm_disk.proofs.Moments.{leaves_only-trans}
use Rattle.farm_journal.proofs.Public.{rests-any, leaves-any, leaves-same, leaves-both, leaves-undone, waits-upgrade, stands-other}
use Rattle.farm_journal.proofs.storing.store.Goals as goal

pub returns-then-version-eq2-clause-any_moment : goal.returns-then-version-eq2-clause-any_moment
returns-then-version-eq2-clause-any_moment g c tells ps rests =
    let new = subst (λ (k : ℕ). Rests k ps c.args.gate (g.D.Disk.told c.args.disk.now)) c.if-version-eq2.true rests in
    leaves-any ps c.args.gate c.args.payload.now 2 _ _ (c.append_record.ensures.any_moment tells ps new)

pub returns-then-version-eq2-clause-memory : goal.returns-then-version-eq2-clause-memory
returns-then-version-eq2-clause-memory g c wanting tells ps rests =
    let new = subst (λ (k : ℕ). Rests k ps c.args.gate (g.D.Disk.told c.args.disk.now)) c.if-version-eq2.true rests in
    subst (λ (k : ℕ). Rests k ps c.args.gate (g.D.Disk.told c.append_record.new.disk)) (sym c.if-version-eq2.true)
    (c.append_record.ensures.memory wanting tells ps new)

pub returns-in_err-upgrade-clause-any_moment : goal.returns-in_err-upgrade-clause-any_moment
returns-in_err-upgrade-clause-any_moment g c tells ps rests =
    leaves-same ps c.args.gate c.args.payload.now _ _
    (c.upgrade.ensures.any_moment tells ps (rests-any c.args.version.now ps c.args.gate _ rests))

pub returns-in_err-upgrade-clause-failed : goal.returns-in_err-upgrade-clause-failed
returns-in_err-upgrade-clause-failed g c failed tells ps rests =
    let old = rests-any c.args.version.now ps c.args.gate _ rests in
    waits-upgrade ps c.args.gate c.args.payload.now c.args.version.now _ _ (c.upgrade.ensures.any_moment tells ps old)
    (c.upgrade.ensures.reads tells ps old)
    (λ image stands. stands-other c.args.version.now ps c.args.gate image c.if-version-eq2.false stands)

pub append_record-requires-2-clause-gate : goal.append_record-requires-2-clause-gate
append_record-requires-2-clause-gate g c tells =
    omega (arith, c.in_ok-upgrade.ensures.cuts (sym c.upgrade.ensures.same ∙ tells))

pub returns-clause-cuts : goal.returns-clause-cuts
returns-clause-cuts g c = inr (λ tells. omega
    (arith, c.in_ok-upgrade.ensures.cuts tells, c.append_record-2.ensures.no_longer (c.upgrade.ensures.same ∙ tells)))

pub returns-clause-any_moment : goal.returns-clause-any_moment
returns-clause-any_moment g c tells ps rests =
    let old = rests-any c.args.version.now ps c.args.gate _ rests in
    leaves-both ps c.args.gate c.args.payload.now _ _ _ (c.upgrade.ensures.any_moment tells ps old)
    (c.append_record-2.ensures.any_moment (c.upgrade.ensures.same ∙ tells) ps
    (c.in_ok-upgrade.ensures.done tells ps old))

pub returns-clause-memory : goal.returns-clause-memory
returns-clause-memory g c wanting tells ps rests =
    let old = rests-any c.args.version.now ps c.args.gate _ rests in
    c.append_record-2.ensures.memory wanting (c.upgrade.ensures.same ∙ tells) ps
    (c.in_ok-upgrade.ensures.done tells ps old)

pub returns-then-version-eq2-clause-leaves_before : goal.returns-then-version-eq2-clause-leaves_before
returns-then-version-eq2-clause-leaves_before g c wanting tells ps rests =
    leaves-undone c.args.version.now ps c.args.gate _ _ rests (c.append_record.ensures.undone wanting tells)

pub returns-in_err-upgrade-clause-leaves_before : goal.returns-in_err-upgrade-clause-leaves_before
returns-in_err-upgrade-clause-leaves_before g c wanting tells ps rests =
    c.upgrade.ensures.any_moment tells ps (rests-any c.args.version.now ps c.args.gate _ rests)

pub returns-clause-leaves_before : goal.returns-clause-leaves_before
returns-clause-leaves_before g c wanting tells ps rests =
    let old = rests-any c.args.version.now ps c.args.gate _ rests in
    leaves_only-trans _ _ _ (Stands 1 ps c.args.gate) (c.upgrade.ensures.any_moment tells ps old)
    (leaves-undone 2 ps c.args.gate _ _ (c.in_ok-upgrade.ensures.done tells ps old)
    (c.append_record-2.ensures.undone wanting (c.upgrade.ensures.same ∙ tells)))

pub returns-then-version-eq2-clause-stays : goal.returns-then-version-eq2-clause-stays
returns-then-version-eq2-clause-stays g c two tells ps rests = c.append_record.ensures.any_moment tells ps rests

pub returns-in_err-upgrade-clause-stays : goal.returns-in_err-upgrade-clause-stays
returns-in_err-upgrade-clause-stays g c two = absurd (c.if-version-eq2.false two)

pub returns-clause-stays : goal.returns-clause-stays
returns-clause-stays g c two = absurd (c.if-version-eq2.false two)
