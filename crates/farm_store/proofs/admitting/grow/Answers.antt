-- What each further payload came to, by the lemmas of `GoingOn`.
use Rattle.std.proofs.Common.{◌+◌, inr, [], length, take, refl, sym, subst, arith}
use Rattle.std.proofs.lemmas.List.Elements.{All-get_or}
use Rattle.farm_journal.specs.Layout.{IsPayload}
use Rattle.farm_store.specs.Admitted.{IsMisfit}
use Rattle.farm_core.specs.declared.farm.AdmitFault.{AdmitFault}
use Rattle.farm_core.specs.declared.farm.AdmitFault.TheVariants.{Illegal}
use Rattle.farm_store.proofs.GoingOn.{at-get_or, gate-small, grown-all, grown-more, grown-unfit}
use Rattle.farm_store.proofs.admitting.grow.Goals as goal

pub loop-i-init : goal.loop-i-init
loop-i-init c = record { keeps = c.requires.begun; at = c.requires.behind }

pub overflow_add-gate-in-Ok : goal.overflow_add-gate-in-Ok
overflow_add-gate-in-Ok c =
    let payloads = c.args.payloads.now in
    let i = c.loop-i.i in
    let p = c.at-payload.result.now in
    let grown = c.loop-i.invariant in
    let small = gate-small (take i payloads) c.loop-i.farm.history c.loop-i.gate grown.keeps grown.at in
    let fit : IsPayload p =
    subst IsPayload (sym (at-get_or payloads i p c.at-payload.ensures))
    (All-get_or IsPayload payloads i p (omega arith) c.requires.fit) in
    let most = fit.most in
    omega (arith, small, most)

pub returns-in-Err-Illegal-clause-missed : goal.returns-in-Err-Illegal-clause-missed
returns-in-Err-Illegal-clause-missed c =
    let H = c.loop-i.farm.history in
    let p = c.at-payload.result.now in
    let misfit = subst (λ (m : AdmitFault). IsMisfit p H m) c.in-Err-Illegal.field-0-is
    c.in-Err-Illegal.ensures.misfit in
    inr (grown-unfit [] c.args.payloads.now c.loop-i.i H c.loop-i.gate p c.loop-i.invariant (omega arith)
    (at-get_or c.args.payloads.now c.loop-i.i p c.at-payload.ensures) c.loop-i.gate refl misfit)

pub loop-i-preserved : goal.loop-i-preserved
loop-i-preserved c =
    let p = c.at-payload.result.now in
    grown-more [] c.args.payloads.now c.loop-i.i c.loop-i.farm.history c.loop-i.gate p c.loop-i.invariant (omega arith)
    (at-get_or c.args.payloads.now c.loop-i.i p c.at-payload.ensures) c.go_on.new.farm.history
    (c.loop-i.gate + (5 + length p)) c.requires.fit c.in-Ok.ensures.farm refl

pub returns-clause-farm : goal.returns-clause-farm
returns-clause-farm c =
    grown-all [] c.args.payloads.now c.loop-i.i c.loop-i.farm.history c.loop-i.gate c.loop-i.invariant (omega arith)
