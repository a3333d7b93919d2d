-- What all payloads came to, by the lemmas of `GoingOn`.
use Rattle.std.proofs.Common.{◌∙◌, inr, ℕ, List, [], take, drop, All, sym, ap, subst, refl}
use Rattle.std.proofs.lemmas.List.Elements.{All-head}
use Rattle.farm_journal.specs.Layout.{IsPayload, gate_of}
use Rattle.farm_store.specs.Admitted.{IsMisfit}
use Rattle.farm_store.specs.Damage.{IsUnfitAt}
use Rattle.farm_store.specs.StoreInside.{Keeps}
use Rattle.farm_core.specs.declared.farm.AdmitFault.{AdmitFault}
use Rattle.farm_core.specs.declared.farm.AdmitFault.TheVariants.{Illegal}
use Rattle.farm_store.proofs.GoingOn.{at-first, first-gate, keeps-begun, unfit-first}
use Rattle.farm_store.proofs.admitting.farm_of.Goals as goal

pub grow-requires-clause-begun : goal.grow-requires-clause-begun
grow-requires-clause-begun c =
    let p = c.at-first.result.now in
    let ps = c.args.payloads.now in
    let split = at-first ps p c.at-first.ensures in
    let fit : IsPayload p = All-head IsPayload p (drop 1 ps)
    (subst (λ (l : List (List ℕ)). All IsPayload l) split c.requires) in
    subst (λ (l : List (List ℕ)). Keeps (take 1 l) c.in-Ok.farm.history) (sym split)
    (keeps-begun p c.in-Ok.farm.history fit c.in-Ok.ensures.farm)

pub grow-requires-clause-behind : goal.grow-requires-clause-behind
grow-requires-clause-behind c =
    let p = c.at-first.result.now in
    let split = at-first c.args.payloads.now p c.at-first.ensures in
    first-gate p ∙ ap (λ (l : List (List ℕ)). gate_of (take 1 l)) (sym split)

pub returns-in-Err-Illegal-clause-missed : goal.returns-in-Err-Illegal-clause-missed
returns-in-Err-Illegal-clause-missed c =
    let p = c.at-first.result.now in
    let ps = c.args.payloads.now in
    let misfit = subst (λ (m : AdmitFault). IsMisfit p [] m) c.in-Err-Illegal.field-0-is
    c.in-Err-Illegal.ensures.misfit in
    inr (subst (λ (l : List (List ℕ)). IsUnfitAt l 16) (sym (at-first ps p c.at-first.ensures))
    (unfit-first p (drop 1 ps) 16 refl misfit))
