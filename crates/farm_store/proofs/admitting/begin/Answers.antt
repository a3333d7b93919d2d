-- What history a payload begins, or why it begins none.
use Rattle.std.proofs.Common.{◌≡◌, ◌<◌, ◌∙◌, ◌∷◌, [], ap, length, sym, subst}
use Rattle.std.specs.Prelude.{IfErr, Result}
use Rattle.std.proofs.lemmas.Result.{err_from_is_err_and}
use Rattle.farm_core.specs.FarmView.{FarmView}
use Rattle.farm_store.specs.Admitted.{IsMisfit}
use Rattle.farm_core.specs.declared.farm.AdmitFault.{AdmitFault}
use Rattle.farm_store.proofs.GoingOn.{begun-whole, empty-by, misfit-empty, misfit-first, misfit-rest, removed-first, some-by}
use Rattle.farm_store.proofs.admitting.begin.Goals as goal

pub returns-then-is_empty-clause-misfit : goal.returns-then-is_empty-clause-misfit
returns-then-is_empty-clause-misfit c =
    let none : c.in_ok-entries.entries.items ≡ [] = empty-by c.in_ok-entries.entries.items
    c.in_ok-entries.entries.len c.is_empty.result c.in_ok-entries.entries.ok.0 c.is_empty.ensures c.if-is_empty.true in
    misfit-empty c.args.payload.now c.in_ok-entries.entries.items c.in_ok-entries.ensures.spelled
    c.in_ok-entries.ensures.is none

pub returns-in_err-farm-clause-misfit : goal.returns-in_err-farm-clause-misfit
returns-in_err-farm-clause-misfit c =
    let entries = c.in_ok-entries.entries.items in
    let some : 0 < length entries = some-by entries c.in_ok-entries.entries.len c.is_empty.result
    c.in_ok-entries.entries.ok.0 c.is_empty.ensures c.if-is_empty.false in
    let p = err_from_is_err_and c.from_residual-in_err-farm.result c.from_residual-in_err-farm.ensures.1 in
    let m = c.in_err-farm.field-0.0 in
    let which = p.2 in
    let same : m ≡ p.0 = cc in
    subst (λ (r : Result FarmView AdmitFault). IfErr r (IsMisfit c.args.payload.now [])) (sym p.1)
    (subst (λ (y : AdmitFault). IsMisfit c.args.payload.now [] y) same
    (misfit-first c.args.payload.now entries c.remove-first.new.self.items c.remove-first.result m
    c.in_ok-entries.ensures.spelled c.in_ok-entries.ensures.is
    (removed-first entries c.remove-first.result some c.remove-first.ensures.value
    ∙ ap (λ l. c.remove-first.result ∷ l) (sym c.remove-first.ensures.items))
    c.in_err-farm.ensures.illegal))

pub returns-in_err-admit_all-clause-misfit : goal.returns-in_err-admit_all-clause-misfit
returns-in_err-admit_all-clause-misfit c =
    let entries = c.in_ok-entries.entries.items in
    let some : 0 < length entries = some-by entries c.in_ok-entries.entries.len c.is_empty.result
    c.in_ok-entries.entries.ok.0 c.is_empty.ensures c.if-is_empty.false in
    let p = err_from_is_err_and c.from_residual-in_err-admit_all.result c.from_residual-in_err-admit_all.ensures.1 in
    let m = c.in_err-admit_all.field-0.0 in
    let which = p.2 in
    let same : m ≡ p.0 = cc in
    subst (λ (r : Result FarmView AdmitFault). IfErr r (IsMisfit c.args.payload.now [])) (sym p.1)
    (subst (λ (y : AdmitFault). IsMisfit c.args.payload.now [] y) same
    (misfit-rest c.args.payload.now entries c.remove-first.new.self.items c.in_ok-farm.farm.history
    c.admit_all.new.self.history c.remove-first.result m
    c.in_ok-entries.ensures.spelled c.in_ok-entries.ensures.is
    (removed-first entries c.remove-first.result some c.remove-first.ensures.value
    ∙ ap (λ l. c.remove-first.result ∷ l) (sym c.remove-first.ensures.items))
    (ap (λ (f : FarmView). f.history) c.in_ok-farm.ensures.founded) c.in_err-admit_all.ensures.halted))

pub returns-clause-farm : goal.returns-clause-farm
returns-clause-farm c =
    let entries = c.in_ok-entries.entries.items in
    let some : 0 < length entries = some-by entries c.in_ok-entries.entries.len c.is_empty.result
    c.in_ok-entries.entries.ok.0 c.is_empty.ensures c.if-is_empty.false in
    begun-whole c.args.payload.now entries c.remove-first.new.self.items c.in_ok-farm.farm.history
    c.admit_all.new.self.history c.remove-first.result
    c.in_ok-entries.ensures.spelled c.in_ok-entries.ensures.is
    (removed-first entries c.remove-first.result some c.remove-first.ensures.value
    ∙ ap (λ l. c.remove-first.result ∷ l) (sym c.remove-first.ensures.items))
    (ap (λ (f : FarmView). f.history) c.in_ok-farm.ensures.founded)
    c.in_ok-admit_all.ensures.admitted c.in_ok-admit_all.ensures.legal
