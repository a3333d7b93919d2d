-- What making a farm of entries comes to, by the lemmas of `Admissions`.
use Rattle.std.proofs.Common.{◌≡◌, ◌∙◌, ◌+◌, ◌++◌, ◌≤◌, List, [], ap, subst, sym, arith}
use Rattle.farm_core.specs.FarmFaults.{IsUnfit}
use Rattle.farm_core.specs.FarmView.{FarmView}
use Rattle.farm_core.specs.declared.farm.AdmitFault.{AdmitFault}
use Rattle.farm_entry.specs.declared.entry.Entry.{Entry}
use Rattle.farm_store.specs.Admitted.{IsStuckAt}
use Rattle.farm_store.proofs.Admissions.{added-of, stuck-bounded, stuck-first, stuck-founded, stuck-of}
use Rattle.farm_store.proofs.admitting.farm_by.Goals as goal

pub returns-in-Err-Illegal : goal.returns-in-Err-Illegal
returns-in-Err-Illegal c =
    subst (λ (l : List Entry). IsStuckAt [] l 0) (sym c.in-Some.ensures.cases.0)
    (stuck-first c.in-Some.first.now c.in-Some.others.now
    (subst (λ (f : AdmitFault). IsUnfit [] c.in-Some.first.now f) c.in-Err-Illegal.field-0-is
    c.in-Err-Illegal.ensures.illegal))

pub overflow_add-result : goal.overflow_add-result
overflow_add-result c =
    let stuck = (stuck-of c.in-Some.others.now c.in-Ok.farm.history c.add_all.new.farm.history c.in-Ok-Err.field-0
    c.in-Ok-Err.index c.in-Ok-Err.field-0-is c.in-Ok-Err.ensures.adds).1 in
    let few = stuck-bounded c.in-Some.first.now c.in-Some.others.now c.in-Ok-Err.index
    (subst (λ (l : List Entry). IsStuckAt l c.in-Some.others.now c.in-Ok-Err.index)
    (ap (λ (f : FarmView). f.history) c.in-Ok.ensures.founded) stuck) in
    omega (arith, few)

pub returns-in-Ok-Ok : goal.returns-in-Ok-Ok
returns-in-Ok-Ok c =
    added-of c.in-Some.others.now c.in-Ok.farm.history c.add_all.new.farm.history c.in-Ok-Ok.field-0
    c.in-Ok-Ok.field-0-0 c.in-Ok-Ok.field-0-is c.in-Ok-Ok.ensures.adds
    ∙ ap (λ (f : FarmView). f.history ++ c.in-Some.others.now) c.in-Ok.ensures.founded
    ∙ sym c.in-Some.ensures.cases.0

pub returns-in-Ok-Err : goal.returns-in-Ok-Err
returns-in-Ok-Err c =
    let stuck = (stuck-of c.in-Some.others.now c.in-Ok.farm.history c.add_all.new.farm.history c.in-Ok-Err.field-0
    c.in-Ok-Err.index c.in-Ok-Err.field-0-is c.in-Ok-Err.ensures.adds).1 in
    subst (λ (l : List Entry). IsStuckAt [] l (c.in-Ok-Err.index + 1)) (sym c.in-Some.ensures.cases.0)
    (stuck-founded c.in-Some.first.now c.in-Some.others.now c.in-Ok-Err.index
    (subst (λ (l : List Entry). IsStuckAt l c.in-Some.others.now c.in-Ok-Err.index)
    (ap (λ (f : FarmView). f.history) c.in-Ok.ensures.founded) stuck))
