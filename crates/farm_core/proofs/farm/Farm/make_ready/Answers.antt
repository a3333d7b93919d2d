use Rattle.std.proofs.Common.{◌++◌, ◌∷◌, [], List, refl, sym, subst}
use Rattle.farm_entry.specs.Legal.{IsLegal}
use Rattle.farm_entry.specs.declared.entry.Entry.{Entry}
use Rattle.farm_core.proofs.Fronts.{all-history, lengthened_farm, stays_farm}
use Rattle.farm_core.proofs.farm.Farm.make_ready.Goals as goal

pub push-requires : goal.push-requires
push-requires c =
    let all = all-history c.self.inside c.args.self.now c.self.view_is c.requires.none_ready in
    subst (λ (l : List Entry). IsLegal (l ++ c.args.entry ∷ [])) (sym all) c.requires.next

pub invariant_of-self : goal.invariant_of-self
invariant_of-self c = stays_farm c.self.inside _ c.self.invariant refl c.in_err-push.ensures.kept

pub invariant_of-self-2 : goal.invariant_of-self-2
invariant_of-self-2 c =
    let f = c.self.inside in
    let all = all-history f c.args.self.now c.self.view_is c.requires.none_ready in
    let legal = subst (λ (l : List Entry). IsLegal (l ++ c.args.entry ∷ [])) (sym all) c.requires.next in
    lengthened_farm f _ c.args.entry c.self.invariant legal refl c.in_ok-push.ensures.pushed
