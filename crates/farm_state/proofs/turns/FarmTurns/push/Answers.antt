use Rattle.std.proofs.Common.{◌≡◌, List, [], ◌∷◌, ◌++◌, sym, ap, subst, ◌∙◌}
use Rattle.farm_entry.specs.Legal.{IsLegal}
use Rattle.farm_entry.specs.declared.entry.Entry.{Entry}
use Rattle.farm_state.specs.Moves.{turns_in}
use Rattle.farm_state.specs.declared.moves.Change.{Change}
use Rattle.farm_state.specs.declared.turns.FarmTurns.TheInside.{Inside}
use Rattle.farm_state.proofs.Closing.{few-stand, may-push, pushed-turns}
use Rattle.farm_state.proofs.Places.{same_lists}
use Rattle.farm_state.proofs.turns.FarmTurns.push.Goals as goal

pub make-change-requires-clause-may : goal.make-change-requires-clause-may
make-change-requires-clause-may c =
    let s : Inside = c.self.inside in
    let e : Entry = c.args.entry in
    let longer : IsLegal (s.state ++ e ∷ []) =
    subst (λ (X : List Entry). IsLegal (X ++ e ∷ [])) (sym c.self.view_is) c.requires in
    let turns_are : turns_in c.reserve.new.self ≡ turns_in s.active =
    same_lists (turns_in c.reserve.new.self) (turns_in s.active) c.reserve.ensures.never c.reserve.ensures.leased in
    may-push s e c.move_of-step.result (turns_in c.reserve.new.self) c.reserve.new.self.count c.self.invariant longer
    c.move_of-step.ensures turns_are c.reserve.ensures.count

pub make-change-requires-clause-few : goal.make-change-requires-clause-few
make-change-requires-clause-few c =
    let s : Inside = c.self.inside in
    few-stand s (turns_in c.reserve.new.self) c.self.invariant
    (same_lists (turns_in c.reserve.new.self) (turns_in s.active) c.reserve.ensures.never c.reserve.ensures.leased)

pub invariant_of-self-2 : goal.invariant_of-self-2
invariant_of-self-2 c =
    let s : Inside = c.self.inside in
    let e : Entry = c.args.entry in
    let t : Inside =
    record { state = c.push.new.self; active = c.make-change.new.active; changes = c.push_reserved.new.self } in
    let longer : IsLegal (s.state ++ e ∷ []) =
    subst (λ (X : List Entry). IsLegal (X ++ e ∷ [])) (sym c.self.view_is) c.requires in
    let turns_are : turns_in c.reserve.new.self ≡ turns_in s.active =
    same_lists (turns_in c.reserve.new.self) (turns_in s.active) c.reserve.ensures.never c.reserve.ensures.leased in
    let change : Change = c.make-change.result in
    pushed-turns s t e c.move_of-step.result (turns_in c.reserve.new.self) c.reserve.new.self.count c.self.invariant
    longer c.move_of-step.ensures turns_are c.reserve.ensures.count c.in_ok-push.ensures.pushed
    c.make-change.ensures.turns c.make-change.ensures.count
    (c.push_reserved.ensures.items
    ∙ ap (λ (xs : List Change). xs ++ change ∷ []) c.reserve-2.ensures.items
    ∙ ap (λ (x : Change). s.changes.items ++ x ∷ []) c.make-change.ensures.change)
