use Rattle.std.proofs.Common.{◌++◌, ◌∷◌, [], List, sym, subst, true≢false, ◌∙◌}
use Rattle.farm_entry.specs.Legal.{IsLegal}
use Rattle.farm_entry.specs.declared.entry.Entry.{Entry}
use Rattle.farm_laws.proofs.Induct.{IsLegal-push, IsLegal-pushed}
use Rattle.farm_core.proofs.farm.Farm.admit.Goals as goal

pub returns-then-not-branch-clause-illegal : goal.returns-then-not-branch-clause-illegal
returns-then-not-branch-clause-illegal c longer =
    let H = c.forget_ready.new.self.history in
    let said = c.in_ok-is_next.ensures in
    let here : IsLegal (H ++ c.args.entry ∷ []) =
    subst (λ (l : List Entry). IsLegal (l ++ c.args.entry ∷ [])) (sym c.forget_ready.ensures.history) longer in
    true≢false (sym (said.next.1 (IsLegal-pushed H c.args.entry said.legal here)) ∙ c.if-not-branch.true)

pub make_ready-requires-clause-next : goal.make_ready-requires-clause-next
make_ready-requires-clause-next c =
    let H = c.forget_ready.new.self.history in
    let said = c.in_ok-is_next.ensures in
    IsLegal-push H c.args.entry said.legal (said.next.0 c.if-not-branch.false)

pub returns-clause-legal : goal.returns-clause-legal
returns-clause-legal c =
    let H = c.forget_ready.new.self.history in
    let said = c.in_ok-is_next.ensures in
    subst (λ (l : List Entry). IsLegal (l ++ c.args.entry ∷ [])) c.forget_ready.ensures.history
    (IsLegal-push H c.args.entry said.legal (said.next.0 c.if-not-branch.false))
