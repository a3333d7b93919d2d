use Rattle.std.proofs.Common.{◌≡◌, ◌++◌, ◌∷◌, [], Bool, List, MatchBool, subst}
use Rattle.farm_types.specs.declared.key.Key.{Key}
use Rattle.farm_entry.specs.declared.entry.Entry.{Entry}
use Rattle.drill_plan.specs.Start.{drill_founding}
use Rattle.farm_drill.specs.Ends.{RevertsEnded}
use Rattle.farm_drill.specs.Free.{AreFree}
use Rattle.farm_drill.specs.Steps.{GivesOrder}
use Rattle.farm_drill.proofs.Growing.{prefix-trans}
use Rattle.farm_drill.proofs.Rest.{IsOrderOn, order-on, orders-none, orders-same}
use Rattle.farm_drill.proofs.reverts.take_reverts.Goals as goal

pub loop-key-init : goal.loop-key-init
loop-key-init c = record {
  decided = c.requires.decided;
  founded = c.requires.founded;
  legal = c.requires.legal;
  by_commands = c.requires.by_commands;
  free = c.requires.free;
  orders = orders-none c.args.store.now.history;
}

-- what holds once one more order is given
ordered : (c : goal.Else-not-branch) → IsOrderOn c.args.store.now.history c.loop-key.store.history
    c.take_revert.new.store.history c.fresh.new.self
ordered c =
    let H : List Entry = c.loop-key.store.history in
    let new : List Entry = c.take_revert.new.store.history in
    let key : Key = c.in_ok-key.key in
    let gives = subst (λ (b : Bool). MatchBool b (GivesOrder H key new) ((new ≡ H) × RevertsEnded new))
    c.if-not-branch.false
    c.in_ok-take_revert.ensures.given in
    order-on c.args.store.now.history H new key c.fresh.new.self c.loop-key.invariant.orders gives
    (λ e keyed. subst (λ (G : List Entry). AreFree (G ++ e ∷ []) c.fresh.new.self) c.history.ensures.value
    (c.in_ok-key.ensures.free e keyed))

pub loop-key-preserved : goal.loop-key-preserved
loop-key-preserved c =
    let on = ordered c in
    record {
      decided = c.in_ok-take_revert.ensures.decided;
      founded = prefix-trans (drill_founding ∷ []) c.loop-key.store.history c.take_revert.new.store.history
          c.loop-key.invariant.founded on.longer;
      legal = c.take_revert.ensures.legal;
      by_commands = c.in_ok-take_revert.ensures.by_commands;
      free = on.free;
      orders = on.orders;
    }

pub loop-key-smaller : goal.loop-key-smaller
loop-key-smaller c = let on = ordered c in on.shorter

pub returns-then-not-branch-clause-ended : goal.returns-then-not-branch-clause-ended
returns-then-not-branch-clause-ended c =
    let H : List Entry = c.loop-key.store.history in
    let new : List Entry = c.take_revert.new.store.history in
    let ended = subst (λ (b : Bool). MatchBool b (GivesOrder H c.in_ok-key.key new) ((new ≡ H) × RevertsEnded new))
    c.if-not-branch.true c.in_ok-take_revert.ensures.given in
    ended.1

pub returns-then-not-branch-clause-orders : goal.returns-then-not-branch-clause-orders
returns-then-not-branch-clause-orders c =
    let H : List Entry = c.loop-key.store.history in
    let new : List Entry = c.take_revert.new.store.history in
    let ended = subst (λ (b : Bool). MatchBool b (GivesOrder H c.in_ok-key.key new) ((new ≡ H) × RevertsEnded new))
    c.if-not-branch.true c.in_ok-take_revert.ensures.given in
    orders-same c.args.store.now.history H new ended.0 c.loop-key.invariant.orders
