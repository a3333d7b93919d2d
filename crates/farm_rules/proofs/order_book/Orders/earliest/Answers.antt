use Rattle.std.proofs.Common.{◌<◌, ◌∙◌, ◌+◌, ap, sym, drop, length, List, ◌∷◌, Option, arith}
use Rattle.std.proofs.lemmas.List.{at_drop_more}
use Rattle.farm_rules.specs.Orders.{candidates, earliest}
use Rattle.farm_rules.specs.declared.orders.Candidate.{Candidate}
use Rattle.farm_rules.specs.Earlier.{earlier_of}
use Rattle.farm_rules.proofs.EarliestFound.{joined-counted, joined-passed}
use Rattle.farm_rules.proofs.order_book.Orders.earliest.Goals as goal
use Rattle.farm_rules.proofs.order_book.Orders.earliest.Goals.{then-not-has_order, else-not-has_order}

pub loop-candidate-preserved : goal.loop-candidate-preserved
loop-candidate-preserved c =
    let orders = c.args.self.now.orders in
    let all = c.args.confirmed.now in
    let item = c.candidate-item.result in
    let best = c.loop-candidate.best in
    let rest = drop (c.loop-candidate.candidate-index + 1) all in
    let joined = λ (left : List Candidate). earlier_of best (earliest (candidates left orders)) in
    let within : c.loop-candidate.candidate-index < length all = omega arith in
    let before =
    ap (λ (k : Candidate). joined (k ∷ rest)) c.candidate-item.is
    ∙ (sym (at_drop_more joined all c.loop-candidate.candidate-index item within) ∙ c.loop-candidate.invariant) in
    let kept = λ (k : Option Candidate). earlier_of k (earliest (candidates rest orders)) in
    elim c.if-not-has_order.branch [
      | then-not-has_order w ↦
          let counted = joined-counted orders item rest best (sym c.has_order.ensures ∙ w.if-not-has_order.true) in
          ap kept w.best-is ∙ (ap kept w.earlier.ensures ∙ (sym counted ∙ before))
      | else-not-has_order w ↦
          let passed = joined-passed orders item rest best (sym c.has_order.ensures ∙ w.if-not-has_order.false) in
          ap kept w.best-is ∙ (sym passed ∙ before)
    ]
