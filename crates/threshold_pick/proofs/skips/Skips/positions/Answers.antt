use Rattle.std.proofs.Common.{rules, ◌≡◌, ℕ, ◌+◌, ◌∙◌, ap, sym, Vec, Global, List, []}
use Rattle.threshold_pick.proofs.Listed.{listed-skipped, listed-free, listed-nothing}
use Rattle.threshold_pick.proofs.skips.Skips.positions.Goals.{then-is_skipped+in_ok-push, else-is_skipped}
use Rattle.threshold_pick.proofs.skips.Skips.positions.Goals as goal

pub returns-then-is_empty : goal.returns-then-is_empty
returns-then-is_empty c =
    let none : c.args.self.now ≡ [] = search rules in
    c.new-positions.ensures.items ∙ listed-nothing c.args.self.now (c.args.suspects + 1) none

pub loop-position-preserved : goal.loop-position-preserved
loop-position-preserved c =
    let kept = c.loop-position.invariant.listed in
    let skipped = c.args.self.now in
    let before = c.loop-position.positions.items in
    let after = c.if-is_skipped.positions.items in
    let items : Vec ℕ Global → List ℕ = λ v. v.items in
    record {
      listed = elim c.if-is_skipped.branch [
        | then-is_skipped+in_ok-push w ↦
            listed-skipped skipped before after c.loop-position.position kept
            (sym c.is_skipped.ensures ∙ w.if-is_skipped.true)
            (ap items w.positions-is ∙ w.in_ok-push.ensures.items)
        | else-is_skipped w ↦
            ap items w.positions-is
            ∙ listed-free skipped before c.loop-position.position kept
            (sym c.is_skipped.ensures ∙ w.if-is_skipped.false)
      ];
    }
