use Rattle.std.proofs.Common.{refl}
use Rattle.farm_rules.proofs.Rulings.{true-not_false, noted, counts-in_time, counts-late}
use Rattle.farm_rules.proofs.verify.Verify.note.Goals as goal

pub returns-then-is_late-clause-answer : goal.returns-then-is_late-clause-answer
returns-then-is_late-clause-answer c =
    λ reruns stands.
    let late = counts-late _ _ (c.is_late.ensures.late reruns stands (noted c.args.position c.args.verdict) refl) c.if-is_late.true in
    rw late refl

pub returns-then-is_late-clause-late : goal.returns-then-is_late-clause-late
returns-then-is_late-clause-late c =
    λ reruns stands. (λ _. counts-late _ _ (c.is_late.ensures.late reruns stands (noted c.args.position c.args.verdict) refl) c.if-is_late.true, λ _. refl)

pub returns-then-is_late-clause-counted : goal.returns-then-is_late-clause-counted
returns-then-is_late-clause-counted c =
    λ reruns stands.
    let late = counts-late _ _ (c.is_late.ensures.late reruns stands (noted c.args.position c.args.verdict) refl) c.if-is_late.true in
    rw late stands

pub returns-clause-answer : goal.returns-clause-answer
returns-clause-answer c =
    λ reruns stands.
    let counted = counts-in_time _ _ (c.is_late.ensures.late reruns stands (noted c.args.position c.args.verdict) refl) c.if-is_late.false in
    let is = c.outcome.ensures.said _ (c.count.ensures.counted reruns stands) in
    rw counted (rw (c.count.ensures.culprit, c.count.ensures.asked) at is)

pub returns-clause-late : goal.returns-clause-late
returns-clause-late c =
    λ reruns stands.
    let counted = counts-in_time _ _ (c.is_late.ensures.late reruns stands (noted c.args.position c.args.verdict) refl) c.if-is_late.false in
    (λ late. absurd (c.outcome.ensures.never_late late), λ uncounted. absurd (true-not_false _ counted uncounted))

pub returns-clause-unchanged : goal.returns-clause-unchanged
returns-clause-unchanged c = λ late. absurd (c.outcome.ensures.never_late late)

pub returns-clause-counted : goal.returns-clause-counted
returns-clause-counted c =
    λ reruns stands.
    let counted = counts-in_time _ _ (c.is_late.ensures.late reruns stands (noted c.args.position c.args.verdict) refl) c.if-is_late.false in
    rw counted (c.count.ensures.counted reruns stands)
