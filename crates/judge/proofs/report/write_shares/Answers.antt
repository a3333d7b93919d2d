use Rattle.std.proofs.Common.{◌≡◌, ◌+◌, ◌++◌, ℕ, List, add-one, append_assoc, ap, ◌∙◌}
use Rattle.std.specs.Fmt.{decimal}
use Rattle.std.specs.Prelude.{codes}
use Rattle.judge.specs.Answer.{points_text}
use Rattle.weight_exact.specs.Share.{basis_points}
use Rattle.weight_exact.specs.Weights.{Setup}
use Rattle.weight_exact.specs.declared.run.Run.{Run}
use Rattle.judge.proofs.report.write_shares.Goals as goal

regrouped : (old points next : List ℕ) → (old ++ (codes "shares" ++ points)) ++ (codes " " ++ next) ≡ old ++
    (codes "shares" ++ (points ++ codes " " ++ next))
regrouped old points next = simp append_assoc

-- one more share after those of hypotheses 1 to i
one_more : (s : Setup) (runs : List Run) (i : ℕ) (old before after : List ℕ) (share : ℕ)
    → before ≡ old ++ (codes "shares" ++ points_text s runs i) → share ≡ basis_points s runs (i + 1)
    → after ≡ before ++ (codes " " ++ decimal share) → after ≡ old ++ (codes "shares" ++ points_text s runs (i + 1))
one_more s runs i old before after share was is written =
    rw add-one (
    written
    ∙ ap (λ text. text ++ (codes " " ++ decimal share)) was
    ∙ ap (λ n. (old ++ (codes "shares" ++ points_text s runs i)) ++ (codes " " ++ decimal n))
    (is ∙ ap (basis_points s runs) (add-one i))
    ∙ regrouped old (points_text s runs i) _)

pub loop-before-preserved : goal.loop-before-preserved
loop-before-preserved c = λ runs stands.
    one_more c.args.belief.now.setup runs c.loop-before.before _ _ _ _ (c.loop-before.invariant runs stands)
    (c.basis_points-points.ensures runs stands) c.in_ok-write-2.ensures.bytes
