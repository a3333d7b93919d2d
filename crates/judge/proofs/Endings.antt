-- How a search ends.
use Rattle.std.proofs.Common.{◌≡◌, ◌≤◌, Bool, true, false, not, cond, List, [], ◌∷◌, ◌++◌, refl, ap, ◌∙◌, arith}
use Rattle.std.proofs.lemmas.Bool.{ltb-false}
use Rattle.std.specs.Prelude.{nat_le, nat_lt}
use Rattle.judge.specs.Fates.{JudgeProgress, at_start, standing, standing_by, is_searching, after_fate, after, after_all}
use Rattle.judge.specs.declared.fate.JudgeFate.{JudgeFate}
use Rattle.judge.specs.declared.fate.JudgeFate.TheVariants.{Counted, Late, Over, Repeat}
use Rattle.judge.specs.declared.run_line.RunLine.{RunLine}
use Rattle.judge.specs.declared.standing.JudgeStanding.TheVariants.{Inconclusive}
use Rattle.weight_exact.specs.Budget.{run_budget}
use Rattle.weight_exact.specs.Load.{load}
use Rattle.weight_exact.proofs.Floors.{load-none}
use Rattle.weight_exact.specs.Share.{reached}
use Rattle.weight_exact.specs.Weights.{Setup, hypotheses}

-- the same runs are counted, and the same is said of the budget
record IsSettled (p q : JudgeProgress) : Type 0 where
  counted : q.counted ≡ p.counted
  over : q.over ≡ p.over

late_settles : (seen searching : Bool) (others : JudgeFate) (p : JudgeProgress) (line : RunLine) → searching ≡ false
    → IsSettled p (after_fate (cond seen Repeat (cond (not searching) Late others)) p line)
late_settles true searching others p line ended = record { counted = refl; over = refl }
late_settles false true others p line ended = absurd cc
late_settles false false others p line ended = record { counted = refl; over = refl }

after_settles : (s : Setup) (p : JudgeProgress) (line : RunLine) → is_searching (standing s p) ≡ false
    → IsSettled p (after s p line)
after_settles s p line ended =
    late_settles (nat_le line.number p.greatest) (is_searching (standing s p))
    (cond (nat_lt (run_budget s) (load s.factors (p.counted ++ line.run ∷ []))) Over Counted) p line ended

standing_settled : (s : Setup) (p q : JudgeProgress) → IsSettled p q → standing s q ≡ standing s p
standing_settled s p q same =
    ap (λ over. cond over Inconclusive (standing_by (hypotheses s) (reached s q.counted))) same.over
    ∙ ap (λ runs. cond p.over Inconclusive (standing_by (hypotheses s) (reached s runs))) same.counted

pub standing-after_all : (s : Setup) (p : JudgeProgress) (later : List RunLine) → is_searching (standing s p) ≡ false
    → standing s (after_all s p later) ≡ standing s p
standing-after_all s p [] ended = refl
standing-after_all s p (line ∷ later) ended =
    let same = standing_settled s p (after s p line) (after_settles s p line ended) in
    standing-after_all s (after s p line) later (ap is_searching same ∙ ended) ∙ same

pub counted-after_all : (s : Setup) (p : JudgeProgress) (later : List RunLine) → is_searching (standing s p) ≡ false
    → (after_all s p later).counted ≡ p.counted
counted-after_all s p [] ended = refl
counted-after_all s p (line ∷ later) ended =
    let settled = after_settles s p line ended in
    counted-after_all s (after s p line) later (ap is_searching (standing_settled s p (after s p line) settled)
    ∙ ended) ∙ settled.counted

fits_by_tests : (s : Setup) (seen ended over : Bool) (p : JudgeProgress) (line : RunLine)
    → load s.factors p.counted ≤ run_budget s → (over ≡ false
    → load s.factors (p.counted ++ line.run ∷ []) ≤ run_budget s)
    → load s.factors (after_fate (cond seen Repeat (cond ended Late (cond over Over Counted))) p line).counted ≤
    run_budget s
fits_by_tests s true ended over p line fits more = fits
fits_by_tests s false true over p line fits more = fits
fits_by_tests s false false true p line fits more = fits
fits_by_tests s false false false p line fits more = more refl

after_fits : (s : Setup) (p : JudgeProgress) (line : RunLine) → load s.factors p.counted ≤ run_budget s
    → load s.factors (after s p line).counted ≤ run_budget s
after_fits s p line fits =
    fits_by_tests s (nat_le line.number p.greatest) (not (is_searching (standing s p)))
    (nat_lt (run_budget s) (load s.factors (p.counted ++ line.run ∷ []))) p line fits
    (ltb-false (run_budget s) (load s.factors (p.counted ++ line.run ∷ [])))

after_all_fits : (s : Setup) (p : JudgeProgress) (all : List RunLine) → load s.factors p.counted ≤ run_budget s
    → load s.factors (after_all s p all).counted ≤ run_budget s
after_all_fits s p [] fits = fits
after_all_fits s p (line ∷ all) fits = after_all_fits s (after s p line) all (after_fits s p line fits)

pub fits-after_all : (s : Setup) (all : List RunLine) → load s.factors (after_all s at_start all).counted ≤ run_budget s
fits-after_all s all = after_all_fits s at_start all (omega (arith, load-none s.factors))
