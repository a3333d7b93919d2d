-- What becomes of each run line, and where the search stands.
use Rattle.std.specs.Prelude.{ℕ, List, [], ◌∷◌, ◌++◌, Bool, true, false, not, ◌==◌, nat_le, nat_lt, if◌then◌else◌, Option, Some, None}
use Rattle.judge.specs.declared.run_line.RunLine.{RunLine}
use Rattle.judge.specs.declared.fate.JudgeFate.{JudgeFate}
use Rattle.judge.specs.declared.fate.JudgeFate.TheVariants.{Counted, Late, Over, Repeat}
use Rattle.judge.specs.declared.standing.JudgeStanding.{JudgeStanding}
use Rattle.judge.specs.declared.standing.JudgeStanding.TheVariants.{Searching, Named, NoCulprit, Inconclusive}
use Rattle.weight_exact.specs.Weights.{Setup, hypotheses}
use Rattle.weight_exact.specs.Load.{load}
use Rattle.weight_exact.specs.Share.{reached}
use Rattle.weight_exact.specs.Budget.{run_budget}
use Rattle.weight_exact.specs.declared.run.Run.{Run}

-- how far a search has come: the counted runs, whether one was over the budget, and the greatest run number
pub record JudgeProgress : Type 0 where
  pub counted : List Run
  pub over : Bool
  pub greatest : ℕ

abbrev pub at_start : JudgeProgress
at_start = record { counted = []; over = false; greatest = 0 }

-- where a search stands by the hypothesis at the bar, of which the last says that there is no culprit
abbrev pub standing_by : (all : ℕ) → Option ℕ → JudgeStanding
standing_by all None = Searching
standing_by all (Some i) = if i == all then NoCulprit else Named i

-- where a search stands: inconclusive after a run over the budget, and else by the counted runs
abbrev pub standing : Setup → JudgeProgress → JudgeStanding
standing s p = if p.over then Inconclusive else standing_by (hypotheses s) (reached s p.counted)

-- whether a search goes on
abbrev pub is_searching : JudgeStanding → Bool
is_searching Searching = true
is_searching _ = false

-- the fate of a run line, by the first case that fits
abbrev pub fate : Setup → JudgeProgress → RunLine → JudgeFate
fate s p line =
    if nat_le line.number p.greatest then Repeat
    else (if not (is_searching (standing s p)) then Late
    else (if nat_lt (run_budget s) (load s.factors (p.counted ++ line.run ∷ [])) then Over
    else Counted))

-- the progress after a run line with this fate
abbrev pub after_fate : JudgeFate → JudgeProgress → RunLine → JudgeProgress
after_fate Repeat p line = p
after_fate Late p line = record p { greatest = line.number }
after_fate Over p line = record p { over = true; greatest = line.number }
after_fate Counted p line = record p { counted = p.counted ++ line.run ∷ []; greatest = line.number }

abbrev pub after : Setup → JudgeProgress → RunLine → JudgeProgress
after s p line = after_fate (fate s p line) p line

-- the progress after a list of run lines
abbrev pub after_all : Setup → JudgeProgress → List RunLine → JudgeProgress
after_all s p [] = p
after_all s p (line ∷ lines) = after_all s (after s p line) lines
