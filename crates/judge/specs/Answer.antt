-- The text of a judge's answer.
use Rattle.std.specs.Prelude.{ℕ, zero, suc, List, [], ◌∷◌, ◌++◌, Result, Ok, Err, codes}
use Rattle.std.specs.Fmt.{decimal}
use Rattle.judge.specs.Text.{lines}
use Rattle.judge.specs.Form.{Inquiry, inquiry}
use Rattle.judge.specs.Fates.{JudgeProgress, at_start, standing, fate, after, after_all}
use Rattle.judge.specs.declared.run_line.RunLine.{RunLine}
use Rattle.judge.specs.declared.fate.JudgeFate.{JudgeFate}
use Rattle.judge.specs.declared.fate.JudgeFate.TheVariants.{Counted, Late, Over, Repeat}
use Rattle.judge.specs.declared.standing.JudgeStanding.{JudgeStanding}
use Rattle.judge.specs.declared.standing.JudgeStanding.TheVariants.{Searching, Named, NoCulprit, Inconclusive}
use Rattle.weight_exact.specs.Weights.{Setup, hypotheses}
use Rattle.weight_exact.specs.Share.{basis_points}
use Rattle.weight_exact.specs.Budget.{run_budget}
use Rattle.weight_exact.specs.declared.run.Run.{Run}

-- a line's end
abbrev pub line_feed : List ℕ
line_feed = 10 ∷ []

abbrev pub budget_text : Setup → List ℕ
budget_text s = codes "budget " ++ decimal (run_budget s) ++ line_feed

abbrev pub fate_word : JudgeFate → List ℕ
fate_word Counted = codes "counted"
fate_word Late = codes "late"
fate_word Over = codes "over"
fate_word Repeat = codes "repeat"

abbrev pub fate_text : ℕ → JudgeFate → List ℕ
fate_text number f = codes "run " ++ decimal number ++ codes " " ++ fate_word f ++ line_feed

-- a line for each run line, in order
abbrev pub fates_text : Setup → JudgeProgress → List RunLine → List ℕ
fates_text s p [] = []
fates_text s p (line ∷ lines) = fate_text line.number (fate s p line) ++ fates_text s (after s p line) lines

-- the basis points of hypotheses 1 to i, each after a space
abbrev pub points_text : Setup → List Run → ℕ → List ℕ
points_text s runs zero = []
points_text s runs (suc i) = points_text s runs i ++ codes " " ++ decimal (basis_points s runs (suc i))

abbrev pub shares_text : Setup → List Run → List ℕ
shares_text s runs = codes "shares" ++ points_text s runs (hypotheses s) ++ line_feed

abbrev pub standing_word : JudgeStanding → List ℕ
standing_word Searching = codes "searching"
standing_word (Named i) = codes "named " ++ decimal i
standing_word NoCulprit = codes "no culprit"
standing_word Inconclusive = codes "inconclusive"

abbrev pub standing_text : JudgeStanding → List ℕ
standing_text standing = codes "standing " ++ standing_word standing ++ line_feed

-- what stands after the run lines
abbrev pub ending : Setup → JudgeProgress → List ℕ
ending s p = shares_text s p.counted ++ standing_text (standing s p)

-- the whole answer
abbrev pub answer : Inquiry → List ℕ
answer q = budget_text q.setup ++ fates_text q.setup at_start q.runs ++ ending q.setup
    (after_all q.setup at_start q.runs)

-- the answer to an input's bytes, or the number of the first line outside the form
abbrev pub judged : List ℕ → Result (List ℕ) ℕ
judged bytes = elim (inquiry (lines bytes)) [ Ok q ↦ Ok (answer q) | Err l ↦ Err l ]
