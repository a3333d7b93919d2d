-- What judge makes of the evidence of a search.
use Rattle.std.specs.Prelude.{ℕ, ◌+◌, List, [], ◌∷◌, ◌++◌, codes, if◌then◌else◌, Option}
use Rattle.std.specs.Fmt.{decimal}
use Rattle.std.specs.List.{cons_option}
use Rattle.std.specs.Option.{option_and_then, option_map}
use Rattle.judge.specs.Answer.{fate_text, line_feed, standing_text}
use Rattle.judge.specs.Fates.{standing_by}
use Rattle.judge.specs.Form.{Inquiry}
use Rattle.judge.specs.declared.fate.JudgeFate.{JudgeFate}
use Rattle.judge.specs.declared.fate.JudgeFate.TheVariants as judge
use Rattle.judge.specs.declared.run_line.RunLine.{RunLine}
use Rattle.judge.specs.declared.standing.JudgeStanding.{JudgeStanding}
use Rattle.judge.specs.declared.standing.JudgeStanding.TheVariants.{Inconclusive}
use Rattle.weight_exact.specs.Weights.{hypotheses}
use Rattle.weight_exact.specs.declared.run.Run.{Run}
use Rattle.farm_entry.specs.History.{report_in, went_over}
use Rattle.farm_entry.specs.Pages.{page_of}
use Rattle.farm_entry.specs.Setup.{setup_of}
use Rattle.farm_entry.specs.Standing.{at_bar}
use Rattle.farm_entry.specs.declared.entry.Entry.{Entry}
use Rattle.farm_entry.specs.declared.entry.Fate.{Fate}
use Rattle.farm_entry.specs.declared.entry.Fate.TheVariants.{Counted, Late, Over}
use Rattle.farm_entry.specs.declared.opening.Opening.{Opening}
use Rattle.search_evidence.specs.Written.{evidence_runs, run_added}

-- a run as judge's run line
abbrev pub with_number : ℕ → Run → RunLine
with_number number r = record { number = number; run = r }

-- runs as judge's run lines, numbered in order from a number on
abbrev pub numbered : ℕ → List Run → List RunLine
numbered number [] = []
numbered number (r ∷ rs) = with_number number r ∷ numbered (number + 1) rs

-- what the evidence of a search asks of judge: the search as it was opened, and the runs that are its evidence,
-- numbered from 1
abbrev pub evidence_asks : List Entry → Opening → Inquiry
evidence_asks H o = record { setup = setup_of o; runs = numbered 1 (evidence_runs H o) }

-- where judge leaves a search: inconclusive where a report went over its budget, and else by the hypothesis at the bar,
-- whatever a cancellation, skips and reruns made of it in the farm
abbrev pub judged_standing : List Entry → Opening → JudgeStanding
judged_standing H o = if went_over H o.search then Inconclusive else standing_by (hypotheses (setup_of o)) (at_bar H o)

-- the fate that the farm gave to the report of an entry, where the entry adds a run to the evidence of a search
abbrev pub fate_added : (before : List Entry) → Opening → Entry → Option Fate
fate_added H o e =
    option_and_then (λ (added : Run). option_map (λ report. report.fate) (report_in e.what)) (run_added H o e)

-- the fates that the farm gave to the reports that entries add to the evidence of a search, one after the other
abbrev pub fates_added : (before : List Entry) → Opening → List Entry → List Fate
fates_added H o [] = []
fates_added H o (e ∷ more) = cons_option (fate_added H o e) (fates_added (H ++ e ∷ []) o more)

-- those of all reports that are the evidence of a search, in their order
abbrev pub evidence_fates : List Entry → Opening → List Fate
evidence_fates H o = fates_added [] o H

-- a fate that the farm gave, in judge's words
abbrev pub judge_fate : Fate → JudgeFate
judge_fate Counted = judge.Counted
judge_fate Over = judge.Over
judge_fate Late = judge.Late

-- a line for each fate, numbered in order from a number on
abbrev pub fate_lines : ℕ → List Fate → List ℕ
fate_lines number [] = []
fate_lines number (f ∷ fates) = fate_text number (judge_fate f) ++ fate_lines (number + 1) fates

-- shares in basis points, each after a space
abbrev pub points_text : List ℕ → List ℕ
points_text [] = []
points_text (share ∷ shares) = codes " " ++ decimal share ++ points_text shares

-- judge's answer to the evidence of a search: the page's budget, for each run the fate that the farm gave to it, the
-- page's shares, and where it leaves the search
abbrev pub judged_answer : List Entry → Opening → List ℕ
judged_answer H o =
    codes "budget " ++ decimal (page_of H o).budget ++ line_feed
    ++ fate_lines 1 (evidence_fates H o)
    ++ (codes "shares" ++ points_text (page_of H o).shares ++ line_feed)
    ++ standing_text (judged_standing H o)
