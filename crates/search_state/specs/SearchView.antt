-- What contracts see of a search, and what the farm's definitions say of it: where it stands, what a report does to
-- it, with a verdict or as a skip, which run is due.
use Rattle.std.specs.Prelude.{◌≡◌, ℕ, ◌+◌, ◌-◌, ◌<◌, ◌≤◌, ◌⊎◌, nat_lt, Bool, true, false, ◌&&◌, ◌||◌, List, [], ◌∷◌, ◌++◌, map, filter, if◌then◌else◌, Option, Some, None}
use Rattle.std.specs.List.{range_with_len}
use Rattle.std.specs.Option.{option_map}
use Rattle.threshold_pick.specs.Open.{is_skipped, open_plan}
use Rattle.weight_exact.specs.Load.{floor, is_fail, load, may_miss}
use Rattle.weight_exact.specs.Share.{basis_points, reached}
use Rattle.weight_exact.specs.Weights.{hypotheses}
use Rattle.weight_exact.specs.declared.run.Run.{Run}
use Rattle.farm_rules.specs.Due.{due_search, due_verify}
use Rattle.farm_rules.specs.Reruns.{reruns_at}
use Rattle.farm_types.specs.declared.stage.Stage.{Stage}
use Rattle.farm_types.specs.declared.stage.Stage.TheVariants.{Search, Verify}
use Rattle.farm_entry.specs.History.{same_stage}
use Rattle.farm_entry.specs.Setup.{budget_of_search, setup_of}
use Rattle.farm_entry.specs.Standing.{standing_of_reached}
use Rattle.farm_entry.specs.declared.entry.Fate.{Fate}
use Rattle.farm_entry.specs.declared.entry.Fate.TheVariants.{Counted, Late, Over}
use Rattle.farm_entry.specs.declared.entry.SkipFate.{SkipFate}
use Rattle.farm_entry.specs.declared.entry.SkipFate.TheVariants as skip
use Rattle.farm_entry.specs.declared.lease.DueRun.{DueRun}
use Rattle.farm_entry.specs.declared.opening.Opening.{Opening}
use Rattle.farm_entry.specs.declared.standing.Standing.{Standing}
use Rattle.farm_entry.specs.declared.standing.Standing.TheVariants.{Searching, Verifying, Inconclusive, Cancelled}

-- A search: how it was opened, the runs and the reruns that counted, each in the order of their reports, the positions
-- that were skipped, in the order in which they were, and whether it went over its budget or was cancelled
pub record SearchView : Type 0 where
  pub opening : Opening
  pub runs : List Run
  pub reruns : List Run
  pub skipped : List ℕ
  pub is_over : Bool
  pub is_cancelled : Bool

-- a search that was just opened
abbrev pub opened : Opening → SearchView
opened o = record { opening = o; runs = []; reruns = []; skipped = []; is_over = false; is_cancelled = false }

-- the hypothesis that is at the bar
abbrev pub bar_of : SearchView → Option ℕ
bar_of s = reached (setup_of s.opening) s.runs

-- where it stands, by the first case that fits
abbrev pub standing_in : SearchView → Standing
standing_in s =
    if s.is_cancelled then Cancelled
    else (if s.is_over then Inconclusive
    else standing_of_reached s.opening s.runs s.skipped s.reruns (bar_of s))

-- What a report does.

-- whether one run more takes it past its budget
abbrev pub passes_budget : SearchView → Run → Bool
passes_budget s r = nat_lt (budget_of_search s.opening) (load (setup_of s.opening).factors (s.runs ++ r ∷ []))

-- whether a run would add to its load: each does where a broken test may pass, else a fail above the floor
abbrev pub adds_load : SearchView → Run → Bool
adds_load s r =
    let f = (setup_of s.opening).factors in
    may_miss f || (is_fail r.verdict && nat_lt (floor f s.runs) r.position)

-- whether the side of a rerun has fewer reruns than were asked for
abbrev pub has_room : SearchView → Run → Bool
has_room s r = nat_lt (reruns_at r.position s.reruns) s.opening.reruns

abbrev pub fate_standing : Standing → SearchView → Stage → Run → Fate
fate_standing Searching s stage r =
    if same_stage stage Search then (if passes_budget s r then Over else Counted) else Late
fate_standing (Verifying culprit) s stage r = if same_stage stage Verify && has_room s r then Counted else Late
fate_standing _ s stage r = Late

-- the fate of the first report of one of its runs, that was handed out at a stage
abbrev pub fate_in : SearchView → Stage → Run → Fate
fate_in s stage r = fate_standing (standing_in s) s stage r

-- a search after a run, or a rerun, that counts
abbrev pub after_counted : SearchView → Stage → Run → SearchView
after_counted s Search r = record {
  opening = s.opening;
  runs = s.runs ++ r ∷ [];
  reruns = s.reruns;
  skipped = s.skipped;
  is_over = s.is_over;
  is_cancelled = s.is_cancelled;
}
after_counted s Verify r = record {
  opening = s.opening;
  runs = s.runs;
  reruns = s.reruns ++ r ∷ [];
  skipped = s.skipped;
  is_over = s.is_over;
  is_cancelled = s.is_cancelled;
}

-- a search that went over its budget
abbrev pub gone_over : SearchView → SearchView
gone_over s = record {
  opening = s.opening;
  runs = s.runs;
  reruns = s.reruns;
  skipped = s.skipped;
  is_over = true;
  is_cancelled = s.is_cancelled;
}

-- a search after a report with a fate
abbrev pub after_report : SearchView → Stage → Run → Fate → SearchView
after_report s stage r Counted = after_counted s stage r
after_report s stage r Over = gone_over s
after_report s stage r Late = s

-- the fate of the first report, as a skip, of one of its runs, that was handed out at a stage
abbrev pub skip_fate_standing : Standing → Stage → SkipFate
skip_fate_standing Searching stage = if same_stage stage Search then skip.Taken else skip.Late
skip_fate_standing (Verifying culprit) stage = if same_stage stage Verify then skip.Taken else skip.Late
skip_fate_standing _ stage = skip.Late

abbrev pub skip_fate_in : SearchView → Stage → SkipFate
skip_fate_in s stage = skip_fate_standing (standing_in s) stage

-- a search one of whose positions was skipped
abbrev pub skipped_at : SearchView → (position : ℕ) → SearchView
skipped_at s position = record {
  opening = s.opening;
  runs = s.runs;
  reruns = s.reruns;
  skipped = s.skipped ++ position ∷ [];
  is_over = s.is_over;
  is_cancelled = s.is_cancelled;
}

-- a search after a skip of a run at a position, with a fate
abbrev pub after_skip : SearchView → (position : ℕ) → SkipFate → SearchView
after_skip s position skip.Taken = skipped_at s position
after_skip s position skip.Late = s

-- A run at a position may be of a search: it is at a suspect's position where it is to find the culprit, and at the
-- suspect at the bar or just below it where it is to verify that one
pub record IsPlacedAt (s : SearchView) (stage : Stage) (position : ℕ) : Type 0 where
  pub first : stage ≡ Search → 1 ≤ position
  pub last : stage ≡ Search → position < hypotheses (setup_of s.opening)
  pub side : (culprit : ℕ) → stage ≡ Verify → bar_of s ≡ Some culprit → (position ≡ culprit) ⊎ (position + 1 ≡ culprit)

abbrev pub IsPlaced : SearchView → Stage → Run → Type 0
IsPlaced s stage r = IsPlacedAt s stage r.position

-- a search that was cancelled
abbrev pub cancelled : SearchView → SearchView
cancelled s = record {
  opening = s.opening;
  runs = s.runs;
  reruns = s.reruns;
  skipped = s.skipped;
  is_over = s.is_over;
  is_cancelled = true;
}

-- What is due and what is shown.

-- where it is to run next at its stage, while its runs at these positions are out
abbrev pub position_searching : SearchView → List ℕ → Option ℕ
position_searching s out = due_search (open_plan (setup_of s.opening) s.runs s.skipped s.opening.width) out

abbrev pub position_verifying : SearchView → (culprit : ℕ) → List ℕ → Option ℕ
position_verifying s culprit out =
    due_verify culprit (reruns_at culprit s.reruns) (reruns_at (culprit - 1) s.reruns) out s.opening.reruns

abbrev pub due_standing : Standing → SearchView → List ℕ → Option DueRun
due_standing Searching s out =
    option_map (λ k. record { search = s.opening.search; stage = Search; position = k }) (position_searching s out)
due_standing (Verifying culprit) s out =
    option_map (λ k. record { search = s.opening.search; stage = Verify; position = k }) (position_verifying s culprit out)
due_standing _ s out = None

-- the run that is due, while the runs at these positions are out, of the stage at which the search stands
abbrev pub due_in : SearchView → List ℕ → Option DueRun
due_in s out = due_standing (standing_in s) s out

-- the shares of all hypotheses in basis points, that of "no culprit" last
abbrev pub shares_in : SearchView → List ℕ
shares_in s =
    map (basis_points (setup_of s.opening) s.runs) (range_with_len 1 (hypotheses (setup_of s.opening)))

-- the positions that were skipped, rising, each once. Position 0 is the base
abbrev pub untestable_in : SearchView → List ℕ
untestable_in s = filter (is_skipped s.skipped) (range_with_len 0 (hypotheses (setup_of s.opening)))
