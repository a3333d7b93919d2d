-- What is kept of one search.
use Rattle.std.specs.Prelude.{ℕ, ◌+◌, ◌<◌, ◌^◌, List, [], ◌∷◌, ◌++◌, length, map, count_by, if◌then◌else◌}
use Rattle.std.specs.List.{All, sum_by}
use Rattle.std.specs.Str.{bytes_eq}
use Rattle.weight_exact.specs.declared.run.Run.{Run}
use Rattle.farm_types.specs.declared.stage.Stage.{Stage}
use Rattle.farm_types.specs.declared.stage.Stage.TheVariants.{Search, Verify}
use Rattle.farm_entry.specs.History.{openings, reruns, runs}
use Rattle.farm_entry.specs.Standing.{standing}
use Rattle.farm_entry.specs.declared.entry.Entry.{Entry}
use Rattle.farm_entry.specs.declared.opening.Opening.{Opening}
use Rattle.farm_entry.specs.declared.standing.Standing.{Standing}
use Rattle.rates_report.specs.Tally.{failed, failed_below, is_below, sound_runs}

-- A search: its test, where it stands, and its runs and reruns that counted
pub record Noted : Type 0 where
  pub test : List ℕ
  pub standing : Standing
  pub runs : List Run
  pub reruns : List Run

abbrev pub started : (test : List ℕ) → Standing → Noted
started test s = record { test = test; standing = s; runs = []; reruns = [] }

-- with one run more of a stage
abbrev pub with_run : Noted → Stage → Run → Noted
with_run n Search r = record { test = n.test; standing = n.standing; runs = n.runs ++ r ∷ []; reruns = n.reruns }
with_run n Verify r = record { test = n.test; standing = n.standing; runs = n.runs; reruns = n.reruns ++ r ∷ [] }

-- with another standing
abbrev pub noted_at : Standing → Noted → Noted
noted_at s n = record { test = n.test; standing = s; runs = n.runs; reruns = n.reruns }

abbrev pub sound_in : Noted → List Run
sound_in n = sound_runs n.standing n.runs n.reruns

-- what it tells of a test: how often it failed at sound trees, and in how many runs
abbrev pub told_in : (test : List ℕ) → Noted → ℕ × ℕ
told_in test n = if bytes_eq n.test test then (count_by failed (sound_in n), length (sound_in n)) else (0, 0)

-- the same of its runs below a position, counted where they stand
abbrev pub told_below : (position : ℕ) → Noted → ℕ × ℕ
told_below position n = (
  count_by (failed_below position) n.runs + count_by (failed_below position) n.reruns,
  count_by (is_below position) n.runs + count_by (is_below position) n.reruns,
)

-- what searches tell of a test together
abbrev pub told_in_all : (test : List ℕ) → List Noted → ℕ × ℕ
told_in_all test ns = (sum_by (λ n. (told_in test n).0) ns, sum_by (λ n. (told_in test n).1) ns)

-- each of them has so few runs and reruns that they are counted by a number of 32 bits
abbrev pub AreFew : List Noted → Type 0
AreFew ns = All (λ n. length n.runs + length n.reruns < 2 ^ 32) ns

-- what a history holds of a search
abbrev pub noted_of : List Entry → Opening → Noted
noted_of H o = record { test = o.test; standing = standing H o; runs = runs H o.search; reruns = reruns H o.search }

-- and of all, by their numbers
abbrev pub all_noted : List Entry → List Noted
all_noted H = map (noted_of H) (openings H)
