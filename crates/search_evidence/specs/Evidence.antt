-- The evidence of a search, as text: a search and its runs in the lines that `judge` reads.
use Rattle.std.specs.Prelude.{ℕ, ◌+◌, List, [], ◌∷◌, ◌++◌, map, codes, if◌then◌else◌, nat_lt, Option}
use Rattle.std.specs.Fmt.{decimal}
use Rattle.std.specs.List.{join_with_byte}
use Rattle.std.specs.Option.{option_map}
use Rattle.flake_rate.specs.Bar.{bar_denominator, bar_numerator}
use Rattle.flake_rate.specs.Miss.{miss_denominator, miss_numerator}
use Rattle.flake_rate.specs.Rate.{rate_denominator, rate_numerator}
use Rattle.flake_rate.specs.declared.miss.Miss.{Miss}
use Rattle.judge.specs.Text.{text_of}
use Rattle.weight_exact.specs.declared.run.Run.{Run}
use Rattle.weight_exact.specs.declared.run.Verdict.{Verdict}
use Rattle.weight_exact.specs.declared.run.Verdict.TheVariants.{Pass, Fail}
use Rattle.farm_entry.specs.History.{opening_numbered}
use Rattle.farm_entry.specs.declared.entry.Entry.{Entry}
use Rattle.farm_entry.specs.declared.opening.Opening.{Opening}
use Rattle.search_evidence.specs.Written.{evidence_runs}

-- the byte between two words of a line
abbrev pub SPACE : ℕ
SPACE = 32

-- a line of these words
abbrev pub line_of : List (List ℕ) → List ℕ
line_of words = join_with_byte SPACE words

-- the miss line, where a broken test may pass: `miss C D`
abbrev pub miss_lines : Miss → List (List ℕ)
miss_lines miss =
    if nat_lt 0 (miss_numerator miss)
    then line_of (codes "miss" ∷ decimal (miss_numerator miss) ∷ decimal (miss_denominator miss) ∷ []) ∷ []
    else []

-- the numbers of a search: its flake rate in lowest terms, its bar as given, the weight of "no culprit", and those of
-- the suspects
abbrev pub search_numbers : Opening → List ℕ
search_numbers o =
    rate_numerator o.rate ∷ rate_denominator o.rate ∷ bar_numerator o.bar ∷ bar_denominator o.bar
    ∷ o.range.calm ∷ map (λ suspect. suspect.weight) o.range.suspects

-- numbers, each behind a space
abbrev pub spaced : List ℕ → List ℕ
spaced [] = []
spaced (n ∷ ns) = SPACE ∷ (decimal n ++ spaced ns)

-- the search line: `search A B T U CALM WEIGHT ..`
abbrev pub search_line : Opening → List ℕ
search_line o = line_of (codes "search" ∷ map decimal (search_numbers o))

abbrev pub verdict_word : Verdict → List ℕ
verdict_word Pass = codes "pass"
verdict_word Fail = codes "fail"

-- a run line: `run R K pass` or `run R K fail`
abbrev pub run_line : (number : ℕ) → Run → List ℕ
run_line number r = line_of (codes "run" ∷ decimal number ∷ decimal r.position ∷ verdict_word r.verdict ∷ [])

-- the lines of runs that are numbered in order, from a number on
abbrev pub run_lines : (number : ℕ) → List Run → List (List ℕ)
run_lines number [] = []
run_lines number (r ∷ rs) = run_line number r ∷ run_lines (number + 1) rs

-- the lines of a search and of these runs
abbrev pub lines_with : Opening → List Run → List (List ℕ)
lines_with o runs = miss_lines o.miss ++ search_line o ∷ run_lines 1 runs

-- the lines of a search and of the runs that are its evidence
abbrev pub evidence_lines : List Entry → Opening → List (List ℕ)
evidence_lines H o = lines_with o (evidence_runs H o)

-- the evidence of a search that was opened
abbrev pub evidence_of : List Entry → Opening → List ℕ
evidence_of H o = text_of (evidence_lines H o)

-- the evidence of the search with a number, where there is one
abbrev pub evidence_text : List Entry → (search : ℕ) → Option (List ℕ)
evidence_text H search = option_map (evidence_of H) (opening_numbered H search)
