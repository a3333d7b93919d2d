-- The lines of the tests that a history tells of.
use Rattle.std.specs.Prelude.{ℕ, List, [], ◌∷◌, ◌++◌, slice_get, Option, Some, None}
use Rattle.std.specs.List.{flat_map}
use Rattle.serde_json.specs.Written.{compact_text}
use Rattle.farm_entry.specs.declared.entry.Entry.{Entry}
use Rattle.rates_report.specs.Tally.{rate_offered, tally, tests_of}
use Rattle.rates_report.specs.Rates.{rate_data}

-- the byte that ends a line
abbrev pub LINE_FEED : ℕ
LINE_FEED = 10

-- the line of a test: its tally, and the rate that is offered for it
abbrev pub rate_line : List Entry → (test : List ℕ) → List ℕ
rate_line H test =
    let told = tally H test in
    let rate = rate_offered H test in
    compact_text (rate_data test told.0 told.1 rate.0 rate.1) ++ LINE_FEED ∷ []

-- the lines of all tests that the history tells of
abbrev pub rates_text : List Entry → List ℕ
rates_text H = flat_map (rate_line H) (tests_of H)

abbrev pub rate_line_of : List Entry → Option (List ℕ) → List ℕ
rate_line_of H None = []
rate_line_of H (Some test) = rate_line H test

-- the line of the test at an index, or nothing
abbrev pub rate_line_at : List Entry → (index : ℕ) → List ℕ
rate_line_at H index = rate_line_of H (slice_get (tests_of H) index)
