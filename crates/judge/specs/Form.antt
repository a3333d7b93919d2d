-- The form of a judge's input: which lines it may have, and what they ask.
use Rattle.std.specs.Prelude.{ℕ, ◌+◌, ◌^◌, List, [], ◌∷◌, max, Bool, ◌&&◌, nat_le, nat_lt, if◌then◌else◌, Option, Some, None, option_and_then, Result, Ok, Err, codes}
use Rattle.std.specs.Str.{bytes_eq}
use Rattle.flake_rate.specs.Tests.{is_rate, is_miss, is_bar, is_told}
use Rattle.common_types.specs.Decimals.{number}
use Rattle.judge.specs.Text.{words, numbers}
use Rattle.judge.specs.declared.run_line.RunLine.{RunLine}
use Rattle.weight_exact.specs.Factors.{factors, in_lowest_terms}
use Rattle.weight_exact.specs.Limits.{is_calm, are_weights}
use Rattle.weight_exact.specs.Weights.{Setup, setup, suspects}
use Rattle.weight_exact.specs.declared.run.Verdict.{Verdict}
use Rattle.weight_exact.specs.declared.run.Verdict.TheVariants.{Pass, Fail}

-- what follows a keyword on a line, as words, where the line begins with it
abbrev pub after_keyword : List ℕ → List (List ℕ) → Option (List (List ℕ))
after_keyword keyword [] = None
after_keyword keyword (w ∷ ws) = if bytes_eq w keyword then Some ws else None

-- a keyword and numbers
abbrev pub keyword_numbers : List ℕ → List ℕ → Option (List ℕ)
keyword_numbers keyword line = option_and_then numbers (after_keyword keyword (words line))

-- `miss C D`: with the culprit in, a run passes with probability c/d, from here on in lowest terms
abbrev pub miss_of : List ℕ → Option (ℕ × ℕ)
miss_of (c ∷ d ∷ []) = if is_miss c d then Some (in_lowest_terms c d) else None
miss_of _ = None

abbrev pub miss_line : List ℕ → Option (ℕ × ℕ)
miss_line line = option_and_then miss_of (keyword_numbers (codes "miss") line)

-- `search A B T U CALM WEIGHT ..`: the flake rate a/b, the bar t/u, and the prior weights, each within its limits as it
-- is given, where the rates in lowest terms go together
abbrev pub search_of : (c d : ℕ) → List ℕ → Option Setup
search_of c d (a ∷ b ∷ t ∷ u ∷ calm ∷ ws) =
    let rate = in_lowest_terms a b in
    if is_rate a b && is_bar t u && is_calm calm && is_told c d rate.0 rate.1 && are_weights ws
    then Some (setup ws calm (factors rate.0 rate.1 c d) t u)
    else None
search_of c d _ = None

abbrev pub search_line : (c d : ℕ) → List ℕ → Option Setup
search_line c d line = option_and_then (search_of c d) (keyword_numbers (codes "search") line)

-- `run R K pass` or `run R K fail`: run R was at position K
abbrev pub verdict_word : List ℕ → Option Verdict
verdict_word w = if bytes_eq w (codes "pass") then Some Pass else
    (if bytes_eq w (codes "fail") then Some Fail else None)

-- A run's number is at most one greater than the greatest so far; where it is at most that, the line is a repeat.
-- Its position is a suspect's
abbrev pub is_run : (n greatest : ℕ) → (run position : ℕ) → Bool
is_run n greatest run position =
    nat_le 1 run && nat_lt run (2 ^ 32) && nat_le run (greatest + 1) && nat_le 1 position && nat_le position n

abbrev pub run_of : (n greatest : ℕ) → Option ℕ → Option ℕ → Option Verdict → Option RunLine
run_of n greatest (Some r) (Some k) (Some v) =
    if is_run n greatest r k then Some (record { number = r; run = record { position = k; verdict = v } }) else None
run_of n greatest _ _ _ = None

abbrev pub run_words : (n greatest : ℕ) → List (List ℕ) → Option RunLine
run_words n greatest (r ∷ k ∷ v ∷ []) = run_of n greatest (number r) (number k) (verdict_word v)
run_words n greatest _ = None

abbrev pub run_line : (n greatest : ℕ) → List ℕ → Option RunLine
run_line n greatest line = option_and_then (run_words n greatest) (after_keyword (codes "run") (words line))

-- The run lines of a list of lines, of which the first has the number `l`; or the number of the first line outside
-- the form
abbrev pub run_lines : (n greatest l : ℕ) → List (List ℕ) → Result (List RunLine) ℕ
run_lines n greatest l [] = Ok []
run_lines n greatest l (x ∷ xs) =
    elim (run_line n greatest x) [
      | None ↦ Err l
      | Some r ↦ elim (run_lines n (max greatest r.number) (l + 1) xs) [ Ok rs ↦ Ok (r ∷ rs) | Err e ↦ Err e ]
    ]

-- what an input asks: a search, and runs
pub record Inquiry : Type 0 where
  pub setup : Setup
  pub runs : List RunLine

-- a search and its runs, where the run lines are in the form
abbrev pub inquiry_of : Setup → Result (List RunLine) ℕ → Result Inquiry ℕ
inquiry_of s (Ok rs) = Ok (record { setup = s; runs = rs })
inquiry_of s (Err l) = Err l

-- The search line and what follows, or the first line outside the form
abbrev pub from_search : (c d l : ℕ) → List (List ℕ) → Result Inquiry ℕ
from_search c d l [] = Err l
from_search c d l (x ∷ xs) =
    elim (search_line c d x) [ None ↦ Err l | Some s ↦ inquiry_of s (run_lines (suspects s) 0 (l + 1) xs) ]

-- What the lines of an input ask, or the number of the first line outside the form, counted from 1. A miss line may
-- stand first; without one a broken test never passes
abbrev pub inquiry : List (List ℕ) → Result Inquiry ℕ
inquiry [] = Err 1
inquiry (x ∷ xs) = elim (miss_line x) [ None ↦ from_search 0 1 1 (x ∷ xs) | Some m ↦ from_search m.0 m.1 2 xs ]
