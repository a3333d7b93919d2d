-- What the lines of a search and of its runs ask.
use Rattle.std.proofs.Common.{◌≡◌, ◌-◌, Err, length-append, ◌+◌, ◌^◌, ◌<◌, ◌≤◌, ◌&&◌, ◌/◌, ℕ, Bool, true, false, List, ◌∷◌, ◌++◌, map, max, length, nat_lt, if◌then◌else◌, Option, Some, None, Ok, refl, sym, ap, ◌∙◌, arith, []}
use Rattle.std.specs.Fmt.{decimal}
use Rattle.std.specs.List.{All}
use Rattle.std.specs.Prelude.{codes, option_and_then, Result}
use Rattle.std.proofs.Math.Nat.{div-one}
use Rattle.std.proofs.lemmas.Bool.{and_from, lt-ltb}
use Rattle.std.proofs.lemmas.Bool.Decides.{nat_tests}
use Rattle.std.proofs.lemmas.List.Elements.{All-append, All-cons, All-head, All-nil, All-tail}
use Rattle.std.proofs.lemmas.List.Sums.{list_all-from_AllPass}
use Rattle.flake_rate.specs.Divisor.{gcd}
use Rattle.flake_rate.specs.Limits.{IsBar, IsMiss, IsRate, IsTold}
use Rattle.flake_rate.specs.Tests.{is_bar, is_rate, is_told}
use Rattle.flake_rate.proofs.Divisors.{gcd-zero_left}
use Rattle.flake_rate.proofs.Limits.{bar-tested, miss-tested, rate-tested}
use Rattle.judge.specs.Form.{Inquiry, after_keyword, from_search, inquiry, inquiry_of, is_run, miss_line, miss_of, run_line, run_lines, run_of, run_words, search_line, search_of, verdict_word}
use Rattle.judge.specs.Text.{numbers, words}
use Rattle.judge.specs.declared.run_line.RunLine.{RunLine}
use Rattle.judge.proofs.RoundTrips.{IsFreeOf, number-decimal, words-join}
use Rattle.common_types.specs.Decimals.{number}
use Rattle.weight_exact.specs.Factors.{factors, in_lowest_terms}
use Rattle.weight_exact.specs.Limits.{ArePriors, IsWeight, are_weights, is_calm, is_weight, is_within}
use Rattle.weight_exact.specs.Weights.{Setup, setup, suspects}
use Rattle.weight_exact.specs.declared.run.Run.{Run}
use Rattle.weight_exact.specs.declared.run.Verdict.{Verdict}
use Rattle.weight_exact.specs.declared.run.Verdict.TheVariants.{Pass, Fail}
use Rattle.weight_exact.specs.declared.limits.TheConstants.{MAX_SUSPECTS, MAX_WEIGHT}
use Rattle.search_evidence.specs.Evidence.{line_of, run_lines as written_runs, verdict_word as word_of}
use Rattle.leaf_laws.specs.Judgements.{numbered, with_number}
use Rattle.leaf_laws.proofs.WordLines.{IsWord, decimal-word, decimals-words, join-free, numbers-decimals, word-tested}

-- The words of the lines.

abbrev pub words_of_run : ℕ → Run → List (List ℕ)
words_of_run number r = codes "run" ∷ decimal number ∷ decimal r.position ∷ word_of r.verdict ∷ []

abbrev pub words_of_search : (a b t u calm : ℕ) → List ℕ → List (List ℕ)
words_of_search a b t u calm ws = codes "search" ∷ map decimal (a ∷ b ∷ t ∷ u ∷ calm ∷ ws)

abbrev pub words_of_miss : (c d : ℕ) → List (List ℕ)
words_of_miss c d = codes "miss" ∷ decimal c ∷ decimal d ∷ []

no_space : (all : List (List ℕ)) → All IsWord all → All (IsFreeOf 32) all
no_space all are k d within = (are k d within).no_space

pub words-line : (word : List ℕ) (all : List (List ℕ)) → All IsWord (word ∷ all) →
    words (line_of (word ∷ all)) ≡ word ∷ all
words-line word all are = words-join (word ∷ all) (omega arith) (no_space (word ∷ all) are)

-- Lines of runs.

verdict_words : (v : Verdict) → IsWord (word_of v)
verdict_words Pass = word-tested (codes "pass") refl refl
verdict_words Fail = word-tested (codes "fail") refl refl

verdict_word-word_of : (v : Verdict) → verdict_word (word_of v) ≡ Some v
verdict_word-word_of Pass = refl
verdict_word-word_of Fail = refl

pub run_words-are : (number : ℕ) (r : Run) → number < 2 ^ 64 → r.position < 2 ^ 64 → All IsWord (words_of_run number r)
run_words-are number r small near =
    All-cons IsWord (codes "run") (decimal number ∷ decimal r.position ∷ word_of r.verdict ∷ [])
    (word-tested (codes "run") refl refl)
    (All-cons IsWord (decimal number) (decimal r.position ∷ word_of r.verdict ∷ []) (decimal-word number small)
    (All-cons IsWord (decimal r.position) (word_of r.verdict ∷ []) (decimal-word r.position near)
    (All-cons IsWord (word_of r.verdict) [] (verdict_words r.verdict) (All-nil IsWord))))

run_of-same : (n greatest k : ℕ) (r : Run) (x y : Option ℕ) (z : Option Verdict) → x ≡ Some k → y ≡ Some r.position →
    z ≡ Some r.verdict → is_run n greatest k r.position ≡ true → run_of n greatest x y z ≡ Some (with_number k r)
run_of-same n greatest k r x y z is_x is_y is_z holds =
    (λ i. run_of n greatest (is_x i) (is_y i) (is_z i))
    ∙ ap (λ (t : Bool). if t then Some (with_number k r) else None) holds

pub run_line-read : (n greatest k : ℕ) (r : Run) → k < 2 ^ 64 → r.position < 2 ^ 64 →
    is_run n greatest k r.position ≡ true → run_line n greatest (line_of (words_of_run k r)) ≡ Some (with_number k r)
run_line-read n greatest k r small near holds =
    ap (λ (ws : List (List ℕ)). option_and_then (run_words n greatest) (after_keyword (codes "run") ws))
    (words-line (codes "run") (decimal k ∷ decimal r.position ∷ word_of r.verdict ∷ []) (run_words-are k r small near))
    ∙ run_of-same n greatest k r (number (decimal k)) (number (decimal r.position)) (verdict_word (word_of r.verdict))
    (number-decimal k small) (number-decimal r.position near) (verdict_word-word_of r.verdict) holds

-- a run at a position of n suspects
abbrev pub IsAtSuspect : ℕ → Run → Type 0
IsAtSuspect n r = (1 ≤ r.position) × (r.position ≤ n)

next_run : (n k position : ℕ) → k + 1 < 2 ^ 32 → 1 ≤ position → position ≤ n → is_run n k (k + 1) position ≡ true
next_run n k position small low high = grind (arith, nat_tests)

max-next : (k : ℕ) → max k (k + 1) ≡ k + 1
max-next k = omega arith

-- a run line before others, and the run lines of a list of lines of which this is the first
abbrev with_first_run : RunLine → Result (List RunLine) ℕ → Result (List RunLine) ℕ
with_first_run run (Ok runs) = Ok (run ∷ runs)
with_first_run run (Err l) = Err l

abbrev run_lines_by : (n greatest l : ℕ) → List (List ℕ) → Option RunLine → Result (List RunLine) ℕ
run_lines_by n greatest l left None = Err l
run_lines_by n greatest l left (Some run) = with_first_run run (run_lines n (max greatest run.number) (l + 1) left)

pub run_lines-read : (n l k : ℕ) (rs : List Run) → n < 2 ^ 32 → All (IsAtSuspect n) rs → k + length rs < 2 ^ 32 →
    run_lines n k l (written_runs (k + 1) rs) ≡ Ok (numbered (k + 1) rs)
run_lines-read n l k [] few at room = refl
run_lines-read n l k (r ∷ rs) few at room =
    let here : IsAtSuspect n r = All-head (IsAtSuspect n) r rs at in
    let others = written_runs (k + 1 + 1) rs in
    ap (run_lines_by n k l others)
    (run_line-read n k (k + 1) r (omega arith) (omega (arith, here.1))
    (next_run n k r.position (omega arith) here.0 here.1))
    ∙ ap (λ (greatest : ℕ). with_first_run (with_number (k + 1) r) (run_lines n greatest (l + 1) others)) (max-next k)
    ∙ ap (with_first_run (with_number (k + 1) r))
    (run_lines-read n (l + 1) (k + 1) rs few (All-tail (IsAtSuspect n) r rs at) (omega arith))

-- The line of a search.

-- the numbers of a search as they are asked for: within the limits, the rates in lowest terms
pub record AreAsked (a b c d t u calm : ℕ) (ws : List ℕ) : Type 0 where
  pub rate : IsRate a b
  pub rate_lowest : gcd a b ≡ 1
  pub miss : IsMiss c d
  pub miss_lowest : gcd c d ≡ 1
  pub bar : IsBar t u
  pub told : IsTold c d a b
  pub priors : ArePriors ws calm

over_one : (x g : ℕ) → g ≡ 1 → x / g ≡ x
over_one x g is = ap (λ (n : ℕ). x / n) is ∙ div-one x

pub lowest-same : (x y : ℕ) → gcd x y ≡ 1 → in_lowest_terms x y ≡ (x, y)
lowest-same x y is = λ i. (over_one x (gcd x y) is i, over_one y (gcd x y) is i)

within-tested : (limit n : ℕ) → 1 ≤ n → n ≤ limit → is_within limit n ≡ true
within-tested limit n low high = grind (arith, nat_tests)

weight-below : (w : ℕ) → IsWeight w → w < 2 ^ 64
weight-below w is = omega (arith, is.1)

are_weights-tested : (ws : List ℕ) (calm : ℕ) → ArePriors ws calm → are_weights ws ≡ true
are_weights-tested ws calm priors =
    and_from _ _ (within-tested MAX_SUSPECTS (length ws) priors.some priors.few)
    (list_all-from_AllPass is_weight ws
    (λ k e within. let is = priors.each k e within in within-tested MAX_WEIGHT _ is.0 is.1))

-- the test of the numbers of a search, and what they make
abbrev search_by : (a b c d t u calm : ℕ) → List ℕ → ℕ × ℕ → Option Setup
search_by a b c d t u calm ws rate =
    if is_rate a b && is_bar t u && is_calm calm && is_told c d rate.0 rate.1 && are_weights ws
    then Some (setup ws calm (factors rate.0 rate.1 c d) t u)
    else None

pub search_of-asked : (a b c d t u calm : ℕ) (ws : List ℕ) → AreAsked a b c d t u calm ws →
    search_of c d (a ∷ b ∷ t ∷ u ∷ calm ∷ ws) ≡ Some (setup ws calm (factors a b c d) t u)
search_of-asked a b c d t u calm ws asked =
    let tests : (is_rate a b && is_bar t u && is_calm calm && is_told c d a b && are_weights ws) ≡ true =
    and_from _ _ (and_from _ _ (and_from _ _ (and_from _ _ (rate-tested a b asked.rate) (bar-tested t u asked.bar))
    (within-tested _ calm asked.priors.some_calm asked.priors.little_calm)) (lt-ltb _ _ asked.told))
    (are_weights-tested ws calm asked.priors) in
    ap (search_by a b c d t u calm ws) (lowest-same a b asked.rate_lowest)
    ∙ ap (λ (x : Bool). if x then Some (setup ws calm (factors a b c d) t u) else None) tests

asked-small : (a b c d t u calm : ℕ) (ws : List ℕ) → AreAsked a b c d t u calm ws →
    All (λ n. n < 2 ^ 64) (a ∷ b ∷ t ∷ u ∷ calm ∷ ws)
asked-small a b c d t u calm ws asked =
    let P : ℕ → Type 0 = λ n. n < 2 ^ 64 in
    All-cons P a (b ∷ t ∷ u ∷ calm ∷ ws) (omega (arith, asked.rate.1, asked.rate.2))
    (All-cons P b (t ∷ u ∷ calm ∷ ws) (omega (arith, asked.rate.2))
    (All-cons P t (u ∷ calm ∷ ws) (omega (arith, asked.bar.0, asked.bar.2))
    (All-cons P u (calm ∷ ws) (omega (arith, asked.bar.0))
    (All-cons P calm ws (omega (arith, asked.priors.little_calm))
    (λ k e within. weight-below _ (asked.priors.each k e within))))))

miss-small : (a b c d t u calm : ℕ) (ws : List ℕ) → AreAsked a b c d t u calm ws → All (λ n. n < 2 ^ 64) (c ∷ d ∷ [])
miss-small a b c d t u calm ws asked =
    let P : ℕ → Type 0 = λ n. n < 2 ^ 64 in
    All-cons P c (d ∷ []) (omega (arith, asked.miss.0, asked.miss.1))
    (All-cons P d [] (omega (arith, asked.miss.1)) (All-nil P))

numbers_words : (word : List ℕ) (ns : List ℕ) → IsWord word → All (λ n. n < 2 ^ 64) ns →
    All IsWord (word ∷ map decimal ns)
numbers_words word ns is small = All-cons IsWord word (map decimal ns) is (decimals-words ns small)

word_search : IsWord (codes "search")
word_search = word-tested (codes "search") refl refl

word_miss : IsWord (codes "miss")
word_miss = word-tested (codes "miss") refl refl

pub search_line-read : (a b c d t u calm : ℕ) (ws : List ℕ) → AreAsked a b c d t u calm ws →
    search_line c d (line_of (words_of_search a b t u calm ws)) ≡ Some (setup ws calm (factors a b c d) t u)
search_line-read a b c d t u calm ws asked =
    let small = asked-small a b c d t u calm ws asked in
    ap (λ (all : List (List ℕ)). option_and_then (search_of c d)
    (option_and_then numbers (after_keyword (codes "search") all)))
    (words-line (codes "search") (map decimal (a ∷ b ∷ t ∷ u ∷ calm ∷ ws))
    (numbers_words (codes "search") (a ∷ b ∷ t ∷ u ∷ calm ∷ ws) word_search small))
    ∙ ap (option_and_then (search_of c d)) (numbers-decimals (a ∷ b ∷ t ∷ u ∷ calm ∷ ws) small)
    ∙ search_of-asked a b c d t u calm ws asked

-- it is no line of a miss rate
pub search_line-no_miss : (a b c d t u calm : ℕ) (ws : List ℕ) → AreAsked a b c d t u calm ws →
    miss_line (line_of (words_of_search a b t u calm ws)) ≡ None
search_line-no_miss a b c d t u calm ws asked =
    ap (λ (all : List (List ℕ)). option_and_then miss_of (option_and_then numbers (after_keyword (codes "miss") all)))
    (words-line (codes "search") (map decimal (a ∷ b ∷ t ∷ u ∷ calm ∷ ws))
    (numbers_words (codes "search") (a ∷ b ∷ t ∷ u ∷ calm ∷ ws) word_search (asked-small a b c d t u calm ws asked)))

pub miss_line-read : (a b c d t u calm : ℕ) (ws : List ℕ) → AreAsked a b c d t u calm ws →
    miss_line (line_of (words_of_miss c d)) ≡ Some (c, d)
miss_line-read a b c d t u calm ws asked =
    let small = miss-small a b c d t u calm ws asked in
    ap (λ (all : List (List ℕ)). option_and_then miss_of (option_and_then numbers (after_keyword (codes "miss") all)))
    (words-line (codes "miss") (map decimal (c ∷ d ∷ [])) (numbers_words (codes "miss") (c ∷ d ∷ []) word_miss small))
    ∙ ap (option_and_then miss_of) (numbers-decimals (c ∷ d ∷ []) small)
    ∙ ap (λ (x : Bool). if x then Some (in_lowest_terms c d) else None) (miss-tested c d asked.miss)
    ∙ ap Some (lowest-same c d asked.miss_lowest)

-- The lines of a search and its runs.

-- a miss line stands first where a test says so
abbrev lines_tested : (tested : Bool) (a b c d t u calm : ℕ) → List ℕ → List Run → List (List ℕ)
lines_tested tested a b c d t u calm ws rs =
    (if tested then line_of (words_of_miss c d) ∷ [] else [])
    ++ line_of (words_of_search a b t u calm ws) ∷ written_runs 1 rs

-- and so it does where the miss rate is above 0
abbrev pub lines_of_search : (a b c d t u calm : ℕ) → List ℕ → List Run → List (List ℕ)
lines_of_search a b c d t u calm ws rs = lines_tested (nat_lt 0 c) a b c d t u calm ws rs

-- what the search line and the lines behind it ask, by what the first asks
abbrev from_search_by : (l : ℕ) → List (List ℕ) → Option Setup → Result Inquiry ℕ
from_search_by l xs None = Err l
from_search_by l xs (Some s) = inquiry_of s (run_lines (suspects s) 0 (l + 1) xs)

abbrev inquiry_by : List ℕ → List (List ℕ) → Option (ℕ × ℕ) → Result Inquiry ℕ
inquiry_by x xs None = from_search 0 1 1 (x ∷ xs)
inquiry_by x xs (Some m) = from_search m.0 m.1 2 xs

suspects_of-setup : (ws : List ℕ) (calm : ℕ) → length (ws ++ calm ∷ []) - 1 ≡ length ws
suspects_of-setup ws calm = omega (arith, length-append ws (calm ∷ []))

from_search-read : (a b c d t u calm l : ℕ) (ws : List ℕ) (rs : List Run) → AreAsked a b c d t u calm ws →
    All (IsAtSuspect (length ws)) rs → length rs < 2 ^ 32 →
    from_search c d l (line_of (words_of_search a b t u calm ws) ∷ written_runs 1 rs)
    ≡ Ok (record { setup = setup ws calm (factors a b c d) t u; runs = numbered 1 rs })
from_search-read a b c d t u calm l ws rs asked at room =
    let s = setup ws calm (factors a b c d) t u in
    ap (from_search_by l (written_runs 1 rs)) (search_line-read a b c d t u calm ws asked)
    ∙ ap (λ (n : ℕ). inquiry_of s (run_lines n 0 (l + 1) (written_runs 1 rs))) (suspects_of-setup ws calm)
    ∙ ap (inquiry_of s) (run_lines-read (length ws) (l + 1) 0 rs (omega (arith, asked.priors.few)) at
    (omega (arith, room)))

none_missed : (c d : ℕ) → gcd c d ≡ 1 → nat_lt 0 c ≡ false → (c ≡ 0) × (d ≡ 1)
none_missed c d is test =
    let none : c ≡ 0 = grind (arith, nat_tests) in
    (none, sym (gcd-zero_left d) ∙ ap (λ (x : ℕ). gcd x d) (sym none) ∙ is)

module _ (a b c d t u calm : ℕ) (ws : List ℕ) (rs : List Run) (asked : AreAsked a b c d t u calm ws)
    (at : All (IsAtSuspect (length ws)) rs) (room : length rs < 2 ^ 32) where
  inquiry_by_test : (tested : Bool) → nat_lt 0 c ≡ tested → inquiry (lines_tested tested a b c d t u calm ws rs)
      ≡ Ok (record { setup = setup ws calm (factors a b c d) t u; runs = numbered 1 rs })
  inquiry_by_test true test =
      ap (inquiry_by (line_of (words_of_miss c d)) (line_of (words_of_search a b t u calm ws) ∷ written_runs 1 rs))
      (miss_line-read a b c d t u calm ws asked)
      ∙ from_search-read a b c d t u calm 2 ws rs asked at room
  inquiry_by_test false test =
      let none = none_missed c d asked.miss_lowest test in
      ap (inquiry_by (line_of (words_of_search a b t u calm ws)) (written_runs 1 rs))
      (search_line-no_miss a b c d t u calm ws asked)
      ∙ (λ i. from_search (sym none.0 i) (sym none.1 i) 1
      (line_of (words_of_search a b t u calm ws) ∷ written_runs 1 rs))
      ∙ from_search-read a b c d t u calm 1 ws rs asked at room

  pub inquiry-read : inquiry (lines_of_search a b c d t u calm ws rs)
      ≡ Ok (record { setup = setup ws calm (factors a b c d) t u; runs = numbered 1 rs })
  inquiry-read = inquiry_by_test (nat_lt 0 c) refl

-- No line feed stands in a line.

line-free : (all : List (List ℕ)) → All IsWord all → IsFreeOf 10 (line_of all)
line-free all are = join-free 10 32 all (λ same. omega arith) (λ k e within. (are k e within).no_feed)

runs-free : (k : ℕ) (rs : List Run) → All (λ (r : Run). r.position < 2 ^ 64) rs → k + length rs < 2 ^ 64 →
    All (IsFreeOf 10) (written_runs k rs)
runs-free k [] near room = All-nil (IsFreeOf 10)
runs-free k (r ∷ rs) near room =
    All-cons (IsFreeOf 10) (line_of (words_of_run k r)) (written_runs (k + 1) rs)
    (line-free (words_of_run k r) (run_words-are k r (omega arith)
    (All-head (λ (x : Run). x.position < 2 ^ 64) r rs near)))
    (runs-free (k + 1) rs (All-tail (λ (x : Run). x.position < 2 ^ 64) r rs near) (omega arith))

optional-free : (tested : Bool) (line : List ℕ) → IsFreeOf 10 line →
    All (IsFreeOf 10) (if tested then line ∷ [] else [])
optional-free true line free = All-cons (IsFreeOf 10) line [] free (All-nil (IsFreeOf 10))
optional-free false line free = All-nil (IsFreeOf 10)

near-suspects : (n position : ℕ) → n < 2 ^ 32 → (1 ≤ position) × (position ≤ n) → position < 2 ^ 64
near-suspects n position few at = omega (arith, at.1)

pub lines-free : (a b c d t u calm : ℕ) (ws : List ℕ) (rs : List Run) → AreAsked a b c d t u calm ws →
    All (IsAtSuspect (length ws)) rs → length rs < 2 ^ 32 → All (IsFreeOf 10) (lines_of_search a b c d t u calm ws rs)
lines-free a b c d t u calm ws rs asked at room =
    All-append (IsFreeOf 10) (if nat_lt 0 c then line_of (words_of_miss c d) ∷ [] else [])
    (line_of (words_of_search a b t u calm ws) ∷ written_runs 1 rs)
    (optional-free (nat_lt 0 c) (line_of (words_of_miss c d))
    (line-free (words_of_miss c d) (numbers_words (codes "miss") (c ∷ d ∷ []) word_miss
    (miss-small a b c d t u calm ws asked))))
    (All-cons (IsFreeOf 10) (line_of (words_of_search a b t u calm ws)) (written_runs 1 rs)
    (line-free (words_of_search a b t u calm ws)
    (numbers_words (codes "search") (a ∷ b ∷ t ∷ u ∷ calm ∷ ws) word_search (asked-small a b c d t u calm ws asked)))
    (runs-free 1 rs (λ k e within. near-suspects (length ws) _ (omega (arith, asked.priors.few)) (at k e within))
    (omega arith)))
