-- Sums of what searches tell.
use Rattle.std.proofs.Common.{◌≡◌, ◌⊎◌, ⊎_elim, ℕ, ◌+◌, ◌*◌, ◌<◌, ◌≤◌, ◌^◌, Bool, true, false, ◌&&◌, cond, List, [], ◌∷◌, ◌++◌, length, map, filter, get_or, count_by, Option, Some, None, refl, sym, ap, ◌∙◌, arith, length-append, zero-add}
use Rattle.std.specs.List.{All, cons_option, filter_map, sum_by}
use Rattle.std.specs.Str.{bytes_eq}
use Rattle.std.proofs.lemmas.List.{length-map}
use Rattle.std.proofs.lemmas.List.Elements.{All-map}
use Rattle.std.proofs.lemmas.List.Sums.{length-filter, sum_by-append, sum_by-cons, sum_by-le, sum_by-le-sum_by}
use Rattle.farm_types.specs.declared.stage.Stage.{Stage}
use Rattle.farm_types.specs.declared.stage.Stage.TheVariants.{Search, Verify}
use Rattle.weight_exact.specs.declared.run.Run.{Run}
use Rattle.farm_entry.specs.History.{counted, counted_run, openings, report_in, reports}
use Rattle.farm_entry.specs.Legal.{IsLegal}
use Rattle.farm_entry.specs.Standing.{standing}
use Rattle.farm_entry.specs.declared.entry.Entry.{Entry}
use Rattle.farm_entry.specs.declared.limits.TheConstants.{MAX_ENTRIES, MAX_SEARCHES}
use Rattle.farm_entry.specs.declared.opening.Opening.{Opening}
use Rattle.farm_entry.specs.declared.standing.Standing.{Standing}
use Rattle.farm_entry.specs.declared.standing.Standing.TheVariants.{Searching, Verifying, Confirmed, Vindicated, NoCulprit, Inconclusive, Cancelled}
use Rattle.farm_laws.proofs.Bounds.{entries-bounded, openings-bounded}
use Rattle.rates_report.specs.Noted.{AreFew, Noted, all_noted, noted_of, sound_in, told_below, told_in, told_in_all}
use Rattle.rates_report.specs.Tally.{failed, failed_below, is_below, sound_runs, sound_runs_of, tally}

-- Runs that are counted where they stand.

below-failed : (p : ℕ) (rs : List Run) → count_by failed (filter (is_below p) rs) ≡ count_by (failed_below p) rs
below-failed p [] = refl
below-failed p (r ∷ rs) =
    elim (is_below p r) as
    (λ b. count_by failed (cond b (r ∷ filter (is_below p) rs) (filter (is_below p) rs))
    ≡ cond (b && failed r) 1 0 + count_by (failed_below p) rs) [
      | true ↦ sum_by-cons (λ (x : Run). cond (failed x) 1 0) r (filter (is_below p) rs)
          ∙ ap (λ (n : ℕ). cond (failed r) 1 0 + n) (below-failed p rs)
      | false ↦ below-failed p rs ∙ sym (zero-add (count_by (failed_below p) rs))
    ]
    ∙ sym (sum_by-cons (λ (x : Run). cond (failed_below p x) 1 0) r rs)

pub failed-below : (p : ℕ) (rs again : List Run) → count_by failed (filter (is_below p) rs ++ filter (is_below p) again)
    ≡ count_by (failed_below p) rs + count_by (failed_below p) again
failed-below p rs again =
    sum_by-append (λ (x : Run). cond (failed x) 1 0) (filter (is_below p) rs) (filter (is_below p) again)
    ∙ (λ i. below-failed p rs i + below-failed p again i)

pub length-below : (p : ℕ) (rs again : List Run) → length (filter (is_below p) rs ++ filter (is_below p) again)
    ≡ count_by (is_below p) rs + count_by (is_below p) again
length-below p rs again =
    length-append (filter (is_below p) rs) (filter (is_below p) again)
    ∙ (λ i. length-filter (is_below p) rs i + length-filter (is_below p) again i)

pub count-le : {X : Type 0} (p : X → Bool) (xs : List X) → count_by p xs ≤ length xs
count-le p [] = omega arith
count-le {X} p (x ∷ xs) =
    let more = sum_by-cons (λ (y : X). cond (p y) 1 0) x xs in
    elim (p x) as (λ b. count_by p (x ∷ xs) ≡ cond b 1 0 + count_by p xs → count_by p (x ∷ xs) ≤ length (x ∷ xs)) [
      | true ↦ λ is. omega (arith, is, count-le p xs)
      | false ↦ λ is. omega (arith, is, count-le p xs)
    ] more

-- a search with a confirmed culprit tells what is counted below it
pub told-confirmed : (test : List ℕ) (n : Noted) (c : ℕ) → bytes_eq n.test test ≡ true → n.standing ≡ Confirmed c →
    told_below c n ≡ told_in test n
told-confirmed test n c same is =
    let sound : sound_in n ≡ filter (is_below c) n.runs ++ filter (is_below c) n.reruns =
    ap (λ (s : Standing). sound_runs s n.runs n.reruns) is in
    (λ i. (sym (failed-below c n.runs n.reruns) i, sym (length-below c n.runs n.reruns) i))
    ∙ (λ i. (count_by failed (sym sound i), length (sym sound i)))
    ∙ ap (λ (b : Bool). cond {A = ℕ × ℕ} b (count_by failed (sound_in n), length (sound_in n)) (0, 0)) (sym same)

-- The sum over the searches of a test.

by-test : (f : Opening → ℕ) (test : List ℕ) (os : List Opening) →
    sum_by (λ (o : Opening). cond (bytes_eq o.test test) (f o) 0) os
    ≡ sum_by f (filter (λ (o : Opening). bytes_eq o.test test) os)
by-test f test [] = refl
by-test f test (o ∷ os) =
    let rest : List Opening = filter (λ (x : Opening). bytes_eq x.test test) os in
    sum_by-cons (λ (x : Opening). cond (bytes_eq x.test test) (f x) 0) o os
    ∙ elim (bytes_eq o.test test) as
    (λ b. cond b (f o) 0 + sum_by (λ (x : Opening). cond (bytes_eq x.test test) (f x) 0) os ≡ sum_by f (cond b (o ∷ rest) rest)) [
      | true ↦ ap (λ (n : ℕ). f o + n) (by-test f test os) ∙ sym (sum_by-cons f o rest)
      | false ↦ zero-add (sum_by (λ (x : Opening). cond (bytes_eq x.test test) (f x) 0) os) ∙ by-test f test os
    ]

sum-map : {X Y : Type 0} (g : X → Y) (f : Y → ℕ) (h : X → ℕ) → ((x : X) → f (g x) ≡ h x) → (xs : List X) →
    sum_by f (map g xs) ≡ sum_by h xs
sum-map g f h same [] = refl
sum-map g f h same (x ∷ xs) =
    sum_by-cons f (g x) (map g xs) ∙ (λ i. same x i + sum-map g f h same xs i) ∙ sym (sum_by-cons h x xs)

first-of : (b : Bool) (m n : ℕ) → (cond {A = ℕ × ℕ} b (m, n) (0, 0)).0 ≡ cond b m 0
first-of true m n = refl
first-of false m n = refl

second-of : (b : Bool) (m n : ℕ) → (cond {A = ℕ × ℕ} b (m, n) (0, 0)).1 ≡ cond b n 0
second-of true m n = refl
second-of false m n = refl

pub fails-sum : (H : List Entry) (test : List ℕ) →
    sum_by (λ (n : Noted). (told_in test n).0) (all_noted H) ≡ (tally H test).0
fails-sum H test =
    sum-map (noted_of H) (λ (n : Noted). (told_in test n).0)
    (λ (o : Opening). cond (bytes_eq o.test test) (count_by failed (sound_runs_of H o)) 0)
    (λ o. first-of (bytes_eq o.test test) (count_by failed (sound_runs_of H o)) (length (sound_runs_of H o))) (openings H)
    ∙ by-test (λ (o : Opening). count_by failed (sound_runs_of H o)) test (openings H)

pub runs-sum : (H : List Entry) (test : List ℕ) →
    sum_by (λ (n : Noted). (told_in test n).1) (all_noted H) ≡ (tally H test).1
runs-sum H test =
    sum-map (noted_of H) (λ (n : Noted). (told_in test n).1)
    (λ (o : Opening). cond (bytes_eq o.test test) (length (sound_runs_of H o)) 0)
    (λ o. second-of (bytes_eq o.test test) (count_by failed (sound_runs_of H o)) (length (sound_runs_of H o))) (openings H)
    ∙ by-test (λ (o : Opening). length (sound_runs_of H o)) test (openings H)

-- Fails are runs.

fewer-here : (b : Bool) (m n : ℕ) → m ≤ n → (cond {A = ℕ × ℕ} b (m, n) (0, 0)).0 ≤ (cond {A = ℕ × ℕ} b (m, n) (0, 0)).1
fewer-here true m n le = le
fewer-here false m n le = omega arith

pub told-fewer : (test : List ℕ) (n : Noted) → (told_in test n).0 ≤ (told_in test n).1
told-fewer test n =
    fewer-here (bytes_eq n.test test) (count_by failed (sound_in n)) (length (sound_in n)) (count-le failed (sound_in n))

pub tally-fewer : (ns : List Noted) (test : List ℕ) →
    sum_by (λ (n : Noted). (told_in test n).0) ns ≤ sum_by (λ (n : Noted). (told_in test n).1) ns
tally-fewer ns test =
    sum_by-le-sum_by (λ (n : Noted). (told_in test n).0) (λ (n : Noted). (told_in test n).1) ns (told-fewer test)

-- How great a tally may be.

option-length : {Y : Type 0} (y : Option Y) (ys : List Y) → length (cons_option y ys) ≤ length ys + 1
option-length None ys = omega arith
option-length (Some y) ys = omega arith

filter_map-le : {X Y : Type 0} (f : X → Option Y) (xs : List X) → length (filter_map f xs) ≤ length xs
filter_map-le f [] = omega arith
filter_map-le f (x ∷ xs) = omega (arith, filter_map-le f xs, option-length (f x) (filter_map f xs))

runs-few : (H : List Entry) (s : ℕ) (stage : Stage) → IsLegal H → length (counted H s stage) ≤ MAX_ENTRIES + 1
runs-few H s stage legal =
    omega (
      arith,
      filter_map-le (counted_run H s stage) (reports H),
      filter_map-le (λ (e : Entry). report_in e.what) H,
      entries-bounded H legal,
    )

-- a search of a legal history has few runs
pub noted-few : (H : List Entry) (o : Opening) → IsLegal H →
    length (noted_of H o).runs + length (noted_of H o).reruns ≤ 2 * (MAX_ENTRIES + 1)
noted-few H o legal = omega (arith, runs-few H o.search Search legal, runs-few H o.search Verify legal)

all-few : (H : List Entry) → (H ≡ []) ⊎ IsLegal H → All (λ (n : Noted). length n.runs + length n.reruns ≤ 2 * (MAX_ENTRIES + 1)) (all_noted H)
all-few H legal =
    All-map (λ (n : Noted). length n.runs + length n.reruns ≤ 2 * (MAX_ENTRIES + 1)) (noted_of H) (openings H)
    (λ k d below. ⊎_elim
    (λ (none : H ≡ []). absurd (omega (arith, below, ap (λ (X : List Entry). length (openings X)) none)))
    (λ (here : IsLegal H). noted-few H (get_or (openings H) k d) here) legal)

pub noted-few_all : (H : List Entry) → (H ≡ []) ⊎ IsLegal H → AreFew (all_noted H)
noted-few_all H legal k d below = let few = all-few H legal k d below in omega (arith, few)

sound-le : (s : Standing) (rs again : List Run) → length (sound_runs s rs again) ≤ length rs + length again
sound-le NoCulprit rs again = omega arith
sound-le (Confirmed c) rs again =
    omega (arith, length-below c rs again, count-le (is_below c) rs, count-le (is_below c) again)
sound-le Searching rs again = omega arith
sound-le (Verifying c) rs again = omega arith
sound-le (Vindicated c) rs again = omega arith
sound-le Inconclusive rs again = omega arith
sound-le Cancelled rs again = omega arith

small-here : (b : Bool) (m n k : ℕ) → n ≤ k → (cond {A = ℕ × ℕ} b (m, n) (0, 0)).1 ≤ k
small-here true m n k le = le
small-here false m n k le = omega arith

told-small : (test : List ℕ) (n : Noted) → length n.runs + length n.reruns ≤ 2 * (MAX_ENTRIES + 1) → (told_in test n).1 ≤ 2 * (MAX_ENTRIES + 1)
told-small test n few =
    small-here (bytes_eq n.test test) (count_by failed (sound_in n)) (length (sound_in n)) (2 * (MAX_ENTRIES + 1))
    (let le = sound-le n.standing n.runs n.reruns in omega (arith, le, few))

searches-few : (H : List Entry) → (H ≡ []) ⊎ IsLegal H → length (openings H) ≤ MAX_SEARCHES
searches-few H legal =
    ⊎_elim (λ (none : H ≡ []). omega (arith, ap (λ (X : List Entry). length (openings X)) none)) (openings-bounded H) legal

pub tally-small : (H : List Entry) (test : List ℕ) → (H ≡ []) ⊎ IsLegal H →
    sum_by (λ (n : Noted). (told_in test n).1) (all_noted H) < 2 ^ 48
tally-small H test legal =
    let le =
    sum_by-le (λ (n : Noted). (told_in test n).1) (2 * (MAX_ENTRIES + 1)) (all_noted H)
    (λ k d below. told-small test (get_or (all_noted H) k d) (all-few H legal k d below)) in
    omega (arith, le, length-map (openings H) (noted_of H), searches-few H legal)

-- What is told together is the tally.
pub told-tally : (H : List Entry) (test : List ℕ) → told_in_all test (all_noted H) ≡ tally H test
told-tally H test = λ i. (fails-sum H test i, runs-sum H test i)

-- a part of a sum and one number more fit in 64 bits, where what bounds the whole is small
pub sum-fits : (a b s t u v : ℕ) → a ≡ s → b ≡ t → s + t ≤ u → u ≤ v → v < 2 ^ 48 → a + b < 2 ^ 64
sum-fits a b s t u v first second part bound small = omega (arith, first, second, part, bound, small)
