-- The plan of a search, pick by pick.
use Rattle.std.proofs.Common.{◌≡◌, ℕ, zero, suc, ◌+◌, ◌-◌, ◌<◌, ◌≤◌, Bool, true, false, if◌then◌else◌, List, [], ◌∷◌, ◌++◌, Option, Some, None, is_some, length, refl, sym, ap, ◌∙◌, ⊎_elim, add-one, arith, le-ltb, lt-ltb, true≢false}
use Rattle.std.specs.List.{cons_option, filter_map, range_with_len}
use Rattle.std.proofs.lemmas.Bool.{cases_Bool}
use Rattle.threshold_pick.specs.Open.{is_open, nearer, nearest_open, open_pick, open_plan}
use Rattle.weight_exact.specs.Load.{floor}
use Rattle.weight_exact.specs.Plan.{distance}
use Rattle.weight_exact.specs.Weights.{Setup, cumulative, suspects, total}
use Rattle.weight_exact.specs.declared.run.Run.{Run}
use Rattle.farm_rules.specs.Due.{due_search, first_entry, struck}

-- All picks are there, or none.

-- whether a position is open, among the first `more` above the floor
abbrev any_open : (ℕ → Bool) → (low more : ℕ) → Bool
any_open open_at low zero = false
any_open open_at low (suc more) = if open_at (low + suc more) then true else any_open open_at low more

is_some-if : (b : Bool) (x : ℕ) (y : Option ℕ) → is_some (if b then Some x else y) ≡ (if b then true else is_some y)
is_some-if true x y = refl
is_some-if false x y = refl

is_some-nearest : (open_at : ℕ → Bool) (away : ℕ → ℕ) (low more : ℕ) →
    is_some (nearest_open open_at away low more) ≡ any_open open_at low more
is_some-nearest open_at away low zero = refl
is_some-nearest open_at away low (suc more) =
    let before : Option ℕ = nearest_open open_at away low more in
    is_some-if (open_at (low + suc more)) (nearer away before (low + suc more)) before
    ∙ ap (λ (b : Bool). if open_at (low + suc more) then true else b) (is_some-nearest open_at away low more)

picks-alike : (s : Setup) (runs : List Run) (skipped : List ℕ) (k i j : ℕ) →
    is_some (open_pick s runs skipped k i) ≡ is_some (open_pick s runs skipped k j)
picks-alike s runs skipped k i j =
    let low = floor s.factors runs in
    let away : ℕ → ℕ → ℕ = λ n p. distance (total s runs) n k (cumulative s runs p) in
    is_some-nearest (is_open skipped) (away i) low (suspects s - low)
    ∙ sym (is_some-nearest (is_open skipped) (away j) low (suspects s - low))

none-of : (x : Option ℕ) → is_some x ≡ false → x ≡ None
none-of None missing = refl
none-of (Some p) missing = absurd (true≢false missing)

-- where one pick is there all are, and where one isn't none is
pub pick-there : (s : Setup) (runs : List Run) (skipped : List ℕ) (k i p : ℕ) →
    open_pick s runs skipped k i ≡ Some p → (j : ℕ) → is_some (open_pick s runs skipped k j) ≡ true
pick-there s runs skipped k i p here j = picks-alike s runs skipped k j i ∙ ap is_some here

pub pick-missing : (s : Setup) (runs : List Run) (skipped : List ℕ) (k i : ℕ) →
    open_pick s runs skipped k i ≡ None → (j : ℕ) → open_pick s runs skipped k j ≡ None
pick-missing s runs skipped k i none j =
    none-of (open_pick s runs skipped k j) (picks-alike s runs skipped k j i ∙ ap is_some none)

-- A list of picks.

length-cons_option : (x : Option ℕ) (xs : List ℕ) → is_some x ≡ true → length (cons_option x xs) ≡ suc (length xs)
length-cons_option None xs there = absurd (true≢false (sym there))
length-cons_option (Some p) xs there = refl

length-there : (f : ℕ → Option ℕ) (a n : ℕ) → ((j : ℕ) → is_some (f j) ≡ true) →
    length (filter_map f (range_with_len a n)) ≡ n
length-there f a zero all = refl
length-there f a (suc n) all =
    length-cons_option (f a) (filter_map f (range_with_len (a + 1) n)) (all a) ∙ ap suc (length-there f (a + 1) n all)

none-there : (f : ℕ → Option ℕ) (a n : ℕ) → ((j : ℕ) → f j ≡ None) → filter_map f (range_with_len a n) ≡ []
none-there f a zero none = refl
none-there f a (suc n) none =
    ap (λ (x : Option ℕ). cons_option x (filter_map f (range_with_len (a + 1) n))) (none a)
    ∙ none-there f (a + 1) n none

cons_option-append : (x : Option ℕ) (xs ys : List ℕ) → cons_option x (xs ++ ys) ≡ cons_option x xs ++ ys
cons_option-append None xs ys = refl
cons_option-append (Some p) xs ys = refl

-- the picks before one, that one and those after it
picks-at : (f : ℕ → Option ℕ) (a j n i p : ℕ) → j < n → a + j ≡ i → f i ≡ Some p →
    (after : List ℕ) × (filter_map f (range_with_len a n) ≡ filter_map f (range_with_len a j) ++ p ∷ after)
picks-at f a j zero i p less at here = absurd (omega arith)
picks-at f a zero (suc n) i p less at here =
    let rest : List ℕ = filter_map f (range_with_len (a + 1) n) in
    let first : a ≡ i = omega (arith, at) in
    (rest, ap (λ (x : Option ℕ). cons_option x rest) (ap f first ∙ here))
picks-at f a (suc j) (suc n) i p less at here =
    let rest = picks-at f (a + 1) j n i p (omega (arith, less)) (omega (arith, at)) here in (
      rest.0,
      ap (λ (xs : List ℕ). cons_option (f a) xs) rest.1
          ∙ cons_option-append (f a) (filter_map f (range_with_len (a + 1) j)) (p ∷ rest.0),
    )

-- the first j picks that are there
abbrev pub open_plan_to : Setup → List Run → (skipped : List ℕ) → (k j : ℕ) → List ℕ
open_plan_to s runs skipped k j = filter_map (open_pick s runs skipped k) (range_with_len 1 j)

-- and with one more
picks-suc : (f : ℕ → Option ℕ) (a n i p : ℕ) → a + n ≡ i → f i ≡ Some p →
    filter_map f (range_with_len a (suc n)) ≡ filter_map f (range_with_len a n) ++ p ∷ []
picks-suc f a zero i p at here =
    let first : a ≡ i = omega (arith, at) in ap (λ (x : Option ℕ). cons_option x []) (ap f first ∙ here)
picks-suc f a (suc n) i p at here =
    ap (λ (xs : List ℕ). cons_option (f a) xs) (picks-suc f (a + 1) n i p (omega (arith, at)) here)
    ∙ cons_option-append (f a) (filter_map f (range_with_len (a + 1) n)) (p ∷ [])

pub picks-more : (s : Setup) (runs : List Run) (skipped : List ℕ) (k j p : ℕ) →
    Some p ≡ open_pick s runs skipped k (j + 1) →
    open_plan_to s runs skipped k (j + 1) ≡ open_plan_to s runs skipped k j ++ p ∷ []
picks-more s runs skipped k j p here =
    ap (λ (n : ℕ). open_plan_to s runs skipped k n) (add-one j)
    ∙ picks-suc (open_pick s runs skipped k) 1 j (j + 1) p (omega arith) (sym here)

-- What is due.

-- fewer runs are out than the plan has places
due-room : (s : Setup) (runs : List Run) (skipped : List ℕ) (k : ℕ) (out : List ℕ) →
    ((j : ℕ) → is_some (open_pick s runs skipped k j) ≡ true) → length out < k →
    due_search (open_plan s runs skipped k) out ≡ first_entry (struck (open_plan s runs skipped k) out)
due-room s runs skipped k out all room =
    let places : List ℕ = open_plan s runs skipped k in
    let long : length places ≡ k = length-there (open_pick s runs skipped k) 1 k all in
    ap (λ (b : Bool). if b then first_entry (struck places out) else None)
    (lt-ltb (length out) (length places) (omega (arith, room, long)))

-- a pick that is left whatever comes after it is due
pub pick-due : (s : Setup) (runs : List Run) (skipped : List ℕ) (k j : ℕ) (out : List ℕ) (position : ℕ) →
    length out < k → j < k → Some position ≡ open_pick s runs skipped k (j + 1) →
    ((after : List ℕ) →
    first_entry (struck (open_plan_to s runs skipped k j ++ position ∷ after) out) ≡ Some position) →
    Some position ≡ due_search (open_plan s runs skipped k) out
pick-due s runs skipped k j out position room within here left =
    let rest = picks-at (open_pick s runs skipped k) 1 j k (j + 1) position within (omega arith) (sym here) in
    sym
    (due-room s runs skipped k out (pick-there s runs skipped k (j + 1) position (sym here)) room
    ∙ ap (λ (xs : List ℕ). first_entry (struck xs out)) rest.1
    ∙ left rest.0)

-- nothing is due of no place
due-no_place : (out : List ℕ) → due_search [] out ≡ None
due-no_place out =
    ap (λ (b : Bool). if b then first_entry (struck [] out) else None) (le-ltb (length out) 0 (omega arith))

-- nothing is due where no position is open
pub closed-none : (s : Setup) (runs : List Run) (skipped : List ℕ) (k j : ℕ) (out : List ℕ) →
    None ≡ open_pick s runs skipped k j → None ≡ due_search (open_plan s runs skipped k) out
closed-none s runs skipped k j out none =
    sym
    (ap (λ (xs : List ℕ). due_search xs out)
    (none-there (open_pick s runs skipped k) 1 k (pick-missing s runs skipped k j (sym none)))
    ∙ due-no_place out)

-- nor where as many runs are out as the search is wide
pub full-none : (s : Setup) (runs : List Run) (skipped : List ℕ) (k : ℕ) (out : List ℕ) → k ≤ length out →
    None ≡ due_search (open_plan s runs skipped k) out
full-none s runs skipped k out full =
    let places : List ℕ = open_plan s runs skipped k in
    ⊎_elim
    (λ (there : is_some (open_pick s runs skipped k 1) ≡ true).
    let long : length places ≡ k =
    length-there (open_pick s runs skipped k) 1 k (λ j. picks-alike s runs skipped k j 1 ∙ there) in
    sym
    (ap (λ (b : Bool). if b then first_entry (struck places out) else None)
    (le-ltb (length out) (length places) (omega (arith, full, long)))))
    (λ (missing : is_some (open_pick s runs skipped k 1) ≡ false).
    closed-none s runs skipped k 1 out (sym (none-of (open_pick s runs skipped k 1) missing)))
    (cases_Bool (is_some (open_pick s runs skipped k 1)))
