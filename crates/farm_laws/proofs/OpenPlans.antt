-- What a plan over open positions holds: no more than its width, each above the floor and not skipped.
use Rattle.std.proofs.Common.{◌≡◌, ℕ, zero, suc, ◌+◌, ◌-◌, ◌<◌, ◌≤◌, Bool, true, false, not, nat_lt, if◌then◌else◌, List, [], ◌∷◌, length, All, Contains, Option, Some, None, refl, sym, subst, arith}
use Rattle.std.specs.List.{cons_option, filter_map, range_with_len}
use Rattle.std.proofs.lemmas.List.Elements.{All-contains_itself, All-weaker}
use Rattle.std.proofs.lemmas.List.FromFn.{length-range_with_len}
use Rattle.std.proofs.lemmas.Option.{none-some}
use Rattle.threshold_pick.specs.Open.{is_open, is_skipped, nearer, nearest_open, open_pick, open_plan}
use Rattle.weight_exact.specs.Load.{floor}
use Rattle.weight_exact.specs.Plan.{distance}
use Rattle.weight_exact.specs.Weights.{Setup, cumulative, suspects, total}
use Rattle.weight_exact.specs.declared.run.Run.{Run}
use Rattle.farm_laws.proofs.Known.{made-from}

-- a position above a floor and up to the last one that wasn't skipped
pub record IsOpenAbove (skips : List ℕ) (low last i : ℕ) : Type 0 where
  pub above : low < i
  pub within : i ≤ last
  pub kept : is_skipped skips i ≡ false

kept-of : (b : Bool) → not b ≡ true → b ≡ false
kept-of false h = refl
kept-of true h = sym h

-- the nearer of two is one of the two
nearer-one : (P : ℕ → Type 0) (away : ℕ → ℕ) (best : Option ℕ) (here : ℕ) → ((i : ℕ) → best ≡ Some i → P i) → P here →
    P (nearer away best here)
nearer-one P away None here first second = second
nearer-one P away (Some i) here first second =
    elim (nat_lt (away here) (away i)) as (λ b. P (if b then here else i)) [ true ↦ second | false ↦ first i refl ]

one-more : (P : ℕ → Type 0) (away : ℕ → ℕ) (best : Option ℕ) (here : ℕ) (b : Bool) → ((i : ℕ) → best ≡ Some i → P i) →
    (b ≡ true → P here) → (i : ℕ) → (if b then Some (nearer away best here) else best) ≡ Some i → P i
one-more P away best here true first second i is =
    let same : nearer away best here ≡ i = cc in subst P same (nearer-one P away best here first (second refl))
one-more P away best here false first second i is = first i is

nearest-open : (skips : List ℕ) (away : ℕ → ℕ) (low more i : ℕ) → nearest_open (is_open skips) away low more ≡ Some i →
    IsOpenAbove skips low (low + more) i
nearest-open skips away low zero i is = absurd (none-some i is)
nearest-open skips away low (suc more) i is =
    one-more (λ k. IsOpenAbove skips low (low + suc more) k) away (nearest_open (is_open skips) away low more) (low + suc more)
    (is_open skips (low + suc more))
    (λ k found.
    let before = nearest-open skips away low more k found in
    record { above = before.above; within = omega (arith, before.within); kept = before.kept })
    (λ passes. record { above = omega arith; within = omega arith; kept = kept-of (is_skipped skips (low + suc more)) passes })
    i is

pub open_plan-open : (s : Setup) (past : List Run) (skips : List ℕ) (k : ℕ) →
    All (IsOpenAbove skips (floor s.factors past) (suspects s)) (open_plan s past skips k)
open_plan-open s past skips k =
    let low = floor s.factors past in
    All-weaker (Contains (open_plan s past skips k)) (IsOpenAbove skips low (suspects s))
    (λ i there.
    let from = made-from (open_pick s past skips k) (range_with_len 1 k) i there in
    let is = nearest-open skips (λ q. distance (total s past) from.from k (cumulative s past q)) low (suspects s - low) i from.makes in
    record { above = is.above; within = omega (arith, is.above, is.within); kept = is.kept })
    (open_plan s past skips k) (All-contains_itself (open_plan s past skips k))

one-longer : {Y : Type 0} (o : Option Y) (rest : List Y) (n : ℕ) → length rest ≤ n → length (cons_option o rest) ≤ suc n
one-longer None rest n few = omega (arith, few)
one-longer (Some y) rest n few = omega (arith, few)

-- what is made of the members is no longer than they are
pub length-filter_map-le : {X Y : Type 0} (f : X → Option Y) (xs : List X) → length (filter_map f xs) ≤ length xs
length-filter_map-le f [] = omega arith
length-filter_map-le f (x ∷ xs) = one-longer (f x) (filter_map f xs) (length xs) (length-filter_map-le f xs)

pub length-open_plan : (s : Setup) (past : List Run) (skips : List ℕ) (k : ℕ) → length (open_plan s past skips k) ≤ k
length-open_plan s past skips k =
    omega (arith, length-filter_map-le (open_pick s past skips k) (range_with_len 1 k), length-range_with_len 1 k)
