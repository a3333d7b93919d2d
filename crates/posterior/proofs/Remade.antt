-- A belief whose counts and sums are made anew.
use Rattle.std.proofs.Common.{◌≡◌, ℕ, ◌+◌, ◌<◌, ◌≤◌, List, length, sum, arith}
use Rattle.weight_exact.specs.Weights.{Setup, hypotheses, sum_to}
use Rattle.weight_exact.specs.Budget.{Fits, run_budget}
use Rattle.weight_exact.proofs.Budgets.{Fits-fewer}
use Rattle.posterior.specs.Kept.{Kept, at}
use Rattle.posterior.specs.Counted.{AreCleared, counted}
use Rattle.posterior.specs.BeliefFacts.{IsKept, weight_in}

-- a belief by its parts
abbrev pub kept : Setup → ℕ → ℕ → List ℕ → List ℕ → List ℕ → Kept
kept s floor load fails passes sums = record { setup = s; floor = floor; load = load; fails = fails; passes = passes; sums = sums }

-- what is kept of the new counts and sums, where the setup is as before
pub remade : (s : Setup) (f l : ℕ) (fs ps ss : List ℕ) → IsKept (kept s f l fs ps ss)
    → (f' l' : ℕ) (fs' ps' ss' : List ℕ) → length fs' ≡ length fs → length ps' ≡ length ps → length ss' ≡ length ss
    → f' < hypotheses s → (1 ≤ s.factors.pass_in → f' ≡ 0) → AreCleared f' fs' → AreCleared f' ps' → (s.factors.pass_in ≡ 0 → counted ps' ≡ 0)
    → l' ≡ counted fs' + counted ps' → l' ≤ run_budget s
    → ((i : ℕ) → 1 ≤ i → i ≤ hypotheses s → at ss' i ≡ sum_to (weight_in (kept s f' l' fs' ps' ss')) i)
    → IsKept (kept s f' l' fs' ps' ss')
remade s f l fs ps ss k f' l' fs' ps' ss' fails_long passes_long sums_long low missed fails_cleared passes_cleared no_passes load_is within sums_are = record {
  some_suspect = k.some_suspect;
  few_suspects = k.few_suspects;
  some_calm = k.some_calm;
  some_fail = k.some_fail;
  some_pass = k.some_pass;
  above_half = k.above_half;
  below_one = k.below_one;
  fine = k.fine;
  fits = k.fits;
  as_many_fails = omega (arith, k.as_many_fails);
  as_many_passes = omega (arith, k.as_many_passes);
  as_many_sums = omega (arith, k.as_many_sums);
  floor_low = low;
  floor_if_missed = missed;
  fails_cleared = fails_cleared;
  passes_cleared = passes_cleared;
  no_passes = no_passes;
  load_is = load_is;
  within = within;
  sums_are = sums_are;
}

-- a load within the budget fits
pub load_fits : (s : Setup) (load : ℕ) → 1 ≤ s.factors.fail_out → Fits (sum s.priors) s.factors (run_budget s) → load ≤ run_budget s → Fits (sum s.priors) s.factors load
load_fits s load some fits within = Fits-fewer (sum s.priors) s.factors (run_budget s) load (omega arith) within fits
