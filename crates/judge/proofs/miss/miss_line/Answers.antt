use Rattle.std.proofs.Common.{◌≡◌, ◌^◌, ◌≤◌, ℕ, List, [], ◌∷◌, false, Some, None, refl, sym, arith}
use Rattle.std.proofs.lemmas.Bool.Decides.{nat_tests}
use Rattle.std.proofs.lemmas.Bool.{cond-false}
use Rattle.weight_exact.specs.Factors.{in_lowest_terms}
use Rattle.flake_rate.specs.Tests.{is_miss}
use Rattle.judge.specs.Form.{miss_of}
use Rattle.judge.proofs.Numbers.{formed-lacks}
use Rattle.judge.proofs.miss.miss_line.Goals as goal

no_miss_above : (c d : ℕ) → 2 ^ 32 ≤ c → is_miss c d ≡ false
no_miss_above c d large = grind (arith, nat_tests)

-- no numbers that begin at 2 ^ 32 or above are a miss rate's
miss_above : (c : ℕ) (ns : List ℕ) → 2 ^ 32 ≤ c → miss_of (c ∷ ns) ≡ None
miss_above c [] large = refl
miss_above c (d ∷ []) large = cond-false (is_miss c d) (Some (in_lowest_terms c d)) None (no_miss_above c d large)
miss_above c (d ∷ n ∷ ns) large = refl

pub returns-in_err-c : goal.returns-in_err-c
returns-in_err-c c =
    rw (c.from_residual-in_err-c.ensures, ← c.in_ok-words.ensures)
    (sym (formed-lacks miss_of (record { empty = refl; large = miss_above }) c.in_err-c.ensures.none))
