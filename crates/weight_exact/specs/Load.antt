-- What the kept numbers of a search have to hold: where its floor is, and which runs still tell hypotheses apart.
use Rattle.std.specs.Prelude.{ℕ, List, [], ◌∷◌, length, max, Bool, true, false, ◌&&◌, nat_lt, if◌then◌else◌, filter}
use Rattle.weight_exact.specs.declared.factors.Factors.{Factors}
use Rattle.weight_exact.specs.declared.run.Run.{Run}
use Rattle.weight_exact.specs.declared.run.Verdict.{Verdict}
use Rattle.weight_exact.specs.declared.run.Verdict.TheVariants.{Pass, Fail}

-- whether a verdict is a fail
abbrev pub is_fail : Verdict → Bool
is_fail Fail = true
is_fail Pass = false

-- the position of a run that passed, else 0
abbrev pub passed_at : Verdict → ℕ → ℕ
passed_at Pass position = position
passed_at Fail position = 0

-- the greatest position at which a run passed, or 0
abbrev pub last_pass : List Run → ℕ
last_pass [] = 0
last_pass (r ∷ rs) = max (passed_at r.verdict r.position) (last_pass rs)

-- whether a broken test may pass: whether a pass leaves the hypotheses in with a weight
abbrev pub may_miss : Factors → Bool
may_miss f = nat_lt 0 f.pass_in

-- The floor: where a broken test never passes, a pass at k clears suspects 1 to k, so the floor is the last pass.
-- Where it may pass, nobody is cleared
abbrev pub floor : Factors → List Run → ℕ
floor f runs = if may_miss f then 0 else last_pass runs

-- whether a run failed above a position
abbrev pub is_fail_above : ℕ → Run → Bool
is_fail_above k r = is_fail r.verdict && nat_lt k r.position

-- the runs that tell the hypotheses above the floor apart
abbrev pub live : Factors → List Run → List Run
live f runs = if may_miss f then runs else filter (is_fail_above (last_pass runs)) runs

-- the load: how many numbers of a run each kept weight is a product of
abbrev pub load : Factors → List Run → ℕ
load f runs = length (live f runs)
