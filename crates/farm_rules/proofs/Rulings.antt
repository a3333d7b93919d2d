-- What counts of reruns say of their list.
use Rattle.std.proofs.Common.{◌≡◌, ℕ, ◌+◌, ◌-◌, ◌==◌, ◌<◌, ◌≤◌, ◌⊎◌, List, [], ◌∷◌, ◌++◌, Bool, true, false, not, ◌&&◌, ◌||◌, cond, nat_le, nat_lt, count_by, refl, sym, ◌∙◌, ap, arith, eq-eqb, ne_eqb, le-leb, lt-ltb, le-ltb, ⊎_elim}
use Rattle.std.proofs.lemmas.Bool.{cases_Bool, cases_lt, lt-leb, or_parts}
use Rattle.std.proofs.lemmas.List.Sums.{sum_by-cons, sum_by-append}
use Rattle.std.proofs.lemmas.List.Folds.{list_any-append}
use Rattle.weight_exact.specs.Counts.{is_fail_at, is_pass_at}
use Rattle.farm_rules.specs.Reruns.{is_against, vindicated, Outcome as Ruling, outcome, verifying, confirmed, vindicating, is_verifying, reruns_at, counts}
use Rattle.weight_exact.specs.Load.{is_fail}
use Rattle.weight_exact.specs.declared.run.Run.{Run}
use Rattle.weight_exact.specs.declared.run.Verdict.{Verdict}
use Rattle.weight_exact.specs.declared.run.Verdict.TheVariants.{Pass, Fail}
use Rattle.farm_rules.specs.declared.outcome.Outcome.TheVariants.{Open, Confirmed, Late}
use Rattle.farm_rules.specs.Answer.{said}
use Rattle.farm_rules.specs.Verification.{Verification}
use Rattle.farm_rules.specs.StandsFor.{StandsFor, counted_at}

abbrev pub one_if : Bool → ℕ
one_if test = cond test 1 0

-- one rerun, counted at a position
abbrev pub one_at : (position : ℕ) → Run → ℕ
one_at position r = one_if (r.position == position)

pub one_at-same : (position : ℕ) (r : Run) → r.position ≡ position → one_at position r ≡ 1
one_at-same position r same = let test : (r.position == position) ≡ true = eq-eqb r.position position same in rw test

pub one_at-other : (position : ℕ) (r : Run) → (r.position ≡ position → ⊥) → one_at position r ≡ 0
one_at-other position r other = let test : (r.position == position) ≡ false = ne_eqb r.position position other in rw test

pub reruns_at-snoc : (position : ℕ) (reruns : List Run) (r : Run) →
    reruns_at position (reruns ++ r ∷ []) ≡ reruns_at position reruns + one_at position r
reruns_at-snoc position reruns r =
    let joined : reruns_at position (reruns ++ r ∷ []) ≡ reruns_at position reruns + reruns_at position (r ∷ []) =
    sum_by-append (one_at position) reruns (r ∷ []) in
    let last : reruns_at position (r ∷ []) ≡ one_at position r + 0 = sum_by-cons (one_at position) r [] in
    omega (arith, joined, last)

or_false : (b : Bool) → (b || false) ≡ b
or_false true = refl
or_false false = refl

pub vindicated-snoc : (culprit : ℕ) (reruns : List Run) (r : Run) →
    vindicated culprit (reruns ++ r ∷ []) ≡ (vindicated culprit reruns || is_against culprit r)
vindicated-snoc culprit reruns r =
    list_any-append (is_against culprit) reruns (r ∷ [])
    ∙ ap (λ (b : Bool). vindicated culprit reruns || b) (or_false (is_against culprit r))

-- the first and the rest of two tests of which neither passes
-- a rerun that doesn't speak against the culprit failed at it, or passed at its parent
fails-of_not_against : (verdict : Verdict) (here below : Bool) →
    ((not (is_fail verdict) && here) || (is_fail verdict && below)) ≡ false → one_if (is_fail verdict && here) ≡ one_if here
fails-of_not_against Fail here below e = refl
fails-of_not_against Pass true below e = cc
fails-of_not_against Pass false below e = refl

passes-of_not_against : (verdict : Verdict) (here below : Bool) →
    ((not (is_fail verdict) && here) || (is_fail verdict && below)) ≡ false
    → one_if (not (is_fail verdict) && below) ≡ one_if below
passes-of_not_against Pass here below e = refl
passes-of_not_against Fail here true e = cc
passes-of_not_against Fail here false e = refl

-- where no rerun speaks against the culprit, all at it failed
pub fails-not_vindicated : (culprit : ℕ) (reruns : List Run) → vindicated culprit reruns ≡ false →
    count_by (is_fail_at culprit) reruns ≡ reruns_at culprit reruns
fails-not_vindicated culprit [] none = refl
fails-not_vindicated culprit (r ∷ rs) none =
    let first : one_if (is_fail_at culprit r) ≡ one_at culprit r =
    fails-of_not_against r.verdict (r.position == culprit) (r.position == culprit - 1)
    (or_parts (is_against culprit r) (vindicated culprit rs) none).0 in
    let rest = fails-not_vindicated culprit rs (or_parts (is_against culprit r) (vindicated culprit rs) none).1 in
    let fails : count_by (is_fail_at culprit) (r ∷ rs) ≡ one_if (is_fail_at culprit r) + count_by (is_fail_at culprit) rs =
    sum_by-cons (λ (x : Run). one_if (is_fail_at culprit x)) r rs in
    let all : reruns_at culprit (r ∷ rs) ≡ one_at culprit r + reruns_at culprit rs = sum_by-cons (one_at culprit) r rs in
    omega (arith, first, rest, fails, all)

-- and all at its parent passed
pub passes-not_vindicated : (culprit : ℕ) (reruns : List Run) → vindicated culprit reruns ≡ false →
    count_by (is_pass_at (culprit - 1)) reruns ≡ reruns_at (culprit - 1) reruns
passes-not_vindicated culprit [] none = refl
passes-not_vindicated culprit (r ∷ rs) none =
    let parent = culprit - 1 in
    let first : one_if (is_pass_at parent r) ≡ one_at parent r =
    passes-of_not_against r.verdict (r.position == culprit) (r.position == parent)
    (or_parts (is_against culprit r) (vindicated culprit rs) none).0 in
    let rest = passes-not_vindicated culprit rs (or_parts (is_against culprit r) (vindicated culprit rs) none).1 in
    let passes : count_by (is_pass_at parent) (r ∷ rs) ≡ one_if (is_pass_at parent r) + count_by (is_pass_at parent) rs =
    sum_by-cons (λ (x : Run). one_if (is_pass_at parent x)) r rs in
    let all : reruns_at parent (r ∷ rs) ≡ one_at parent r + reruns_at parent rs = sum_by-cons (one_at parent) r rs in
    omega (arith, first, rest, passes, all)

-- what reruns come to, by the numbers that a verification keeps
pub outcome-kept : (v : Verification) (reruns : List Run) → StandsFor v reruns →
    outcome v.culprit v.asked reruns
    ≡ cond v.against vindicating (cond (nat_le v.asked v.at_culprit && nat_le v.asked v.at_parent) confirmed verifying)
outcome-kept v reruns stands =
    ⊎_elim
    (λ (some : vindicated v.culprit reruns ≡ true). rw (stands.against_is, some) refl)
    (λ (none : vindicated v.culprit reruns ≡ false).
    rw (
      stands.against_is,
      none,
      fails-not_vindicated v.culprit reruns none,
      passes-not_vindicated v.culprit reruns none,
      stands.at_culprit_is,
      stands.at_parent_is,
    ) refl)
    (cases_Bool (vindicated v.culprit reruns))

-- how many reruns were made at a side
pub reruns_at-kept : (v : Verification) (reruns : List Run) (position : ℕ) → StandsFor v reruns →
    (position ≡ v.culprit) ⊎ (position + 1 ≡ v.culprit) → reruns_at position reruns ≡ counted_at v position
reruns_at-kept v reruns position stands side =
    ⊎_elim
    (λ (same : position ≡ v.culprit).
    let test : (position == v.culprit) ≡ true = eq-eqb position v.culprit same in
    rw test (ap (λ (p : ℕ). reruns_at p reruns) same ∙ sym stands.at_culprit_is))
    (λ (below : position + 1 ≡ v.culprit).
    let test : (position == v.culprit) ≡ false = ne_eqb position v.culprit (λ e. omega (arith, e, below)) in
    let parent : position ≡ v.culprit - 1 = omega (arith, below) in
    rw test (ap (λ (p : ℕ). reruns_at p reruns) parent ∙ sym stands.at_parent_is))
    side

-- what a verification says, by its numbers
pub said-confirmed : (v : Verification) (reruns : List Run) → StandsFor v reruns → v.against ≡ false →
    v.asked ≤ v.at_culprit → v.asked ≤ v.at_parent → Confirmed ≡ said (outcome v.culprit v.asked reruns)
said-confirmed v reruns stands for culprit_has parent_has =
    let first : nat_le v.asked v.at_culprit ≡ true = le-leb v.asked v.at_culprit culprit_has in
    let second : nat_le v.asked v.at_parent ≡ true = le-leb v.asked v.at_parent parent_has in
    rw (outcome-kept v reruns stands, for, first, second) refl

pub said-open_at_culprit : (v : Verification) (reruns : List Run) → StandsFor v reruns → v.against ≡ false →
    v.at_culprit < v.asked → Open ≡ said (outcome v.culprit v.asked reruns)
said-open_at_culprit v reruns stands for room =
    let first : nat_le v.asked v.at_culprit ≡ false = lt-leb v.asked v.at_culprit room in
    rw (outcome-kept v reruns stands, for, first) refl

pub said-open_at_parent : (v : Verification) (reruns : List Run) → StandsFor v reruns → v.against ≡ false →
    v.asked ≤ v.at_culprit → v.at_parent < v.asked → Open ≡ said (outcome v.culprit v.asked reruns)
said-open_at_parent v reruns stands for culprit_has room =
    let first : nat_le v.asked v.at_culprit ≡ true = le-leb v.asked v.at_culprit culprit_has in
    let second : nat_le v.asked v.at_parent ≡ false = lt-leb v.asked v.at_parent room in
    rw (outcome-kept v reruns stands, for, first, second) refl

-- an answer says whether reruns go on
is_verifying-said_open : (ruling : Ruling) → said ruling ≡ Open → is_verifying ruling ≡ true
is_verifying-said_open verifying e = refl
is_verifying-said_open confirmed e = cc
is_verifying-said_open vindicating e = cc

-- no ruling is said to be late
pub said-not_late : (ruling : Ruling) → said ruling ≡ Late → ⊥
said-not_late verifying e = cc
said-not_late confirmed e = cc
said-not_late vindicating e = cc

-- before the end, a rerun counts while its side has room
pub counts-open : (v : Verification) (reruns : List Run) (r : Run) → StandsFor v reruns →
    (r.position ≡ v.culprit) ⊎ (r.position + 1 ≡ v.culprit) → said (outcome v.culprit v.asked reruns) ≡ Open →
    counts v.culprit v.asked reruns r ≡ nat_lt (counted_at v r.position) v.asked
counts-open v reruns r stands side going =
    rw (is_verifying-said_open (outcome v.culprit v.asked reruns) going, reruns_at-kept v reruns r.position stands side) refl

-- a verification with one rerun more at the culprit, or at its parent
pub StandsFor-at_culprit : (v : Verification) (reruns : List Run) (r : Run) → StandsFor v reruns → 1 ≤ v.culprit →
    r.position ≡ v.culprit →
    StandsFor
    (record {
      culprit = v.culprit;
      asked = v.asked;
      at_culprit = v.at_culprit + 1;
      at_parent = v.at_parent;
      against = v.against || is_against v.culprit r;
    })
    (reruns ++ r ∷ [])
StandsFor-at_culprit v reruns r stands suspect here =
    let parent = v.culprit - 1 in
    record {
      at_culprit_is = omega (arith, stands.at_culprit_is, reruns_at-snoc v.culprit reruns r, one_at-same v.culprit r here);
      at_parent_is =
          omega (arith, stands.at_parent_is, reruns_at-snoc parent reruns r, one_at-other parent r (λ e. omega (arith, e, here, suspect)));
      against_is = ap (λ (b : Bool). b || is_against v.culprit r) stands.against_is ∙ sym (vindicated-snoc v.culprit reruns r);
    }

pub StandsFor-at_parent : (v : Verification) (reruns : List Run) (r : Run) → StandsFor v reruns → r.position + 1 ≡ v.culprit →
    StandsFor
    (record {
      culprit = v.culprit;
      asked = v.asked;
      at_culprit = v.at_culprit;
      at_parent = v.at_parent + 1;
      against = v.against || is_against v.culprit r;
    })
    (reruns ++ r ∷ [])
StandsFor-at_parent v reruns r stands below =
    let parent = v.culprit - 1 in
    record {
      at_culprit_is =
          omega (arith, stands.at_culprit_is, reruns_at-snoc v.culprit reruns r, one_at-other v.culprit r (λ e. omega (arith, e, below)));
      at_parent_is =
          omega (arith, stands.at_parent_is, reruns_at-snoc parent reruns r, one_at-same parent r (omega (arith, below)));
      against_is = ap (λ (b : Bool). b || is_against v.culprit r) stands.against_is ∙ sym (vindicated-snoc v.culprit reruns r);
    }

le-not_lt : (a b : ℕ) → nat_le a b ≡ not (nat_lt b a)
le-not_lt a b =
    ⊎_elim
    (λ (less : b < a).
    let first : nat_le a b ≡ false = lt-leb a b less in
    let second : nat_lt b a ≡ true = lt-ltb b a less in
    rw (first, second) refl)
    (λ (more : a ≤ b).
    let first : nat_le a b ≡ true = le-leb a b more in
    let second : nat_lt b a ≡ false = le-ltb b a more in
    rw (first, second) refl)
    (cases_lt b a)

-- before the end, a rerun is late where its side has its reruns
pub late-open : (v : Verification) (reruns : List Run) (r : Run) (counted : ℕ) → StandsFor v reruns →
    (r.position ≡ v.culprit) ⊎ (r.position + 1 ≡ v.culprit) → counted ≡ counted_at v r.position →
    said (outcome v.culprit v.asked reruns) ≡ Open → nat_le v.asked counted ≡ not (counts v.culprit v.asked reruns r)
late-open v reruns r counted stands side counted_is going =
    rw (counts-open v reruns r stands side going, counted_is) (le-not_lt v.asked (counted_at v r.position))

-- whether a rerun counts, from whether it is late
pub counts-in_time : (late counted : Bool) → late ≡ not counted → late ≡ false → counted ≡ true
counts-in_time late true is here = refl
counts-in_time late false is here = cc

pub counts-late : (late counted : Bool) → late ≡ not counted → late ≡ true → counted ≡ false
counts-late late true is here = cc
counts-late late false is here = refl

pub true-not_false : (b : Bool) → b ≡ true → b ≡ false → ⊥
true-not_false true is isnt = cc
true-not_false false is isnt = cc

-- a rerun, by its parts
abbrev pub noted : ℕ → Verdict → Run
noted position verdict = record { position = position; verdict = verdict }
