-- The cases of a standing, forwards and backwards, but for those that the reruns of a suspect decide.
use Rattle.std.proofs.Common.{◌≡◌, ℕ, ◌-◌, ◌==◌, ◌<◌, ◌≤◌, ◌⊎◌, inl, inr, ⊎_elim, Bool, true, false, ◌&&◌, ◌||◌, nat_lt, if◌then◌else◌, List, count_by, Contains, Option, Some, None, refl, sym, ap, subst, ◌∙◌, arith, true≢false, ltb-true, lt-ltb}
use Rattle.std.proofs.lemmas.Bool.{cases_Bool, false_from_ne_true}
use Rattle.std.proofs.lemmas.Bool.Decides.{nat_tests}
use Rattle.std.proofs.lemmas.Option.{none-some}
use Rattle.threshold_pick.specs.HiddenBlocks.{is_hidden}
use Rattle.threshold_pick.specs.Open.{is_skipped}
use Rattle.weight_exact.specs.Counts.{is_fail_at, is_pass_at}
use Rattle.weight_exact.specs.Share.{IsReached}
use Rattle.weight_exact.specs.Weights.{hypotheses}
use Rattle.weight_exact.specs.declared.run.Run.{Run}
use Rattle.weight_exact.proofs.Shares.{reached-none, reached-some, unreached-from_none, IsReached-from_some}
use Rattle.farm_rules.specs.Reruns.{confirmed, enough, outcome, verifying, vindicated, vindicating}
use Rattle.farm_entry.specs.History.{openings, reruns, runs, skipped, was_cancelled, went_over}
use Rattle.farm_entry.specs.Legal.{IsLegal}
use Rattle.farm_entry.specs.Setup.{setup_of}
use Rattle.farm_entry.specs.Standing.{at_bar, lacks, standing, standing_of_hidden, standing_of_outcome, standing_of_reached}
use Rattle.farm_entry.specs.declared.entry.Entry.{Entry}
use Rattle.farm_entry.specs.declared.opening.Opening.{Opening}
use Rattle.farm_entry.specs.declared.standing.Standing.{Standing}
use Rattle.farm_entry.specs.declared.standing.Standing.TheVariants.{Searching, Verifying, Confirmed, Vindicated, NoCulprit, Inconclusive, Cancelled}
use Rattle.farm_laws.specs.Laws.{culprit_of}
use Rattle.farm_laws.proofs.InRange.{total-some}
use Rattle.farm_laws.proofs.OpenLimits.{open_within, setup_facts}
use Rattle.leaf_laws.specs.Stands.{CannotBeRerun, IsAtBar, IsBelieved, IsInconclusive, IsNamed, IsOpen, IsUndecided, IsUnprovable, none_apart, none_open, over_budget, unprovable}
use Rattle.leaf_laws.proofs.Apart.{hidden-tested, open-cases, shut-hidden, tested-hidden}
use Rattle.leaf_laws.proofs.Sides.{counts-lacking, none_vindicated-silent, silent-vindicated}

or-false : (b : Bool) → (b || false) ≡ b
or-false true = refl
or-false false = refl

or-true : (b : Bool) → (b || true) ≡ true
or-true true = refl
or-true false = refl

-- A search stands so: the cases in their order. `hidden` says whether hypotheses that skipped positions alone part are at
-- the bar together, `n` which hypothesis is at the bar.

-- a suspect is at the bar of a search that goes by its belief
pub record NamesBy (o : Opening) (cancelled over : Bool) (n : Option ℕ) (c : ℕ) : Type 0 where
  pub kept : cancelled ≡ false
  pub within : over ≡ false
  pub bar : n ≡ Some c
  pub other : c == hypotheses (setup_of o) ≡ false

pub data StandsBy (o : Opening) (cancelled over hidden : Bool) (skips : List ℕ) (again : List Run) (n : Option ℕ)
    (s : Standing) : Type 0 where
  by_cancel : cancelled ≡ true → Cancelled ≡ s → StandsBy o cancelled over hidden skips again n s
  by_budget : cancelled ≡ false → over ≡ true → Inconclusive ≡ s → StandsBy o cancelled over hidden skips again n s
  by_none : cancelled ≡ false → over ≡ false → n ≡ None → hidden ≡ false → Searching ≡ s →
      StandsBy o cancelled over hidden skips again n s
  by_hidden : cancelled ≡ false → over ≡ false → n ≡ None → hidden ≡ true → Inconclusive ≡ s →
      StandsBy o cancelled over hidden skips again n s
  by_calm : cancelled ≡ false → over ≡ false → n ≡ Some (hypotheses (setup_of o)) → NoCulprit ≡ s →
      StandsBy o cancelled over hidden skips again n s
  by_against : (c : ℕ) → NamesBy o cancelled over n c → vindicated c again ≡ true → Vindicated c ≡ s →
      StandsBy o cancelled over hidden skips again n s
  by_full : (c : ℕ) → NamesBy o cancelled over n c → vindicated c again ≡ false → enough c o.reruns again ≡ true →
      Confirmed c ≡ s → StandsBy o cancelled over hidden skips again n s
  by_stuck : (c : ℕ) → NamesBy o cancelled over n c → vindicated c again ≡ false → enough c o.reruns again ≡ false →
      lacks c o.reruns skips again ≡ true → Inconclusive ≡ s → StandsBy o cancelled over hidden skips again n s
  by_open : (c : ℕ) → NamesBy o cancelled over n c → vindicated c again ≡ false → enough c o.reruns again ≡ false →
      lacks c o.reruns skips again ≡ false → Verifying c ≡ s → StandsBy o cancelled over hidden skips again n s

number-same : (a b : ℕ) → a == b ≡ true → a ≡ b
number-same a b h = grind (arith, nat_tests)

by_outcome : (o : Opening) (hidden : Bool) (skips : List ℕ) (again : List Run) (c : ℕ) (s : Standing)
    (against full lacking : Bool) → NamesBy o false false (Some c) c → vindicated c again ≡ against →
    enough c o.reruns again ≡ full → lacks c o.reruns skips again ≡ lacking →
    standing_of_outcome c lacking (if against then vindicating else (if full then confirmed else verifying)) ≡ s →
    StandsBy o false false hidden skips again (Some c) s
by_outcome o hidden skips again c s true full lacking names e1 e2 e3 h = by_against c names e1 h
by_outcome o hidden skips again c s false true lacking names e1 e2 e3 h = by_full c names e1 e2 h
by_outcome o hidden skips again c s false false true names e1 e2 e3 h = by_stuck c names e1 e2 e3 h
by_outcome o hidden skips again c s false false false names e1 e2 e3 h = by_open c names e1 e2 e3 h

by_number : (o : Opening) (hidden : Bool) (skips : List ℕ) (again : List Run) (c : ℕ) (s : Standing) (b : Bool) →
    c == hypotheses (setup_of o) ≡ b →
    (if b then NoCulprit else standing_of_outcome c (lacks c o.reruns skips again) (outcome c o.reruns again)) ≡ s →
    StandsBy o false false hidden skips again (Some c) s
by_number o hidden skips again c s true e h = by_calm refl refl (ap Some (number-same c (hypotheses (setup_of o)) e)) h
by_number o hidden skips again c s false e h =
    by_outcome o hidden skips again c s (vindicated c again) (enough c o.reruns again) (lacks c o.reruns skips again)
    (record { kept = refl; within = refl; bar = refl; other = e }) refl refl refl h

by_none_reached : (o : Opening) (hidden : Bool) (skips : List ℕ) (again : List Run) (s : Standing) →
    standing_of_hidden hidden ≡ s → StandsBy o false false hidden skips again None s
by_none_reached o true skips again s h = by_hidden refl refl refl refl h
by_none_reached o false skips again s h = by_none refl refl refl refl h

by_reached : (o : Opening) (past : List Run) (skips : List ℕ) (again : List Run) (n : Option ℕ) (s : Standing) →
    standing_of_reached o past skips again n ≡ s →
    StandsBy o false false (is_hidden (setup_of o) past skips) skips again n s
by_reached o past skips again None s h = by_none_reached o (is_hidden (setup_of o) past skips) skips again s h
by_reached o past skips again (Some c) s h =
    by_number o (is_hidden (setup_of o) past skips) skips again c s (c == hypotheses (setup_of o)) refl h

by_tests : (o : Opening) (cancelled over : Bool) (past : List Run) (skips : List ℕ) (again : List Run) (n : Option ℕ)
    (s : Standing) →
    (if cancelled then Cancelled else (if over then Inconclusive else standing_of_reached o past skips again n)) ≡ s →
    StandsBy o cancelled over (is_hidden (setup_of o) past skips) skips again n s
by_tests o true over past skips again n s h = by_cancel refl h
by_tests o false true past skips again n s h = by_budget refl refl h
by_tests o false false past skips again n s h = by_reached o past skips again n s h

-- the same of a search in a history
abbrev pub is_hidden_in : List Entry → Opening → Bool
is_hidden_in H o = is_hidden (setup_of o) (runs H o.search) (skipped H o.search)

abbrev pub StandsIn : List Entry → Opening → Standing → Type 0
StandsIn H o s =
    StandsBy o (was_cancelled H o.search) (went_over H o.search) (is_hidden_in H o) (skipped H o.search)
    (reruns H o.search) (at_bar H o) s

abbrev pub NamesIn : List Entry → Opening → ℕ → Type 0
NamesIn H o c = NamesBy o (was_cancelled H o.search) (went_over H o.search) (at_bar H o) c

pub stands_by : (H : List Entry) (o : Opening) (s : Standing) → standing H o ≡ s → StandsIn H o s
stands_by H o s h =
    by_tests o (was_cancelled H o.search) (went_over H o.search) (runs H o.search) (skipped H o.search)
    (reruns H o.search) (at_bar H o) s h

-- And back: where a search goes by its belief its standing is that of the hypothesis at the bar.

-- the standing by the hypothesis at the bar
abbrev standing_at : List Entry → Opening → Option ℕ → Standing
standing_at H o n = standing_of_reached o (runs H o.search) (skipped H o.search) (reruns H o.search) n

pub believed-standing : (H : List Entry) (o : Opening) → IsBelieved H o → standing H o ≡ standing_at H o (at_bar H o)
believed-standing H o b =
    ap (λ (x : Bool). if x then Cancelled else (if went_over H o.search then Inconclusive
    else standing_at H o (at_bar H o))) b.uncancelled
    ∙ ap (λ (x : Bool). if x then Inconclusive else standing_at H o (at_bar H o)) b.within

-- the hypothesis at the bar, both ways
pub bar-reached : (H : List Entry) (o : Opening) (i : ℕ) → at_bar H o ≡ Some i →
    IsReached (setup_of o) (runs H o.search) i
bar-reached H o i h = IsReached-from_some (setup_of o) (runs H o.search) i h

pub reached-bar : (H : List Entry) (o : Opening) (i : ℕ) → IsLegal H → Contains (openings H) o →
    IsReached (setup_of o) (runs H o.search) i → at_bar H o ≡ Some i
reached-bar H o i legal there h =
    reached-some (setup_of o) (runs H o.search) i (setup_facts o (open_within H o legal there)).above_half
    (total-some H o legal there) h

-- a suspect is below "no culprit", and a hypothesis that isn't "no culprit" is a suspect
suspect-number : (c n : ℕ) → c ≤ n - 1 → 1 ≤ c → c == n ≡ false
suspect-number c n below above = grind (arith, nat_tests)

number-suspect : (c n : ℕ) → c == n ≡ false → c ≤ n → c ≤ n - 1
number-suspect c n other below = grind (arith, nat_tests)

-- the standing of a search that names a suspect, by what the reruns come to
abbrev standing_of_named : List Entry → Opening → ℕ → Standing
standing_of_named H o c =
    standing_of_outcome c (lacks c o.reruns (skipped H o.search) (reruns H o.search)) (outcome c o.reruns (reruns H o.search))

pub named-standing : (H : List Entry) (o : Opening) (c : ℕ) → IsLegal H → Contains (openings H) o → IsNamed H o c →
    standing H o ≡ standing_of_named H o c
named-standing H o c legal there n =
    let other : c == hypotheses (setup_of o) ≡ false =
    suspect-number c (hypotheses (setup_of o)) n.suspects n.at_bar.reached.first in
    believed-standing H o n.at_bar.believed
    ∙ ap (standing_at H o) (reached-bar H o c legal there n.at_bar.reached)
    ∙ ap (λ (b : Bool). if b then NoCulprit else standing_of_named H o c) other

pub named-of : (H : List Entry) (o : Opening) (c : ℕ) → NamesIn H o c → IsNamed H o c
named-of H o c n =
    let r = bar-reached H o c n.bar in
    record {
      at_bar = record { believed = record { uncancelled = n.kept; within = n.within }; reached = r };
      suspects = number-suspect c (hypotheses (setup_of o)) n.other r.last;
    }

pub never : {P : Type 0} → true ≡ false → P
never h = absurd (true≢false h)

-- a named suspect is one of 1 and up
pub some-suspect : (H : List Entry) (o : Opening) (c : ℕ) → IsNamed H o c → 1 ≤ c
some-suspect H o c n = n.at_bar.reached.first

-- Reruns that lack at a skipped position.

lacking_if : (a b : Bool) (fails passes asked : ℕ) → ((a && nat_lt fails asked) || (b && nat_lt passes asked)) ≡ true →
    ((a ≡ true) × (fails < asked)) ⊎ ((b ≡ true) × (passes < asked))
lacking_if true true fails passes asked h =
    ⊎_elim (λ (yes : nat_lt fails asked ≡ true). inl (refl, ltb-true fails asked yes))
    (λ (no : nat_lt fails asked ≡ false).
    inr (refl, ltb-true passes asked (ap (λ (x : Bool). x || nat_lt passes asked) (sym no) ∙ h)))
    (cases_Bool (nat_lt fails asked))
lacking_if true false fails passes asked h = inl (refl, ltb-true fails asked (sym (or-false (nat_lt fails asked)) ∙ h))
lacking_if false true fails passes asked h = inr (refl, ltb-true passes asked h)
lacking_if false false fails passes asked h = never (sym h)

if_lacking : (a b : Bool) (fails passes asked : ℕ) →
    ((a ≡ true) × (fails < asked)) ⊎ ((b ≡ true) × (passes < asked)) →
    ((a && nat_lt fails asked) || (b && nat_lt passes asked)) ≡ true
if_lacking a b fails passes asked (inl (gone, few)) =
    let first : (a && nat_lt fails asked) ≡ true = ap (λ (x : Bool). x && nat_lt fails asked) gone ∙ lt-ltb fails asked few in
    ap (λ (x : Bool). x || (b && nat_lt passes asked)) first
if_lacking a b fails passes asked (inr (gone, few)) =
    let second : (b && nat_lt passes asked) ≡ true = ap (λ (x : Bool). x && nat_lt passes asked) gone ∙ lt-ltb passes asked few in
    ap (λ (x : Bool). (a && nat_lt fails asked) || x) second ∙ or-true (a && nat_lt fails asked)

pub lacks-cannot : (H : List Entry) (o : Opening) (c : ℕ) →
    lacks c o.reruns (skipped H o.search) (reruns H o.search) ≡ true → CannotBeRerun H o c
lacks-cannot H o c h =
    lacking_if (is_skipped (skipped H o.search) c) (is_skipped (skipped H o.search) (c - 1))
    (count_by (is_fail_at c) (reruns H o.search)) (count_by (is_pass_at (c - 1)) (reruns H o.search)) o.reruns h

pub cannot-lacks : (H : List Entry) (o : Opening) (c : ℕ) → CannotBeRerun H o c →
    lacks c o.reruns (skipped H o.search) (reruns H o.search) ≡ true
cannot-lacks H o c h =
    if_lacking (is_skipped (skipped H o.search) c) (is_skipped (skipped H o.search) (c - 1))
    (count_by (is_fail_at c) (reruns H o.search)) (count_by (is_pass_at (c - 1)) (reruns H o.search)) o.reruns h

-- where a side lacks reruns, the reruns aren't enough
cannot-few : (H : List Entry) (o : Opening) (c : ℕ) → CannotBeRerun H o c → enough c o.reruns (reruns H o.search) ≡ false
cannot-few H o c h =
    counts-lacking c o.reruns (reruns H o.search)
    (⊎_elim
    (λ (fails : (is_skipped (skipped H o.search) c ≡ true) × (count_by (is_fail_at c) (reruns H o.search) < o.reruns)).
    inl fails.1)
    (λ (passes : (is_skipped (skipped H o.search) (c - 1) ≡ true)
    × (count_by (is_pass_at (c - 1)) (reruns H o.search) < o.reruns)). inr passes.1)
    h)

-- What a search that stands so holds.

-- what a standing comes from that is of a suspect
unprovable-of : (H : List Entry) (o : Opening) (c : ℕ) → NamesIn H o c → vindicated c (reruns H o.search) ≡ false →
    lacks c o.reruns (skipped H o.search) (reruns H o.search) ≡ true → IsUnprovable H o c
unprovable-of H o c names silent stuck = record {
  named = named-of H o c names;
  none_against = none_vindicated-silent c (reruns H o.search) silent;
  lacking = lacks-cannot H o c stuck;
}

-- the standing of a suspect that can't be proved
pub unprovable-standing : (H : List Entry) (o : Opening) (c : ℕ) → IsLegal H → Contains (openings H) o →
    IsUnprovable H o c → standing H o ≡ Inconclusive
unprovable-standing H o c legal there u =
    let again = reruns H o.search in
    let silent = silent-vindicated c again (some-suspect H o c u.named) u.none_against in
    let few = cannot-few H o c u.lacking in
    let stuck = cannot-lacks H o c u.lacking in
    named-standing H o c legal there u.named
    ∙ ap (λ (x : Bool). standing_of_outcome c (lacks c o.reruns (skipped H o.search) again)
    (if x then vindicating else (if enough c o.reruns again then confirmed else verifying))) silent
    ∙ ap (λ (x : Bool). standing_of_outcome c (lacks c o.reruns (skipped H o.search) again)
    (if x then confirmed else verifying)) few
    ∙ ap (λ (x : Bool). standing_of_outcome c x verifying) stuck

-- A suspect.

pub some-number : (a b : ℕ) → Some a ≡ Some b → a ≡ b
some-number a b h = cc

no_name : (s t : Standing) (c : ℕ) → culprit_of t ≡ Some c → s ≡ t → culprit_of s ≡ Some c
no_name s t c names same = ap culprit_of same ∙ names

named-view : (H : List Entry) (o : Opening) (s : Standing) (c : ℕ) → culprit_of s ≡ Some c → StandsIn H o s → IsNamed H o c
named-view H o s c names (by_cancel so is) = absurd (none-some c (no_name Cancelled s c names is))
named-view H o s c names (by_budget kept so is) = absurd (none-some c (no_name Inconclusive s c names is))
named-view H o s c names (by_none kept within none open_still is) = absurd (none-some c (no_name Searching s c names is))
named-view H o s c names (by_hidden kept within none so is) = absurd (none-some c (no_name Inconclusive s c names is))
named-view H o s c names (by_calm kept within calm is) = absurd (none-some c (no_name NoCulprit s c names is))
named-view H o s c names (by_against i n so is) =
    subst (IsNamed H o) (some-number i c (no_name (Vindicated i) s c names is)) (named-of H o i n)
named-view H o s c names (by_full i n silent so is) =
    subst (IsNamed H o) (some-number i c (no_name (Confirmed i) s c names is)) (named-of H o i n)
named-view H o s c names (by_stuck i n silent few so is) = absurd (none-some c (no_name Inconclusive s c names is))
named-view H o s c names (by_open i n silent few possible is) =
    subst (IsNamed H o) (some-number i c (no_name (Verifying i) s c names is)) (named-of H o i n)

named-provable : (H : List Entry) (o : Opening) (c : ℕ) → IsLegal H → Contains (openings H) o →
    culprit_of (standing H o) ≡ Some c → IsUnprovable H o c → ⊥
named-provable H o c legal there names u =
    none-some c (ap culprit_of (sym (unprovable-standing H o c legal there u)) ∙ names)

pub standing-named : (H : List Entry) (o : Opening) (c : ℕ) → IsLegal H → Contains (openings H) o →
    culprit_of (standing H o) ≡ Some c → IsNamed H o c × ¬ IsUnprovable H o c
standing-named H o c legal there names =
    (named-view H o (standing H o) c names (stands_by H o (standing H o) refl), named-provable H o c legal there names)

-- a named suspect is named by the standing, or can't be proved
named-by_tests : (H : List Entry) (o : Opening) (c : ℕ) (against full lacking : Bool) → IsNamed H o c →
    vindicated c (reruns H o.search) ≡ against → enough c o.reruns (reruns H o.search) ≡ full →
    lacks c o.reruns (skipped H o.search) (reruns H o.search) ≡ lacking →
    (culprit_of (standing_of_outcome c lacking (if against then vindicating else (if full then confirmed else verifying)))
    ≡ Some c) ⊎ IsUnprovable H o c
named-by_tests H o c true full lacking n e1 e2 e3 = inl refl
named-by_tests H o c false true lacking n e1 e2 e3 = inl refl
named-by_tests H o c false false false n e1 e2 e3 = inl refl
named-by_tests H o c false false true n e1 e2 e3 = inr (record {
  named = n;
  none_against = none_vindicated-silent c (reruns H o.search) e1;
  lacking = lacks-cannot H o c e3;
})

pub named-cases : (H : List Entry) (o : Opening) (c : ℕ) → IsLegal H → Contains (openings H) o → IsNamed H o c →
    (culprit_of (standing H o) ≡ Some c) ⊎ IsUnprovable H o c
named-cases H o c legal there n =
    ⊎_elim
    (λ (names : culprit_of (standing_of_named H o c) ≡ Some c).
    inl (ap culprit_of (named-standing H o c legal there n) ∙ names))
    (λ (u : IsUnprovable H o c). inr u)
    (named-by_tests H o c (vindicated c (reruns H o.search)) (enough c o.reruns (reruns H o.search))
    (lacks c o.reruns (skipped H o.search) (reruns H o.search)) n refl refl refl)

pub named-standing_names : (H : List Entry) (o : Opening) (c : ℕ) → IsLegal H → Contains (openings H) o →
    IsNamed H o c × ¬ IsUnprovable H o c → culprit_of (standing H o) ≡ Some c
named-standing_names H o c legal there n =
    ⊎_elim (λ (names : culprit_of (standing H o) ≡ Some c). names)
    (λ (u : IsUnprovable H o c). absurd (n.1 u))
    (named-cases H o c legal there n.0)

-- No culprit, and none yet.

calm-view : (H : List Entry) (o : Opening) → StandsIn H o NoCulprit → IsAtBar H o (hypotheses (setup_of o))
calm-view H o (by_cancel so is) = never cc
calm-view H o (by_budget kept so is) = never cc
calm-view H o (by_none kept within none open_still is) = never cc
calm-view H o (by_hidden kept within none so is) = never cc
calm-view H o (by_calm kept within calm is) =
    record {
      believed = record { uncancelled = kept; within = within };
      reached =
          bar-reached H o (hypotheses (setup_of o)) calm;
    }
calm-view H o (by_against c n so is) = never cc
calm-view H o (by_full c n silent so is) = never cc
calm-view H o (by_stuck c n silent few so is) = never cc
calm-view H o (by_open c n silent few possible is) = never cc

pub standing-calm : (H : List Entry) (o : Opening) → standing H o ≡ NoCulprit → IsAtBar H o (hypotheses (setup_of o))
standing-calm H o h = calm-view H o (stands_by H o NoCulprit h)

itself : (n : ℕ) → n == n ≡ true
itself n = grind (arith, nat_tests)

pub calm-standing : (H : List Entry) (o : Opening) → IsLegal H → Contains (openings H) o →
    IsAtBar H o (hypotheses (setup_of o)) → standing H o ≡ NoCulprit
calm-standing H o legal there a =
    let n : ℕ = hypotheses (setup_of o) in
    believed-standing H o a.believed
    ∙ ap (standing_at H o) (reached-bar H o n legal there a.reached)
    ∙ ap (λ (b : Bool). if b then NoCulprit else standing_of_named H o n) (itself n)

-- what a search that is searching comes from
pub record SearchesBy (H : List Entry) (o : Opening) : Type 0 where
  pub believed : IsBelieved H o
  pub none : at_bar H o ≡ None
  pub shown : is_hidden_in H o ≡ false

searching-view : (H : List Entry) (o : Opening) → StandsIn H o Searching → SearchesBy H o
searching-view H o (by_cancel so is) = never cc
searching-view H o (by_budget kept so is) = never cc
searching-view H o (by_none kept within none open_still is) =
    record { believed = record { uncancelled = kept; within = within }; none = none; shown = open_still }
searching-view H o (by_hidden kept within none so is) = never cc
searching-view H o (by_calm kept within calm is) = never cc
searching-view H o (by_against c n so is) = never cc
searching-view H o (by_full c n silent so is) = never cc
searching-view H o (by_stuck c n silent few so is) = never cc
searching-view H o (by_open c n silent few possible is) = never cc

-- while hypotheses are hidden the search comes to nothing
hidden-none : (H : List Entry) (o : Opening) (b : Bool) → IsBelieved H o →
    ((i : ℕ) → ¬ IsReached (setup_of o) (runs H o.search) i) → is_hidden_in H o ≡ b → standing H o ≡ standing_of_hidden b
hidden-none H o b believed none is =
    believed-standing H o believed
    ∙ ap (standing_at H o) (reached-none (setup_of o) (runs H o.search) none)
    ∙ ap standing_of_hidden is

pub standing-searching : (H : List Entry) (o : Opening) → IsLegal H → Contains (openings H) o →
    standing H o ≡ Searching → IsUndecided H o
standing-searching H o legal there h =
    let by = searching-view H o (stands_by H o Searching h) in
    record {
      believed = by.believed;
      none = unreached-from_none (setup_of o) (runs H o.search) by.none;
      apart = λ first last hides. true≢false (sym (hidden-tested H o first last legal there hides) ∙ by.shown);
    }

pub searching-standing : (H : List Entry) (o : Opening) → IsLegal H → Contains (openings H) o → IsUndecided H o →
    standing H o ≡ Searching
searching-standing H o legal there u =
    let none = reached-none (setup_of o) (runs H o.search) u.none in
    let shown : is_hidden_in H o ≡ false =
    false_from_ne_true (is_hidden_in H o) (λ yes.
    let hides = tested-hidden H o legal there none yes in u.apart hides.0 hides.1 hides.2) in
    hidden-none H o false u.believed u.none shown

-- while it searches some position is open
pub searching-open : (H : List Entry) (o : Opening) → IsLegal H → Contains (openings H) o → standing H o ≡ Searching →
    (position : ℕ) × IsOpen H o position
searching-open H o legal there h =
    let by = searching-view H o (stands_by H o Searching h) in
    ⊎_elim (λ (some : (position : ℕ) × IsOpen H o position). some)
    (λ (none : (position : ℕ) → ¬ IsOpen H o position).
    absurd (true≢false (sym (shut-hidden H o legal there none) ∙ by.shown)))
    (open-cases H o)

-- Cancelled, and inconclusive.

cancelled-view : (H : List Entry) (o : Opening) → StandsIn H o Cancelled → was_cancelled H o.search ≡ true
cancelled-view H o (by_cancel so is) = so
cancelled-view H o (by_budget kept so is) = never cc
cancelled-view H o (by_none kept within none open_still is) = never cc
cancelled-view H o (by_hidden kept within none so is) = never cc
cancelled-view H o (by_calm kept within calm is) = never cc
cancelled-view H o (by_against c n so is) = never cc
cancelled-view H o (by_full c n silent so is) = never cc
cancelled-view H o (by_stuck c n silent few so is) = never cc
cancelled-view H o (by_open c n silent few possible is) = never cc

pub standing-cancelled : (H : List Entry) (o : Opening) → standing H o ≡ Cancelled → was_cancelled H o.search ≡ true
standing-cancelled H o h = cancelled-view H o (stands_by H o Cancelled h)

pub cancelled-standing : (H : List Entry) (o : Opening) → was_cancelled H o.search ≡ true → standing H o ≡ Cancelled
cancelled-standing H o h =
    ap (λ (x : Bool). if x then Cancelled else (if went_over H o.search then Inconclusive
    else standing_at H o (at_bar H o))) h

inconclusive-view : (H : List Entry) (o : Opening) → IsLegal H → Contains (openings H) o → StandsIn H o Inconclusive →
    IsInconclusive H o
inconclusive-view H o legal there (by_cancel so is) = never cc
inconclusive-view H o legal there (by_budget kept so is) = over_budget kept so
inconclusive-view H o legal there (by_none kept within none open_still is) = never cc
inconclusive-view H o legal there (by_hidden kept within none so is) =
    let hides = tested-hidden H o legal there none so in
    none_apart hides.0 hides.1 (record { uncancelled = kept; within = within })
    (unreached-from_none (setup_of o) (runs H o.search) none) hides.2
inconclusive-view H o legal there (by_calm kept within calm is) = never cc
inconclusive-view H o legal there (by_against c n so is) = never cc
inconclusive-view H o legal there (by_full c n silent so is) = never cc
inconclusive-view H o legal there (by_stuck c n silent few so is) = unprovable c (unprovable-of H o c n silent so)
inconclusive-view H o legal there (by_open c n silent few possible is) = never cc

pub standing-inconclusive : (H : List Entry) (o : Opening) → IsLegal H → Contains (openings H) o →
    standing H o ≡ Inconclusive → IsInconclusive H o
standing-inconclusive H o legal there h = inconclusive-view H o legal there (stands_by H o Inconclusive h)

over-standing : (H : List Entry) (o : Opening) → was_cancelled H o.search ≡ false → went_over H o.search ≡ true →
    standing H o ≡ Inconclusive
over-standing H o kept so =
    ap (λ (x : Bool). if x then Cancelled else (if went_over H o.search then Inconclusive
    else standing_at H o (at_bar H o))) kept
    ∙ ap (λ (x : Bool). if x then Inconclusive else standing_at H o (at_bar H o)) so

pub inconclusive-standing : (H : List Entry) (o : Opening) → IsLegal H → Contains (openings H) o → IsInconclusive H o →
    standing H o ≡ Inconclusive
inconclusive-standing H o legal there (over_budget kept so) = over-standing H o kept so
inconclusive-standing H o legal there (none_open believed none all) =
    hidden-none H o true believed none (shut-hidden H o legal there all)
inconclusive-standing H o legal there (none_apart first last believed none hides) =
    hidden-none H o true believed none (hidden-tested H o first last legal there hides)
inconclusive-standing H o legal there (unprovable c u) = unprovable-standing H o c legal there u
