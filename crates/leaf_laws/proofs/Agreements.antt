-- What a standing of the farm says of the belief of a search, judge says of its evidence.
use Rattle.std.proofs.Common.{◌≡◌, ℕ, ◌-◌, ◌≤◌, ◌==◌, Bool, true, false, List, if◌then◌else◌, Option, Some, None, refl, sym, ap, ◌∙◌, arith, true≢false}
use Rattle.std.proofs.lemmas.Bool.{eqb-true}
use Rattle.std.proofs.lemmas.Bool.Decides.{nat_tests}
use Rattle.std.proofs.lemmas.Option.{none-some}
use Rattle.farm_rules.specs.Reruns.{Outcome, confirmed, outcome, verifying, vindicating}
use Rattle.threshold_pick.specs.HiddenBlocks.{is_hidden}
use Rattle.judge.specs.Fates.{standing_by}
use Rattle.judge.specs.declared.standing.JudgeStanding.TheVariants as judged
use Rattle.weight_exact.specs.Weights.{hypotheses}
use Rattle.weight_exact.specs.declared.run.Run.{Run}
use Rattle.farm_entry.specs.History.{reruns, runs, skipped, was_cancelled, went_over}
use Rattle.farm_entry.specs.Setup.{setup_of}
use Rattle.farm_entry.specs.Standing.{at_bar, is_searching, lacks, standing, standing_of_hidden, standing_of_outcome}
use Rattle.farm_entry.specs.declared.entry.Entry.{Entry}
use Rattle.farm_entry.specs.declared.opening.Opening.{Opening}
use Rattle.farm_entry.specs.declared.standing.Standing.{Standing}
use Rattle.farm_entry.specs.declared.standing.Standing.TheVariants.{Searching, Verifying, Confirmed, Vindicated, NoCulprit, Inconclusive, Cancelled}
use Rattle.farm_laws.specs.Laws.{culprit_of}
use Rattle.farm_laws.proofs.Standings.{culprit-at_bar, searching-at_bar}
use Rattle.leaf_laws.specs.Judgements.{judged_standing}
use Rattle.leaf_laws.proofs.LeftOut.{stands}

-- By the two parts of judge's standing.

judged-by : (all : ℕ) (over : Bool) (n bar : Option ℕ) → over ≡ false → n ≡ bar →
    (if over then judged.Inconclusive else standing_by all n) ≡ standing_by all bar
judged-by all over n bar within same =
    (λ i. if within i then judged.Inconclusive else standing_by all (same i))

no_last : (c all : ℕ) → 1 ≤ c → c ≤ all - 1 → c == all ≡ false
no_last c all low high = grind (arith, nat_tests)

last : (all : ℕ) → all == all ≡ true
last all = grind (arith, nat_tests)

-- whether a standing says that there is no culprit
abbrev is_none_guilty : Standing → Bool
is_none_guilty NoCulprit = true
is_none_guilty Searching = false
is_none_guilty (Verifying c) = false
is_none_guilty (Confirmed c) = false
is_none_guilty (Vindicated c) = false
is_none_guilty Inconclusive = false
is_none_guilty Cancelled = false

outcome-guilty : (i : ℕ) (lacking : Bool) (x : Outcome) → is_none_guilty (standing_of_outcome i lacking x) ≡ false
outcome-guilty i true verifying = refl
outcome-guilty i false verifying = refl
outcome-guilty i lacking confirmed = refl
outcome-guilty i lacking vindicating = refl

hidden-guilty : (hidden : Bool) → is_none_guilty (standing_of_hidden hidden) ≡ false
hidden-guilty true = refl
hidden-guilty false = refl

named-last : (i all : ℕ) (lacking : Bool) (x : Outcome) (test : Bool) → i == all ≡ test →
    (if test then NoCulprit else standing_of_outcome i lacking x) ≡ NoCulprit → i ≡ all
named-last i all lacking x true is h = eqb-true i all is
named-last i all lacking x false is h =
    absurd (true≢false (sym (ap is_none_guilty h) ∙ outcome-guilty i lacking x))

module _ (o : Opening) (rs : List Run) (skips : List ℕ) (again : List Run) where
  named-within : (cancelled over : Bool) (n : Option ℕ) (c : ℕ) →
      culprit_of (stands o rs skips again cancelled over n) ≡ Some c → over ≡ false
  named-within true over n c h = absurd (none-some c h)
  named-within false true n c h = absurd (none-some c h)
  named-within false false n c h = refl

  searching-within : (cancelled over : Bool) (n : Option ℕ) → stands o rs skips again cancelled over n ≡ Searching →
      over ≡ false
  searching-within true over n h = absurd (true≢false (sym (ap is_searching h)))
  searching-within false true n h = absurd (true≢false (sym (ap is_searching h)))
  searching-within false false n h = refl

  no_culprit-within : (cancelled over : Bool) (n : Option ℕ) → stands o rs skips again cancelled over n ≡ NoCulprit →
      (over ≡ false) × (n ≡ Some (hypotheses (setup_of o)))
  no_culprit-within true over n h = absurd (true≢false (sym (ap is_none_guilty h)))
  no_culprit-within false true n h = absurd (true≢false (sym (ap is_none_guilty h)))
  no_culprit-within false false None h =
      absurd (true≢false (sym (ap is_none_guilty h) ∙ hidden-guilty (is_hidden (setup_of o) rs skips)))
  no_culprit-within false false (Some i) h = (
    refl,
    ap Some (named-last i (hypotheses (setup_of o)) (lacks i o.reruns skips again) (outcome i o.reruns again)
        (i == hypotheses (setup_of o)) refl h),
  )

pub named-judged : (H : List Entry) (o : Opening) (c : ℕ) → culprit_of (standing H o) ≡ Some c →
    judged_standing H o ≡ judged.Named c
named-judged H o c h =
    let all : ℕ = hypotheses (setup_of o) in
    let bar = culprit-at_bar H o c h in
    judged-by all (went_over H o.search) (at_bar H o) (Some c)
    (named-within o (runs H o.search) (skipped H o.search) (reruns H o.search) (was_cancelled H o.search)
    (went_over H o.search) (at_bar H o) c h) bar.0
    ∙ ap (λ (b : Bool). if b then judged.NoCulprit else judged.Named c) (no_last c all bar.1 bar.2)

pub searching-judged : (H : List Entry) (o : Opening) → standing H o ≡ Searching →
    judged_standing H o ≡ judged.Searching
searching-judged H o h =
    judged-by (hypotheses (setup_of o)) (went_over H o.search) (at_bar H o) None
    (searching-within o (runs H o.search) (skipped H o.search) (reruns H o.search) (was_cancelled H o.search)
    (went_over H o.search) (at_bar H o) h) (searching-at_bar H o (ap is_searching h))

pub no_culprit-judged : (H : List Entry) (o : Opening) → standing H o ≡ NoCulprit →
    judged_standing H o ≡ judged.NoCulprit
no_culprit-judged H o h =
    let all : ℕ = hypotheses (setup_of o) in
    let is = no_culprit-within o (runs H o.search) (skipped H o.search) (reruns H o.search) (was_cancelled H o.search)
    (went_over H o.search) (at_bar H o) h in
    judged-by all (went_over H o.search) (at_bar H o) (Some all) is.0 is.1
    ∙ ap (λ (b : Bool). if b then judged.NoCulprit else judged.Named all) (last all)
