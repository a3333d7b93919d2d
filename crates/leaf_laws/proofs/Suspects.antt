-- What the reruns of a named suspect come to, forwards and backwards.
use Rattle.std.proofs.Common.{◌≡◌, Bool, true, false, if◌then◌else◌, List, ℕ, Contains, refl, sym, ap, subst, ◌∙◌, true≢false}
use Rattle.std.proofs.lemmas.Bool.{false_from_ne_true}
use Rattle.weight_exact.specs.declared.run.Run.{Run}
use Rattle.farm_rules.specs.Reruns.{confirmed, enough, verifying, vindicating}
use Rattle.farm_entry.specs.History.{openings, reruns, skipped}
use Rattle.farm_entry.specs.Legal.{IsLegal}
use Rattle.farm_entry.specs.Standing.{lacks, standing, standing_of_outcome}
use Rattle.farm_entry.specs.declared.entry.Entry.{Entry}
use Rattle.farm_entry.specs.declared.opening.Opening.{Opening}
use Rattle.farm_entry.specs.declared.standing.Standing.TheVariants.{Verifying, Confirmed, Vindicated}
use Rattle.farm_laws.specs.Laws.{culprit_of}
use Rattle.leaf_laws.specs.Stands.{IsBeingRerun, IsBorneOut, IsNamed, IsSpokenAgainst, SpeaksAgainst}
use Rattle.leaf_laws.proofs.Sides.{counts-enough, counts-lacking, enough-counts, lacking-counts, none_vindicated-silent, silent-vindicated, spoke-vindicated, vindicated-spoke}
use Rattle.leaf_laws.proofs.Views.{StandsIn, by_against, by_budget, by_calm, by_cancel, by_full, by_hidden, by_none, by_open, by_stuck, cannot-lacks, lacks-cannot, named-of, named-standing, never, some-number, some-suspect, stands_by}

vindicated-view : (H : List Entry) (o : Opening) (c : ℕ) → StandsIn H o (Vindicated c) → IsSpokenAgainst H o c
vindicated-view H o c (by_cancel so is) = never cc
vindicated-view H o c (by_budget kept so is) = never cc
vindicated-view H o c (by_none kept within none open_still is) = never cc
vindicated-view H o c (by_hidden kept within none so is) = never cc
vindicated-view H o c (by_calm kept within calm is) = never cc
vindicated-view H o c (by_against i n so is) =
    let named = named-of H o i n in
    let spoke = vindicated-spoke i (reruns H o.search) (some-suspect H o i named) so in
    let same : i ≡ c = some-number i c (ap culprit_of is) in
    subst (IsSpokenAgainst H o) same
    (record { named = named; rerun = spoke.rerun; there = spoke.there; against = spoke.against })
vindicated-view H o c (by_full i n silent so is) = never cc
vindicated-view H o c (by_stuck i n silent few so is) = never cc
vindicated-view H o c (by_open i n silent few possible is) = never cc

pub standing-vindicated : (H : List Entry) (o : Opening) (c : ℕ) → standing H o ≡ Vindicated c → IsSpokenAgainst H o c
standing-vindicated H o c h = vindicated-view H o c (stands_by H o (Vindicated c) h)

pub vindicated-standing : (H : List Entry) (o : Opening) (c : ℕ) → IsLegal H → Contains (openings H) o →
    IsSpokenAgainst H o c → standing H o ≡ Vindicated c
vindicated-standing H o c legal there v =
    let against = spoke-vindicated c (reruns H o.search) v.rerun v.there v.against in
    named-standing H o c legal there v.named
    ∙ ap (λ (b : Bool). standing_of_outcome c (lacks c o.reruns (skipped H o.search) (reruns H o.search))
    (if b then vindicating else (if enough c o.reruns (reruns H o.search) then confirmed else verifying))) against

-- the standing of a suspect that no rerun speaks against, by whether the reruns are enough and more can be made
silent-standing : (H : List Entry) (o : Opening) (c : ℕ) (full lacking : Bool) → IsLegal H → Contains (openings H) o →
    IsNamed H o c →
    ((r : Run) → Contains (reruns H o.search) r → SpeaksAgainst c r → ⊥) →
    enough c o.reruns (reruns H o.search) ≡ full →
    lacks c o.reruns (skipped H o.search) (reruns H o.search) ≡ lacking →
    standing H o ≡ standing_of_outcome c lacking (if full then confirmed else verifying)
silent-standing H o c full lacking legal there n silent is at =
    let none = silent-vindicated c (reruns H o.search) (some-suspect H o c n) silent in
    named-standing H o c legal there n
    ∙ ap (λ (x : Bool). standing_of_outcome c (lacks c o.reruns (skipped H o.search) (reruns H o.search))
    (if x then vindicating else (if enough c o.reruns (reruns H o.search) then confirmed else verifying))) none
    ∙ ap (λ (x : Bool). standing_of_outcome c (lacks c o.reruns (skipped H o.search) (reruns H o.search))
    (if x then confirmed else verifying)) is
    ∙ ap (λ (x : Bool). standing_of_outcome c x (if full then confirmed else verifying)) at

confirmed-view : (H : List Entry) (o : Opening) (c : ℕ) → StandsIn H o (Confirmed c) → IsBorneOut H o c
confirmed-view H o c (by_cancel so is) = never cc
confirmed-view H o c (by_budget kept so is) = never cc
confirmed-view H o c (by_none kept within none open_still is) = never cc
confirmed-view H o c (by_hidden kept within none so is) = never cc
confirmed-view H o c (by_calm kept within calm is) = never cc
confirmed-view H o c (by_against i n so is) = never cc
confirmed-view H o c (by_full i n silent so is) =
    let counts = enough-counts i o.reruns (reruns H o.search) so in
    let same : i ≡ c = some-number i c (ap culprit_of is) in
    subst (IsBorneOut H o) same (record {
      named = named-of H o i n;
      none_against = none_vindicated-silent i (reruns H o.search) silent;
      failed = counts.0;
      passed = counts.1;
    })
confirmed-view H o c (by_stuck i n silent few so is) = never cc
confirmed-view H o c (by_open i n silent few possible is) = never cc

pub standing-confirmed : (H : List Entry) (o : Opening) (c : ℕ) → standing H o ≡ Confirmed c → IsBorneOut H o c
standing-confirmed H o c h = confirmed-view H o c (stands_by H o (Confirmed c) h)

pub confirmed-standing : (H : List Entry) (o : Opening) (c : ℕ) → IsLegal H → Contains (openings H) o →
    IsBorneOut H o c → standing H o ≡ Confirmed c
confirmed-standing H o c legal there b =
    silent-standing H o c true _ legal there b.named b.none_against (counts-enough c o.reruns
    (reruns H o.search) b.failed b.passed) refl

verifying-view : (H : List Entry) (o : Opening) (c : ℕ) → StandsIn H o (Verifying c) → IsBeingRerun H o c
verifying-view H o c (by_cancel so is) = never cc
verifying-view H o c (by_budget kept so is) = never cc
verifying-view H o c (by_none kept within none open_still is) = never cc
verifying-view H o c (by_hidden kept within none so is) = never cc
verifying-view H o c (by_calm kept within calm is) = never cc
verifying-view H o c (by_against i n so is) = never cc
verifying-view H o c (by_full i n silent so is) = never cc
verifying-view H o c (by_stuck i n silent few so is) = never cc
verifying-view H o c (by_open i n silent few possible is) =
    let same : i ≡ c = some-number i c (ap culprit_of is) in
    subst (IsBeingRerun H o) same (record {
      named = named-of H o i n;
      none_against = none_vindicated-silent i (reruns H o.search) silent;
      lacking = lacking-counts i o.reruns (reruns H o.search) few;
      possible = λ cannot. true≢false (sym (cannot-lacks H o i cannot) ∙ possible);
    })

pub standing-verifying : (H : List Entry) (o : Opening) (c : ℕ) → standing H o ≡ Verifying c → IsBeingRerun H o c
standing-verifying H o c h = verifying-view H o c (stands_by H o (Verifying c) h)

pub verifying-standing : (H : List Entry) (o : Opening) (c : ℕ) → IsLegal H → Contains (openings H) o →
    IsBeingRerun H o c → standing H o ≡ Verifying c
verifying-standing H o c legal there b =
    silent-standing H o c false false legal there b.named b.none_against
    (counts-lacking c o.reruns (reruns H o.search) b.lacking)
    (false_from_ne_true (lacks c o.reruns (skipped H o.search) (reruns H o.search))
    (λ stuck. b.possible (lacks-cannot H o c stuck)))
