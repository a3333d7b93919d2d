-- What is kept of a search that verifies a suspect, and of the same search with one rerun more, or one skip.
use Rattle.std.proofs.Common.{◌≡◌, ◌⊎◌, inl, inr, ℕ, suc, ◌+◌, ◌-◌, ◌≤◌, ◌==◌, nat_lt, Bool, true, false, true≢false, ◌&&◌, if◌then◌else◌, List, [], ◌∷◌, ◌++◌, length, reverse, Some, sym, ap, subst, ◌∙◌, arith}
use Rattle.std.proofs.lemmas.Bool.Decides.{nat_tests}
use Rattle.std.proofs.lemmas.Option.{none-some}
use Rattle.weight_exact.specs.Weights.{hypotheses}
use Rattle.weight_exact.specs.declared.limits.TheConstants.{MAX_SUSPECTS}
use Rattle.weight_exact.specs.declared.run.Run.{Run}
use Rattle.weight_exact.proofs.Shares.{IsReached-from_some}
use Rattle.farm_rules.specs.Reruns.{Outcome, after_rerun, counts, is_verifying, outcome, reruns_at, verifying}
use Rattle.farm_rules.specs.Answer.{answer, said}
use Rattle.farm_rules.specs.StandsFor.{StandsFor}
use Rattle.farm_rules.specs.Verification.{Verification}
use Rattle.farm_rules.specs.declared.outcome.Outcome.{Outcome as Answered}
use Rattle.farm_rules.specs.declared.outcome.Outcome.TheVariants.{Late}
use Rattle.farm_entry.specs.Setup.{setup_of}
use Rattle.farm_entry.specs.Standing.{is_searching, lacks, standing_of_outcome}
use Rattle.farm_entry.specs.declared.standing.Standing.{Standing}
use Rattle.farm_entry.specs.declared.standing.Standing.TheVariants.{Inconclusive, Verifying}
use Rattle.search_state.specs.Begun.{lacks_by}
use Rattle.search_state.specs.SearchView.{SearchView, standing_in}
use Rattle.search_state.specs.SearchInside.{IsSearch, IsVerificationOf, search_view}
use Rattle.search_state.specs.declared.state.SearchState.TheInside.{Inside}
use Rattle.search_state.proofs.Deciding.{few-suspects}
use Rattle.search_state.proofs.Flags.{IsVerifying, believed-standing, named-standing, outcome-names, outcome-not_searching, verifying-parts}
use Rattle.search_state.proofs.Lacking.{lacks-kept, lacks-more}
use Rattle.search_state.proofs.Reclosed.{reverse-told}

-- the parts of what is kept of a search that verifies a suspect
pub kept-verifying : (s : Inside) (v : SearchView) (c : ℕ) → search_view s ≡ v → standing_in v ≡ Verifying c →
    IsVerifying (search_view s) c
kept-verifying s v c is stands =
    verifying-parts (search_view s) c (subst (λ (x : SearchView). standing_in x ≡ Verifying c) (sym is) stands)

-- its verification
pub kept-verification : (s : Inside) (v : SearchView) (c : ℕ) → IsSearch s → search_view s ≡ v →
    standing_in v ≡ Verifying c → IsVerificationOf s.verification c s.asked (reverse s.reruns)
kept-verification s v c h is stands =
    h.verified c (h.standing_is ∙ subst (λ (x : SearchView). standing_in x ≡ Verifying c) (sym is) stands)

-- the suspect stands from 1 on
pub verified-low : (s : Inside) (c : ℕ) → IsVerifying (search_view s) c → 1 ≤ c
verified-low s c p = (IsReached-from_some (setup_of s.opening.value) (reverse s.runs) c p.bar).first

-- how many reruns counted at the suspect, and at its parent
pub at-culprit : (s : Inside) (c n : ℕ) → IsVerificationOf s.verification c s.asked (reverse s.reruns) →
    n ≡ reruns_at s.verification.culprit (reverse s.reruns) → n ≡ reruns_at c (reverse s.reruns)
at-culprit s c n v is = is ∙ ap (λ (k : ℕ). reruns_at k (reverse s.reruns)) v.culprit_is

pub at-parent : (s : Inside) (c n : ℕ) → IsVerificationOf s.verification c s.asked (reverse s.reruns) →
    n ≡ reruns_at (s.verification.culprit - 1) (reverse s.reruns) → n ≡ reruns_at (c - 1) (reverse s.reruns)
at-parent s c n v is = is ∙ ap (λ (k : ℕ). reruns_at (k - 1) (reverse s.reruns)) v.culprit_is

-- One rerun more.

-- a rerun whose side has room counts
pub one-counts : (s : Inside) (c : ℕ) (r : Run) → IsSearch s → IsVerifying (search_view s) c →
    nat_lt (reruns_at r.position (reverse s.reruns)) s.opening.value.reruns ≡ true →
    counts c s.opening.value.reruns (reverse s.reruns) r ≡ true
one-counts s c r h p room =
    ap (λ (x : Outcome). is_verifying x && nat_lt (reruns_at r.position (reverse s.reruns)) s.opening.value.reruns) p.going_on
    ∙ room

-- what it is answered
pub answered : (s : Inside) (c : ℕ) (r : Run) (a : Answered) → IsSearch s →
    IsVerificationOf s.verification c s.asked (reverse s.reruns) →
    counts c s.opening.value.reruns (reverse s.reruns) r ≡ true →
    a ≡ answer s.verification.culprit s.verification.asked (reverse s.reruns) r →
    a ≡ said (outcome c s.opening.value.reruns (reverse s.reruns ++ r ∷ []))
answered s c r a h v one is =
    let again : List Run = reverse s.reruns in
    let asked : s.verification.asked ≡ s.opening.value.reruns = v.asked_is ∙ h.set_up.asked_is in
    is
    ∙ ap (λ (k : ℕ). answer k s.verification.asked again r) v.culprit_is
    ∙ ap (λ (n : ℕ). answer c n again r) asked
    ∙ ap (λ (b : Bool). if b then said (outcome c s.opening.value.reruns (again ++ r ∷ [])) else Late) one

-- what the verification stands for
pub stands-after : (s : Inside) (c : ℕ) (r : Run) (w : Verification) → IsSearch s →
    IsVerificationOf s.verification c s.asked (reverse s.reruns) →
    counts c s.opening.value.reruns (reverse s.reruns) r ≡ true →
    StandsFor w (after_rerun s.verification.culprit s.verification.asked (reverse s.reruns) r) →
    StandsFor w (reverse s.reruns ++ r ∷ [])
stands-after s c r w h v one stands =
    let again : List Run = reverse s.reruns in
    let asked : s.verification.asked ≡ s.opening.value.reruns = v.asked_is ∙ h.set_up.asked_is in
    let after : after_rerun s.verification.culprit s.verification.asked again r ≡ again ++ r ∷ [] =
    ap (λ (k : ℕ). after_rerun k s.verification.asked again r) v.culprit_is
    ∙ ap (λ (n : ℕ). after_rerun c n again r) asked
    ∙ ap (λ (b : Bool). if b then again ++ r ∷ [] else again) one in
    subst (λ (rs : List Run). StandsFor w rs) after stands

-- the search with it
abbrev pub with_rerun : Inside → Verification → Standing → List Run → Inside
with_rerun s w st reruns = record {
  opening = s.opening;
  belief = s.belief;
  search = s.search;
  width = s.width;
  asked = s.asked;
  suspects = s.suspects;
  bar = s.bar;
  may_miss = s.may_miss;
  standing = st;
  first = s.first;
  verification = w;
  skips = s.skips;
  is_over = s.is_over;
  is_cancelled = s.is_cancelled;
  runs = s.runs;
  reruns = reruns;
  counted = s.counted;
  verified = s.verified + 1;
}

pub rerun-search : (s : Inside) (c : ℕ) (r : Run) (w : Verification) (st : Standing) (reruns : List Run) → IsSearch s →
    IsVerifying (search_view s) c → reruns ≡ r ∷ s.reruns → w.culprit ≡ c → w.asked ≡ s.asked →
    StandsFor w (reverse s.reruns ++ r ∷ []) →
    st ≡ standing_of_outcome c false (outcome c s.opening.value.reruns (reverse s.reruns ++ r ∷ [])) →
    IsSearch (with_rerun s w st reruns)
rerun-search s c r w st reruns h p told culprit asked stands standing =
    let o = s.opening.value in
    let again : List Run = reverse s.reruns ++ r ∷ [] in
    let is : reverse reruns ≡ again = reverse-told reruns s.reruns r told in
    let long : length reruns ≡ suc (length s.reruns) = ap length told in
    let none : lacks c o.reruns s.skips again ≡ false =
    lacks-more c o.reruns s.skips (reverse s.reruns) r p.lacks_none in
    record {
      set_up = h.set_up;
      setup = h.setup;
      believed = h.believed;
      counted_is = h.counted_is;
      verified_is = omega (arith, long, h.verified_is);
      standing_is =
          standing
          ∙ ap (λ (b : Bool). standing_of_outcome c b (outcome c o.reruns again)) (sym none)
          ∙ ap (λ (xs : List Run). standing_of_outcome c (lacks c o.reruns s.skips xs) (outcome c o.reruns xs)) (sym is)
          ∙ sym (named-standing o (reverse s.runs) s.skips (reverse reruns) c p.suspect)
          ∙ sym (believed-standing (search_view (with_rerun s w st reruns)) (Some c) p.uncancelled p.within p.bar);
      none_yet = λ none. absurd (none-some c (sym none ∙ p.bar));
      planned = λ searching. absurd (true≢false (ap is_searching (sym searching ∙ standing)
          ∙ outcome-not_searching c false (outcome c o.reruns again)));
      verified = λ k names.
          let same : c ≡ k = outcome-names c k false (outcome c o.reruns again) (sym standing ∙ names) in
          record {
            culprit_is = culprit ∙ same;
            asked_is = asked;
            stands = subst (λ (xs : List Run). StandsFor w xs) (sym is) stands;
          };
    }

-- One position more that was skipped.

-- the suspect is one of the positions of the search
below-last : (c suspects all : ℕ) → c == all ≡ false → c ≤ all → suspects + 1 ≡ all → c ≤ suspects
below-last c suspects all other upto many = grind (arith, nat_tests)

pub culprit-within : (s : Inside) (c : ℕ) → IsSearch s → IsVerifying (search_view s) c → c ≤ MAX_SUSPECTS
culprit-within s c h p =
    let o = s.opening.value in
    let upto = (IsReached-from_some (setup_of o) (reverse s.runs) c p.bar).last in
    let here : c ≤ s.suspects = below-last c s.suspects (hypotheses (setup_of o)) p.suspect upto h.set_up.suspects_are in
    omega (arith, here, few-suspects o s.suspects h.set_up.within h.set_up.suspects_are)

-- and so is one at which it is rerun
pub side-within : (s : Inside) (c position : ℕ) → IsSearch s → IsVerifying (search_view s) c →
    (position ≡ c) ⊎ (position + 1 ≡ c) → position ≤ MAX_SUSPECTS
side-within s c position h p (inl here) = omega (arith, here, culprit-within s c h p)
side-within s c position h p (inr below) = omega (arith, below, culprit-within s c h p)

-- the search with it
abbrev pub with_skip : Inside → Standing → List ℕ → Inside
with_skip s st skips = record {
  opening = s.opening;
  belief = s.belief;
  search = s.search;
  width = s.width;
  asked = s.asked;
  suspects = s.suspects;
  bar = s.bar;
  may_miss = s.may_miss;
  standing = st;
  first = s.first;
  verification = s.verification;
  skips = skips;
  is_over = s.is_over;
  is_cancelled = s.is_cancelled;
  runs = s.runs;
  reruns = s.reruns;
  counted = s.counted;
  verified = s.verified;
}

-- where the reruns go on they do unless a side lacks some
pub if-lacking : (lacking : Bool) (c : ℕ) (x : Outcome) → x ≡ verifying →
    (if lacking then Inconclusive else Verifying c) ≡ standing_of_outcome c lacking x
if-lacking lacking c x is = ap (λ (y : Outcome). standing_of_outcome c lacking y) (sym is)

pub skip-search : (s : Inside) (c : ℕ) (st : Standing) (skips : List ℕ) → IsSearch s → IsVerifying (search_view s) c →
    IsVerificationOf s.verification c s.asked (reverse s.reruns) →
    st ≡ (if lacks_by c s.asked skips s.verification.at_culprit s.verification.at_parent
    then Inconclusive else Verifying c) →
    IsSearch (with_skip s st skips)
skip-search s c st skips h p v standing =
    let o = s.opening.value in
    let again : List Run = reverse s.reruns in
    let here : s.verification.at_culprit ≡ reruns_at c again =
    v.stands.at_culprit_is ∙ ap (λ (k : ℕ). reruns_at k again) v.culprit_is in
    let below : s.verification.at_parent ≡ reruns_at (c - 1) again =
    v.stands.at_parent_is ∙ ap (λ (k : ℕ). reruns_at (k - 1) again) v.culprit_is in
    let lacking : Bool = lacks_by c s.asked skips s.verification.at_culprit s.verification.at_parent in
    let is : lacking ≡ lacks c o.reruns skips again =
    ap (λ (n : ℕ). lacks_by c n skips s.verification.at_culprit s.verification.at_parent) h.set_up.asked_is
    ∙ lacks-kept c o.reruns skips again s.verification.at_culprit s.verification.at_parent p.going_on here below in
    let stands : st ≡ standing_of_outcome c (lacks c o.reruns skips again) (outcome c o.reruns again) =
    standing
    ∙ if-lacking lacking c (outcome c o.reruns again) p.going_on
    ∙ ap (λ (b : Bool). standing_of_outcome c b (outcome c o.reruns again)) is in
    record {
      set_up = h.set_up;
      setup = h.setup;
      believed = h.believed;
      counted_is = h.counted_is;
      verified_is = h.verified_is;
      standing_is =
          stands
          ∙ sym (named-standing o (reverse s.runs) skips again c p.suspect)
          ∙ sym (believed-standing (search_view (with_skip s st skips)) (Some c) p.uncancelled p.within p.bar);
      none_yet = h.none_yet;
      planned = λ searching. absurd (true≢false (ap is_searching (sym searching ∙ stands)
          ∙ outcome-not_searching c (lacks c o.reruns skips again) (outcome c o.reruns again)));
      verified = λ k names.
          let same : c ≡ k =
          outcome-names c k (lacks c o.reruns skips again) (outcome c o.reruns again) (sym stands ∙ names) in
          subst (λ (x : ℕ). IsVerificationOf s.verification x s.asked again) same v;
    }
