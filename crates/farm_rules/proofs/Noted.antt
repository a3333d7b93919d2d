-- What a list of reruns comes to, one by one.
use Rattle.std.proofs.Common.{◌≡◌, ◌⊎◌, ◌↔◌, ℕ, ◌<◌, ◌≤◌, List, [], ◌∷◌, ◌++◌, true, false, nat_le, nat_lt, refl, sym, ◌∙◌, ap, subst, inl, inr, arith, append_assoc, append-nil, ⊎_elim}
use Rattle.std.proofs.lemmas.Bool.{lt-leb, ltb-true, and_parts, cases_Bool, cases_eq}
use Rattle.std.specs.List.{Contains}
use Rattle.std.proofs.lemmas.List.Elements.{Contains-append_left, Contains-append_right, Contains-push, Contains-push_cases, Contains-append_cases}
use Rattle.farm_rules.specs.Reruns.{Outcome as Ruling, outcome, verifying, confirmed, vindicating, is_verifying, reruns_at, counts, after_reruns}
use Rattle.weight_exact.specs.declared.run.Run.{Run}
use Rattle.farm_rules.specs.declared.outcome.Outcome.{Outcome}
use Rattle.farm_rules.specs.declared.outcome.Outcome.TheVariants.{Vindicated, Late}
use Rattle.farm_rules.specs.Answer.{said, answers, in_time}
use Rattle.farm_rules.proofs.Rulings.{said-not_late, reruns_at-snoc, one_at-same, one_at-other}

-- an answer that says what reruns come to keeps its rerun
in_time-said : (ruling : Ruling) (r : Run) (rs : List Run) (given : List Outcome) →
    in_time (r ∷ rs) (said ruling ∷ given) ≡ r ∷ in_time rs given
in_time-said verifying r rs given = refl
in_time-said confirmed r rs given = refl
in_time-said vindicating r rs given = refl

-- the reruns that counted, and then those that are in time
pub after_reruns-in_time : (culprit asked : ℕ) (reruns noted : List Run) →
    after_reruns culprit asked reruns noted ≡ reruns ++ in_time noted (answers culprit asked reruns noted)
after_reruns-in_time culprit asked reruns [] = sym (append-nil reruns)
after_reruns-in_time culprit asked reruns (r ∷ rs) =
    let longer = reruns ++ r ∷ [] in
    ⊎_elim
    (λ (counted : counts culprit asked reruns r ≡ true).
    rw (counted, in_time-said (outcome culprit asked longer) r rs (answers culprit asked longer rs))
    (after_reruns-in_time culprit asked longer rs
    ∙ append_assoc reruns (r ∷ []) (in_time rs (answers culprit asked longer rs))))
    (λ (late : counts culprit asked reruns r ≡ false). rw late (after_reruns-in_time culprit asked reruns rs))
    (cases_Bool (counts culprit asked reruns r))

is_verifying-ended : (ruling : Ruling) → (ruling ≡ verifying → ⊥) → is_verifying ruling ≡ false
is_verifying-ended verifying ended = absurd (ended refl)
is_verifying-ended confirmed ended = refl
is_verifying-ended vindicating ended = refl

-- after the end no rerun counts
counts-after_end : (culprit asked : ℕ) (reruns : List Run) (r : Run) → (outcome culprit asked reruns ≡ verifying → ⊥) →
    counts culprit asked reruns r ≡ false
counts-after_end culprit asked reruns r ended = rw (is_verifying-ended (outcome culprit asked reruns) ended) refl

pub after_reruns-ended : (culprit asked : ℕ) (reruns noted : List Run) → (outcome culprit asked reruns ≡ verifying → ⊥) →
    after_reruns culprit asked reruns noted ≡ reruns
after_reruns-ended culprit asked reruns [] ended = refl
after_reruns-ended culprit asked reruns (r ∷ rs) ended =
    let late = counts-after_end culprit asked reruns r ended in
    rw late (after_reruns-ended culprit asked reruns rs ended)

-- on no side more than the asked number count
pub reruns_at-after_reruns : (culprit asked position : ℕ) (reruns noted : List Run) → reruns_at position reruns ≤ asked →
    reruns_at position (after_reruns culprit asked reruns noted) ≤ asked
reruns_at-after_reruns culprit asked position reruns [] few = few
reruns_at-after_reruns culprit asked position reruns (r ∷ rs) few =
    let longer = reruns ++ r ∷ [] in
    let more = reruns_at-snoc position reruns r in
    ⊎_elim
    (λ (counted : counts culprit asked reruns r ≡ true).
    let parts = and_parts (is_verifying (outcome culprit asked reruns)) (nat_lt (reruns_at r.position reruns) asked) counted in
    let room : reruns_at r.position reruns < asked = ltb-true (reruns_at r.position reruns) asked parts.1 in
    let still_few : reruns_at position longer ≤ asked =
    ⊎_elim
    (λ (here : r.position ≡ position).
    let same : reruns_at r.position reruns ≡ reruns_at position reruns = ap (λ (p : ℕ). reruns_at p reruns) here in
    omega (arith, room, same, more, one_at-same position r here))
    (λ (elsewhere : r.position ≡ position → ⊥). omega (arith, few, more, one_at-other position r elsewhere))
    (cases_eq r.position position) in
    rw counted (reruns_at-after_reruns culprit asked position longer rs still_few))
    (λ (late : counts culprit asked reruns r ≡ false). rw late (reruns_at-after_reruns culprit asked position reruns rs few))
    (cases_Bool (counts culprit asked reruns r))

none_in_nil : (x : Outcome) → Contains [] x → ⊥
none_in_nil x (k, below, at) = omega (arith, below)

-- a member is the first or one of the rest
first_or_rest : (first x : Outcome) (rest : List Outcome) → Contains (first ∷ rest) x → (first ≡ x) ⊎ Contains rest x
first_or_rest first x rest has =
    ⊎_elim
    (λ (alone : Contains (first ∷ []) x).
    ⊎_elim
    (λ (none : Contains [] x). absurd (none_in_nil x none))
    (λ (same : first ≡ x). inl same)
    (Contains-push_cases [] first x alone))
    (λ (later : Contains rest x). inr later)
    (Contains-append_cases (first ∷ []) rest x has)

Contains-first : (x : Outcome) (rest : List Outcome) → Contains (x ∷ rest) x
Contains-first x rest = Contains-append_left (x ∷ []) rest x (Contains-push [] x)

Contains-rest : (first x : Outcome) (rest : List Outcome) → Contains rest x → Contains (first ∷ rest) x
Contains-rest first x rest has = Contains-append_right (first ∷ []) rest x has

said-same : (a b : Ruling) → said a ≡ said b → a ≡ b
said-same verifying verifying e = refl
said-same verifying confirmed e = cc
said-same verifying vindicating e = cc
said-same confirmed verifying e = cc
said-same confirmed confirmed e = refl
said-same confirmed vindicating e = cc
said-same vindicating verifying e = cc
said-same vindicating confirmed e = cc
said-same vindicating vindicating e = refl

going_or_ended : (ruling : Ruling) → (ruling ≡ verifying) ⊎ (ruling ≡ verifying → ⊥)
going_or_ended verifying = inl refl
going_or_ended confirmed = inr (λ e. cc)
going_or_ended vindicating = inr (λ e. cc)

-- one rerun that counts, or doesn't
answers-counted : (culprit asked : ℕ) (reruns : List Run) (r : Run) (rs : List Run) → counts culprit asked reruns r ≡ true →
    answers culprit asked reruns (r ∷ rs)
    ≡ said (outcome culprit asked (reruns ++ r ∷ [])) ∷ answers culprit asked (reruns ++ r ∷ []) rs
answers-counted culprit asked reruns r rs counted = rw counted refl

answers-late : (culprit asked : ℕ) (reruns : List Run) (r : Run) (rs : List Run) → counts culprit asked reruns r ≡ false →
    answers culprit asked reruns (r ∷ rs) ≡ Late ∷ answers culprit asked reruns rs
answers-late culprit asked reruns r rs late = rw late refl

after_reruns-counted : (culprit asked : ℕ) (reruns : List Run) (r : Run) (rs : List Run) →
    counts culprit asked reruns r ≡ true →
    after_reruns culprit asked reruns (r ∷ rs) ≡ after_reruns culprit asked (reruns ++ r ∷ []) rs
after_reruns-counted culprit asked reruns r rs counted = rw counted refl

after_reruns-late : (culprit asked : ℕ) (reruns : List Run) (r : Run) (rs : List Run) →
    counts culprit asked reruns r ≡ false →
    after_reruns culprit asked reruns (r ∷ rs) ≡ after_reruns culprit asked reruns rs
after_reruns-late culprit asked reruns r rs late = rw late refl

-- after the end every answer is late
answers-ended : (culprit asked : ℕ) (reruns noted : List Run) (ruling : Ruling) →
    (outcome culprit asked reruns ≡ verifying → ⊥) → Contains (answers culprit asked reruns noted) (said ruling) → ⊥
answers-ended culprit asked reruns [] ruling ended has = none_in_nil (said ruling) has
answers-ended culprit asked reruns (r ∷ rs) ruling ended has =
    let late = counts-after_end culprit asked reruns r ended in
    let P : List Outcome → Type 0 = λ given. Contains given (said ruling) in
    let rest = answers culprit asked reruns rs in
    ⊎_elim
    (λ (first : Late ≡ said ruling). said-not_late ruling (sym first))
    (λ (later : Contains rest (said ruling)). answers-ended culprit asked reruns rs ruling ended later)
    (first_or_rest Late (said ruling) rest (subst P (answers-late culprit asked reruns r rs late) has))

-- what an answer says is what the reruns that counted come to
pub outcome-answered : (culprit asked : ℕ) (reruns noted : List Run) (ending : Ruling) → (ending ≡ verifying → ⊥) →
    outcome culprit asked reruns ≡ verifying → Contains (answers culprit asked reruns noted) (said ending) →
    outcome culprit asked (after_reruns culprit asked reruns noted) ≡ ending
outcome-answered culprit asked reruns [] ending real going has = absurd (none_in_nil (said ending) has)
outcome-answered culprit asked reruns (r ∷ rs) ending real going has =
    let longer = reruns ++ r ∷ [] in
    let P : List Outcome → Type 0 = λ given. Contains given (said ending) in
    let outcome_of : List Run → Ruling = outcome culprit asked in
    ⊎_elim
    (λ (counted : counts culprit asked reruns r ≡ true).
    let rest = answers culprit asked longer rs in
    let split = first_or_rest (said (outcome_of longer)) (said ending) rest
    (subst P (answers-counted culprit asked reruns r rs counted) has) in
    ap outcome_of (after_reruns-counted culprit asked reruns r rs counted)
    ∙ ⊎_elim
    (λ (still : outcome_of longer ≡ verifying).
    ⊎_elim
    (λ (first : said (outcome_of longer) ≡ said ending).
    absurd (real (sym (said-same (outcome_of longer) ending first) ∙ still)))
    (λ (later : Contains rest (said ending)). outcome-answered culprit asked longer rs ending real still later)
    split)
    (λ (ended : outcome_of longer ≡ verifying → ⊥).
    ⊎_elim
    (λ (first : said (outcome_of longer) ≡ said ending).
    ap outcome_of (after_reruns-ended culprit asked longer rs ended) ∙ said-same (outcome_of longer) ending first)
    (λ (later : Contains rest (said ending)). absurd (answers-ended culprit asked longer rs ending ended later))
    split)
    (going_or_ended (outcome_of longer)))
    (λ (late : counts culprit asked reruns r ≡ false).
    let rest = answers culprit asked reruns rs in
    ap outcome_of (after_reruns-late culprit asked reruns r rs late)
    ∙ ⊎_elim
    (λ (first : Late ≡ said ending). absurd (said-not_late ending (sym first)))
    (λ (later : Contains rest (said ending)). outcome-answered culprit asked reruns rs ending real going later)
    (first_or_rest Late (said ending) rest (subst P (answers-late culprit asked reruns r rs late) has)))
    (cases_Bool (counts culprit asked reruns r))

-- and what they come to is answered
pub answers-outcome : (culprit asked : ℕ) (reruns noted : List Run) (ending : Ruling) → (ending ≡ verifying → ⊥) →
    outcome culprit asked reruns ≡ verifying → outcome culprit asked (after_reruns culprit asked reruns noted) ≡ ending →
    Contains (answers culprit asked reruns noted) (said ending)
answers-outcome culprit asked reruns [] ending real going is = absurd (real (sym is ∙ going))
answers-outcome culprit asked reruns (r ∷ rs) ending real going is =
    let longer = reruns ++ r ∷ [] in
    let P : List Outcome → Type 0 = λ given. Contains given (said ending) in
    let outcome_of : List Run → Ruling = outcome culprit asked in
    ⊎_elim
    (λ (counted : counts culprit asked reruns r ≡ true).
    let rest = answers culprit asked longer rs in
    let is_longer : outcome_of (after_reruns culprit asked longer rs) ≡ ending =
    sym (ap outcome_of (after_reruns-counted culprit asked reruns r rs counted)) ∙ is in
    subst P (sym (answers-counted culprit asked reruns r rs counted))
    (⊎_elim
    (λ (still : outcome_of longer ≡ verifying).
    Contains-rest (said (outcome_of longer)) (said ending) rest
    (answers-outcome culprit asked longer rs ending real still is_longer))
    (λ (ended : outcome_of longer ≡ verifying → ⊥).
    let here : outcome_of longer ≡ ending = sym (ap outcome_of (after_reruns-ended culprit asked longer rs ended)) ∙ is_longer in
    subst (λ (a : Outcome). Contains (a ∷ rest) (said ending)) (sym (ap said here)) (Contains-first (said ending) rest))
    (going_or_ended (outcome_of longer))))
    (λ (late : counts culprit asked reruns r ≡ false).
    let is_same : outcome_of (after_reruns culprit asked reruns rs) ≡ ending =
    sym (ap outcome_of (after_reruns-late culprit asked reruns r rs late)) ∙ is in
    subst P (sym (answers-late culprit asked reruns r rs late))
    (Contains-rest Late (said ending) (answers culprit asked reruns rs)
    (answers-outcome culprit asked reruns rs ending real going is_same)))
    (cases_Bool (counts culprit asked reruns r))

-- with reruns asked for, none noted leave it open
pub outcome-none_noted : (culprit asked : ℕ) → 1 ≤ asked → outcome culprit asked [] ≡ verifying
outcome-none_noted culprit asked some =
    let few : nat_le asked 0 ≡ false = lt-leb asked 0 some in
    rw few refl

-- the same, of the reruns in time
pub answered_as_ruled : (culprit asked : ℕ) (noted : List Run) (ending : Ruling) → (ending ≡ verifying → ⊥) → 1 ≤ asked →
    (Contains (answers culprit asked [] noted) (said ending))
    ↔ (outcome culprit asked (in_time noted (answers culprit asked [] noted)) ≡ ending)
answered_as_ruled culprit asked noted ending real some =
    let going = outcome-none_noted culprit asked some in
    let same = after_reruns-in_time culprit asked [] noted in
    let outcome_of : List Run → Ruling = outcome culprit asked in (
      λ has. sym (ap outcome_of same) ∙ outcome-answered culprit asked [] noted ending real going has,
      λ is. answers-outcome culprit asked [] noted ending real going (ap outcome_of same ∙ is),
    )

-- with none asked for, no rerun is in time
pub in_time-none_asked : (culprit : ℕ) (noted : List Run) → in_time noted (answers culprit 0 [] noted) ≡ []
in_time-none_asked culprit noted =
    sym (after_reruns-in_time culprit 0 [] noted) ∙ after_reruns-ended culprit 0 [] noted (λ e. cc)

-- and none vindicates the culprit
pub never_vindicated : (culprit : ℕ) (noted : List Run) →
    (Contains (answers culprit 0 [] noted) Vindicated)
    ↔ (outcome culprit 0 (in_time noted (answers culprit 0 [] noted)) ≡ vindicating)
never_vindicated culprit noted = (
  λ has. absurd (answers-ended culprit 0 [] noted vindicating (λ e. cc) has),
  λ is. let none : outcome culprit 0 [] ≡ vindicating = rw (in_time-none_asked culprit noted) at is in absurd cc,
)
