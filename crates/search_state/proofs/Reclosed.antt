-- A search with new parts.
use Rattle.std.proofs.Common.{◌≡◌, ◌≢◌, ℕ, ◌<◌, ◌==◌, nat_lt, false, ◌&&◌, List, [], ◌∷◌, ◌++◌, length, reverse, Option, refl, sym, ap, subst, ◌∙◌, arith}
use Rattle.std.proofs.lemmas.List.{reverse-append}
use Rattle.std.proofs.lemmas.Bool.Decides.{nat_tests}
use Rattle.weight_exact.specs.Budget.{run_budget}
use Rattle.weight_exact.specs.Load.{load}
use Rattle.weight_exact.specs.Share.{reached}
use Rattle.weight_exact.specs.Weights.{Setup}
use Rattle.weight_exact.specs.declared.run.Run.{Run}
use Rattle.posterior.specs.Kept.{Kept}
use Rattle.posterior.specs.StandsFor.{StandsFor}
use Rattle.posterior.specs.declared.belief.Noted.{Noted}
use Rattle.posterior.specs.declared.belief.Noted.TheVariants.{Counted, Over}
use Rattle.farm_rules.specs.Verification.{Verification}
use Rattle.farm_entry.specs.Setup.{budget_of_search, setup_of}
use Rattle.farm_entry.specs.Standing.{standing_of_reached}
use Rattle.farm_entry.specs.declared.opening.Opening.{Opening}
use Rattle.farm_entry.specs.declared.standing.Standing.{Standing}
use Rattle.farm_entry.specs.declared.standing.Standing.TheVariants.{Searching}
use Rattle.farm_laws.proofs.Beliefs.{IsBeliefOf}
use Rattle.search_state.specs.Begun.{IsBegunBy, IsBelieved}
use Rattle.search_state.specs.SearchView.{SearchView, adds_load, bar_of, passes_budget, standing_in}
use Rattle.search_state.specs.SearchInside.{IsSearch, IsSetUp, IsVerificationOf, search_view}
use Rattle.search_state.specs.declared.state.SearchState.TheInside.{Inside}
use Rattle.search_state.proofs.Flags.{IsSearching, believed-standing, searching-parts}
use Rattle.search_state.proofs.Loads.{passes-told}

-- a list that is told one more, read from its oldest on
pub reverse-cons : {X : Type 0} (x : X) (xs : List X) → reverse (x ∷ xs) ≡ reverse xs ++ x ∷ []
reverse-cons x xs = reverse-append (x ∷ []) xs

-- what is not over counts
pub noted-counted : (n : Noted) → n ≢ Over → n ≡ Counted
noted-counted Counted other = refl
noted-counted Over other = absurd (other refl)

-- the number that a budget is past
not-past : (b l : ℕ) → nat_lt b l ≡ false → b < l → ⊥
not-past b l below past = grind (arith, nat_tests)

-- a run that doesn't pass the budget counts
pub run-counts : (o : Opening) (s : Setup) (runs : List Run) (r : Run) (n : Noted) → s ≡ setup_of o →
    nat_lt (budget_of_search o) (load (setup_of o).factors (runs ++ r ∷ [])) ≡ false →
    (n ≡ Over → run_budget s < load s.factors (runs ++ r ∷ [])) → n ≡ Counted
run-counts o s runs r n same within told =
    noted-counted n (λ over.
    not-past (budget_of_search o) (load (setup_of o).factors (runs ++ r ∷ [])) within
    (subst (λ (t : Setup). run_budget t < load t.factors (runs ++ r ∷ [])) same (told over)))

-- one run more at the end of what was told
pub reverse-told : {X : Type 0} (told old : List X) (x : X) → told ≡ x ∷ old → reverse told ≡ reverse old ++ x ∷ []
reverse-told told old x is = ap reverse is ∙ reverse-cons x old

-- A search without reruns that goes by its belief.

-- what is kept says of its belief
pub believed : (s : Inside) → IsSearch s → IsBelieved s.opening.value (reverse s.runs) s.belief s.bar s.suspects
believed s h = record {
  within = h.set_up.within;
  setup = h.setup;
  stands = h.believed;
  bar_is = h.set_up.bar_is;
  suspects_are = h.set_up.suspects_are;
}

pub kept-belief : (s : Inside) → IsSearch s → IsBeliefOf s.opening.value (reverse s.runs) s.belief
kept-belief s h = record { within = h.set_up.within; setup = h.setup; stands = h.believed }

-- its parts, by its opening
pub record IsBegun (o : Opening) (s : Inside) : Type 0 where
  pub set_up : IsSetUp o s.search s.width s.asked s.suspects s.bar s.may_miss
  pub setup : s.belief.setup ≡ setup_of o
  pub believed : StandsFor s.belief (reverse s.runs)
  pub counted_is : s.counted ≡ length s.runs
  pub verified_is : s.verified ≡ 0
  pub no_reruns : s.reruns ≡ []
  pub uncancelled : s.is_cancelled ≡ false
  pub within : s.is_over ≡ false
  pub follows : IsBegunBy o (reverse s.runs) s.skips s.belief s.standing s.first s.verification

begun-here : (s : Inside) → IsBegun s.opening.value s → IsSearch s
begun-here s b =
    let o = s.opening.value in
    let told : List Run = reverse s.runs in
    let none : reverse s.reruns ≡ [] = ap (λ (xs : List Run). reverse xs) b.no_reruns in
    record {
      set_up = b.set_up;
      setup = b.setup;
      believed = b.believed;
      counted_is = b.counted_is;
      verified_is = b.verified_is ∙ sym (ap length b.no_reruns);
      standing_is =
          b.follows.stands
          ∙ ap (λ (xs : List Run). standing_of_reached o told s.skips xs (reached (setup_of o) told)) (sym none)
          ∙ sym (believed-standing (search_view s) (bar_of (search_view s)) b.uncancelled b.within refl);
      none_yet = λ _. b.no_reruns;
      planned = b.follows.planned;
      verified = λ c names.
          subst (λ (n : ℕ). IsVerificationOf s.verification c n (reverse s.reruns)) (sym b.set_up.asked_is)
          (subst (λ (xs : List Run). IsVerificationOf s.verification c o.reruns xs) (sym none)
          (b.follows.verified c names));
    }

-- what follows of one list of runs follows of the same list
pub follows-along : (o : Opening) (told same : List Run) (skipped : List ℕ) (k : Kept) (st : Standing) (first : Option ℕ)
    (v : Verification) → same ≡ told → IsBegunBy o told skipped k st first v → IsBegunBy o same skipped k st first v
follows-along o told same skipped k st first v is follows =
    subst (λ (xs : List Run). IsBegunBy o xs skipped k st first v) (sym is) follows

pub begun-search : (o : Opening) (s : Inside) → s.opening.value ≡ o → IsBegun o s → IsSearch s
begun-search o s same b = begun-here s (subst (λ (x : Opening). IsBegun x s) (sym same) b)

-- the parts of what is kept of a search that is searching
pub kept-searching : (s : Inside) (v : SearchView) → search_view s ≡ v → standing_in v ≡ Searching →
    IsSearching (search_view s)
kept-searching s v is stands =
    searching-parts (search_view s) (subst (λ (x : SearchView). standing_in x ≡ Searching) (sym is) stands)

-- whether one run more passes the budget
pub kept-passes : (s : Inside) (v : SearchView) (r : Run) (l b : ℕ) → IsSearch s → search_view s ≡ v →
    l ≡ s.belief.load → b ≡ run_budget s.belief.setup → passes_budget v r ≡ (adds_load v r && (l == b))
kept-passes s v r l b h is load_is budget_is =
    let within = h.believed.within in
    subst (λ (x : SearchView). passes_budget x r ≡ (adds_load x r && (l == b))) is
    (passes-told (search_view s) r l b
    (load_is ∙ h.believed.load_is ∙ ap (λ (t : Setup). load t.factors (reverse s.runs)) h.setup)
    (budget_is ∙ ap (λ (t : Setup). run_budget t) h.setup) (omega (arith, load_is, budget_is, within)))
