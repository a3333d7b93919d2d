-- What is left of a plan, entry by entry.
use Rattle.std.proofs.Common.{◌≡◌, ℕ, ◌+◌, ◌<◌, ◌≤◌, List, [], ◌∷◌, ◌++◌, length, take, drop, get_or, Some, refl, ◌∙◌, ap, sym, arith, add-one, ⊎_elim}
use Rattle.std.proofs.Math.Seq.{drop-cons}
use Rattle.std.proofs.Math.ListN.{drop_of_length-le}
use Rattle.std.proofs.lemmas.Bool.{cases_lt}
use Rattle.std.proofs.lemmas.List.{append-nil, take-append-drop}
use Rattle.farm_rules.specs.Due.{strike, struck, first_entry, times_at}
use Rattle.farm_rules.proofs.Striking.{length-struck, struck-cons_left, struck-cons_struck, struck-nil, times_at-cons, times_at-strike}

-- No entry is left of these: the runs that are left over, once each stood for the entry that it strikes, stand for the
-- entries that come after. They are what is left of the runs where the entries strike them
record AreStruck (entries outstanding : List ℕ) : Type 0 where
  rest : (after : List ℕ) → struck (entries ++ after) outstanding ≡ struck after (struck outstanding entries)
  counts : (p : ℕ) → times_at p (struck outstanding entries) + times_at p entries ≡ times_at p outstanding

are_struck : (entries outstanding : List ℕ) → struck entries outstanding ≡ [] → AreStruck entries outstanding
are_struck [] outstanding none = record { rest = λ after. refl; counts = λ p. omega arith }
are_struck (entry ∷ entries) outstanding none =
    ⊎_elim
    (λ (some : 0 < times_at entry outstanding).
    let others : AreStruck entries (strike entry outstanding) =
    are_struck entries (strike entry outstanding) (sym (struck-cons_struck entry entries outstanding some) ∙ none) in
    record {
      rest = λ after. struck-cons_struck entry (entries ++ after) outstanding some ∙ others.rest after;
      counts = λ p.
          omega (arith, others.counts p, times_at-strike p entry outstanding some, times_at-cons p entry entries);
    })
    (λ (free : times_at entry outstanding ≤ 0).
    let left : struck (entry ∷ entries) outstanding ≡ entry ∷ struck entries outstanding =
    struck-cons_left entry entries outstanding (omega (arith, free)) in
    let long : length (struck (entry ∷ entries) outstanding) ≡ length (struck entries outstanding) + 1 =
    ap (length {A = ℕ}) left ∙ sym (add-one (length (struck entries outstanding))) in
    absurd (omega (arith, long, ap (length {A = ℕ}) none)))
    (cases_lt 0 (times_at entry outstanding))

-- the next entry is left where it stands before as often as runs are outstanding there
pub first_entry-next : (before outstanding after : List ℕ) (position : ℕ) → struck before outstanding ≡ [] →
    times_at position outstanding ≤ times_at position before →
    first_entry (struck (before ++ position ∷ after) outstanding) ≡ Some position
first_entry-next before outstanding after position none enough =
    let all = are_struck before outstanding none in
    ap first_entry
    (all.rest (position ∷ after)
    ∙ struck-cons_left position after (struck outstanding before) (omega (arith, all.counts position, enough)))

-- and struck where it stands fewer times
pub struck-next : (before outstanding : List ℕ) (position : ℕ) → struck before outstanding ≡ [] →
    times_at position before < times_at position outstanding → struck (before ++ position ∷ []) outstanding ≡ []
struck-next before outstanding position none fewer =
    let all = are_struck before outstanding none in
    all.rest (position ∷ [])
    ∙ struck-cons_struck position [] (struck outstanding before) (omega (arith, all.counts position, fewer))
    ∙ struck-nil (strike position (struck outstanding before))

-- a plan by the entries before an index, the one there and those after it
plan-at : (plan : List ℕ) (index : ℕ) → index < length plan →
    plan ≡ take index plan ++ get_or plan index 0 ∷ drop (index + 1) plan
plan-at plan index within =
    sym (take-append-drop index plan)
    ∙ ap (λ (xs : List ℕ). take index plan ++ xs) (rw add-one (drop-cons plan index 0 within))

-- so the entry at an index is the first that is left, where it is left whatever comes after it
pub first_entry-at : (plan outstanding : List ℕ) (index : ℕ) → index < length plan →
    ((after : List ℕ) →
    first_entry (struck (take index plan ++ get_or plan index 0 ∷ after) outstanding) ≡ Some (get_or plan index 0)) →
    first_entry (struck plan outstanding) ≡ Some (get_or plan index 0)
first_entry-at plan outstanding index within left =
    ap (λ (xs : List ℕ). first_entry (struck xs outstanding)) (plan-at plan index within) ∙ left (drop (index + 1) plan)

-- where no entry of the plan is left, nothing is
pub struck-none_left : (plan outstanding : List ℕ) (index : ℕ) → length plan ≤ index →
    struck (take index plan) outstanding ≡ [] → struck plan outstanding ≡ []
struck-none_left plan outstanding index past none =
    let whole : plan ≡ take index plan =
    sym (take-append-drop index plan) ∙ ap (λ (xs : List ℕ). take index plan ++ xs) (drop_of_length-le plan past)
    ∙ append-nil (take index plan) in
    ap (λ (xs : List ℕ). struck xs outstanding) whole ∙ none

-- then at least as many runs are outstanding as the plan has entries
pub length-none_left : (plan outstanding : List ℕ) → struck plan outstanding ≡ [] → length plan ≤ length outstanding
length-none_left plan outstanding none =
    omega (arith, length-struck plan outstanding, ap (length {A = ℕ}) none)
