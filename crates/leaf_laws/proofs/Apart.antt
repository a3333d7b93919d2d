-- Whether hypotheses that can't be told apart any more are at the bar together, both ways; and whether a position is open.
use Rattle.std.proofs.Common.{◌≡◌, ℕ, zero, suc, ◌+◌, ◌-◌, ◌<◌, ◌≤◌, ◌⊎◌, inl, inr, ⊎_elim, Bool, true, false, not, List, Contains, None, refl, sym, subst, ◌∙◌, arith, true≢false}
use Rattle.std.proofs.lemmas.Bool.{cases_Bool, cases_lt, false_from_ne_true}
use Rattle.threshold_pick.specs.HiddenBlocks.{first_at, is_hidden, last_below, middle}
use Rattle.threshold_pick.specs.Open.{is_open, is_skipped}
use Rattle.threshold_pick.proofs.HiddenBlocks.{IsHidden-from_test, is_hidden-from_IsHidden, is_hidden-none_open}
use Rattle.weight_exact.specs.Load.{floor}
use Rattle.weight_exact.specs.Weights.{suspects}
use Rattle.farm_entry.specs.History.{openings, runs, skipped}
use Rattle.farm_entry.specs.Legal.{IsLegal}
use Rattle.farm_entry.specs.Setup.{setup_of}
use Rattle.farm_entry.specs.Standing.{at_bar}
use Rattle.farm_entry.specs.declared.entry.Entry.{Entry}
use Rattle.farm_entry.specs.declared.opening.Opening.{Opening}
use Rattle.farm_laws.proofs.InRange.{total-some}
use Rattle.farm_laws.proofs.OpenLimits.{open_within, setup_facts}
use Rattle.leaf_laws.specs.Stands.{AreHidden, IsOpen}

-- where the test of the block round the middle passes, some hypotheses are hidden
pub tested-hidden : (H : List Entry) (o : Opening) → IsLegal H → Contains (openings H) o → at_bar H o ≡ None →
    is_hidden (setup_of o) (runs H o.search) (skipped H o.search) ≡ true →
    (first : ℕ) × (last : ℕ) × AreHidden H o first last
tested-hidden H o legal there none tested =
    let s = setup_of o in
    let m = middle s (runs H o.search) in (
      last_below (skipped H o.search) m + 1,
      first_at (skipped H o.search) m (suspects s),
      IsHidden-from_test s (runs H o.search) (skipped H o.search) (total-some H o legal there) none tested,
    )

-- and back
pub hidden-tested : (H : List Entry) (o : Opening) (first last : ℕ) → IsLegal H → Contains (openings H) o →
    AreHidden H o first last → is_hidden (setup_of o) (runs H o.search) (skipped H o.search) ≡ true
hidden-tested H o first last legal there hides =
    is_hidden-from_IsHidden (setup_of o) (runs H o.search) (skipped H o.search) first last
    (setup_facts o (open_within H o legal there)).above_half (total-some H o legal there) hides

open-kept : (b : Bool) → not b ≡ true → b ≡ false
open-kept false h = refl
open-kept true h = sym h

-- where no position is open it passes too
pub shut-hidden : (H : List Entry) (o : Opening) → IsLegal H → Contains (openings H) o →
    ((position : ℕ) → ¬ IsOpen H o position) → is_hidden (setup_of o) (runs H o.search) (skipped H o.search) ≡ true
shut-hidden H o legal there none =
    let below : (setup_of o).bar_numerator < (setup_of o).bar_denominator =
    (setup_facts o (open_within H o legal there)).below_one in
    is_hidden-none_open (setup_of o) (runs H o.search) (skipped H o.search) (omega (arith, below)) (total-some H o legal there)
    (λ p above within.
    false_from_ne_true (is_open (skipped H o.search) p) (λ yes.
    none p (record { above = above; within = within; kept = open-kept (is_skipped (skipped H o.search) p) yes })))

-- Whether one is open.

-- of the positions above a number, so many, one wasn't skipped, or each was
abbrev SomeOrNone : List ℕ → ℕ → ℕ → Type 0
SomeOrNone skips low more =
    ((p : ℕ) × (low < p) × (p ≤ low + more) × (is_skipped skips p ≡ false))
    ⊎ ((p : ℕ) → low < p → p ≤ low + more → is_skipped skips p ≡ true)

one-further : (skips : List ℕ) (low more : ℕ) → SomeOrNone skips low more → SomeOrNone skips low (suc more)
one-further skips low more (inl (p, above, within, kept)) = inl (p, above, omega (arith, within), kept)
one-further skips low more (inr all) =
    ⊎_elim
    (λ (gone : is_skipped skips (low + suc more) ≡ true).
    inr (λ p above within.
    ⊎_elim (λ (before : p < low + suc more). all p above (omega (arith, before)))
    (λ (past : low + suc more ≤ p).
    let last : low + suc more ≡ p = omega (arith, past, within) in
    subst (λ (q : ℕ). is_skipped skips q ≡ true) last gone)
    (cases_lt p (low + suc more))))
    (λ (kept : is_skipped skips (low + suc more) ≡ false). inl (low + suc more, omega arith, omega arith, kept))
    (cases_Bool (is_skipped skips (low + suc more)))

some-or_none : (skips : List ℕ) (low more : ℕ) → SomeOrNone skips low more
some-or_none skips low zero = inr (λ p above within. absurd (omega (arith, above, within)))
some-or_none skips low (suc more) = one-further skips low more (some-or_none skips low more)

pub open-cases : (H : List Entry) (o : Opening) →
    ((position : ℕ) × IsOpen H o position) ⊎ ((position : ℕ) → ¬ IsOpen H o position)
open-cases H o =
    let low = floor (setup_of o).factors (runs H o.search) in
    let n = suspects (setup_of o) in
    let skips = skipped H o.search in
    ⊎_elim
    (λ (some : (p : ℕ) × (low < p) × (p ≤ low + (n - low)) × (is_skipped skips p ≡ false)).
    inl (some.0, record { above = some.1; within = omega (arith, some.1, some.2); kept = some.3 }))
    (λ (none : (p : ℕ) → low < p → p ≤ low + (n - low) → is_skipped skips p ≡ true).
    inr (λ p is. true≢false (sym (none p is.above (omega (arith, is.above, is.within))) ∙ is.kept)))
    (some-or_none skips low (n - low))
