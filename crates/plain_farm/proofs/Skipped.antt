-- The positions of a search that were skipped are those of its suspects and of its base, and a search that was just
-- opened has none.
use Rattle.std.proofs.Common.{◌≡◌, ℕ, ◌+◌, ◌≤◌, ◌==◌, Bool, true, false, List, [], ◌∷◌, ◌++◌, length, get_or, All, Contains, Option, Some, None, refl, sym, ap, ◌∙◌, ⊎_elim, arith}
use Rattle.std.specs.List.{cons_option, filter_map}
use Rattle.std.proofs.lemmas.Bool.Decides.{nat_tests}
use Rattle.std.proofs.lemmas.List.Elements.{All-contains, All-head, All-tail, Contains-get_or}
use Rattle.std.proofs.lemmas.Option.{none-some}
use Rattle.farm_types.specs.declared.stage.Stage.{Stage}
use Rattle.farm_types.specs.declared.stage.Stage.TheVariants.{Search, Verify}
use Rattle.weight_exact.specs.declared.limits.TheConstants.{MAX_SUSPECTS}
use Rattle.farm_entry.specs.History.{all_leases, is_taken, lease_of, opening_in, openings, skipped, skipped_position, skips}
use Rattle.farm_entry.specs.Legal.{IsLegal}
use Rattle.farm_entry.specs.declared.entry.Entry.{Entry}
use Rattle.farm_entry.specs.declared.lease.LeasedRun.{LeasedRun}
use Rattle.farm_entry.specs.declared.lease.SkippedRun.{SkippedRun}
use Rattle.farm_entry.specs.declared.opening.Opening.{Opening}
use Rattle.farm_laws.specs.Openings.{HasOpening}
use Rattle.farm_laws.proofs.Filters.{HasLease}
use Rattle.farm_laws.proofs.InRange.{FitsStage, lease-fits}
use Rattle.farm_laws.proofs.Known.{leases-known, made-from, skips-known}
use Rattle.farm_laws.proofs.Numbered.{lease-there, opening-there}
use Rattle.farm_laws.proofs.OpenLimits.{open_within}
use Rattle.farm_laws.proofs.RunSteps.{chosen_position, skipped_position-is}
use Rattle.farm_laws.proofs.Stepped.{Stepped}
use Rattle.farm_laws.proofs.Beliefs.{hypotheses-of}
use Rattle.plain_farm.proofs.About.{opened-alone}
use Rattle.plain_farm.proofs.Keeping.{opened-number, opening-low}
use Rattle.plain_farm.proofs.Taking.{skipped-told}

-- Where they are.

chosen-parts : (taken here : Bool) (k x : ℕ) → chosen_position taken here k ≡ Some x → (here ≡ true) × (k ≡ x)
chosen-parts true true k x h = (refl, cc)
chosen-parts true false k x h = absurd (none-some x h)
chosen-parts false here k x h = absurd (none-some x h)

lease-low : (H : List Entry) (o : Opening) (position : ℕ) (stage : Stage) → IsLegal H → Contains (openings H) o →
    FitsStage H o stage position → position ≤ MAX_SUSPECTS
lease-low H o position Search legal there fits =
    let at = fits.searching refl in
    let few = (open_within H o legal there).range.few in
    omega (arith, at.1, few, hypotheses-of o)
lease-low H o position Verify legal there fits =
    let at = fits.verifying refl in
    let few = (open_within H o legal there).range.few in
    ⊎_elim (λ (here : position ≡ at.0). omega (arith, here, at.3, few, hypotheses-of o))
    (λ (below : position + 1 ≡ at.0). omega (arith, below, at.3, few, hypotheses-of o)) at.4

position-low : (H : List Entry) (o : Opening) (r : SkippedRun) (x : ℕ) → IsLegal H → Contains (openings H) o →
    HasLease H r.run → skipped_position H o.search r ≡ Some x → x ≤ MAX_SUSPECTS
position-low H o r x legal there has is =
    let l : LeasedRun = has.0 in
    let parts = chosen-parts (is_taken r.fate) (l.search == o.search) l.position x
    (sym (skipped_position-is H o.search r l has.1) ∙ is) in
    let same : l.search ≡ o.search = grind (arith, nat_tests, parts.0) in
    let low = lease-low H o l.position l.stage legal there
    (lease-fits H o l legal there (lease-there H r.run l has.1).0 same) in
    omega (arith, low, parts.1)

pub skipped-low : (H : List Entry) (o : Opening) → IsLegal H → Contains (openings H) o →
    All (λ (p : ℕ). p ≤ MAX_SUSPECTS) (skipped H o.search)
skipped-low H o legal there k d below =
    let from = made-from (skipped_position H o.search) (skips H) (get_or (skipped H o.search) k d)
    (Contains-get_or (skipped H o.search) k d below) in
    position-low H o from.from (get_or (skipped H o.search) k d) legal there
    (All-contains (λ (r : SkippedRun). HasLease H r.run) (skips H) from.from (skips-known H legal) from.there) from.makes

-- A search that was just opened.

all-none : {X Y : Type 0} (f : X → Option Y) (xs : List X) → All (λ (x : X). f x ≡ None) xs → filter_map f xs ≡ []
all-none f [] h = refl
all-none f (x ∷ xs) h =
    ap (λ o. cons_option o (filter_map f xs)) (All-head (λ y. f y ≡ None) x xs h)
    ∙ all-none f xs (All-tail (λ y. f y ≡ None) x xs h)

elsewhere : (taken : Bool) (n s k : ℕ) → n + 1 ≤ s → chosen_position taken (n == s) k ≡ None
elsewhere taken n s k low =
    let other : n == s ≡ false = grind (arith, nat_tests, low) in
    ap (λ (here : Bool). chosen_position taken here k) other ∙ not-here taken k
  where
    not-here : (taken : Bool) (k : ℕ) → chosen_position taken false k ≡ None
    not-here true k = refl
    not-here false k = refl

-- the number of a lease's search is that of one that was opened
lease-search-low : (H : List Entry) (run : ℕ) (l : LeasedRun) → IsLegal H → lease_of H run ≡ Some l →
    l.search ≤ length (openings H)
lease-search-low H run l legal known =
    let has : HasOpening H l.search =
    All-contains (λ (x : LeasedRun). HasOpening H x.search) (all_leases H) l (leases-known H legal)
    (lease-there H run l known).0 in
    let there = opening-there H l.search has.0 has.1 in
    let low = opening-low H has.0 legal there.0 in
    omega (arith, low, there.1)

-- none of another search's positions is one of a search with a greater number than all
none-skipped : (H : List Entry) (s : ℕ) → IsLegal H → length (openings H) + 1 ≡ s → skipped H s ≡ []
none-skipped H s legal next =
    all-none (skipped_position H s) (skips H)
    (λ k d below.
    let r : SkippedRun = get_or (skips H) k d in
    let known : HasLease H r.run = skips-known H legal k d below in
    let low = lease-search-low H r.run known.0 legal known.1 in
    skipped_position-is H s r known.0 known.1
    ∙ elsewhere (is_taken r.fate) known.0.search s known.0.position (omega (arith, low, next)))

pub fresh-skipped : (H : List Entry) (e : Entry) (o : Opening) → IsLegal H → Stepped H e.at e.what →
    opening_in e.what ≡ Some o → skipped (H ++ e ∷ []) o.search ≡ []
fresh-skipped H e o legal step is =
    skipped-told H e o.search legal (opened-alone e.what o is).skip
    ∙ none-skipped H o.search legal (sym (opened-number H e o step is))
