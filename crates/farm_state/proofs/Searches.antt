-- The searches of a history, by their numbers.
use Rattle.std.proofs.Common.{◌≡◌, ◌⊎◌, ⊎_elim, ℕ, zero, suc, ◌+◌, ◌-◌, ◌<◌, ◌≤◌, List, [], ◌∷◌, ◌++◌, length, get_or, Contains, true, false, true≢false, Option, Some, None, refl, sym, ap, subst, ◌∙◌, arith, length-append}
use Rattle.std.specs.List.{cons_option}
use Rattle.std.specs.Option.{is_some, option_map}
use Rattle.std.proofs.lemmas.List.{get_or-map, get_or_push, length-map}
use Rattle.std.proofs.lemmas.List.Elements.{All-contains}
use Rattle.std.proofs.lemmas.Option.{none-some}
use Rattle.farm_entry.specs.History.{all_leases, lease_of, opening_in, opening_numbered, openings, report_in, skip_in, told_in}
use Rattle.farm_entry.specs.Legal.{IsLegal}
use Rattle.farm_entry.specs.declared.entry.Entry.{Entry}
use Rattle.farm_entry.specs.declared.entry.What.{What}
use Rattle.farm_entry.specs.declared.entry.What.TheVariants.{Founded, Opened, Leased, Reported, Skipped, Cancelled, Ordered, Carried, Closed}
use Rattle.farm_entry.specs.declared.lease.LeasedRun.{LeasedRun}
use Rattle.farm_entry.specs.declared.lease.ReportedRun.{ReportedRun}
use Rattle.farm_entry.specs.declared.lease.SkippedRun.{SkippedRun}
use Rattle.farm_entry.specs.declared.opening.Opening.{Opening}
use Rattle.farm_entry.proofs.Growing.{openings-grow}
use Rattle.farm_laws.specs.Openings.{HasOpening, OpenWithin}
use Rattle.farm_laws.proofs.Known.{leases-known}
use Rattle.farm_laws.proofs.Numbered.{lease-there, number-at, opening-found, opening-there, openings-numbered}
use Rattle.farm_laws.proofs.OpenLimits.{open_within}
use Rattle.search_state.specs.SearchView.{SearchView}
use Rattle.search_state.specs.Seen.{all_seen, seen}

-- the search of a number
pub record IsSearchOf (H : List Entry) (search : ℕ) : Type 0 where
  pub opening : Opening
  pub there : Contains (openings H) opening
  pub same : search ≡ opening.search

pub search-of_opening : (H : List Entry) (search : ℕ) → HasOpening H search → IsSearchOf H search
search-of_opening H search has =
    let there = opening-there H search has.0 has.1 in
    record { opening = has.0; there = there.0; same = sym there.1 }

-- that of a run that was handed out
pub search-of_lease : (H : List Entry) (run : ℕ) (l : LeasedRun) → IsLegal H → lease_of H run ≡ Some l →
    IsSearchOf H l.search
search-of_lease H run l legal known =
    search-of_opening H l.search
    (All-contains (λ (x : LeasedRun). HasOpening H x.search) (all_leases H) l (leases-known H legal) (lease-there H run l known).0)

-- its number, and its state among all
pub search-low : (H : List Entry) (search : ℕ) → IsLegal H → IsSearchOf H search → 1 ≤ search
search-low H search legal s =
    let at = number-at (λ (x : Opening). x.search) 1 (openings H) (openings-numbered H legal) s.there.0 s.opening s.there.1 in
    let number : s.opening.search ≡ 1 + s.there.0 = ap (λ (x : Opening). x.search) (sym s.there.2) ∙ at in
    omega (arith, number, s.same)

pub search-high : (H : List Entry) (search : ℕ) → IsLegal H → IsSearchOf H search → search - 1 < length (all_seen H)
search-high H search legal s =
    let at = number-at (λ (x : Opening). x.search) 1 (openings H) (openings-numbered H legal) s.there.0 s.opening s.there.1 in
    let number : s.opening.search ≡ 1 + s.there.0 = ap (λ (x : Opening). x.search) (sym s.there.2) ∙ at in
    omega (arith, number, s.same, s.there.1, length-map (openings H) (seen H))

pub search-state : (H : List Entry) (search : ℕ) (d : SearchView) → IsLegal H → (s : IsSearchOf H search) →
    get_or (all_seen H) (search - 1) d ≡ seen H s.opening
search-state H search d legal s =
    let o : Opening = s.opening in
    let at = number-at (λ (x : Opening). x.search) 1 (openings H) (openings-numbered H legal) s.there.0 o s.there.1 in
    let number : o.search ≡ 1 + s.there.0 = ap (λ (x : Opening). x.search) (sym s.there.2) ∙ at in
    let place : search - 1 ≡ s.there.0 = omega (arith, number, s.same) in
    ap (λ (k : ℕ). get_or (all_seen H) k d) place
    ∙ get_or-map (seen H) (openings H) s.there.0 o d s.there.1
    ∙ ap (seen H) s.there.2

-- a search that an entry opens was opened within the limits
last-there : (os : List Opening) (o : Opening) → Contains (os ++ o ∷ []) o
last-there os o =
    let long : length (os ++ o ∷ []) ≡ length os + 1 = length-append os (o ∷ []) in
    (length os, omega (arith, long), get_or_push os o o (length os) refl)

pub opened-within : (H : List Entry) (e : Entry) (o : Opening) → IsLegal (H ++ e ∷ []) → opening_in e.what ≡ Some o →
    OpenWithin o
opened-within H e o longer is =
    open_within (H ++ e ∷ []) o longer
    (subst (λ (os : List Opening). Contains os o)
    (sym (openings-grow H e ∙ ap (λ (x : Option Opening). openings H ++ cons_option x []) is))
    (last-there (openings H) o))

-- Searches by number.

-- a number past the searches, and 0, is none's
none-by : (H : List Entry) (n : ℕ) (x : Option Opening) → IsLegal H → opening_numbered H n ≡ x →
    (n ≡ 0) ⊎ (length (openings H) < n) → opening_numbered H n ≡ None
none-by H n None legal is out = is
none-by H n (Some o) legal is out =
    let s = search-of_opening H n (o, is) in
    let low = search-low H n legal s in
    let high = search-high H n legal s in
    let long : length (all_seen H) ≡ length (openings H) = length-map (openings H) (seen H) in
    absurd (⊎_elim (λ (zero_is : n ≡ 0). omega (arith, low, zero_is))
    (λ (past : length (openings H) < n). omega (arith, low, high, long, past)) out)

pub search-none : (H : List Entry) (n : ℕ) → IsLegal H → (n ≡ 0) ⊎ (length (openings H) < n) →
    option_map (seen H) (opening_numbered H n) ≡ None
search-none H n legal out = ap (option_map (seen H)) (none-by H n (opening_numbered H n) legal refl out)

-- the element at an index
element-at : (os : List Opening) (i : ℕ) → i < length os → (o : Opening) × (get_or os i o ≡ o)
element-at [] i below = absurd (omega (arith, below))
element-at (x ∷ os) zero below = (x, refl)
element-at (x ∷ os) (suc i) below = element-at os i (omega (arith, below))

-- a number up to that of the last is that of a search, which has its state
pub search-some : (H : List Entry) (n : ℕ) (d : SearchView) → IsLegal H → 1 ≤ n → n ≤ length (openings H) →
    option_map (seen H) (opening_numbered H n) ≡ Some (get_or (all_seen H) (n - 1) d)
search-some H n d legal low high =
    let below : n - 1 < length (openings H) = omega (arith, low, high) in
    let it = element-at (openings H) (n - 1) below in
    let o : Opening = it.0 in
    let there : Contains (openings H) o = (n - 1, below, it.1) in
    let at = number-at (λ (x : Opening). x.search) 1 (openings H) (openings-numbered H legal) (n - 1) o below in
    let number : o.search ≡ 1 + (n - 1) = ap (λ (x : Opening). x.search) (sym it.1) ∙ at in
    let same : n ≡ o.search = omega (arith, number, low) in
    ap (λ (k : ℕ). option_map (seen H) (opening_numbered H k)) same
    ∙ ap (option_map (seen H)) (opening-found H o legal there)
    ∙ ap Some (sym (search-state H n d legal (record { opening = o; there = there; same = same })))

-- What an entry opens.

-- something
pub opened-some : (x : Option Opening) → is_some x ≡ true → (o : Opening) × (x ≡ Some o)
opened-some None h = absurd (true≢false (sym h))
opened-some (Some o) h = (o, refl)

-- or nothing
pub opened-none : (x : Option Opening) → is_some x ≡ false → x ≡ None
opened-none None h = refl
opened-none (Some o) h = absurd (true≢false h)

-- What an entry reports: a run neither with a verdict nor without one.
pub neither-told : (w : What) → report_in w ≡ None → skip_in w ≡ None → told_in w ≡ None
neither-told (Reported run v f) no_report no_skip =
    let r : ReportedRun = record { run = run; verdict = v; fate = f } in absurd (none-some r (sym no_report))
neither-told (Skipped run f) no_report no_skip =
    let r : SkippedRun = record { run = run; fate = f } in absurd (none-some r (sym no_skip))
neither-told (Founded settings) no_report no_skip = refl
neither-told (Opened o) no_report no_skip = refl
neither-told (Leased key worker run search stage position deadline) no_report no_skip = refl
neither-told (Cancelled key search) no_report no_skip = refl
neither-told (Ordered key agent order commit search day) no_report no_skip = refl
neither-told (Carried commit day) no_report no_skip = refl
neither-told Closed no_report no_skip = refl
