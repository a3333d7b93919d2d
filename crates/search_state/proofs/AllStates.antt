-- What a history holds of all its searches after appending an entry.
use Rattle.std.proofs.Common.{◌≡◌, ◌≢◌, ℕ, zero, suc, ◌+◌, ◌-◌, ◌<◌, List, [], ◌∷◌, ◌++◌, length, map, set, get_or, Contains, Option, Some, None, refl, sym, ap, ◌∙◌, append-nil, arith}
use Rattle.std.specs.List.{cons_option, range_with_len}
use Rattle.std.proofs.lemmas.List.{map-append}
use Rattle.std.proofs.lemmas.Option.{none-some}
use Rattle.farm_entry.specs.Decision.{run_with}
use Rattle.farm_entry.specs.History.{cancelled_in, lease_of, opening_in, openings, report_in, skip_in, told_in}
use Rattle.farm_entry.specs.Legal.{IsLegal}
use Rattle.farm_entry.specs.declared.entry.Entry.{Entry}
use Rattle.farm_entry.specs.declared.entry.What.{What}
use Rattle.farm_entry.specs.declared.entry.What.TheVariants.{Founded, Opened, Leased, Reported, Skipped, Cancelled, Ordered, Carried, Closed}
use Rattle.farm_entry.specs.declared.lease.LeasedRun.{LeasedRun}
use Rattle.farm_entry.specs.declared.lease.ReportedRun.{ReportedRun}
use Rattle.farm_entry.specs.declared.lease.SkippedRun.{SkippedRun}
use Rattle.farm_entry.specs.declared.opening.Opening.{Opening}
use Rattle.farm_entry.proofs.Growing.{openings-grow}
use Rattle.farm_laws.proofs.EntryParts.{report-told, skip-told}
use Rattle.farm_laws.proofs.Numbered.{number-at, openings-numbered, tail_of}
use Rattle.farm_laws.proofs.Stepped.{Stepped}
use Rattle.farm_laws.specs.Steps.{IsAbout}
use Rattle.farm_laws.proofs.Counting.{about-one}
use Rattle.search_state.specs.SearchView.{SearchView, after_report, after_skip, cancelled, opened}
use Rattle.search_state.specs.Seen.{all_seen, seen}
use Rattle.search_state.proofs.Changes.{cancelled-seen, opened-not_cancelled, opened-not_told, opened-seen, other-seen, reported-seen, skipped-seen}

-- Lists by number.

abbrev head_or : List ℕ → ℕ
head_or [] = 0
head_or (n ∷ ns) = n

-- two functions that agree on each search with another number than one below the first
map-past : (f g : Opening → SearchView) (a n : ℕ) (os : List Opening) → n < a →
    map (λ (o : Opening). o.search) os ≡ range_with_len a (length os) →
    ((x : Opening) → x.search ≢ n → g x ≡ f x) → map g os ≡ map f os
map-past f g a n [] low all same = refl
map-past f g a n (x ∷ os) low all same =
    let first : x.search ≡ a = ap head_or all in
    let here : g x ≡ f x = same x (λ is. absurd (omega (arith, first, low, is))) in
    let rest = map-past f g (a + 1) n os (omega (arith, low)) (ap tail_of all) same in
    λ i. here i ∷ rest i

-- two functions that agree on each search but the k-th
map-set : (f g : Opening → SearchView) (a k : ℕ) (os : List Opening) (o : Opening) → k < length os → get_or os k o ≡ o →
    map (λ (x : Opening). x.search) os ≡ range_with_len a (length os) →
    ((x : Opening) → x.search ≢ a + k → g x ≡ f x) → map g os ≡ set (map f os) k (g o)
map-set f g a k [] o below is all same = absurd (omega (arith, below))
map-set f g a zero (x ∷ os) o below is all same =
    let here : g x ≡ g o = ap g is in
    let rest = map-past f g (a + 1) (a + 0) os (omega arith) (ap tail_of all) same in
    λ i. here i ∷ rest i
map-set f g a (suc k) (x ∷ os) o below is all same =
    let first : x.search ≡ a = ap head_or all in
    let here : g x ≡ f x = same x (λ at. absurd (omega (arith, first, at))) in
    let next : a + 1 + k ≡ a + suc k = omega arith in
    let rest =
    map-set f g (a + 1) k os o (omega (arith, below)) is (ap tail_of all)
    (λ y other. same y (λ at. other (at ∙ sym next))) in
    λ i. here i ∷ rest i

-- What an entry is about.

about-told : (H : List Entry) (w : What) (run : ℕ) (l : LeasedRun) (s : ℕ) → told_in w ≡ Some run →
    lease_of H run ≡ Some l → l.search ≡ s → IsAbout H w s
about-told H (Reported x v f) run l s is known same =
    let it : x ≡ run = cc in (l, ap (lease_of H) it ∙ known, same)
about-told H (Skipped x f) run l s is known same =
    let it : x ≡ run = cc in (l, ap (lease_of H) it ∙ known, same)
about-told H (Founded x) run l s is known same = absurd (none-some run is)
about-told H (Opened o) run l s is known same = absurd (none-some run is)
about-told H (Leased k w n q t p d) run l s is known same = absurd (none-some run is)
about-told H (Cancelled k q) run l s is known same = absurd (none-some run is)
about-told H (Ordered k a n c q d) run l s is known same = absurd (none-some run is)
about-told H (Carried c d) run l s is known same = absurd (none-some run is)
about-told H Closed run l s is known same = absurd (none-some run is)

about-cancel : (H : List Entry) (w : What) (q s : ℕ) → cancelled_in w ≡ Some q → q ≡ s → IsAbout H w s
about-cancel H (Cancelled k x) q s is same = let it : x ≡ q = cc in it ∙ same
about-cancel H (Founded x) q s is same = absurd (none-some q is)
about-cancel H (Opened o) q s is same = absurd (none-some q is)
about-cancel H (Leased k w n x t p d) q s is same = absurd (none-some q is)
about-cancel H (Reported run v _) q s is same = absurd (none-some q is)
about-cancel H (Skipped run _) q s is same = absurd (none-some q is)
about-cancel H (Ordered k a n c x d) q s is same = absurd (none-some q is)
about-cancel H (Carried c d) q s is same = absurd (none-some q is)
about-cancel H Closed q s is same = absurd (none-some q is)

-- an entry that neither reports a run, with a verdict or not, nor cancels a search
about-none : (H : List Entry) (w : What) (s : ℕ) → told_in w ≡ None → cancelled_in w ≡ None → IsAbout H w s → ⊥
about-none H (Reported run v f) s none_told no_end about = none-some run (sym none_told)
about-none H (Skipped run f) s none_told no_end about = none-some run (sym none_told)
about-none H (Cancelled k x) s none_told no_end about = none-some x (sym no_end)
about-none H (Founded x) s none_told no_end about = about
about-none H (Opened o) s none_told no_end about = about
about-none H (Leased k w n x t p d) s none_told no_end about = about
about-none H (Ordered k a n c x d) s none_told no_end about = about
about-none H (Carried c d) s none_told no_end about = about
about-none H Closed s none_told no_end about = about

-- What appending an entry makes of all searches.

same-openings : (H : List Entry) (e : Entry) → opening_in e.what ≡ None → openings (H ++ e ∷ []) ≡ openings H
same-openings H e none =
    openings-grow H e ∙ ap (λ (x : Option Opening). openings H ++ cons_option x []) none ∙ append-nil (openings H)

-- an entry about one search sets what is held of it
pub set-seen : (H : List Entry) (e : Entry) (o : Opening) → IsLegal H → Stepped H e.at e.what → Contains (openings H) o →
    opening_in e.what ≡ None → IsAbout H e.what o.search →
    all_seen (H ++ e ∷ []) ≡ set (all_seen H) (o.search - 1) (seen (H ++ e ∷ []) o)
set-seen H e o legal step there no_opening about =
    let at = number-at (λ (x : Opening). x.search) 1 (openings H) (openings-numbered H legal) there.0 o there.1 in
    let number : o.search ≡ 1 + there.0 = ap (λ (x : Opening). x.search) (sym there.2) ∙ at in
    let place : there.0 ≡ o.search - 1 = omega (arith, number) in
    let longer = H ++ e ∷ [] in
    ap (map (seen longer)) (same-openings H e no_opening)
    ∙ map-set (seen H) (seen longer) 1 there.0 (openings H) o there.1 there.2 (openings-numbered H legal)
    (λ x other. other-seen H e x legal step (λ it. other (about-one H e.what x.search o.search it about ∙ number)))
    ∙ ap (λ (k : ℕ). set (all_seen H) k (seen longer o)) place

pub reported-all : (H : List Entry) (e : Entry) (o : Opening) (r : ReportedRun) (l : LeasedRun) → IsLegal H →
    Stepped H e.at e.what → Contains (openings H) o → opening_in e.what ≡ None → report_in e.what ≡ Some r →
    lease_of H r.run ≡ Some l → l.search ≡ o.search →
    all_seen (H ++ e ∷ [])
    ≡ set (all_seen H) (o.search - 1) (after_report (seen H o) l.stage (run_with l r.verdict) r.fate)
reported-all H e o r l legal step there no_opening is known same =
    set-seen H e o legal step there no_opening
    (about-told H e.what r.run l o.search (report-told e.what r is) known same)
    ∙ ap (λ (s : SearchView). set (all_seen H) (o.search - 1) s) (reported-seen H e o r l legal is known same)

pub skipped-all : (H : List Entry) (e : Entry) (o : Opening) (r : SkippedRun) (l : LeasedRun) → IsLegal H →
    Stepped H e.at e.what → Contains (openings H) o → opening_in e.what ≡ None → skip_in e.what ≡ Some r →
    lease_of H r.run ≡ Some l → l.search ≡ o.search →
    all_seen (H ++ e ∷ []) ≡ set (all_seen H) (o.search - 1) (after_skip (seen H o) l.position r.fate)
skipped-all H e o r l legal step there no_opening is known same =
    set-seen H e o legal step there no_opening
    (about-told H e.what r.run l o.search (skip-told e.what r is) known same)
    ∙ ap (λ (s : SearchView). set (all_seen H) (o.search - 1) s) (skipped-seen H e o r l legal is known same)

pub cancelled-all : (H : List Entry) (e : Entry) (o : Opening) → IsLegal H → Stepped H e.at e.what →
    Contains (openings H) o → opening_in e.what ≡ None → cancelled_in e.what ≡ Some o.search →
    all_seen (H ++ e ∷ []) ≡ set (all_seen H) (o.search - 1) (cancelled (seen H o))
cancelled-all H e o legal step there no_opening is =
    set-seen H e o legal step there no_opening (about-cancel H e.what o.search o.search is refl)
    ∙ ap (λ (s : SearchView). set (all_seen H) (o.search - 1) s) (cancelled-seen H e o legal step is)

-- an entry about none leaves them
map-same : (f g : Opening → SearchView) (os : List Opening) → ((x : Opening) → g x ≡ f x) → map g os ≡ map f os
map-same f g [] same = refl
map-same f g (x ∷ os) same = let rest = map-same f g os same in λ i. same x i ∷ rest i

quiet-map : (H : List Entry) (e : Entry) → IsLegal H → Stepped H e.at e.what → told_in e.what ≡ None →
    cancelled_in e.what ≡ None → map (seen (H ++ e ∷ [])) (openings H) ≡ all_seen H
quiet-map H e legal step none_told no_end =
    map-same (seen H) (seen (H ++ e ∷ [])) (openings H)
    (λ x. other-seen H e x legal step (about-none H e.what x.search none_told no_end))

pub quiet-all : (H : List Entry) (e : Entry) → IsLegal H → Stepped H e.at e.what → opening_in e.what ≡ None →
    told_in e.what ≡ None → cancelled_in e.what ≡ None → all_seen (H ++ e ∷ []) ≡ all_seen H
quiet-all H e legal step no_opening none_told no_end =
    ap (map (seen (H ++ e ∷ []))) (same-openings H e no_opening) ∙ quiet-map H e legal step none_told no_end

-- and one that opens a search adds what is held of it
pub opened-all : (H : List Entry) (e : Entry) (o : Opening) → IsLegal H → Stepped H e.at e.what →
    opening_in e.what ≡ Some o → all_seen (H ++ e ∷ []) ≡ all_seen H ++ opened o ∷ []
opened-all H e o legal step is =
    let longer = H ++ e ∷ [] in
    ap (map (seen longer)) (openings-grow H e ∙ ap (λ (x : Option Opening). openings H ++ cons_option x []) is)
    ∙ map-append (seen longer) (openings H) (o ∷ [])
    ∙ ap (λ (ss : List SearchView). ss ++ seen longer o ∷ [])
    (quiet-map H e legal step (opened-not_told e.what o is) (opened-not_cancelled e.what o is))
    ∙ ap (λ (s : SearchView). all_seen H ++ s ∷ []) (opened-seen H e o legal step is)
