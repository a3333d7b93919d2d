-- How many leases each row counts, with an entry appended, and with the last one taken away.
use Rattle.std.proofs.Common.{◌≡◌, ◌≢◌, ◌⊎◌, inr, ⊎_elim, ℕ, zero, suc, ◌+◌, ◌-◌, ◌<◌, ◌≤◌, ◌==◌, Bool, true, false, if◌then◌else◌, List, [], ◌∷◌, ◌++◌, length, set, get_or, take, filter, Contains, Option, Some, None, refl, sym, ap, ◌∙◌, arith, length-append}
use Rattle.std.specs.List.{cons_option}
use Rattle.std.specs.Option.{IfSome, is_some}
use Rattle.std.proofs.lemmas.Bool.{cases_eq, cases_lt}
use Rattle.std.proofs.lemmas.Bool.Decides.{nat_tests}
use Rattle.std.proofs.lemmas.List.{get_or-set_same, get_or-set_other}
use Rattle.std.proofs.lemmas.List.Elements.{All-contains}
use Rattle.farm_entry.specs.History.{all_leases, lease_in, leases, opening_in, openings}
use Rattle.farm_entry.specs.Legal.{IsLegal}
use Rattle.farm_entry.specs.declared.entry.Entry.{Entry}
use Rattle.farm_entry.specs.declared.entry.What.{What}
use Rattle.farm_entry.specs.declared.entry.What.TheVariants.{Founded, Opened, Leased, Reported, Skipped, Cancelled, Ordered, Carried, Closed}
use Rattle.farm_entry.specs.declared.lease.LeasedRun.{LeasedRun}
use Rattle.farm_entry.specs.declared.opening.Opening.{Opening}
use Rattle.farm_laws.specs.Openings.{HasOpening}
use Rattle.farm_laws.proofs.Filters.{leases-grow}
use Rattle.farm_laws.proofs.Known.{leases-known}
use Rattle.farm_laws.proofs.Lists.{nil-filter}
use Rattle.farm_laws.proofs.Numbered.{number-at, opening-there, openings-numbered}
use Rattle.farm_ledger.specs.Rows.{blank, one_less, one_more, with_lease, with_row, without_lease, without_row}
use Rattle.farm_ledger.specs.declared.notes.Row.{Row}

-- the count of the row at a place
abbrev pub count_at : List Row → ℕ → ℕ
count_at rows k = (get_or rows k blank).leases

-- what a lease adds to it
abbrev pub added_at : Option LeasedRun → ℕ → ℕ
added_at None k = 0
added_at (Some l) k = if l.search == k + 1 then 1 else 0

-- a lease is of a search that has a row
abbrev pub HasRow : List Row → LeasedRun → Type 0
HasRow rows l = (0 < l.search) × (l.search ≤ length rows)

-- Rows that are changed.

pub added-row : (rows : List Row) (is_opening : Bool) (place k : ℕ) → count_at (with_row rows is_opening place) k ≡ count_at rows k
added-row rows false place k = refl
added-row [] true place zero = refl
added-row [] true place (suc k) = refl
added-row (r ∷ rows) true place zero = refl
added-row (r ∷ rows) true place (suc k) = added-row rows true place k

taken-within : (n : ℕ) (rows : List Row) (k : ℕ) → k < n → count_at (take n rows) k ≡ count_at rows k
taken-within zero rows k low = absurd (omega (arith, low))
taken-within (suc n) [] k low = refl
taken-within (suc n) (r ∷ rows) zero low = refl
taken-within (suc n) (r ∷ rows) (suc k) low = taken-within n rows k (omega (arith, low))

taken-past : (n : ℕ) (rows : List Row) (k : ℕ) → n ≤ k → count_at (take n rows) k ≡ 0
taken-past zero rows k high = refl
taken-past (suc n) [] k high = refl
taken-past (suc n) (r ∷ rows) zero high = absurd (omega (arith, high))
taken-past (suc n) (r ∷ rows) (suc k) high = taken-past n rows k (omega (arith, high))

-- a count that is set, and the others
set-here : (rows : List Row) (i k : ℕ) (row : Row) → i < length rows → k ≡ i → count_at (set rows i row) k ≡ row.leases
set-here rows i k row below here =
    ap (count_at (set rows i row)) here ∙ ap (λ (r : Row). r.leases) (get_or-set_same rows i row blank below)

set-there : (rows : List Row) (i k : ℕ) (row : Row) → (k ≡ i → ⊥) → count_at (set rows i row) k ≡ count_at rows k
set-there rows i k row other = ap (λ (r : Row). r.leases) (get_or-set_other rows i k row blank other)

pub counted-more : (rows : List Row) (lease : Option LeasedRun) (k : ℕ) → IfSome lease (HasRow rows) →
    count_at (with_lease rows lease) k ≡ count_at rows k + added_at lease k
counted-more rows None k has = omega arith
counted-more rows (Some l) k has =
    let i : ℕ = l.search - 1 in
    ⊎_elim
    (λ (here : k ≡ i).
    let this : l.search == k + 1 ≡ true = grind (arith, nat_tests, here, has.0) in
    let one : added_at (Some l) k ≡ 1 = ap (λ (b : Bool). if b then 1 else 0) this in
    let made : count_at (set rows i (one_more (get_or rows i blank))) k ≡ count_at rows i + 1 =
    set-here rows i k (one_more (get_or rows i blank)) (omega (arith, has.0, has.1)) here in
    omega (arith, made, one, ap (count_at rows) here))
    (λ (there : k ≡ i → ⊥).
    let other : l.search == k + 1 ≡ false = grind (arith, nat_tests, there, has.0) in
    let none : added_at (Some l) k ≡ 0 = ap (λ (b : Bool). if b then 1 else 0) other in
    let same : count_at (set rows i (one_more (get_or rows i blank))) k ≡ count_at rows k =
    set-there rows i k (one_more (get_or rows i blank)) there in
    omega (arith, same, none))
    (cases_eq k i)

pub counted-less : (rows : List Row) (lease : Option LeasedRun) (k : ℕ) → IfSome lease (HasRow rows) →
    IfSome lease (λ l. 0 < count_at rows (l.search - 1)) →
    count_at (without_lease rows lease) k + added_at lease k ≡ count_at rows k
counted-less rows None k has some = omega arith
counted-less rows (Some l) k has some =
    let i : ℕ = l.search - 1 in
    ⊎_elim
    (λ (here : k ≡ i).
    let this : l.search == k + 1 ≡ true = grind (arith, nat_tests, here, has.0) in
    let one : added_at (Some l) k ≡ 1 = ap (λ (b : Bool). if b then 1 else 0) this in
    let made : count_at (set rows i (one_less (get_or rows i blank))) k ≡ count_at rows i - 1 =
    set-here rows i k (one_less (get_or rows i blank)) (omega (arith, has.0, has.1)) here in
    omega (arith, made, one, some, ap (count_at rows) here))
    (λ (there : k ≡ i → ⊥).
    let other : l.search == k + 1 ≡ false = grind (arith, nat_tests, there, has.0) in
    let none : added_at (Some l) k ≡ 0 = ap (λ (b : Bool). if b then 1 else 0) other in
    let same : count_at (set rows i (one_less (get_or rows i blank))) k ≡ count_at rows k =
    set-there rows i k (one_less (get_or rows i blank)) there in
    omega (arith, same, none))
    (cases_eq k i)

-- The leases of a history.

kept-one : (l : LeasedRun) (b : Bool) → length (if b then l ∷ [] else []) ≡ (if b then 1 else 0)
kept-one l true = refl
kept-one l false = refl

handed-length : (lease : Option LeasedRun) (k : ℕ) →
    length (filter (λ (l : LeasedRun). l.search == k + 1) (cons_option lease [])) ≡ added_at lease k
handed-length None k = refl
handed-length (Some l) k = kept-one l (l.search == k + 1)

pub leases-more : (H : List Entry) (e : Entry) (k : ℕ) →
    length (leases (H ++ e ∷ []) (k + 1)) ≡ length (leases H (k + 1)) + added_at (lease_in e.what) k
leases-more H e k =
    let handed = filter (λ (l : LeasedRun). l.search == k + 1) (cons_option (lease_in e.what) []) in
    ap length (leases-grow H e (k + 1))
    ∙ length-append (leases H (k + 1)) handed
    ∙ ap (λ (n : ℕ). length (leases H (k + 1)) + n) (handed-length (lease_in e.what) k)

-- the number of a search that was opened
pub opened-number : (H : List Entry) (o : Opening) → IsLegal H → Contains (openings H) o →
    (1 ≤ o.search) × (o.search ≤ length (openings H))
opened-number H o legal there =
    let at = number-at (λ (x : Opening). x.search) 1 (openings H) (openings-numbered H legal) there.0 o there.1 in
    let number : o.search ≡ 1 + there.0 = ap (λ (x : Opening). x.search) (sym there.2) ∙ at in
    (omega (arith, number), omega (arith, number, there.1))

-- a number that no search has
abbrev pub IsUnopened : List Entry → ℕ → Type 0
IsUnopened H n = (n ≡ 0) ⊎ (length (openings H) < n)

pub unopened-differs : (H : List Entry) (o : Opening) (n : ℕ) → IsLegal H → Contains (openings H) o → IsUnopened H n → o.search ≢ n
unopened-differs H o n legal there out same =
    let number = opened-number H o legal there in
    ⊎_elim
    (λ (none : n ≡ 0). absurd (omega (arith, none, same, number.0)))
    (λ (past : length (openings H) < n). absurd (omega (arith, past, same, number.1)))
    out

-- a search that was never opened has none
pub unleased : (H : List Entry) (n : ℕ) → IsLegal H → IsUnopened H n → leases H n ≡ []
unleased H n legal out =
    nil-filter (λ (l : LeasedRun). l.search == n) (all_leases H)
    (λ l there.
    let known = All-contains (λ (x : LeasedRun). HasOpening H x.search) (all_leases H) l (leases-known H legal) there in
    let found = opening-there H l.search known.0 known.1 in
    let other : (l.search ≡ n) → ⊥ = λ same. unopened-differs H known.0 n legal found.0 out (found.1 ∙ same) in
    grind (arith, nat_tests, other))

-- Both together.

pub pushed-counts : (H : List Entry) (e : Entry) (rows : List Row) (is_opening : Bool) (place : ℕ) →
    ((k : ℕ) → count_at rows k ≡ length (leases H (k + 1))) → IfSome (lease_in e.what) (HasRow rows) →
    (k : ℕ) → count_at (with_row (with_lease rows (lease_in e.what)) is_opening place) k ≡ length (leases (H ++ e ∷ []) (k + 1))
pushed-counts H e rows is_opening place are has k =
    let more = counted-more rows (lease_in e.what) k has in
    added-row (with_lease rows (lease_in e.what)) is_opening place k
    ∙ omega (arith, more, are k, leases-more H e k)

opening-not_lease : (w : What) → is_some (opening_in w) ≡ true → lease_in w ≡ None
opening-not_lease (Opened o) h = refl
opening-not_lease (Founded x) h = refl
opening-not_lease (Leased k w n q t p d) h = absurd (cc)
opening-not_lease (Reported r v _) h = refl
opening-not_lease (Skipped r _) h = refl
opening-not_lease (Cancelled k q) h = refl
opening-not_lease (Ordered k a n c q d) h = refl
opening-not_lease (Carried c d) h = refl
opening-not_lease Closed h = refl

popped-by : (G : List Entry) (e : Entry) (rows : List Row) (is_opening : Bool) → IsLegal G →
    is_some (opening_in e.what) ≡ is_opening → length rows ≡ length (openings (G ++ e ∷ [])) →
    length (openings (G ++ e ∷ [])) ≡ length (openings G) + (if is_opening then 1 else 0) →
    ((k : ℕ) → count_at rows k ≡ length (leases (G ++ e ∷ []) (k + 1))) → IfSome (lease_in e.what) (HasRow rows) →
    IfSome (lease_in e.what) (λ l. 0 < count_at rows (l.search - 1)) →
    (k : ℕ) → count_at (without_row (without_lease rows (lease_in e.what)) is_opening) k ≡ length (leases G (k + 1))
popped-by G e rows false legal is long more are has some k =
    let less = counted-less rows (lease_in e.what) k has some in omega (arith, less, are k, leases-more G e k)
popped-by G e rows true legal is long more are has some k =
    let none : lease_in e.what ≡ None = opening-not_lease e.what is in
    let same : without_lease rows (lease_in e.what) ≡ rows = ap (without_lease rows) none in
    let nothing : added_at (lease_in e.what) k ≡ 0 = ap (λ (x : Option LeasedRun). added_at x k) none in
    let front : count_at (take (length rows - 1) rows) k ≡ length (leases G (k + 1)) =
    ⊎_elim
    (λ (low : k < length rows - 1).
    taken-within (length rows - 1) rows k low ∙ omega (arith, are k, leases-more G e k, nothing))
    (λ (high : length rows - 1 ≤ k).
    taken-past (length rows - 1) rows k high
    ∙ sym (ap length (unleased G (k + 1) legal (inr (omega (arith, high, long, more))))))
    (cases_lt k (length rows - 1)) in
    ap (λ (rs : List Row). count_at (take (length rs - 1) rs) k) same ∙ front

pub popped-counts : (G : List Entry) (e : Entry) (rows : List Row) → IsLegal G →
    length rows ≡ length (openings (G ++ e ∷ [])) →
    length (openings (G ++ e ∷ [])) ≡ length (openings G) + (if is_some (opening_in e.what) then 1 else 0) →
    ((k : ℕ) → count_at rows k ≡ length (leases (G ++ e ∷ []) (k + 1))) → IfSome (lease_in e.what) (HasRow rows) →
    IfSome (lease_in e.what) (λ l. 0 < count_at rows (l.search - 1)) →
    (k : ℕ) → count_at (without_row (without_lease rows (lease_in e.what)) (is_some (opening_in e.what))) k ≡ length (leases G (k + 1))
popped-counts G e rows legal long more are has some k =
    popped-by G e rows (is_some (opening_in e.what)) legal refl long more are has some k
