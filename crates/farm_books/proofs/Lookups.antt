-- Places of keys and of reports after appending an entry, and after one less.
use Rattle.std.proofs.Common.{◌≡◌, ◌≢◌, ℕ, ◌+◌, ◌<◌, ◌≤◌, Bool, true, false, cond, List, [], ◌∷◌, ◌++◌, length, position, Option, Some, None, refl, sym, ap, ◌∙◌, ⊎_elim, arith, length-append}
use Rattle.std.proofs.lemmas.Bool.{cases_eq, cases_lt}
use Rattle.std.proofs.lemmas.Bool.Decides.{nat_tests}
use Rattle.std.proofs.Math.ListN.{get_or-append}
use Rattle.std.proofs.lemmas.List.{get_or_push}
use Rattle.std.proofs.lemmas.List.Quantifiers.{position-Some}
use Rattle.std.proofs.lemmas.Cmp.{nat_cmp_total}
use Rattle.std.specs.FinMap.{get, get-insert, get-remove, insert, remove}
use Rattle.farm_types.specs.declared.key.Key.{Key}
use Rattle.farm_types.proofs.FirstIndex.{fails-from_none, position-first, position-none}
use Rattle.search_books.proofs.Finds.{tied, untied}
use Rattle.farm_entry.specs.History.{has_key, is_key, is_of_run, is_report_of, key_in, place_of_key, place_of_report, told_in}
use Rattle.farm_entry.specs.declared.entry.Entry.{Entry}
use Rattle.farm_books.specs.Kept.{AreKeys, AreReports, Places, with_key, with_report, without_key, without_report}

-- First places in a list with one element more.

position-stays : {X : Type 0} (p : X → Bool) (xs ys : List X) (i : ℕ) (d : X) → position p xs ≡ Some i →
    position p (xs ++ ys) ≡ Some i
position-stays p xs ys i d h =
    let at = position-Some p xs i d h in
    let longer : length (xs ++ ys) ≡ length xs + length ys = length-append xs ys in
    let below : i < length xs = at.0 in
    position-first p (xs ++ ys) d i (omega arith)
    (λ k before. ap p (get_or-append xs ys d k (omega arith)) ∙ at.2 k before)
    (ap p (get_or-append xs ys d i below) ∙ at.1)

still-by : {X : Type 0} (p : X → Bool) (xs : List X) (x : X) → p x ≡ false → (i : Option ℕ) → position p xs ≡ i →
    position p (xs ++ x ∷ []) ≡ position p xs
still-by p xs x fails (Some i) h = position-stays p xs (x ∷ []) i x h ∙ sym h
still-by p xs x fails None h =
    let longer : length (xs ++ x ∷ []) ≡ length xs + 1 = length-append xs (x ∷ []) in
    position-none p (xs ++ x ∷ []) x
    (λ k below. ⊎_elim
    (λ (before : k < length xs).
    ap p (get_or-append xs (x ∷ []) x k before) ∙ fails-from_none p xs x h k before)
    (λ (past : length xs ≤ k).
    let last : k ≡ length xs = omega arith in ap p (get_or_push xs x x k (sym last)) ∙ fails)
    (cases_lt k (length xs)))
    ∙ sym h

-- where the element doesn't pass, they stay
pub position-still : {X : Type 0} (p : X → Bool) (xs : List X) (x : X) → p x ≡ false →
    position p (xs ++ x ∷ []) ≡ position p xs
position-still p xs x fails = still-by p xs x fails (position p xs) refl

-- where none passed before and the element does, it is the first
pub position-new : {X : Type 0} (p : X → Bool) (xs : List X) (x : X) → position p xs ≡ None → p x ≡ true →
    position p (xs ++ x ∷ []) ≡ Some (length xs)
position-new p xs x none here =
    let longer : length (xs ++ x ∷ []) ≡ length xs + 1 = length-append xs (x ∷ []) in
    position-first p (xs ++ x ∷ []) x (length xs) (omega arith)
    (λ k before. ap p (get_or-append xs (x ∷ []) x k before) ∙ fails-from_none p xs x none k before)
    (ap p (get_or_push xs x x (length xs) refl) ∙ here)

-- Keys.

same-key : (a b : Key) → a.0 ≡ b.0 → a ≡ b
same-key a b same = λ i. record { 0 = same i }

other-key : (a b : Key) → (a.0 ≡ b.0 → ⊥) → is_key a (Some b) ≡ false
other-key a b apart = grind (arith, nat_tests)

this-key : (a b : Key) → a.0 ≡ b.0 → is_key a (Some b) ≡ true
this-key a b same = grind (arith, nat_tests)

-- an entry that holds no key
pub keys-none : (H : List Entry) (e : Entry) (key : Key) → key_in e.what ≡ None →
    place_of_key (H ++ e ∷ []) key ≡ place_of_key H key
keys-none H e key none = position-still (has_key key) H e (ap (is_key key) none)

-- an entry that holds another
keys-other : (H : List Entry) (e : Entry) (held key : Key) → key_in e.what ≡ Some held → (key.0 ≡ held.0 → ⊥) →
    place_of_key (H ++ e ∷ []) key ≡ place_of_key H key
keys-other H e held key is apart = position-still (has_key key) H e (ap (is_key key) is ∙ other-key key held apart)

-- an entry that holds this one, which stood nowhere
keys-this : (H : List Entry) (e : Entry) (held key : Key) → key_in e.what ≡ Some held → key.0 ≡ held.0 →
    place_of_key H held ≡ None → place_of_key (H ++ e ∷ []) key ≡ Some (length H)
keys-this H e held key is same fresh =
    position-new (has_key key) H e
    (ap (λ (k : Key). place_of_key H k) (same-key key held same) ∙ fresh) (ap (is_key key) is ∙ this-key key held same)

-- a map with a key more, and one less, at the key and at others
inserted-this : (m : Places) (k place q : ℕ) → q ≡ k → get (insert m k place) q ≡ Some place
inserted-this m k place q same =
    get-insert nat_cmp_total m k place q ∙ ap (λ (b : Bool). cond b (Some place) (get m q)) (tied q k same)

inserted-other : (m : Places) (k place q : ℕ) → (q ≡ k → ⊥) → get (insert m k place) q ≡ get m q
inserted-other m k place q apart =
    get-insert nat_cmp_total m k place q ∙ ap (λ (b : Bool). cond b (Some place) (get m q)) (untied q k apart)

removed-this : (m : Places) (k q : ℕ) → q ≡ k → get (remove m k) q ≡ None
removed-this m k q same = get-remove nat_cmp_total m k q ∙ ap (λ (b : Bool). cond b None (get m q)) (tied q k same)

removed-other : (m : Places) (k q : ℕ) → (q ≡ k → ⊥) → get (remove m k) q ≡ get m q
removed-other m k q apart = get-remove nat_cmp_total m k q ∙ ap (λ (b : Bool). cond b None (get m q)) (untied q k apart)

-- keys with an entry appended
keys-push_by : (H : List Entry) (e : Entry) (keys : Places) (part : Option Key) → key_in e.what ≡ part → AreKeys H keys →
    ((key : Key) → part ≡ Some key → place_of_key H key ≡ None) →
    AreKeys (H ++ e ∷ []) (with_key keys part (length H))
keys-push_by H e keys None is are fresh = λ key. are key ∙ sym (keys-none H e key is)
keys-push_by H e keys (Some held) is are fresh = λ key.
    ⊎_elim
    (λ (same : key.0 ≡ held.0).
    inserted-this keys held.0 (length H) key.0 same ∙ sym (keys-this H e held key is same (fresh held refl)))
    (λ (apart : key.0 ≢ held.0).
    inserted-other keys held.0 (length H) key.0 apart ∙ are key ∙ sym (keys-other H e held key is apart))
    (cases_eq key.0 held.0)

pub keys-push : (H : List Entry) (e : Entry) (keys : Places) → AreKeys H keys →
    ((key : Key) → key_in e.what ≡ Some key → place_of_key H key ≡ None) →
    AreKeys (H ++ e ∷ []) (with_key keys (key_in e.what) (length H))
keys-push H e keys are fresh = keys-push_by H e keys (key_in e.what) refl are fresh

-- and without it again
keys-pop_by : (H : List Entry) (e : Entry) (keys : Places) (part : Option Key) → key_in e.what ≡ part →
    AreKeys (H ++ e ∷ []) keys → ((key : Key) → part ≡ Some key → place_of_key H key ≡ None) →
    AreKeys H (without_key keys part)
keys-pop_by H e keys None is are fresh = λ key. are key ∙ keys-none H e key is
keys-pop_by H e keys (Some held) is are fresh = λ key.
    ⊎_elim
    (λ (same : key.0 ≡ held.0).
    removed-this keys held.0 key.0 same
    ∙ sym (ap (λ (k : Key). place_of_key H k) (same-key key held same) ∙ fresh held refl))
    (λ (apart : key.0 ≢ held.0).
    removed-other keys held.0 key.0 apart ∙ are key ∙ keys-other H e held key is apart)
    (cases_eq key.0 held.0)

pub keys-pop : (H : List Entry) (e : Entry) (keys : Places) → AreKeys (H ++ e ∷ []) keys →
    ((key : Key) → key_in e.what ≡ Some key → place_of_key H key ≡ None) →
    AreKeys H (without_key keys (key_in e.what))
keys-pop H e keys are fresh = keys-pop_by H e keys (key_in e.what) refl are fresh

-- the key of the last entry has its place
pub key-there : (H : List Entry) (e : Entry) (keys : Places) (key : Key) → AreKeys (H ++ e ∷ []) keys →
    key_in e.what ≡ Some key → place_of_key H key ≡ None → get keys key.0 ≡ Some (length H)
key-there H e keys key are is fresh = are key ∙ keys-this H e key key is refl fresh

-- Reports.

other-run : (run told : ℕ) → (run ≡ told → ⊥) → is_of_run run (Some told) ≡ false
other-run run told apart = grind (arith, nat_tests)

this-run : (run told : ℕ) → run ≡ told → is_of_run run (Some told) ≡ true
this-run run told same = grind (arith, nat_tests)

pub reports-none : (H : List Entry) (e : Entry) (run : ℕ) → told_in e.what ≡ None →
    place_of_report (H ++ e ∷ []) run ≡ place_of_report H run
reports-none H e run none = position-still (is_report_of run) H e (ap (is_of_run run) none)

reports-other : (H : List Entry) (e : Entry) (told run : ℕ) → told_in e.what ≡ Some told → (run ≡ told → ⊥) →
    place_of_report (H ++ e ∷ []) run ≡ place_of_report H run
reports-other H e told run is apart = position-still (is_report_of run) H e (ap (is_of_run run) is ∙ other-run run told apart)

reports-this : (H : List Entry) (e : Entry) (told run : ℕ) → told_in e.what ≡ Some told → run ≡ told →
    place_of_report H told ≡ None → place_of_report (H ++ e ∷ []) run ≡ Some (length H)
reports-this H e told run is same fresh =
    position-new (is_report_of run) H e (ap (place_of_report H) same ∙ fresh) (ap (is_of_run run) is ∙ this-run run told same)

reports-push_by : (H : List Entry) (e : Entry) (runs : Places) (part : Option ℕ) → told_in e.what ≡ part →
    AreReports H runs → ((told : ℕ) → part ≡ Some told → place_of_report H told ≡ None) →
    AreReports (H ++ e ∷ []) (with_report runs part (length H))
reports-push_by H e runs None is are fresh = λ run. are run ∙ sym (reports-none H e run is)
reports-push_by H e runs (Some told) is are fresh = λ run.
    ⊎_elim
    (λ (same : run ≡ told).
    inserted-this runs told (length H) run same ∙ sym (reports-this H e told run is same (fresh told refl)))
    (λ (apart : run ≢ told).
    inserted-other runs told (length H) run apart ∙ are run ∙ sym (reports-other H e told run is apart))
    (cases_eq run told)

pub reports-push : (H : List Entry) (e : Entry) (runs : Places) → AreReports H runs →
    ((told : ℕ) → told_in e.what ≡ Some told → place_of_report H told ≡ None) →
    AreReports (H ++ e ∷ []) (with_report runs (told_in e.what) (length H))
reports-push H e runs are fresh = reports-push_by H e runs (told_in e.what) refl are fresh

reports-pop_by : (H : List Entry) (e : Entry) (runs : Places) (part : Option ℕ) → told_in e.what ≡ part →
    AreReports (H ++ e ∷ []) runs → ((told : ℕ) → part ≡ Some told → place_of_report H told ≡ None) →
    AreReports H (without_report runs part)
reports-pop_by H e runs None is are fresh = λ run. are run ∙ reports-none H e run is
reports-pop_by H e runs (Some told) is are fresh = λ run.
    ⊎_elim
    (λ (same : run ≡ told).
    removed-this runs told run same ∙ sym (ap (place_of_report H) same ∙ fresh told refl))
    (λ (apart : run ≢ told). removed-other runs told run apart ∙ are run ∙ reports-other H e told run is apart)
    (cases_eq run told)

pub reports-pop : (H : List Entry) (e : Entry) (runs : Places) → AreReports (H ++ e ∷ []) runs →
    ((told : ℕ) → told_in e.what ≡ Some told → place_of_report H told ≡ None) →
    AreReports H (without_report runs (told_in e.what))
reports-pop H e runs are fresh = reports-pop_by H e runs (told_in e.what) refl are fresh

pub report-there : (H : List Entry) (e : Entry) (runs : Places) (told : ℕ) → AreReports (H ++ e ∷ []) runs →
    told_in e.what ≡ Some told → place_of_report H told ≡ None → get runs told ≡ Some (length H)
report-there H e runs told are is fresh = are told ∙ reports-this H e told told is refl fresh
