-- The leases of a history with an entry appended, and with the last one taken away.
use Rattle.std.proofs.Common.{◌≡◌, ◌≢◌, ℕ, zero, suc, ◌+◌, ◌-◌, ◌<◌, ◌≤◌, ◌==◌, Bool, true, false, ◌||◌, if◌then◌else◌, List, [], ◌∷◌, ◌++◌, length, map, take, get_or, All, Option, Some, None, refl, sym, ap, ◌∙◌, ⊎_elim, arith, append-nil, length-append}
use Rattle.std.specs.List.{cons_option, list_any, range_with_len}
use Rattle.std.proofs.lemmas.Bool.{cases_eq}
use Rattle.std.proofs.lemmas.Bool.Decides.{nat_tests}
use Rattle.std.proofs.lemmas.List.{length-map, map-append, take-map}
use Rattle.std.proofs.Math.Seq.{take-append_seam}
use Rattle.std.proofs.lemmas.List.Elements.{All-head, All-tail}
use Rattle.std.proofs.lemmas.List.Folds.{list_any_none}
use Rattle.std.proofs.lemmas.Option.{none-some}
use Rattle.farm_types.proofs.FirstIndex.{fails-from_none}
use Rattle.search_books.specs.Leases.{Held, marked}
use Rattle.farm_entry.specs.History.{all_leases, is_of_run, is_report_of, is_reported, lease_in, place_of_report, told_in, told_runs}
use Rattle.farm_entry.specs.Legal.{IsLegal}
use Rattle.farm_entry.specs.declared.entry.Entry.{Entry}
use Rattle.farm_entry.specs.declared.entry.What.{What}
use Rattle.farm_entry.specs.declared.entry.What.TheVariants.{Founded, Opened, Leased, Reported, Skipped, Cancelled, Ordered, Carried, Closed}
use Rattle.farm_entry.specs.declared.lease.LeasedRun.{LeasedRun}
use Rattle.farm_entry.proofs.Growing.{all_leases-grow}
use Rattle.farm_laws.proofs.EntryParts.{leased-facts, told-facts}
use Rattle.farm_laws.proofs.Filters.{HasLease, is_reported-grow}
use Rattle.farm_laws.proofs.Known.{told_runs-known}
use Rattle.farm_laws.proofs.Numbered.{lease-there, leases-numbered, number-at, tail_of}
use Rattle.farm_laws.proofs.Stepped.{Stepped}
use Rattle.farm_books.specs.Kept.{AreLeases, booked, leased, with_lease, with_mark, without_lease}

-- The marks of a list of leases by a test of their runs.

abbrev pub leases_of : List Held → List LeasedRun
leases_of helds = map (λ (held : Held). leased held.lease) helds

abbrev pub marks_of : List Held → List Bool
marks_of helds = map (λ (held : Held). held.is_answered) helds

abbrev pub tests_of : (ℕ → Bool) → List LeasedRun → List Bool
tests_of test ls = map (λ (l : LeasedRun). test l.run) ls

abbrev pub are_marks : List Entry → List LeasedRun → List Bool
are_marks H ls = map (λ (l : LeasedRun). is_reported H l.run) ls

-- the parts of lists that are equal
abbrev head_or : {X : Type 0} → X → List X → X
head_or d [] = d
head_or d (x ∷ xs) = x

abbrev tail : {X : Type 0} → List X → List X
tail [] = []
tail (x ∷ xs) = xs

-- two tests that agree on each lease
pub tests-same : (f g : ℕ → Bool) (ls : List LeasedRun) → All (λ (l : LeasedRun). f l.run ≡ g l.run) ls →
    tests_of f ls ≡ tests_of g ls
tests-same f g [] h = refl
tests-same f g (l ∷ ls) h =
    let here = All-head (λ (x : LeasedRun). f x.run ≡ g x.run) l ls h in
    let rest = tests-same f g ls (All-tail (λ (x : LeasedRun). f x.run ≡ g x.run) l ls h) in
    λ i. here i ∷ rest i

-- Marking one.

pub marked-leases : (told : Bool) (i : ℕ) (helds : List Held) → leases_of (marked told i helds) ≡ leases_of helds
marked-leases told i [] = refl
marked-leases told zero (held ∷ helds) = refl
marked-leases told (suc i) (held ∷ helds) = ap (λ (ls : List LeasedRun). leased held.lease ∷ ls) (marked-leases told i helds)

-- a test that is changed at one number
abbrev pub at_one : ℕ → Bool → (ℕ → Bool) → ℕ → Bool
at_one n told test k = if k == n then told else test k

past-one : (n : ℕ) (told : Bool) (test : ℕ → Bool) (a : ℕ) (ls : List LeasedRun) → n < a →
    map (λ (l : LeasedRun). l.run) ls ≡ range_with_len a (length ls) → tests_of (at_one n told test) ls ≡ tests_of test ls
past-one n told test a [] low all = refl
past-one n told test a (l ∷ ls) low all =
    let first : l.run ≡ a = ap (head_or 0) all in
    let other : l.run == n ≡ false = grind (arith, nat_tests, first, low) in
    let here : at_one n told test l.run ≡ test l.run = ap (λ (b : Bool). if b then told else test l.run) other in
    let rest = past-one n told test (a + 1) ls (omega (arith, low)) (ap tail_of all) in
    λ i. here i ∷ rest i

marked-marks_from : (a k : ℕ) (told : Bool) (test : ℕ → Bool) (helds : List Held) (ls : List LeasedRun) →
    map (λ (l : LeasedRun). l.run) ls ≡ range_with_len a (length ls) → marks_of helds ≡ tests_of test ls →
    marks_of (marked told k helds) ≡ tests_of (at_one (a + k) told test) ls
marked-marks_from a k told test [] [] all are = refl
marked-marks_from a k told test [] (l ∷ ls) all are = absurd (omega (arith, ap length are))
marked-marks_from a k told test (held ∷ helds) [] all are = absurd (omega (arith, ap length are))
marked-marks_from a zero told test (held ∷ helds) (l ∷ ls) all are =
    let first : l.run ≡ a = ap (head_or 0) all in
    let this : l.run == a + 0 ≡ true = grind (arith, nat_tests, first) in
    let here : told ≡ at_one (a + 0) told test l.run = sym (ap (λ (b : Bool). if b then told else test l.run) this) in
    let rest : marks_of helds ≡ tests_of (at_one (a + 0) told test) ls =
    ap tail are ∙ sym (past-one (a + 0) told test (a + 1) ls (omega arith) (ap tail_of all)) in
    λ i. here i ∷ rest i
marked-marks_from a (suc k) told test (held ∷ helds) (l ∷ ls) all are =
    let first : l.run ≡ a = ap (head_or 0) all in
    let other : l.run == a + suc k ≡ false = grind (arith, nat_tests, first) in
    let here : held.is_answered ≡ at_one (a + suc k) told test l.run =
    ap (head_or false) are ∙ sym (ap (λ (b : Bool). if b then told else test l.run) other) in
    let next : a + 1 + k ≡ a + suc k = omega arith in
    let rest : marks_of (marked told k helds) ≡ tests_of (at_one (a + suc k) told test) ls =
    marked-marks_from (a + 1) k told test helds ls (ap tail_of all) (ap tail are)
    ∙ ap (λ (n : ℕ). tests_of (at_one n told test) ls) next in
    λ i. here i ∷ rest i

-- the marks where the one of a run is changed
pub marked-marks : (run : ℕ) (told : Bool) (test : ℕ → Bool) (helds : List Held) (ls : List LeasedRun) → 0 < run →
    map (λ (l : LeasedRun). l.run) ls ≡ range_with_len 1 (length ls) → marks_of helds ≡ tests_of test ls →
    marks_of (marked told (run - 1) helds) ≡ tests_of (at_one run told test) ls
marked-marks run told test helds ls some all are =
    let same : 1 + (run - 1) ≡ run = omega (arith, some) in
    marked-marks_from 1 (run - 1) told test helds ls all are ∙ ap (λ (n : ℕ). tests_of (at_one n told test) ls) same

-- What an entry reports.

-- whether a run is reported with an entry appended
reported-step : (H : List Entry) (e : Entry) (told run : ℕ) → told_in e.what ≡ Some told →
    is_reported (H ++ e ∷ []) run ≡ (is_reported H run || (told == run || false))
reported-step H e told run is =
    is_reported-grow H e run
    ∙ ap (λ (x : Option ℕ). is_reported H run || list_any (λ (y : ℕ). y == run) (cons_option x [])) is

or-false : (a : Bool) → (a || false) ≡ a
or-false true = refl
or-false false = refl

pub unreported-step : (H : List Entry) (e : Entry) (run : ℕ) → told_in e.what ≡ None →
    is_reported (H ++ e ∷ []) run ≡ is_reported H run
unreported-step H e run none =
    is_reported-grow H e run
    ∙ ap (λ (x : Option ℕ). is_reported H run || list_any (λ (y : ℕ). y == run) (cons_option x [])) none
    ∙ or-false (is_reported H run)

-- a test at one number, where it was reported, and where it wasn't
or-true : (a : Bool) → (a || true) ≡ true
or-true true = refl
or-true false = refl

one-on : (n k : ℕ) (before : Bool) → (before || (n == k || false)) ≡ (if k == n then true else before)
one-on n k before =
    ⊎_elim
    (λ (same : k ≡ n).
    let yes : n == k ≡ true = grind (arith, nat_tests, same) in
    let here : k == n ≡ true = grind (arith, nat_tests, same) in
    ap (λ (b : Bool). before || (b || false)) yes ∙ or-true before
    ∙ sym (ap (λ (b : Bool). if b then true else before) here))
    (λ (apart : k ≢ n).
    let none : n == k ≡ false = grind (arith, nat_tests, apart) in
    let other : k == n ≡ false = grind (arith, nat_tests, apart) in
    ap (λ (b : Bool). before || (b || false)) none ∙ or-false before
    ∙ sym (ap (λ (b : Bool). if b then true else before) other))
    (cases_eq k n)

pub reported-on : (H : List Entry) (e : Entry) (told run : ℕ) → told_in e.what ≡ Some told →
    is_reported (H ++ e ∷ []) run ≡ at_one told true (is_reported H) run
reported-on H e told run is = reported-step H e told run is ∙ one-on told run (is_reported H run)

one-off : (n k : ℕ) (test : ℕ → Bool) (longer : ℕ → Bool) → longer k ≡ at_one n true test k → test n ≡ false →
    at_one n false longer k ≡ test k
one-off n k test longer is none =
    ⊎_elim
    (λ (same : k ≡ n).
    let here : k == n ≡ true = grind (arith, nat_tests, same) in
    ap (λ (b : Bool). if b then false else longer k) here ∙ sym (ap test same ∙ none))
    (λ (apart : k ≢ n).
    let other : k == n ≡ false = grind (arith, nat_tests, apart) in
    ap (λ (b : Bool). if b then false else longer k) other ∙ is ∙ ap (λ (b : Bool). if b then true else test k) other)
    (cases_eq k n)

pub reported-off : (H : List Entry) (e : Entry) (told run : ℕ) → told_in e.what ≡ Some told →
    is_reported H told ≡ false → at_one told false (is_reported (H ++ e ∷ [])) run ≡ is_reported H run
reported-off H e told run is none =
    one-off told run (is_reported H) (is_reported (H ++ e ∷ [])) (reported-on H e told run is) none

-- Runs that have no report.

-- a run that was handed out has a number up to that of the last
pub lease-low : (H : List Entry) (run : ℕ) → IsLegal H → HasLease H run → (1 ≤ run) × (run ≤ length (all_leases H))
lease-low H run legal known =
    let l : LeasedRun = known.0 in
    let there = lease-there H run l known.1 in
    let at = number-at (λ (x : LeasedRun). x.run) 1 (all_leases H) (leases-numbered H legal) there.0.0 l there.0.1 in
    let number : l.run ≡ 1 + there.0.0 = ap (λ (x : LeasedRun). x.run) (sym there.0.2) ∙ at in
    (omega (arith, there.1, number), omega (arith, there.1, number, there.0.1))

too-high : (a n run : ℕ) → a ≤ n → run ≡ n + 1 → a == run ≡ false
too-high a n run low next = grind (arith, nat_tests)

-- the run that is handed out next
pub next-unreported : (H : List Entry) (run : ℕ) → IsLegal H → run ≡ length (all_leases H) + 1 → is_reported H run ≡ false
next-unreported H run legal next =
    list_any_none (λ (told : ℕ). told == run) (told_runs H)
    (λ k d below.
    too-high (get_or (told_runs H) k d) (length (all_leases H)) run
    (lease-low H (get_or (told_runs H) k d) legal (told_runs-known H legal k d below)).1 next)

-- a run whose report stands nowhere
unreported-part : (run : ℕ) (part : Option ℕ) (runs : List ℕ) → is_of_run run part ≡ false →
    list_any (λ (told : ℕ). told == run) runs ≡ false →
    list_any (λ (told : ℕ). told == run) (cons_option part runs) ≡ false
unreported-part run None runs other rest = rest
unreported-part run (Some told) runs other rest =
    ap (λ (b : Bool). b || list_any (λ (x : ℕ). x == run) runs) other ∙ rest

unreported-all : (run : ℕ) (H : List Entry) → All (λ (e : Entry). is_report_of run e ≡ false) H → is_reported H run ≡ false
unreported-all run [] h = refl
unreported-all run (e ∷ H) h =
    unreported-part run (told_in e.what) (told_runs H) (All-head (λ (x : Entry). is_report_of run x ≡ false) e H h)
    (unreported-all run H (All-tail (λ (x : Entry). is_report_of run x ≡ false) e H h))

pub nowhere-unreported : (H : List Entry) (run : ℕ) → place_of_report H run ≡ None → is_reported H run ≡ false
nowhere-unreported H run none = unreported-all run H (λ k d below. fails-from_none (is_report_of run) H d none k below)

-- What appending an entry makes of the leases.

lease-not_told : (w : What) (l : LeasedRun) → lease_in w ≡ Some l → told_in w ≡ None
lease-not_told (Leased k w r q t p d) l h = refl
lease-not_told (Founded x) l h = absurd (none-some l h)
lease-not_told (Opened o) l h = absurd (none-some l h)
lease-not_told (Reported r v _) l h = absurd (none-some l h)
lease-not_told (Skipped r _) l h = absurd (none-some l h)
lease-not_told (Cancelled k q) l h = absurd (none-some l h)
lease-not_told (Ordered k a n c q d) l h = absurd (none-some l h)
lease-not_told (Carried c d) l h = absurd (none-some l h)
lease-not_told Closed l h = absurd (none-some l h)

told-not_lease : (w : What) (told : ℕ) → told_in w ≡ Some told → lease_in w ≡ None
told-not_lease (Reported n v _) told h = refl
told-not_lease (Skipped n _) told h = refl
told-not_lease (Founded x) told h = absurd (none-some told h)
told-not_lease (Opened o) told h = absurd (none-some told h)
told-not_lease (Leased k w n q t p d) told h = absurd (none-some told h)
told-not_lease (Cancelled k q) told h = absurd (none-some told h)
told-not_lease (Ordered k a n c q d) told h = absurd (none-some told h)
told-not_lease (Carried c d) told h = absurd (none-some told h)
told-not_lease Closed told h = absurd (none-some told h)

-- the leases of a history with an entry that hands out none, or one
same-leases : (H : List Entry) (e : Entry) → lease_in e.what ≡ None → all_leases (H ++ e ∷ []) ≡ all_leases H
same-leases H e none =
    all_leases-grow H e
    ∙ ap (λ (x : Option LeasedRun). all_leases H ++ cons_option x []) none
    ∙ append-nil (all_leases H)

pub more-leases : (H : List Entry) (e : Entry) (l : LeasedRun) → lease_in e.what ≡ Some l →
    all_leases (H ++ e ∷ []) ≡ all_leases H ++ l ∷ []
more-leases H e l is = all_leases-grow H e ∙ ap (λ (x : Option LeasedRun). all_leases H ++ cons_option x []) is

-- marks by a history and by the history with an entry that reports no run
quiet-marks : (H : List Entry) (e : Entry) (ls : List LeasedRun) → told_in e.what ≡ None →
    tests_of (is_reported (H ++ e ∷ [])) ls ≡ tests_of (is_reported H) ls
quiet-marks H e ls none =
    tests-same (is_reported (H ++ e ∷ [])) (is_reported H) ls (λ k d below. unreported-step H e (get_or ls k d).run none)

-- none of both
still-leases : (H : List Entry) (e : Entry) (helds : List Held) → lease_in e.what ≡ None → told_in e.what ≡ None →
    AreLeases H helds → AreLeases (H ++ e ∷ []) helds
still-leases H e helds no_lease no_report are =
    let same = same-leases H e no_lease in
    record {
      leases_are = are.leases_are ∙ sym same;
      marks_are =
          are.marks_are
          ∙ sym (quiet-marks H e (all_leases H) no_report)
          ∙ ap (tests_of (is_reported (H ++ e ∷ []))) (sym same);
    }

-- a lease more
booked-leases : (H : List Entry) (e : Entry) (helds : List Held) (l : LeasedRun) → IsLegal H →
    lease_in e.what ≡ Some l → l.run ≡ length (all_leases H) + 1 → AreLeases H helds →
    AreLeases (H ++ e ∷ []) (helds ++ booked l ∷ [])
booked-leases H e helds l legal is number are =
    let more = more-leases H e l is in
    let longer = H ++ e ∷ [] in
    let no_report = lease-not_told e.what l is in
    let fresh : false ≡ is_reported longer l.run =
    sym (unreported-step H e l.run no_report ∙ next-unreported H l.run legal number) in
    record {
      leases_are =
          map-append (λ (held : Held). leased held.lease) helds (booked l ∷ [])
          ∙ ap (λ (ls : List LeasedRun). ls ++ l ∷ []) are.leases_are
          ∙ sym more;
      marks_are =
          map-append (λ (held : Held). held.is_answered) helds (booked l ∷ [])
          ∙ ap (λ (bs : List Bool). bs ++ false ∷ []) (are.marks_are ∙ sym (quiet-marks H e (all_leases H) no_report))
          ∙ ap (λ (b : Bool). tests_of (is_reported longer) (all_leases H) ++ b ∷ []) fresh
          ∙ sym (map-append (λ (x : LeasedRun). is_reported longer x.run) (all_leases H) (l ∷ []))
          ∙ ap (tests_of (is_reported longer)) (sym more);
    }

-- a mark more
marked-more : (H : List Entry) (e : Entry) (helds : List Held) (told : ℕ) → IsLegal H → told_in e.what ≡ Some told →
    0 < told → AreLeases H helds → AreLeases (H ++ e ∷ []) (marked true (told - 1) helds)
marked-more H e helds told legal is some are =
    let same = same-leases H e (told-not_lease e.what told is) in
    let longer = H ++ e ∷ [] in
    record {
      leases_are = marked-leases true (told - 1) helds ∙ are.leases_are ∙ sym same;
      marks_are =
          marked-marks told true (is_reported H) helds (all_leases H) some (leases-numbered H legal) are.marks_are
          ∙ sym (tests-same (is_reported longer) (at_one told true (is_reported H)) (all_leases H)
          (λ k d below. reported-on H e told (get_or (all_leases H) k d).run is))
          ∙ ap (tests_of (is_reported longer)) (sym same);
    }

push-by : (H : List Entry) (e : Entry) (helds : List Held) (lease : Option LeasedRun)
    (report : Option ℕ) → IsLegal H → Stepped H e.at e.what → lease_in e.what ≡ lease → told_in e.what ≡ report →
    AreLeases H helds → AreLeases (H ++ e ∷ []) (with_mark true (with_lease helds lease) report)
push-by H e helds None None legal step no_lease no_report are = still-leases H e helds no_lease no_report are
push-by H e helds (Some l) None legal step is no_report are =
    booked-leases H e helds l legal is (leased-facts H e.at e.what l is step).number are
push-by H e helds None (Some told) legal step no_lease is are =
    let facts = told-facts H e.at e.what told is step in
    marked-more H e helds told legal is (lease-low H told legal (facts.lease, facts.known)).0 are
push-by H e helds (Some l) (Some told) legal step is reported are =
    absurd (none-some told (sym (lease-not_told e.what l is) ∙ reported))

pub leases-push : (H : List Entry) (e : Entry) (helds : List Held) → IsLegal H → Stepped H e.at e.what →
    AreLeases H helds → AreLeases (H ++ e ∷ []) (with_mark true (with_lease helds (lease_in e.what)) (told_in e.what))
leases-push H e helds legal step are =
    push-by H e helds (lease_in e.what) (told_in e.what) legal step refl refl are

-- And what is left without it.

back-leases : (H : List Entry) (e : Entry) (helds : List Held) → lease_in e.what ≡ None → told_in e.what ≡ None →
    AreLeases (H ++ e ∷ []) helds → AreLeases H helds
back-leases H e helds no_lease no_report are =
    let same = same-leases H e no_lease in
    record {
      leases_are = are.leases_are ∙ same;
      marks_are =
          are.marks_are
          ∙ ap (tests_of (is_reported (H ++ e ∷ []))) same
          ∙ quiet-marks H e (all_leases H) no_report;
    }

-- one less than the length of a list with one more
front-length : {X Y : Type 0} (xs : List X) (ys : List Y) (y : Y) → length xs ≡ length (ys ++ y ∷ []) →
    length xs - 1 ≡ length ys
front-length xs ys y same =
    let long : length (ys ++ y ∷ []) ≡ length ys + 1 = length-append ys (y ∷ []) in omega (arith, same)

unbooked-leases : (H : List Entry) (e : Entry) (helds : List Held) (l : LeasedRun) → lease_in e.what ≡ Some l →
    AreLeases (H ++ e ∷ []) helds → AreLeases H (take (length helds - 1) helds)
unbooked-leases H e helds l is are =
    let more = more-leases H e l is in
    let longer = H ++ e ∷ [] in
    let ls = all_leases H in
    let test : LeasedRun → Bool = λ x. is_reported longer x.run in
    let long : length helds ≡ length (ls ++ l ∷ []) =
    sym (length-map helds (λ (held : Held). leased held.lease)) ∙ ap length are.leases_are ∙ ap length more in
    let n : length helds - 1 ≡ length ls = front-length helds ls l long in
    let front : take (length helds - 1) (ls ++ l ∷ []) ≡ ls =
    ap (λ (k : ℕ). take k (ls ++ l ∷ [])) n ∙ take-append_seam ls (l ∷ []) in
    record {
      leases_are =
          sym (take-map (λ (held : Held). leased held.lease) (length helds - 1) helds)
          ∙ ap (take (length helds - 1)) (are.leases_are ∙ more)
          ∙ front;
      marks_are =
          sym (take-map (λ (held : Held). held.is_answered) (length helds - 1) helds)
          ∙ ap (take (length helds - 1)) (are.marks_are ∙ ap (map test) more)
          ∙ take-map test (length helds - 1) (ls ++ l ∷ [])
          ∙ ap (map test) front
          ∙ quiet-marks H e ls (lease-not_told e.what l is);
    }

marked-less : (H : List Entry) (e : Entry) (helds : List Held) (told : ℕ) → IsLegal H → told_in e.what ≡ Some told →
    0 < told → place_of_report H told ≡ None → AreLeases (H ++ e ∷ []) helds →
    AreLeases H (marked false (told - 1) helds)
marked-less H e helds told legal is some fresh are =
    let same = same-leases H e (told-not_lease e.what told is) in
    let longer = H ++ e ∷ [] in
    record {
      leases_are = marked-leases false (told - 1) helds ∙ are.leases_are ∙ same;
      marks_are =
          marked-marks told false (is_reported longer) helds (all_leases H) some (leases-numbered H legal)
          (are.marks_are ∙ ap (tests_of (is_reported longer)) same)
          ∙ tests-same (at_one told false (is_reported longer)) (is_reported H) (all_leases H)
          (λ k d below. reported-off H e told (get_or (all_leases H) k d).run is (nowhere-unreported H told fresh));
    }

pop-by : (H : List Entry) (e : Entry) (helds : List Held) (lease : Option LeasedRun) (report : Option ℕ) →
    IsLegal H → Stepped H e.at e.what → lease_in e.what ≡ lease → told_in e.what ≡ report →
    AreLeases (H ++ e ∷ []) helds → AreLeases H (without_lease (with_mark false helds report) lease)
pop-by H e helds None None legal step no_lease no_report are = back-leases H e helds no_lease no_report are
pop-by H e helds (Some l) None legal step is no_report are = unbooked-leases H e helds l is are
pop-by H e helds None (Some told) legal step no_lease is are =
    let facts = told-facts H e.at e.what told is step in
    marked-less H e helds told legal is (lease-low H told legal (facts.lease, facts.known)).0 facts.first are
pop-by H e helds (Some l) (Some told) legal step is reported are =
    absurd (none-some told (sym (lease-not_told e.what l is) ∙ reported))

pub leases-pop : (H : List Entry) (e : Entry) (helds : List Held) → IsLegal H → Stepped H e.at e.what →
    AreLeases (H ++ e ∷ []) helds → AreLeases H (without_lease (with_mark false helds (told_in e.what)) (lease_in e.what))
leases-pop H e helds legal step are = pop-by H e helds (lease_in e.what) (told_in e.what) legal step refl refl are

-- how many leases there are
pub leases-count : (H : List Entry) (helds : List Held) → AreLeases H helds → length helds ≡ length (all_leases H)
leases-count H helds are =
    sym (length-map helds (λ (held : Held). leased held.lease)) ∙ ap length are.leases_are

-- a mark changes no length
marked-long : (told : Bool) (i : ℕ) (helds : List Held) → length (marked told i helds) ≡ length helds
marked-long told i [] = refl
marked-long told zero (held ∷ helds) = refl
marked-long told (suc i) (held ∷ helds) = ap (λ (n : ℕ). suc n) (marked-long told i helds)

pub marked-length : (mark : Bool) (helds : List Held) (report : Option ℕ) →
    length (with_mark mark helds report) ≡ length helds
marked-length mark helds None = refl
marked-length mark helds (Some told) = marked-long mark (told - 1) helds
