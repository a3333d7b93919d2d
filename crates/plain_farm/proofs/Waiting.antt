-- The leases of a search whose runs have no report, and its last lease, after appending an entry.
use Rattle.std.proofs.Common.{◌≡◌, ◌≢◌, ℕ, ◌+◌, ◌≤◌, ◌==◌, Bool, true, false, not, ◌&&◌, ◌||◌, if◌then◌else◌, List, [], ◌∷◌, ◌++◌, length, filter, map, nat_lt, get_or, All, Contains, Option, Some, None, refl, sym, ap, ◌∙◌, arith, append-nil}
use Rattle.std.specs.List.{cons_option, list_any}
use Rattle.std.proofs.lemmas.Bool.{ne_eqb}
use Rattle.std.proofs.lemmas.Bool.Decides.{nat_tests}
use Rattle.std.proofs.lemmas.List.Elements.{All-contains_itself, All-head, All-tail, All-weaker, filter-append}
use Rattle.std.proofs.lemmas.List.Folds.{list_any_none}
use Rattle.std.proofs.lemmas.Option.{same_Some}
use Rattle.farm_entry.specs.History.{all_leases, is_lease_for, is_of_run, is_of_search, is_report_of, is_reported, last_lease, lease_in, lease_of, leases, same_stage, told_in, told_runs}
use Rattle.farm_entry.specs.Due.{outstanding_positions}
use Rattle.farm_entry.specs.Legal.{IsLegal}
use Rattle.farm_types.specs.declared.stage.Stage.{Stage}
use Rattle.farm_entry.specs.declared.entry.Entry.{Entry}
use Rattle.farm_entry.specs.declared.lease.LeasedRun.{LeasedRun}
use Rattle.farm_laws.proofs.EntryParts.{leased-facts}
use Rattle.farm_laws.proofs.Filters.{HasLease, is_reported-grow, leases-grow}
use Rattle.farm_laws.proofs.Known.{told_runs-known}
use Rattle.farm_laws.proofs.Lists.{there-filter}
use Rattle.farm_laws.proofs.Numbered.{lease-found, lease-there, leases-numbered, number-at}
use Rattle.farm_laws.proofs.Stepped.{Stepped}
use Rattle.farm_laws.specs.Steps.{handed_out}
use Rattle.farm_laws.proofs.OneMore.{last_lease-step}
use Rattle.plain_farm.specs.Rows.{IsOut, unreported}
use Rattle.plain_farm.specs.declared.rows.Row.{Row}

-- lists

-- a list filtered by two tests at once is filtered by one after the other
filter-both_if : {X : Type 0} (q : X → Bool) (x : X) (a : List X) (b : List X) (p t : Bool) → q x ≡ t → a ≡ filter q b →
    (if p && t then x ∷ a else a) ≡ filter q (if p then x ∷ b else b)
filter-both_if q x a b true true e h = ap (λ (l : List _). x ∷ l) h
    ∙ sym (ap (λ (t : Bool). if t then x ∷ filter q b else filter q b) e)
filter-both_if q x a b true false e h = h ∙ sym (ap (λ (t : Bool). if t then x ∷ filter q b else filter q b) e)
filter-both_if q x a b false t e h = h

pub filter-both : {X : Type 0} (p q r : X → Bool) → ((x : X) → r x ≡ (p x && q x)) → (xs : List X) →
    filter r xs ≡ filter q (filter p xs)
filter-both p q r both [] = refl
filter-both p q r both (x ∷ xs) =
    ap (λ (b : Bool). if b then x ∷ filter r xs else filter r xs) (both x)
    ∙ filter-both_if q x (filter r xs) (filter p xs) (p x) (q x) refl (filter-both p q r both xs)

-- a test that each item passes leaves all of them
filter-all : {X : Type 0} (p : X → Bool) (xs : List X) → All (λ (x : X). p x ≡ true) xs → filter p xs ≡ xs
filter-all p [] h = refl
filter-all p (x ∷ xs) h =
    ap (λ (b : Bool). if b then x ∷ filter p xs else filter p xs) (All-head (λ (y : _). p y ≡ true) x xs h)
    ∙ ap (λ (l : List _). x ∷ l) (filter-all p xs (All-tail (λ (y : _). p y ≡ true) x xs h))

filter-kept : {X : Type 0} (p : X → Bool) (xs : List X) → ((x : X) → Contains xs x → p x ≡ true) → filter p xs ≡ xs
filter-kept p xs h =
    filter-all p xs (All-weaker (Contains xs) (λ (x : _). p x ≡ true) h xs (All-contains_itself xs))

same-number : (a b : ℕ) → a ≡ b → a == b ≡ true
same-number a b e = grind (arith, nat_tests)

equal-number : (a b : ℕ) → a == b ≡ true → a ≡ b
equal-number a b e = grind (arith, nat_tests)

not-or : (a b : Bool) → not (a || b) ≡ (not a && not b)
not-or true b = refl
not-or false b = refl

-- Leases without a report.

reports_run : (run : ℕ) (one : Option ℕ) →
    list_any (λ (told : ℕ). told == run) (cons_option one []) ≡ is_of_run run one
reports_run run None = refl
reports_run run (Some told) = or-nil (told == run)
  where
    or-nil : (b : Bool) → (b || false) ≡ b
    or-nil true = refl
    or-nil false = refl

left-step : (H : List Entry) (e : Entry) (l : LeasedRun) →
    not (is_reported (H ++ e ∷ []) l.run) ≡ (not (is_reported H l.run) && not (is_report_of l.run e))
left-step H e l =
    ap not
    (is_reported-grow H e l.run
    ∙ ap (λ (b : Bool). is_reported H l.run || b) (reports_run l.run (told_in e.what)))
    ∙ not-or (is_reported H l.run) (is_report_of l.run e)

unreported-step : (H : List Entry) (e : Entry) (s : ℕ) →
    unreported (H ++ e ∷ []) s
    ≡ filter (λ (l : LeasedRun). not (is_report_of l.run e))
    (unreported H s ++ filter (λ (l : LeasedRun). not (is_reported H l.run)) (handed_out e.what s))
unreported-step H e s =
    let before : LeasedRun → Bool = λ l. not (is_reported H l.run) in
    let now : LeasedRun → Bool = λ l. not (is_reported (H ++ e ∷ []) l.run) in
    let left : LeasedRun → Bool = λ l. not (is_report_of l.run e) in
    ap (filter now) (leases-grow H e s)
    ∙ filter-both before left now (left-step H e) (leases H s ++ handed_out e.what s)
    ∙ ap (filter left) (filter-append before (leases H s) (handed_out e.what s))

-- an entry that reports nothing leaves all leases
none-left : (e : Entry) (ls : List LeasedRun) → told_in e.what ≡ None →
    filter (λ (l : LeasedRun). not (is_report_of l.run e)) ls ≡ ls
none-left e ls none =
    filter-kept (λ (l : LeasedRun). not (is_report_of l.run e)) ls
    (λ l there. ap (λ (told : Option ℕ). not (is_of_run l.run told)) none)

-- an entry hands out no lease of a search
abbrev pub IsNotLeased : Option LeasedRun → ℕ → Type 0
IsNotLeased x s = (l : LeasedRun) → x ≡ Some l → l.search ≢ s

out-none : (x : Option LeasedRun) (s : ℕ) → IsNotLeased x s →
    filter (λ (l : LeasedRun). l.search == s) (cons_option x []) ≡ []
out-none None s h = refl
out-none (Some l) s h = ap (λ (b : Bool). if b then l ∷ [] else []) (ne_eqb l.search s (h l refl))

not-for : (x : Option LeasedRun) (s : ℕ) → IsNotLeased x s → is_of_search s x ≡ false
not-for None s h = refl
not-for (Some l) s h = ne_eqb l.search s (h l refl)

out-one : (x : Option LeasedRun) (l : LeasedRun) → x ≡ Some l →
    filter (λ (y : LeasedRun). y.search == l.search) (cons_option x []) ≡ l ∷ []
out-one x l is =
    ap (λ (y : Option LeasedRun). filter (λ (z : LeasedRun). z.search == l.search) (cons_option y [])) is
    ∙ ap (λ (b : Bool). if b then l ∷ [] else []) (same-number l.search l.search refl)

last-same : (H : List Entry) (e : Entry) (s : ℕ) → IsNotLeased (lease_in e.what) s →
    last_lease (H ++ e ∷ []) s ≡ last_lease H s
last-same H e s other =
    last_lease-step H e s
    ∙ ap (λ (b : Bool). if b then length H else last_lease H s) (not-for (lease_in e.what) s other)

-- an entry that neither leases nor reports a run of a search
pub out-quiet : (H : List Entry) (e : Entry) (s : ℕ) (row : Row) → told_in e.what ≡ None →
    IsNotLeased (lease_in e.what) s → IsOut H s row → IsOut (H ++ e ∷ []) s row
out-quiet H e s row none other out =
    let before : LeasedRun → Bool = λ l. not (is_reported H l.run) in
    let left : LeasedRun → Bool = λ l. not (is_report_of l.run e) in
    let same : unreported (H ++ e ∷ []) s ≡ unreported H s =
    unreported-step H e s
    ∙ ap (λ (ls : List LeasedRun). filter left (unreported H s ++ filter before ls)) (out-none (lease_in e.what) s other)
    ∙ ap (filter left) (append-nil (unreported H s))
    ∙ none-left e (unreported H s) none in
    record { waiting = out.waiting ∙ sym same; last = out.last ∙ sym (last-same H e s other) }

-- a run that is handed out has no report

-- a run that was handed out has a number up to that of the last
lease-low : (H : List Entry) (run : ℕ) → IsLegal H → HasLease H run → run ≤ length (all_leases H)
lease-low H run legal known =
    let l : LeasedRun = known.0 in
    let there = lease-there H run l known.1 in
    let at = number-at (λ (x : LeasedRun). x.run) 1 (all_leases H) (leases-numbered H legal) there.0.0 l there.0.1 in
    let number : l.run ≡ 1 + there.0.0 = ap (λ (x : LeasedRun). x.run) (sym there.0.2) ∙ at in
    omega (arith, there.1, number, there.0.1)

too-high : (a n run : ℕ) → a ≤ n → run ≡ n + 1 → a == run ≡ false
too-high a n run low next = grind (arith, nat_tests)

next-unreported : (H : List Entry) (run : ℕ) → IsLegal H → run ≡ length (all_leases H) + 1 → is_reported H run ≡ false
next-unreported H run legal next =
    list_any_none (λ (told : ℕ). told == run) (told_runs H)
    (λ k d below.
    too-high (get_or (told_runs H) k d) (length (all_leases H)) run
    (lease-low H (get_or (told_runs H) k d) legal (told_runs-known H legal k d below)) next)

-- the search of a lease has one more
pub out-leased : (H : List Entry) (e : Entry) (l : LeasedRun) (old new : Row) → IsLegal H → Stepped H e.at e.what →
    told_in e.what ≡ None → lease_in e.what ≡ Some l → IsOut H l.search old →
    new.unreported.items ≡ old.unreported.items ++ l ∷ [] → new.last_lease ≡ length H →
    IsOut (H ++ e ∷ []) l.search new
out-leased H e l old new legal step none is out more place =
    let s = l.search in
    let before : LeasedRun → Bool = λ x. not (is_reported H x.run) in
    let left : LeasedRun → Bool = λ x. not (is_report_of x.run e) in
    let fresh : is_reported H l.run ≡ false =
    next-unreported H l.run legal (leased-facts H e.at e.what l is step).number in
    let one : filter before (handed_out e.what s) ≡ l ∷ [] =
    ap (filter before) (out-one (lease_in e.what) l is)
    ∙ ap (λ (b : Bool). if not b then l ∷ [] else []) fresh in
    let with_it : unreported (H ++ e ∷ []) s ≡ unreported H s ++ l ∷ [] =
    unreported-step H e s
    ∙ ap (λ (ls : List LeasedRun). filter left (unreported H s ++ ls)) one
    ∙ none-left e (unreported H s ++ l ∷ []) none in
    let for_it : is_lease_for s e ≡ true =
    ap (is_of_search s) is ∙ same-number l.search l.search refl in
    record {
      waiting = more ∙ ap (λ (ls : List LeasedRun). ls ++ l ∷ []) out.waiting ∙ sym with_it;
      last = place
          ∙ sym (last_lease-step H e s ∙ ap (λ (b : Bool). if b then length H else last_lease H s) for_it);
    }

-- an entry that reports a run: its search has the lease no more
reported-left : (H : List Entry) (e : Entry) (s run : ℕ) → told_in e.what ≡ Some run →
    IsNotLeased (lease_in e.what) s →
    unreported (H ++ e ∷ []) s ≡ filter (λ (l : LeasedRun). not (run == l.run)) (unreported H s)
reported-left H e s run is other =
    let before : LeasedRun → Bool = λ l. not (is_reported H l.run) in
    let left : LeasedRun → Bool = λ l. not (is_report_of l.run e) in
    unreported-step H e s
    ∙ ap (λ (ls : List LeasedRun). filter left (unreported H s ++ filter before ls)) (out-none (lease_in e.what) s other)
    ∙ ap (filter left) (append-nil (unreported H s))
    ∙ ap (λ (x : Option ℕ). filter (λ (l : LeasedRun). not (is_of_run l.run x)) (unreported H s)) is

pub out-reported : (H : List Entry) (e : Entry) (s run : ℕ) (old new : Row) → told_in e.what ≡ Some run →
    IsNotLeased (lease_in e.what) s → IsOut H s old →
    new.unreported.items ≡ filter (λ (l : LeasedRun). not (run == l.run)) old.unreported.items →
    new.last_lease ≡ old.last_lease → IsOut (H ++ e ∷ []) s new
out-reported H e s run old new is other out fewer same = record {
  waiting = fewer
      ∙ ap (filter (λ (l : LeasedRun). not (run == l.run))) out.waiting
      ∙ sym (reported-left H e s run is other);
  last = same ∙ out.last ∙ sym (last-same H e s other);
}

-- and other searches keep theirs
pub out-other : (H : List Entry) (e : Entry) (s run : ℕ) (l : LeasedRun) (row : Row) → IsLegal H →
    told_in e.what ≡ Some run → lease_of H run ≡ Some l → l.search ≢ s → IsNotLeased (lease_in e.what) s →
    IsOut H s row → IsOut (H ++ e ∷ []) s row
out-other H e s run l row legal is known apart other out =
    let ours : (x : LeasedRun) → Contains (unreported H s) x → not (run == x.run) ≡ true =
    λ x there.
    let in_search = (there-filter (λ (y : LeasedRun). not (is_reported H y.run)) (leases H s) x there).0 in
    let in_all = there-filter (λ (y : LeasedRun). y.search == s) (all_leases H) x in_search in
    let of_it : x.search ≡ s = equal-number x.search s in_all.1 in
    let not_it : run ≢ x.run =
    λ same.
    let found : Some l ≡ Some x =
    sym known ∙ ap (lease_of H) same ∙ lease-found H x legal in_all.0 in
    apart (ap (λ (y : LeasedRun). y.search) (same_Some l x found) ∙ of_it) in
    ap not (ne_eqb run x.run not_it) in
    let same : unreported (H ++ e ∷ []) s ≡ unreported H s =
    reported-left H e s run is other ∙ filter-kept (λ (x : LeasedRun). not (run == x.run)) (unreported H s) ours in
    record { waiting = out.waiting ∙ sym same; last = out.last ∙ sym (last-same H e s other) }

-- the open leases of a stage, by those that have no report
open-both : (a b c : Bool) → (a && (b && c)) ≡ (b && (a && c))
open-both true true c = refl
open-both true false c = refl
open-both false true c = refl
open-both false false c = refl

pub open-kept : (H : List Entry) (s : ℕ) (stage : Stage) (m : ℕ) (ls : List LeasedRun) → ls ≡ unreported H s →
    map (λ (l : LeasedRun). l.position) (filter (λ (l : LeasedRun). same_stage l.stage stage && nat_lt m l.deadline) ls)
    ≡ outstanding_positions H s stage m
open-kept H s stage m ls are =
    let left : LeasedRun → Bool = λ l. not (is_reported H l.run) in
    let later : LeasedRun → Bool = λ l. same_stage l.stage stage && nat_lt m l.deadline in
    let open_at : LeasedRun → Bool = λ l. same_stage l.stage stage && (not (is_reported H l.run) && nat_lt m l.deadline) in
    ap (λ (xs : List LeasedRun). map (λ (l : LeasedRun). l.position) (filter later xs)) are
    ∙ ap (map (λ (l : LeasedRun). l.position))
    (sym (filter-both left later open_at
    (λ l. open-both (same_stage l.stage stage) (not (is_reported H l.run)) (nat_lt m l.deadline)) (leases H s)))
