-- A command that an entry names is decided by the entry's place.
use Rattle.std.proofs.Common.{◌≡◌, ℕ, zero, suc, ◌+◌, ◌<◌, ◌≤◌, ◌==◌, nat_le, Bool, true, false, not, ◌&&◌, List, [], ◌∷◌, ◌++◌, length, slice_get, get_or, length-append, position, if◌then◌else◌, Option, Some, None, Result, Ok, Err, refl, sym, ap, subst, ◌∙◌, ⊎_elim, arith, true≢false}
use Rattle.std.specs.Option.{option_map}
use Rattle.std.specs.Str.{bytes_eq}
use Rattle.std.proofs.Math.ListN.{get_or-append}
use Rattle.std.proofs.lemmas.Bool.{cases_lt}
use Rattle.std.proofs.lemmas.Bool.Decides.{nat_tests}
use Rattle.std.proofs.lemmas.List.{get_or_push}
use Rattle.std.proofs.lemmas.List.Quantifiers.{position-Some}
use Rattle.std.proofs.lemmas.Option.{slice_get-get_or, slice_get_within}
use Rattle.std.proofs.lemmas.Slice.Eq.{bytes_eq-Decides}
use Rattle.std.proofs.lemmas.Option.{none-some}
use Rattle.farm_types.specs.declared.key.Key.{Key}
use Rattle.farm_types.specs.declared.moment.Moment.{Moment}
use Rattle.farm_types.proofs.FirstIndex.{fails-from_none, position-first}
use Rattle.farm_entry.specs.Decision.{closed_decision, decide, asked_before, asks_for, full_decision, is_show, keyed_decision, known_decision, makes_opening, moment_used, or_else, own_decision, page_decision, refuse_opening, repeat_or_clash, runs_decision, shape_decision}
use Rattle.farm_entry.specs.Ask.{opening_of}
use Rattle.farm_entry.specs.History.{has_key, is_closed, is_key, is_of_run, is_report_of, key_in, opening_in, openings, place_of_key, place_of_report, told_in}
use Rattle.farm_entry.specs.Legal.{IsFounding, IsLegal, ask_of, command_of}
use Rattle.farm_entry.specs.declared.decision.Decision.{Decision}
use Rattle.farm_entry.specs.declared.decision.Decision.TheVariants.{Refuse, Repeat}
use Rattle.farm_entry.specs.declared.command.Command.{Command}
use Rattle.farm_entry.specs.declared.command.Command.TheVariants as command
use Rattle.farm_entry.specs.declared.entry.Entry.{Entry}
use Rattle.farm_entry.specs.declared.entry.What.{What}
use Rattle.farm_entry.specs.declared.entry.What.TheVariants.{Founded, Opened, Leased, Reported, Skipped, Cancelled, Ordered, Carried, Closed}
use Rattle.farm_entry.specs.declared.limits.TheConstants.{MAX_ENTRIES}
use Rattle.farm_entry.specs.declared.opening.Opening.{Opening}
use Rattle.farm_entry.specs.declared.refusal.OpenFault.{OpenFault}
use Rattle.farm_entry.specs.declared.refusal.Refusal.TheVariants.{Full, Closed as FarmClosed, KeyClash}
use Rattle.farm_laws.proofs.Again.{made_again}
use Rattle.farm_laws.proofs.EntryParts.{opened-facts, told-facts}
use Rattle.farm_laws.proofs.Induct.{each_legal}
use Rattle.farm_laws.proofs.Made.{is_made}
use Rattle.farm_laws.proofs.Numbered.{no_opening, no_told}
use Rattle.farm_laws.proofs.OwnWays.{either-way, own-way}
use Rattle.farm_laws.proofs.Recorded.{IsNamed}
use Rattle.farm_laws.proofs.Replies.{slice_get-first, slice_get-last}
use Rattle.farm_laws.proofs.SameEntries.{same_opening-Decides}
use Rattle.farm_laws.proofs.Stepped.{Stepped}

-- First places.

-- the first place at which a test passes stays it when the list grows
position-stays : {X : Type 0} (p : X → Bool) (xs ys : List X) (i : ℕ) (d : X) → position p xs ≡ Some i → position p (xs ++ ys) ≡ Some i
position-stays p xs ys i d h =
    let at = position-Some p xs i d h in
    let longer : length (xs ++ ys) ≡ length xs + length ys = length-append xs ys in
    let below : i < length xs = at.0 in
    position-first p (xs ++ ys) d i (omega arith)
    (λ k before. ap p (get_or-append xs ys d k (omega arith)) ∙ at.2 k before)
    (ap p (get_or-append xs ys d i below) ∙ at.1)

-- a test that passes nowhere, and at one element more
position-new : {X : Type 0} (p : X → Bool) (xs : List X) (x : X) → position p xs ≡ None → p x ≡ true → position p (xs ++ x ∷ []) ≡ Some (length xs)
position-new p xs x none here =
    let longer : length (xs ++ x ∷ []) ≡ length xs + 1 = length-append xs (x ∷ []) in
    position-first p (xs ++ x ∷ []) x (length xs) (omega arith)
    (λ k before. ap p (get_or-append xs (x ∷ []) x k before) ∙ fails-from_none p xs x none k before)
    (ap p (get_or_push xs x x (length xs) refl) ∙ here)

same_number : (n : ℕ) → n == n ≡ true
same_number n = grind (arith, nat_tests)

pub same_text : (text : List ℕ) → bytes_eq text text ≡ true
same_text text = (bytes_eq-Decides text text).1 refl

-- Entries at their places.

-- an entry is found by its key or by its run, and an opening is what it asks for
pub record Placed (H : List Entry) (place : ℕ) (what : What) : Type 0 where
  pub by_key : (key : Key) → key_in what ≡ Some key → place_of_key H key ≡ Some place
  pub by_run : (run : ℕ) → told_in what ≡ Some run → place_of_report H run ≡ Some place
  pub made : (o : Opening) → opening_in what ≡ Some o → opening_of (ask_of o) o.search ≡ Ok o

pub no_key : (w : What) → IsFounding w → key_in w ≡ None
no_key (Founded s) h = refl
no_key (Opened o) h = absurd h
no_key (Leased k w r q t p d) h = absurd h
no_key (Reported r v _) h = absurd h
no_key (Skipped r _) h = absurd h
no_key (Cancelled k q) h = absurd h
no_key (Ordered k a n c q d) h = absurd h
no_key (Carried c t) h = absurd h
no_key Closed h = absurd h

-- what is none is not some
differ : {X : Type 0} (o : Option X) (x : X) → o ≡ None → o ≡ Some x → ⊥
differ o x none some = none-some x (sym none ∙ some)

Placed-founded : (H : List Entry) (place : ℕ) (w : What) → IsFounding w → Placed H place w
Placed-founded H place w founding = record {
  by_key = λ key is. absurd (differ (key_in w) key (no_key w founding) is);
  by_run = λ run is. absurd (differ (told_in w) run (no_told w founding) is);
  made = λ o is. absurd (differ (opening_in w) o (no_opening w founding) is);
}

Placed-stays : (H : List Entry) (e : Entry) (place : ℕ) (w : What) → Placed H place w → Placed (H ++ e ∷ []) place w
Placed-stays H e place w p = record {
  by_key = λ key is. position-stays (has_key key) H (e ∷ []) place e (p.by_key key is);
  by_run = λ run is. position-stays (is_report_of run) H (e ∷ []) place e (p.by_run run is);
  made = p.made;
}

Placed-new : (H : List Entry) (e : Entry) → Stepped H e.at e.what → Placed (H ++ e ∷ []) (length H) e.what
Placed-new H e s = record {
  by_key = λ key is.
      position-new (has_key key) H e (s.fresh key is) (ap (is_key key) is ∙ same_number key.0);
  by_run = λ run is.
      position-new (is_report_of run) H e (told-facts H e.at e.what run is s).first (ap (is_of_run run) is ∙ same_number run);
  made = λ o is.
      let facts = opened-facts H e.at e.what o is s in
      subst (λ (n : ℕ). opening_of (ask_of o) n ≡ Ok o) (is_made (ask_of o) (length (openings H) + 1) o facts.made).number facts.made;
}

founded-placed : (f : Entry) (k : ℕ) (x : Entry) → IsFounding f.what → slice_get (f ∷ []) k ≡ Some x → Placed (f ∷ []) k x.what
founded-placed f zero x founding is =
    let same : f ≡ x = cc in
    subst (λ (y : Entry). Placed (f ∷ []) 0 y.what) same (Placed-founded (f ∷ []) 0 f.what founding)
founded-placed f (suc k) x founding is = absurd (none-some x is)

stepped-placed : (H : List Entry) (e : Entry) → ((k : ℕ) (x : Entry) → slice_get H k ≡ Some x → Placed H k x.what) → Stepped H e.at e.what →
    (k : ℕ) (x : Entry) → slice_get (H ++ e ∷ []) k ≡ Some x → Placed (H ++ e ∷ []) k x.what
stepped-placed H e placed s k x is =
    let longer : length (H ++ e ∷ []) ≡ length H + 1 = length-append H (e ∷ []) in
    let inside : k < length (H ++ e ∷ []) = slice_get_within (H ++ e ∷ []) k x is in
    ⊎_elim
    (λ (before : k < length H).
    Placed-stays H e k x.what (placed k x (sym (slice_get-first H (e ∷ []) k before) ∙ is)))
    (λ (past : length H ≤ k).
    let last : length H ≡ k = omega arith in
    let both : Some e ≡ Some x = sym (slice_get-last H e) ∙ ap (slice_get (H ++ e ∷ [])) last ∙ is in
    let same : e ≡ x = cc in
    subst (λ (y : Entry). Placed (H ++ e ∷ []) k y.what) same
    (subst (λ (n : ℕ). Placed (H ++ e ∷ []) n e.what) last (Placed-new H e s)))
    (cases_lt k (length H))

pub all-placed : (H : List Entry) → IsLegal H → (k : ℕ) (x : Entry) → slice_get H k ≡ Some x → Placed H k x.what
all-placed =
    each_legal (λ (H : List Entry). (k : ℕ) (x : Entry) → slice_get H k ≡ Some x → Placed H k x.what)
    (λ e founding k x is. founded-placed e k x founding is)
    (λ H e legal placed s. stepped-placed H e placed s)

-- Answers.

-- a command was done at a place
record Known (H : List Entry) (place : ℕ) (q : Command) : Type 0 where
  shape : shape_decision q ≡ None
  known : known_decision H q ≡ Some (Repeat place)

-- a key that stands at a place whose entry the command asks for
keyed-known : (H : List Entry) (q : Command) (key : Key) (place : ℕ) (e : Entry) → place_of_key H key ≡ Some place →
    slice_get H place ≡ Some e → asks_for e.what q ≡ true → keyed_decision H q (Some key) ≡ Some (Repeat place)
keyed-known H q key place e found there asks =
    ap (option_map (repeat_or_clash H q)) found
    ∙ ap (λ (o : Option Entry). Some (if asked_before o q then Repeat place else Refuse (KeyClash place))) there
    ∙ ap (λ (b : Bool). Some (if b then Repeat place else Refuse (KeyClash place))) asks

named-known : (H : List Entry) (place : ℕ) (at : Moment) (what : What) (q : Command) → Placed H place what →
    slice_get H place ≡ Some (record { at = at; what = what }) → command_of what ≡ Some q → Known H place q
named-known H place at (Founded settings) q p there is = absurd (none-some q is)
named-known H place at (Opened o) q p there is =
    let open_it : Command = command.Open (ask_of o) in
    let same : open_it ≡ q = cc in
    let made = p.made o refl in
    let asks : makes_opening o (opening_of (ask_of o) o.search) ≡ true = ap (makes_opening o) made ∙ (same_opening-Decides o o).1 refl in
    subst (Known H place) same (record {
      shape = ap refuse_opening (made_again (ask_of o) o.search o made 0);
      known = keyed-known H open_it o.key place _ (p.by_key o.key refl) there asks;
    })
named-known H place at (Leased key worker run search stage position deadline) q p there is =
    let lease_it : Command = command.Lease key worker in
    let same : lease_it ≡ q = cc in
    subst (Known H place) same (record {
      shape = refl;
      known = keyed-known H lease_it key place _ (p.by_key key refl) there (same_text worker);
    })
named-known H place at (Reported run verdict _) q p there is =
    let report_it : Command = command.Report run verdict in
    let same : report_it ≡ q = cc in
    subst (Known H place) same (record {
      shape = refl;
      known = ap (option_map Repeat) (p.by_run run refl);
    })
named-known H place at (Skipped run _) q p there is =
    let skip_it : Command = command.Skip run in
    let same : skip_it ≡ q = cc in
    subst (Known H place) same (record { shape = refl; known = ap (option_map Repeat) (p.by_run run refl) })
named-known H place at (Cancelled key search) q p there is =
    let cancel_it : Command = command.Cancel key search in
    let same : cancel_it ≡ q = cc in
    subst (Known H place) same (record {
      shape = refl;
      known = keyed-known H cancel_it key place _ (p.by_key key refl) there (same_number search);
    })
named-known H place at (Ordered key agent order commit search day) q p there is =
    let take_it : Command = command.TakeRevert key agent in
    let same : take_it ≡ q = cc in
    subst (Known H place) same (record {
      shape = refl;
      known = keyed-known H take_it key place _ (p.by_key key refl) there (same_text agent);
    })
named-known H place at (Carried c t) q p there is = absurd (none-some q is)
named-known H place at Closed q p there is = absurd (none-some q is)

-- the command that an entry names is decided by its place
pub repeated : (H : List Entry) (place : ℕ) (e : Entry) (q : Command) (m : Moment) → IsLegal H → slice_get H place ≡ Some e →
    command_of e.what ≡ Some q → decide H q m ≡ Repeat place
repeated H place e q m legal there is =
    let k = named-known H place e.at e.what q (all-placed H legal place e there) there is in
    ap (λ (a : Option Decision). or_else a (or_else (known_decision H q) (or_else (full_decision H q) (own_decision H q (moment_used H m))))) k.shape
    ∙ ap (λ (a : Option Decision). or_else a (or_else (full_decision H q) (own_decision H q (moment_used H m)))) k.known

-- What a command is answered by names a command.

-- the entry at a place names a command
pub record Named (H : List Entry) (place : ℕ) : Type 0 where
  pub entry : Entry
  pub there : slice_get H place ≡ Some entry
  pub command : Command
  pub named : command_of entry.what ≡ Some command

-- an entry with a key names a command, and so does a report of a run
key-named : (key : Key) (w : What) → is_key key (key_in w) ≡ true → IsNamed w
key-named key (Founded settings) holds = absurd (true≢false (sym holds))
key-named key (Opened o) holds = (command.Open (ask_of o), refl)
key-named key (Leased k worker run search stage position deadline) holds = (command.Lease k worker, refl)
key-named key (Reported run verdict _) holds = (command.Report run verdict, refl)
key-named key (Skipped run _) holds = (command.Skip run, refl)
key-named key (Cancelled k search) holds = (command.Cancel k search, refl)
key-named key (Ordered k agent order commit search day) holds = (command.TakeRevert k agent, refl)
key-named key (Carried commit day) holds = absurd (true≢false (sym holds))
key-named key Closed holds = absurd (true≢false (sym holds))

told-named : (run : ℕ) (w : What) → is_of_run run (told_in w) ≡ true → IsNamed w
told-named run (Founded settings) holds = absurd (true≢false (sym holds))
told-named run (Opened o) holds = (command.Open (ask_of o), refl)
told-named run (Leased key worker r search stage position deadline) holds = (command.Lease key worker, refl)
told-named run (Reported r verdict _) holds = (command.Report r verdict, refl)
told-named run (Skipped r _) holds = (command.Skip r, refl)
told-named run (Cancelled key search) holds = (command.Cancel key search, refl)
told-named run (Ordered key agent order commit search day) holds = (command.TakeRevert key agent, refl)
told-named run (Carried commit day) holds = absurd (true≢false (sym holds))
told-named run Closed holds = absurd (true≢false (sym holds))

-- the first entry that passes a test which only such entries pass
first-named : (test : Entry → Bool) → ((e : Entry) → test e ≡ true → IsNamed e.what) → (H : List Entry) (place : ℕ) →
    position test H ≡ Some place → Named H place
first-named test names [] place found = absurd (none-some place found)
first-named test names (e ∷ H) place found =
    let at = position-Some test (e ∷ H) place e found in
    let says = names (get_or (e ∷ H) place e) at.1 in
    record {
      entry = get_or (e ∷ H) place e;
      there = slice_get-get_or (e ∷ H) place e at.0;
      command = says.0;
      named = says.1;
    }

-- a decision that repeats does so by an entry that names a command
abbrev RepeatsNamed : List Entry → Decision → Type 0
RepeatsNamed H (Repeat place) = Named H place
RepeatsNamed H _ = Unit {0}

abbrev MayRepeatNamed : List Entry → Option Decision → Type 0
MayRepeatNamed H None = Unit {0}
MayRepeatNamed H (Some d) = RepeatsNamed H d

report-repeats : (H : List Entry) (run : ℕ) (o : Option ℕ) → place_of_report H run ≡ o →
    MayRepeatNamed H (option_map Repeat o)
report-repeats H run None found = tt
report-repeats H run (Some place) found =
    first-named (is_report_of run) (λ e holds. told-named run e.what holds) H place found

key-repeats : (H : List Entry) (q : Command) (key : Key) (o : Option ℕ) → place_of_key H key ≡ o →
    MayRepeatNamed H (option_map (repeat_or_clash H q) o)
key-repeats H q key None found = tt
key-repeats H q key (Some place) found =
    either-way (RepeatsNamed H) (asked_before (slice_get H place) q) (Repeat place) (Refuse (KeyClash place))
    (first-named (has_key key) (λ e holds. key-named key e.what holds) H place found) tt

known-repeats : (H : List Entry) (q : Command) → MayRepeatNamed H (known_decision H q)
known-repeats H (command.Open ask) = key-repeats H (command.Open ask) ask.key (place_of_key H ask.key) refl
known-repeats H (command.Lease key worker) = key-repeats H (command.Lease key worker) key (place_of_key H key) refl
known-repeats H (command.Report run verdict) = report-repeats H run (place_of_report H run) refl
known-repeats H (command.Skip run) = report-repeats H run (place_of_report H run) refl
known-repeats H (command.Cancel key search) = key-repeats H (command.Cancel key search) key (place_of_key H key) refl
known-repeats H (command.TakeRevert key agent) = key-repeats H (command.TakeRevert key agent) key (place_of_key H key) refl
known-repeats H (command.ShowSearch search) = tt
known-repeats H command.ShowFarm = tt
known-repeats H command.ShowOrders = tt
known-repeats H (command.ShowRuns search from) = tt
known-repeats H (command.ShowSearches from) = tt

-- the other parts of a decision repeat nothing

shape-repeats : (H : List Entry) (made : Result Opening OpenFault) → MayRepeatNamed H (refuse_opening made)
shape-repeats H (Ok o) = tt
shape-repeats H (Err f) = tt

formed-repeats : (H : List Entry) (q : Command) → MayRepeatNamed H (shape_decision q)
formed-repeats H (command.Open ask) = shape-repeats H (opening_of ask 0)
formed-repeats H (command.Lease key worker) = tt
formed-repeats H (command.Report run verdict) = tt
formed-repeats H (command.Skip run) = tt
formed-repeats H (command.Cancel key search) = tt
formed-repeats H (command.TakeRevert key agent) = tt
formed-repeats H (command.ShowSearch search) = tt
formed-repeats H command.ShowFarm = tt
formed-repeats H command.ShowOrders = tt
formed-repeats H (command.ShowRuns search from) = tt
formed-repeats H (command.ShowSearches from) = tt

either-may : (H : List Entry) (b : Bool) (x y : Option Decision) → MayRepeatNamed H x → MayRepeatNamed H y →
    MayRepeatNamed H (if b then x else y)
either-may H true x y first second = first
either-may H false x y first second = second

full-repeats : (H : List Entry) (q : Command) → MayRepeatNamed H (full_decision H q)
full-repeats H q =
    either-may H (nat_le MAX_ENTRIES (length H) && not (is_show q)) (Some (Refuse Full)) (closed_decision H q) tt
    (either-may H (is_closed H && not (is_show q)) (Some (Refuse FarmClosed)) None tt tt)

page-repeats : (H : List Entry) (search : ℕ) (o : Option Opening) → RepeatsNamed H (page_decision H search o)
page-repeats H search None = tt
page-repeats H search (Some o) = tt

runs-repeats : (H : List Entry) (search from : ℕ) (o : Option Opening) → RepeatsNamed H (runs_decision H search from o)
runs-repeats H search from None = tt
runs-repeats H search from (Some o) = tt

show-repeats : (H : List Entry) (q : Command) (m : Moment) → is_show q ≡ true → RepeatsNamed H (own_decision H q m)
show-repeats H (command.ShowSearch search) m shows = page-repeats H search _
show-repeats H command.ShowFarm m shows = tt
show-repeats H command.ShowOrders m shows = tt
show-repeats H (command.ShowRuns search from) m shows = runs-repeats H search from _
show-repeats H (command.ShowSearches from) m shows = tt
show-repeats H (command.Open ask) m shows = absurd (true≢false (sym shows))
show-repeats H (command.Lease key worker) m shows = absurd (true≢false (sym shows))
show-repeats H (command.Report run verdict) m shows = absurd (true≢false (sym shows))
show-repeats H (command.Skip run) m shows = absurd (true≢false (sym shows))
show-repeats H (command.Cancel key search) m shows = absurd (true≢false (sym shows))
show-repeats H (command.TakeRevert key agent) m shows = absurd (true≢false (sym shows))

own-repeats : (H : List Entry) (q : Command) (m : Moment) → RepeatsNamed H (own_decision H q m)
own-repeats H q m = own-way (RepeatsNamed H) (λ e. tt) (λ cause. tt) H q m (show-repeats H q m)

first-repeats : (H : List Entry) (o : Option Decision) (d : Decision) → MayRepeatNamed H o → RepeatsNamed H d →
    RepeatsNamed H (or_else o d)
first-repeats H None d first second = second
first-repeats H (Some e) d first second = first

decide-repeats : (H : List Entry) (q : Command) (m : Moment) → RepeatsNamed H (decide H q m)
decide-repeats H q m =
    first-repeats H (shape_decision q) _ (formed-repeats H q)
    (first-repeats H (known_decision H q) _ (known-repeats H q)
    (first-repeats H (full_decision H q) _ (full-repeats H q) (own-repeats H q (moment_used H m))))

pub repeat-named : (H : List Entry) (q : Command) (m : Moment) (place : ℕ) → decide H q m ≡ Repeat place →
    Named H place
repeat-named H q m place is = subst (RepeatsNamed H) is (decide-repeats H q m)
