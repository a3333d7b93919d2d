-- A decision that refuses has the refusal's cause, and a cause has its refusal.
use Rattle.std.proofs.Common.{◌≡◌, ℕ, ◌+◌, nat_le, Bool, true, false, List, length, slice_get, if◌then◌else◌, Option, Some, None, Result, Ok, Err, refl, sym, ap, subst, ◌∙◌, true≢false}
use Rattle.std.specs.Option.{option_map}
use Rattle.std.proofs.lemmas.Bool.{false_from_ne_true}
use Rattle.std.proofs.lemmas.Option.{none-some, same_Some}
use Rattle.weight_exact.specs.declared.run.Verdict.{Verdict}
use Rattle.farm_types.specs.declared.key.Key.{Key}
use Rattle.farm_types.specs.declared.moment.Moment.{Moment}
use Rattle.farm_entry.specs.Ask.{opening_of}
use Rattle.farm_rules.specs.declared.orders.Draft.{Draft}
use Rattle.farm_rules.specs.declared.orders.NoOrder.{NoOrder}
use Rattle.farm_rules.specs.declared.orders.NoOrder.TheVariants as none
use Rattle.farm_types.specs.Moment.{moment_ms}
use Rattle.farm_entry.specs.Decision.{add_opening, asked_before, asks_for, decide, key_of, cancel_decision, keyed_decision, known_decision, lease_decision, moment_used, own_decision, page_decision, refuse_opening, repeat_or_clash, report_decision, revert_decision, runs_decision, shape_decision, skip_decision}
use Rattle.farm_entry.specs.Due.{next_run}
use Rattle.farm_entry.specs.History.{key_in, lease_of, opening_numbered, openings, place_of_key, place_of_report, told_in}
use Rattle.farm_entry.specs.Legal.{IsLegal, ask_of, command_of}
use Rattle.farm_entry.specs.Orders.{next_order_at}
use Rattle.farm_entry.specs.Standing.{is_active, standing}
use Rattle.farm_entry.specs.declared.command.Command.{Command}
use Rattle.farm_entry.specs.declared.command.Command.TheVariants as command
use Rattle.farm_entry.specs.declared.command.OpenAsk.{OpenAsk}
use Rattle.farm_entry.specs.declared.decision.Decision.{Decision}
use Rattle.farm_entry.specs.declared.decision.Decision.TheVariants.{New, Refuse, Repeat, Show}
use Rattle.farm_entry.specs.declared.entry.Entry.{Entry}
use Rattle.farm_entry.specs.declared.entry.What.{What}
use Rattle.farm_entry.specs.declared.entry.What.TheVariants.{Founded, Opened, Leased, Reported, Skipped, Cancelled, Ordered, Carried, Closed}
use Rattle.farm_entry.specs.declared.lease.DueRun.{DueRun}
use Rattle.farm_entry.specs.declared.lease.LeasedRun.{LeasedRun}
use Rattle.farm_entry.specs.declared.limits.TheConstants.{MAX_SEARCHES}
use Rattle.farm_entry.specs.declared.opening.Opening.{Opening}
use Rattle.farm_entry.specs.declared.refusal.OpenFault.{OpenFault}
use Rattle.farm_entry.specs.declared.refusal.Refusal.{Refusal}
use Rattle.farm_entry.specs.declared.refusal.Refusal.TheVariants.{BadOpen, Closed as FarmClosed, DailyLimit, Full, KeyClash, NoRevert, NoRun, SearchEnded, TooManySearches, UnknownRun, UnknownSearch}
use Rattle.farm_laws.proofs.Made.{is_made}
use Rattle.farm_laws.proofs.Repeats.{all-placed}
use Rattle.leaf_laws.specs.Causes.{AsksTheSame, CauseOf, IsClash, IsFull, IsOutside, IsRefusedClosed, IsWhat, IsWithinLimits, run_told}
use Rattle.leaf_laws.proofs.Held.{at-key, at-report, asked-what, report-named, what-asked}
use Rattle.leaf_laws.proofs.Own.{caused, ended-refuses, many-refused, no_lease-refused, no_revert-refused, no_run-refused, no_search-refused, over_day-refused, own-refused}
use Rattle.leaf_laws.proofs.Parts.{FullSays, KnownSays, ShapeSays, Speaks, clashes, closed-some, formed, full, full-decides, full-says, full-some, is_new, is_taken, known, known-decides, known-none, known-says, own, repeats, reported, says_closed, says_full, shape, shape-decides, shape-none, shape-says, speaks, taken-decides}

repeat-refuse : (place : ℕ) (r : Refusal) → Repeat place ≡ Refuse r → ⊥
repeat-refuse place r h = let b : true ≡ false = cc in true≢false b

refuse-repeat : (place : ℕ) (r : Refusal) → Refuse r ≡ Repeat place → ⊥
refuse-repeat place r h = let b : true ≡ false = cc in true≢false b

-- what stands at a place was asked before, or not
asked-there : (H : List Entry) (q : Command) (place : ℕ) (e : Entry) → slice_get H place ≡ Some e →
    asked_before (slice_get H place) q ≡ asks_for e.what q
asked-there H q place e there = ap (λ (o : Option Entry). asked_before o q) there

-- Refusals.

clash-caused : (H : List Entry) (q : Command) (m : Moment) (r : Refusal) (key : Key) (place : ℕ) → IsLegal H →
    shape_decision q ≡ None →
    key_of q ≡ Some key → place_of_key H key ≡ Some place → asked_before (slice_get H place) q ≡ false →
    Refuse (KeyClash place) ≡ Refuse r → CauseOf r H q m
clash-caused H q m r key place legal s keyed found asked is =
    let at = at-key H key place found in
    let no : asks_for at.entry.what q ≡ false = sym (asked-there H q place at.entry at.there) ∙ asked in
    caused H q m (KeyClash place) r (record {
      formed = formed q s;
      key = key;
      keyed = keyed;
      entry = at.entry;
      there = at.there;
      holds = at.is;
      other = λ what. true≢false (sym (what-asked H place at.entry q key legal at.there at.is what) ∙ no);
    }) is

known-caused : (H : List Entry) (q : Command) (m : Moment) (r : Refusal) → IsLegal H → shape_decision q ≡ None →
    KnownSays H q (Refuse r) → CauseOf r H q m
known-caused H q m r legal s (repeats key place keyed found asked is) = absurd (repeat-refuse place r is)
known-caused H q m r legal s (reported run place names found is) = absurd (repeat-refuse place r is)
known-caused H q m r legal s (clashes key place keyed found asked is) =
    clash-caused H q m r key place legal s keyed found asked is

full-caused : (H : List Entry) (q : Command) (m : Moment) (r : Refusal) → shape_decision q ≡ None →
    known_decision H q ≡ None → FullSays H q (Refuse r) → CauseOf r H q m
full-caused H q m r s k (says_full no_room adds is) =
    caused H q m Full r (record { new = is_new H q s k; no_room = no_room; adds = adds }) is
full-caused H q m r s k (says_closed below closed adds is) =
    caused H q m FarmClosed r (record { new = is_new H q s k; room = below; closed = closed; adds = adds }) is

speaks-caused : (H : List Entry) (q : Command) (m : Moment) (r : Refusal) → IsLegal H → Speaks H q m (Refuse r) →
    CauseOf r H q m
speaks-caused H q m r legal (shape s) =
    let says = shape-says q (Refuse r) s in
    caused H q m (BadOpen says.fault) r (record { ask = says.ask; opens = says.opens; outside = says.outside }) says.is
speaks-caused H q m r legal (known s k) = known-caused H q m r legal s (known-says H q (Refuse r) k)
speaks-caused H q m r legal (full s k f) = full-caused H q m r s k (full-says H q (Refuse r) f)
speaks-caused H q m r legal (own s k f o) = own-refused H q m r (is_taken H q s k f) o

pub refused-caused : (H : List Entry) (q : Command) (m : Moment) (r : Refusal) → IsLegal H →
    decide H q m ≡ Refuse r → CauseOf r H q m
refused-caused H q m r legal h = speaks-caused H q m r legal (speaks H q m (Refuse r) h)

-- And back.

outside-refused : (H : List Entry) (q : Command) (m : Moment) (f : OpenFault) → IsOutside q f →
    decide H q m ≡ Refuse (BadOpen f)
outside-refused H q m f c =
    shape-decides H q m (Refuse (BadOpen f)) (ap shape_decision c.opens ∙ ap refuse_opening c.outside)

-- a command with a key is known by it
pub known-keyed : (H : List Entry) (q : Command) (key : Key) → key_of q ≡ Some key →
    known_decision H q ≡ keyed_decision H q (Some key)
known-keyed H (command.Open ask) key h = ap (keyed_decision H (command.Open ask)) h
known-keyed H (command.Lease k worker) key h = ap (keyed_decision H (command.Lease k worker)) h
known-keyed H (command.Report run verdict) key h = absurd (none-some key h)
known-keyed H (command.Skip run) key h = absurd (none-some key h)
known-keyed H (command.Cancel k search) key h = ap (keyed_decision H (command.Cancel k search)) h
known-keyed H (command.TakeRevert k agent) key h = ap (keyed_decision H (command.TakeRevert k agent)) h
known-keyed H (command.ShowSearch search) key h = absurd (none-some key h)
known-keyed H command.ShowFarm key h = absurd (none-some key h)
known-keyed H command.ShowOrders key h = absurd (none-some key h)
known-keyed H (command.ShowRuns search from) key h = absurd (none-some key h)
known-keyed H (command.ShowSearches from) key h = absurd (none-some key h)

-- a command whose key stands at a place, by whether the entry there is what it asks for
pub keyed-at : (H : List Entry) (q : Command) (key : Key) (place : ℕ) (e : Entry) (b : Bool) → key_of q ≡ Some key →
    place_of_key H key ≡ Some place →
    slice_get H place ≡ Some e → asks_for e.what q ≡ b → known_decision H q ≡ Some
    (if b then Repeat place else Refuse (KeyClash place))
keyed-at H q key place e b keyed found there asks =
    known-keyed H q key keyed
    ∙ ap (option_map (repeat_or_clash H q)) found
    ∙ ap (λ (x : Bool). Some (if x then Repeat place else Refuse (KeyClash place))) (asked-there H q place e there
    ∙ asks)

clash-refused : (H : List Entry) (q : Command) (m : Moment) (place : ℕ) → IsLegal H → IsClash H q place →
    decide H q m ≡ Refuse (KeyClash place)
clash-refused H q m place legal c =
    let placed = all-placed H legal place c.entry c.there in
    let no : asks_for c.entry.what q ≡ false =
    false_from_ne_true (asks_for c.entry.what q) (λ t. c.other
    (asked-what H place c.entry q c.key legal c.there c.holds c.keyed t)) in
    known-decides H q m (Refuse (KeyClash place)) (shape-none q c.formed)
    (keyed-at H q c.key place c.entry false c.keyed (placed.by_key c.key c.holds) c.there no)

full-refused : (H : List Entry) (q : Command) (m : Moment) → IsFull H q → decide H q m ≡ Refuse Full
full-refused H q m c =
    full-decides H q m (Refuse Full) (shape-none q c.new.formed) (known-none H q c.new) (full-some H q c.no_room c.adds)

closed-refused : (H : List Entry) (q : Command) (m : Moment) → IsRefusedClosed H q → decide H q m ≡ Refuse FarmClosed
closed-refused H q m c =
    full-decides H q m (Refuse FarmClosed) (shape-none q c.new.formed) (known-none H q c.new)
    (closed-some H q c.room c.closed c.adds)

pub caused-refused : (H : List Entry) (q : Command) (m : Moment) (r : Refusal) → IsLegal H → CauseOf r H q m →
    decide H q m ≡ Refuse r
caused-refused H q m (BadOpen f) legal c = outside-refused H q m f c
caused-refused H q m (KeyClash place) legal c = clash-refused H q m place legal c
caused-refused H q m Full legal c = full-refused H q m c
caused-refused H q m FarmClosed legal c = closed-refused H q m c
caused-refused H q m TooManySearches legal c = taken-decides H q m c.taken ∙ many-refused H q (moment_used H m) c
caused-refused H q m NoRun legal c = taken-decides H q m c.taken ∙ no_run-refused H q m c
caused-refused H q m (UnknownRun run) legal c = taken-decides H q m c.taken
    ∙ no_lease-refused H q run (moment_used H m) c
caused-refused H q m (UnknownSearch search) legal c = taken-decides H q m c.taken
    ∙ no_search-refused H q search (moment_used H m) c
caused-refused H q m (SearchEnded s) legal c = taken-decides H q m c.taken ∙ ended-refuses H q s (moment_used H m) c
caused-refused H q m NoRevert legal c = taken-decides H q m c.taken ∙ no_revert-refused H q (moment_used H m) c
caused-refused H q m (DailyLimit day count) legal c = taken-decides H q m c.taken ∙ over_day-refused H q m day count c

-- Repeats.

-- an entry that is what a command asks for
abbrev pub HoldsWhat : List Entry → Command → ℕ → Type 0
HoldsWhat H q place = (e : Entry) × (slice_get H place ≡ Some e) × IsWhat e q

known-held : (H : List Entry) (q : Command) (place : ℕ) → IsLegal H → KnownSays H q (Repeat place) → HoldsWhat H q place
known-held H q place legal (repeats key p keyed found asked is) =
    let same : p ≡ place = cc in
    let at = at-key H key p found in
    let asks : asks_for at.entry.what q ≡ true = sym (asked-there H q p at.entry at.there) ∙ asked in
    (at.entry, ap (slice_get H) (sym same) ∙ at.there, asked-what H p at.entry q key legal at.there at.is keyed asks)
known-held H q place legal (reported run p names found is) =
    let same : p ≡ place = cc in
    let at = at-report H run p found in
    (at.entry, ap (slice_get H) (sym same) ∙ at.there, report-named run at.entry.what q at.is names)
known-held H q place legal (clashes key p keyed found asked is) = absurd (refuse-repeat place (KeyClash p) is)

shape-repeat : (q : Command) (place : ℕ) → ShapeSays q (Repeat place) → ⊥
shape-repeat q place says = refuse-repeat place (BadOpen says.fault) says.is

full-repeat : (H : List Entry) (q : Command) (place : ℕ) → FullSays H q (Repeat place) → ⊥
full-repeat H q place (says_full no_room adds is) = refuse-repeat place Full is
full-repeat H q place (says_closed below closed adds is) = refuse-repeat place FarmClosed is

-- A command's own case never repeats.

abbrev is_repeat : Decision → Bool
is_repeat (Repeat place) = true
is_repeat (Refuse r) = false
is_repeat (Show r) = false
is_repeat (New e) = false

add_opening-new : (M : Moment) (made : Result Opening OpenFault) → is_repeat (add_opening M made) ≡ false
add_opening-new M (Ok o) = refl
add_opening-new M (Err f) = refl

open-new : (M : Moment) (made : Result Opening OpenFault) (b : Bool) →
    is_repeat (if b then Refuse TooManySearches else add_opening M made) ≡ false
open-new M made true = refl
open-new M made false = add_opening-new M made

lease-new : (H : List Entry) (key : Key) (worker : List ℕ) (M : Moment) (d : Option DueRun) →
    is_repeat (lease_decision H key worker M d) ≡ false
lease-new H key worker M None = refl
lease-new H key worker M (Some d) = refl

report-new : (H : List Entry) (run : ℕ) (verdict : Verdict) (M : Moment) (l : Option LeasedRun) →
    is_repeat (report_decision H run verdict M l) ≡ false
report-new H run verdict M None = refl
report-new H run verdict M (Some l) = refl

skip-new : (H : List Entry) (run : ℕ) (M : Moment) (l : Option LeasedRun) → is_repeat (skip_decision H run M l) ≡ false
skip-new H run M None = refl
skip-new H run M (Some l) = refl

cancel-if : (new : Entry) (r : Refusal) (b : Bool) → is_repeat (if b then New new else Refuse r) ≡ false
cancel-if new r true = refl
cancel-if new r false = refl

cancel-new : (H : List Entry) (key : Key) (search : ℕ) (M : Moment) (o : Option Opening) →
    is_repeat (cancel_decision H key search M o) ≡ false
cancel-new H key search M None = refl
cancel-new H key search M (Some o) = cancel-if _ (SearchEnded (standing H o)) (is_active (standing H o))

revert-new : (key : Key) (agent : List ℕ) (M : Moment) (n : Result Draft NoOrder) →
    is_repeat (revert_decision key agent M n) ≡ false
revert-new key agent M (Err none.NoRevert) = refl
revert-new key agent M (Err (none.DailyLimit day count)) = refl
revert-new key agent M (Ok d) = refl

page-new : (H : List Entry) (search : ℕ) (o : Option Opening) → is_repeat (page_decision H search o) ≡ false
page-new H search None = refl
page-new H search (Some o) = refl

runs-new : (H : List Entry) (search from : ℕ) (o : Option Opening) →
    is_repeat (runs_decision H search from o) ≡ false
runs-new H search from None = refl
runs-new H search from (Some o) = refl

own-new : (H : List Entry) (q : Command) (M : Moment) → is_repeat (own_decision H q M) ≡ false
own-new H (command.Open ask) M =
    open-new M (opening_of ask (length (openings H) + 1)) (nat_le MAX_SEARCHES (length (openings H)))
own-new H (command.Lease key worker) M = lease-new H key worker M (next_run H (moment_ms M))
own-new H (command.Report run verdict) M = report-new H run verdict M (lease_of H run)
own-new H (command.Skip run) M = skip-new H run M (lease_of H run)
own-new H (command.Cancel key search) M = cancel-new H key search M (opening_numbered H search)
own-new H (command.TakeRevert key agent) M = revert-new key agent M (next_order_at H (moment_ms M))
own-new H (command.ShowSearch search) M = page-new H search (opening_numbered H search)
own-new H command.ShowFarm M = refl
own-new H command.ShowOrders M = refl
own-new H (command.ShowRuns search from) M = runs-new H search from (opening_numbered H search)
own-new H (command.ShowSearches from) M = refl

speaks-held : (H : List Entry) (q : Command) (m : Moment) (place : ℕ) → IsLegal H → Speaks H q m (Repeat place) →
    HoldsWhat H q place
speaks-held H q m place legal (shape s) = absurd (shape-repeat q place (shape-says q (Repeat place) s))
speaks-held H q m place legal (known s k) = known-held H q place legal (known-says H q (Repeat place) k)
speaks-held H q m place legal (full s k f) = absurd (full-repeat H q place (full-says H q (Repeat place) f))
speaks-held H q m place legal (own s k f o) = absurd (true≢false (ap is_repeat (sym o) ∙ own-new H q (moment_used H m)))

pub repeated-held : (H : List Entry) (q : Command) (m : Moment) (place : ℕ) → IsLegal H →
    decide H q m ≡ Repeat place → HoldsWhat H q place
repeated-held H q m place legal h = speaks-held H q m place legal (speaks H q m (Repeat place) h)

-- And back: by which an entry that is what a command asks for is found, its key or its run.
data Finds (what : What) (q : Command) : Type 0 where
  by_key : (key : Key) → key_in what ≡ Some key → key_of q ≡ Some key → Finds what q
  by_run : (run : ℕ) → told_in what ≡ Some run → run_told q ≡ Some run → Finds what q

keyed-same : (p q : Command) (what : What) (key : Key) → key_in what ≡ Some key → key_of p ≡ Some key → p ≡ q →
    Finds what q
keyed-same p q what key holds keyed same = by_key key holds (ap key_of (sym same) ∙ keyed)

finds : (what : What) (p q : Command) → command_of what ≡ Some p → AsksTheSame p q → Finds what q
finds (Founded settings) p q names same = absurd (none-some p names)
finds (Opened o) p q names same =
    let first : p ≡ command.Open (ask_of o) = sym (same_Some (command.Open (ask_of o)) p names) in
    let here : AsksTheSame (command.Open (ask_of o)) q = subst (λ (x : Command). AsksTheSame x q) first same in
    let mine : o.key ≡ here.2.key = (is_made (ask_of o) 0 here.2 here.3).key in
    let other : here.0.key ≡ here.2.key = (is_made here.0 0 here.2 here.4).key in
    by_key o.key refl (ap key_of here.1 ∙ ap Some (other ∙ sym mine))
finds (Leased k worker run search stage position deadline) p q names same =
    let first : p ≡ command.Lease k worker = sym (same_Some (command.Lease k worker) p names) in
    keyed-same (command.Lease k worker) q (Leased k worker run search stage position deadline) k refl refl
    (subst (λ (x : Command). AsksTheSame x q) first same)
finds (Reported run verdict _) p q names same =
    let first : p ≡ command.Report run verdict = sym (same_Some (command.Report run verdict) p names) in
    by_run run refl (subst (λ (x : Command). AsksTheSame x q) first same)
finds (Skipped run _) p q names same =
    let first : p ≡ command.Skip run = sym (same_Some (command.Skip run) p names) in
    by_run run refl (subst (λ (x : Command). AsksTheSame x q) first same)
finds (Cancelled k search) p q names same =
    let first : p ≡ command.Cancel k search = sym (same_Some (command.Cancel k search) p names) in
    keyed-same (command.Cancel k search) q (Cancelled k search) k refl refl (subst (λ (x : Command).
    AsksTheSame x q) first same)
finds (Ordered k agent order commit search day) p q names same =
    let first : p ≡ command.TakeRevert k agent = sym (same_Some (command.TakeRevert k agent) p names) in
    keyed-same (command.TakeRevert k agent) q (Ordered k agent order commit search day) k refl refl
    (subst (λ (x : Command). AsksTheSame x q) first same)
finds (Carried c t) p q names same = absurd (none-some p names)
finds Closed p q names same = absurd (none-some p names)

-- a command that asks for what was asked before is well formed
pub open-formed : (p q : Command) → AsksTheSame p q → (ask : OpenAsk) → q ≡ command.Open ask → IsWithinLimits ask
open-formed (command.Open first) q same ask is =
    let both : command.Open same.0 ≡ command.Open ask = sym same.1 ∙ is in
    let equal : same.0 ≡ ask = cc in
    (same.2, ap (λ (a : OpenAsk). opening_of a 0) (sym equal) ∙ same.4)
open-formed (command.Report run verdict) q same ask is = absurd (none-some run (sym (ap run_told is) ∙ same))
open-formed (command.Skip run) q same ask is = absurd (none-some run (sym (ap run_told is) ∙ same))
open-formed (command.Lease k worker) q same ask is =
    let both : command.Lease k worker ≡ command.Open ask = same ∙ is in
    let b : true ≡ false = cc in absurd (true≢false b)
open-formed (command.Cancel k search) q same ask is =
    let both : command.Cancel k search ≡ command.Open ask = same ∙ is in
    let b : true ≡ false = cc in absurd (true≢false b)
open-formed (command.TakeRevert k agent) q same ask is =
    let both : command.TakeRevert k agent ≡ command.Open ask = same ∙ is in
    let b : true ≡ false = cc in absurd (true≢false b)
open-formed (command.ShowSearch search) q same ask is =
    let both : command.ShowSearch search ≡ command.Open ask = same ∙ is in
    let b : true ≡ false = cc in absurd (true≢false b)
open-formed command.ShowFarm q same ask is =
    let both : command.ShowFarm ≡ command.Open ask = same ∙ is in
    let b : true ≡ false = cc in absurd (true≢false b)
open-formed command.ShowOrders q same ask is =
    let both : command.ShowOrders ≡ command.Open ask = same ∙ is in
    let b : true ≡ false = cc in absurd (true≢false b)
open-formed (command.ShowRuns search from) q same ask is =
    let both : command.ShowRuns search from ≡ command.Open ask = same ∙ is in
    let b : true ≡ false = cc in absurd (true≢false b)
open-formed (command.ShowSearches from) q same ask is =
    let both : command.ShowSearches from ≡ command.Open ask = same ∙ is in
    let b : true ≡ false = cc in absurd (true≢false b)

-- a command that reports a run is known by the place of the run's report
known-told : (H : List Entry) (q : Command) (run place : ℕ) → run_told q ≡ Some run → place_of_report H run ≡ Some place →
    known_decision H q ≡ Some (Repeat place)
known-told H (command.Report r verdict) run place e found =
    let same : r ≡ run = cc in ap (option_map Repeat) (ap (place_of_report H) same ∙ found)
known-told H (command.Skip r) run place e found =
    let same : r ≡ run = cc in ap (option_map Repeat) (ap (place_of_report H) same ∙ found)
known-told H (command.Open ask) run place e found = absurd (none-some run e)
known-told H (command.Lease k worker) run place e found = absurd (none-some run e)
known-told H (command.Cancel k search) run place e found = absurd (none-some run e)
known-told H (command.TakeRevert k agent) run place e found = absurd (none-some run e)
known-told H (command.ShowSearch search) run place e found = absurd (none-some run e)
known-told H command.ShowFarm run place e found = absurd (none-some run e)
known-told H command.ShowOrders run place e found = absurd (none-some run e)
known-told H (command.ShowRuns search from) run place e found = absurd (none-some run e)
known-told H (command.ShowSearches from) run place e found = absurd (none-some run e)

found-repeated : (H : List Entry) (q : Command) (m : Moment) (place : ℕ) (e : Entry) → IsLegal H →
    slice_get H place ≡ Some e → IsWhat e q →
    shape_decision q ≡ None → Finds e.what q → decide H q m ≡ Repeat place
found-repeated H q m place e legal there is s (by_key key holds keyed) =
    let placed = all-placed H legal place e there in
    known-decides H q m (Repeat place) s
    (keyed-at H q key place e true keyed (placed.by_key key holds) there
    (what-asked H place e q key legal there holds is))
found-repeated H q m place e legal there is s (by_run run what names) =
    let placed = all-placed H legal place e there in
    known-decides H q m (Repeat place) s (known-told H q run place names (placed.by_run run what))

pub held-repeated : (H : List Entry) (q : Command) (m : Moment) (place : ℕ) → IsLegal H → HoldsWhat H q place →
    decide H q m ≡ Repeat place
held-repeated H q m place legal (e, there, is) =
    found-repeated H q m place e legal there is (shape-none q (open-formed is.0 q is.2)) (finds e.what is.0 q is.1 is.2)
