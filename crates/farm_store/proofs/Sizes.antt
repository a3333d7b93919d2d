-- How many bytes of a record new entries take at most.
use Rattle.std.proofs.Common.{◌≡◌, ℕ, ◌+◌, ◌*◌, ◌≤◌, nat_le, not, ◌&&◌, Bool, true, false, if◌then◌else◌, List, [], ◌∷◌, ◌++◌, length, slice_get, Option, Some, None, Result, Ok, Err, sym, ap, subst, arith}
use Rattle.std.specs.Prelude.{⊤}
use Rattle.std.specs.List.{AllByRecursion}
use Rattle.std.specs.Option.{option_map}
use Rattle.std.proofs.lemmas.List.{length-append}
use Rattle.std.proofs.lemmas.List.Elements.{recursion_from_All}
use Rattle.std.proofs.lemmas.List.Sums.{sum_by-append, sum_by-cons}
use Rattle.entry_codec.specs.Grammar.{AreSpelled, HasSpelling}
use Rattle.entry_codec.specs.Spelling.{entry_bytes, fields_of, number_bytes, spelling, tag_of}
use Rattle.entry_codec.specs.declared.limits.TheConstants.{MAX_ENTRY_BYTES}
use Rattle.entry_codec.proofs.FieldLaws.{length-number_bytes}
use Rattle.entry_codec.proofs.Sizes.{entry-short}
use Rattle.farm_types.specs.CommitId.{id_bytes}
use Rattle.farm_types.specs.Moment.{moment_ms}
use Rattle.farm_types.specs.declared.commit_id.CommitId.{CommitId}
use Rattle.farm_types.specs.declared.moment.Moment.{Moment}
use Rattle.farm_rules.specs.declared.orders.Draft.{Draft}
use Rattle.farm_rules.specs.declared.orders.NoOrder.{NoOrder}
use Rattle.farm_rules.specs.declared.orders.NoOrder.TheVariants as none
use Rattle.farm_types.specs.declared.key.Key.{Key}
use Rattle.weight_exact.specs.declared.run.Verdict.{Verdict}
use Rattle.farm_entry.specs.Ask.{opening_of}
use Rattle.farm_entry.specs.Decision.{add_at, add_opening, asked_before, cancel_decision, closed_decision, decide, full_decision, is_show, known_decision, lease_decision, moment_used, or_else, own_decision, page_decision, refuse_opening, repeat_or_clash, report_decision, revert_decision, runs_decision, shape_decision, skip_decision}
use Rattle.farm_entry.specs.Due.{next_run}
use Rattle.farm_entry.specs.History.{is_closed, lease_of, opening_numbered, openings, place_of_key, place_of_report}
use Rattle.farm_entry.specs.Orders.{next_order_at}
use Rattle.farm_entry.specs.Standing.{is_active, standing}
use Rattle.farm_entry.specs.declared.lease.DueRun.{DueRun}
use Rattle.farm_entry.specs.declared.lease.LeasedRun.{LeasedRun}
use Rattle.farm_entry.specs.declared.limits.TheConstants.{MAX_ENTRIES, MAX_SEARCHES}
use Rattle.farm_entry.specs.declared.opening.Opening.{Opening}
use Rattle.farm_entry.specs.declared.refusal.OpenFault.{OpenFault}
use Rattle.farm_entry.specs.declared.refusal.Refusal.TheVariants as refusal
use Rattle.farm_entry.specs.declared.refusal.Refusal.TheVariants.{Full, KeyClash, SearchEnded, TooManySearches}
use Rattle.farm_entry.specs.declared.command.Command.{Command}
use Rattle.farm_entry.specs.declared.command.Command.TheVariants as command
use Rattle.farm_entry.specs.declared.decision.Decision.{Decision}
use Rattle.farm_entry.specs.declared.decision.Decision.TheVariants as decision
use Rattle.farm_entry.specs.declared.entry.Entry.{Entry}
use Rattle.farm_entry.specs.declared.entry.What.{What}
use Rattle.farm_entry.specs.declared.entry.What.TheVariants.{Founded, Opened, Leased, Reported, Skipped, Cancelled, Ordered, Carried, Closed}
use Rattle.farm_entry.specs.Playing.{after}
use Rattle.farm_store.specs.Answering.{history_after}
use Rattle.farm_store.specs.Sizes.{asks_size, command_size, entries_size, what_size}
use Rattle.farm_store.specs.declared.asking.Ask.{Ask}
use Rattle.farm_store.specs.declared.asking.TheConstants.{MAX_BATCH, MAX_RECORD_BYTES, MAX_SHORT_ENTRY_BYTES}

length-id_bytes : (id : CommitId) → length (id_bytes id) ≡ 20
length-id_bytes id = id.whole

-- an entry has at most as many bytes as its kind allows
fields-within : (what : What) → HasSpelling what → length (fields_of what) + 9 ≤ MAX_ENTRY_BYTES
    → length (fields_of what) + 9 ≤ what_size what
fields-within (Founded settings) h most = simp (length-append, length-number_bytes) (omega arith)
fields-within (Opened o) h most = most
fields-within (Leased key worker run search stage position deadline) h most =
    simp (length-append, length-number_bytes) (omega (arith, h.1.few))
fields-within (Reported run verdict _) h most = simp (length-append, length-number_bytes) (omega arith)
fields-within (Skipped run _) h most = simp (length-append, length-number_bytes) (omega arith)
fields-within (Cancelled key search) h most = simp (length-append, length-number_bytes) (omega arith)
fields-within (Ordered key agent order commit search day) h most =
    simp (length-append, length-number_bytes, length-id_bytes) (omega (arith, h.1.few))
fields-within (Carried commit day) h most =
    simp (length-append, length-number_bytes, length-id_bytes) (omega arith)
fields-within Closed h most = omega arith

entry-within : (e : Entry) → HasSpelling e.what → length (entry_bytes e) ≤ what_size e.what
entry-within e h =
    let at : List ℕ = number_bytes 8 (moment_ms e.at) in
    let tag : List ℕ = number_bytes 1 (tag_of e.what) in
    let whole = length-append (at ++ tag) (fields_of e.what) in
    let head = length-append at tag in
    let eight = length-number_bytes 8 (moment_ms e.at) in
    let one = length-number_bytes 1 (tag_of e.what) in
    let short = entry-short e h in
    let within = fields-within e.what h (omega (arith, whole, head, eight, one, short)) in
    omega (arith, whole, head, eight, one, within)

all-within : (entries : List Entry) → AllByRecursion (λ (e : Entry). HasSpelling e.what) entries
    → length (spelling entries) ≤ entries_size entries
all-within [] h = omega arith
all-within (e ∷ entries) h =
    omega (
      arith,
      length-append (entry_bytes e) (spelling entries),
      sum_by-cons (λ (x : Entry). what_size x.what) e entries,
      entry-within e h.0,
      all-within entries h.1,
    )

-- entries have at most as many bytes as their kinds allow
pub spelling-within : (entries : List Entry) → AreSpelled entries
    → length (spelling entries) ≤ entries_size entries
spelling-within entries h = all-within entries (recursion_from_All (λ (e : Entry). HasSpelling e.what) entries h)

-- Decisions.

-- what a decision records takes so many bytes at most
abbrev Takes : ℕ → Decision → Type 0
Takes most (decision.New e) = what_size e.what ≤ most
Takes most _ = ⊤

abbrev TakesIf : ℕ → Option Decision → Type 0
TakesIf most None = ⊤
TakesIf most (Some d) = Takes most d

or_else-takes : (most : ℕ) (first : Option Decision) (d : Decision) → TakesIf most first → Takes most d
    → Takes most (or_else first d)
or_else-takes most None d one two = two
or_else-takes most (Some a) d one two = one

if-takes : (most : ℕ) (b : Bool) (d e : Decision) → Takes most d → Takes most e → Takes most (if b then d else e)
if-takes most true d e one two = one
if-takes most false d e one two = two

shape-takes : (most : ℕ) (made : Result Opening OpenFault) → TakesIf most (refuse_opening made)
shape-takes most (Ok o) = tt
shape-takes most (Err f) = tt

first-takes : (most : ℕ) (q : Command) → TakesIf most (shape_decision q)
first-takes most (command.Open ask) = shape-takes most (opening_of ask 0)
first-takes most (command.Lease key worker) = tt
first-takes most (command.Report run verdict) = tt
first-takes most (command.Skip run) = tt
first-takes most (command.Cancel key search) = tt
first-takes most (command.TakeRevert key agent) = tt
first-takes most (command.ShowSearch search) = tt
first-takes most command.ShowFarm = tt
first-takes most command.ShowOrders = tt
first-takes most (command.ShowRuns search from) = tt
first-takes most (command.ShowSearches from) = tt

place-takes : (most : ℕ) (H : List Entry) (q : Command) (place : Option ℕ)
    → TakesIf most (option_map (repeat_or_clash H q) place)
place-takes most H q None = tt
place-takes most H q (Some p) =
    if-takes most (asked_before (slice_get H p) q) (decision.Repeat p) (decision.Refuse (KeyClash p)) tt tt

report-takes : (most : ℕ) (place : Option ℕ) → TakesIf most (option_map decision.Repeat place)
report-takes most None = tt
report-takes most (Some p) = tt

known-takes : (most : ℕ) (H : List Entry) (q : Command) → TakesIf most (known_decision H q)
known-takes most H (command.Open ask) = place-takes most H (command.Open ask) (place_of_key H ask.key)
known-takes most H (command.Lease key worker) = place-takes most H (command.Lease key worker) (place_of_key H key)
known-takes most H (command.Report run verdict) = report-takes most (place_of_report H run)
known-takes most H (command.Skip run) = report-takes most (place_of_report H run)
known-takes most H (command.Cancel key search) = place-takes most H (command.Cancel key search) (place_of_key H key)
known-takes most H (command.TakeRevert key agent) =
    place-takes most H (command.TakeRevert key agent) (place_of_key H key)
known-takes most H (command.ShowSearch search) = tt
known-takes most H command.ShowFarm = tt
known-takes most H command.ShowOrders = tt
known-takes most H (command.ShowRuns search from) = tt
known-takes most H (command.ShowSearches from) = tt

closed-takes : (most : ℕ) (b : Bool) → TakesIf most (if b then Some (decision.Refuse refusal.Closed) else None)
closed-takes most true = tt
closed-takes most false = tt

full-takes : (most : ℕ) (b : Bool) (d : Option Decision) → TakesIf most d
    → TakesIf most (if b then Some (decision.Refuse Full) else d)
full-takes most true d takes = tt
full-takes most false d takes = takes

opening-takes : (m : Moment) (made : Result Opening OpenFault) → Takes MAX_ENTRY_BYTES (add_opening m made)
opening-takes m (Ok o) = omega arith
opening-takes m (Err f) = tt

lease-takes : (H : List Entry) (key : Key) (worker : List ℕ) (m : Moment) (due : Option DueRun)
    → Takes MAX_SHORT_ENTRY_BYTES (lease_decision H key worker m due)
lease-takes H key worker m None = tt
lease-takes H key worker m (Some d) = omega arith

report_of-takes : (H : List Entry) (run : ℕ) (verdict : Verdict) (m : Moment) (lease : Option LeasedRun)
    → Takes MAX_SHORT_ENTRY_BYTES (report_decision H run verdict m lease)
report_of-takes H run verdict m None = tt
report_of-takes H run verdict m (Some l) = omega arith

skip-takes : (H : List Entry) (run : ℕ) (m : Moment) (lease : Option LeasedRun)
    → Takes MAX_SHORT_ENTRY_BYTES (skip_decision H run m lease)
skip-takes H run m None = tt
skip-takes H run m (Some l) = omega arith

cancel-takes : (H : List Entry) (key : Key) (search : ℕ) (m : Moment) (opening : Option Opening)
    → Takes MAX_SHORT_ENTRY_BYTES (cancel_decision H key search m opening)
cancel-takes H key search m None = tt
cancel-takes H key search m (Some o) =
    if-takes MAX_SHORT_ENTRY_BYTES (is_active (standing H o)) (add_at m (Cancelled key search))
    (decision.Refuse (SearchEnded (standing H o))) (omega arith) tt

revert-takes : (key : Key) (agent : List ℕ) (m : Moment) (draft : Result Draft NoOrder)
    → Takes MAX_SHORT_ENTRY_BYTES (revert_decision key agent m draft)
revert-takes key agent m (Ok d) = omega arith
revert-takes key agent m (Err none.NoRevert) = tt
revert-takes key agent m (Err (none.DailyLimit day count)) = tt

page-takes : (H : List Entry) (search : ℕ) (opening : Option Opening)
    → Takes MAX_SHORT_ENTRY_BYTES (page_decision H search opening)
page-takes H search None = tt
page-takes H search (Some o) = tt

runs-takes : (H : List Entry) (search from : ℕ) (opening : Option Opening)
    → Takes MAX_SHORT_ENTRY_BYTES (runs_decision H search from opening)
runs-takes H search from None = tt
runs-takes H search from (Some o) = tt

own-takes : (H : List Entry) (q : Command) (m : Moment) → Takes (command_size q) (own_decision H q m)
own-takes H (command.Open ask) m =
    if-takes MAX_ENTRY_BYTES (nat_le MAX_SEARCHES (length (openings H))) (decision.Refuse TooManySearches)
    (add_opening m (opening_of ask (length (openings H) + 1))) tt
    (opening-takes m (opening_of ask (length (openings H) + 1)))
own-takes H (command.Lease key worker) m = lease-takes H key worker m (next_run H (moment_ms m))
own-takes H (command.Report run verdict) m = report_of-takes H run verdict m (lease_of H run)
own-takes H (command.Skip run) m = skip-takes H run m (lease_of H run)
own-takes H (command.Cancel key search) m = cancel-takes H key search m (opening_numbered H search)
own-takes H (command.TakeRevert key agent) m = revert-takes key agent m (next_order_at H (moment_ms m))
own-takes H (command.ShowSearch search) m = page-takes H search (opening_numbered H search)
own-takes H command.ShowFarm m = tt
own-takes H command.ShowOrders m = tt
own-takes H (command.ShowRuns search from) m = runs-takes H search from (opening_numbered H search)
own-takes H (command.ShowSearches from) m = tt

decide-takes : (H : List Entry) (q : Command) (m : Moment) → Takes (command_size q) (decide H q m)
decide-takes H q m =
    let most = command_size q in
    let own = own_decision H q (moment_used H m) in
    let full = or_else (full_decision H q) own in
    let known = or_else (known_decision H q) full in
    or_else-takes most (shape_decision q) known (first-takes most q)
    (or_else-takes most (known_decision H q) full (known-takes most H q)
    (or_else-takes most (full_decision H q) own
    (full-takes most (nat_le MAX_ENTRIES (length H) && not (is_show q)) (closed_decision H q)
    (closed-takes most (is_closed H && not (is_show q))))
    (own-takes H q (moment_used H m))))

-- Histories.

after-takes : (most : ℕ) (H : List Entry) (d : Decision) → Takes most d
    → entries_size (after H d) ≤ entries_size H + most
after-takes most H (decision.Refuse cause) takes = omega arith
after-takes most H (decision.Repeat place) takes = omega arith
after-takes most H (decision.Show page) takes = omega arith
after-takes most H (decision.New e) takes =
    omega (arith, takes, sum_by-append (λ (x : Entry). what_size x.what) H (e ∷ []))

-- asks add entries of at most that size
pub history_after-takes : (H : List Entry) (asks : List Ask)
    → entries_size (history_after H asks) ≤ entries_size H + asks_size asks
history_after-takes H [] = omega arith
history_after-takes H (ask ∷ asks) =
    let next = after H (decide H ask.command ask.at) in
    omega (
      arith,
      sum_by-cons (λ (x : Ask). command_size x.command) ask asks,
      after-takes (command_size ask.command) H (decide H ask.command ask.at) (decide-takes H ask.command ask.at),
      history_after-takes next asks,
    )

command_size-most : (q : Command) → command_size q ≤ MAX_ENTRY_BYTES
command_size-most (command.Open ask) = omega arith
command_size-most (command.Lease key worker) = omega arith
command_size-most (command.Report run verdict) = omega arith
command_size-most (command.Skip run) = omega arith
command_size-most (command.Cancel key search) = omega arith
command_size-most (command.TakeRevert key agent) = omega arith
command_size-most (command.ShowSearch search) = omega arith
command_size-most command.ShowFarm = omega arith
command_size-most command.ShowOrders = omega arith
command_size-most (command.ShowRuns search from) = omega arith
command_size-most (command.ShowSearches from) = omega arith

-- each ask takes as much as the longest entry at most
pub asks_size-most : (asks : List Ask) → asks_size asks ≤ length asks * MAX_ENTRY_BYTES
asks_size-most [] = omega arith
asks_size-most (ask ∷ asks) =
    omega (
      arith,
      sum_by-cons (λ (x : Ask). command_size x.command) ask asks,
      command_size-most ask.command,
      asks_size-most asks,
    )

-- what is added fits a record
pub asks-fit : (H K : List Entry) (asks : List Ask) → K ≡ history_after H asks → asks_size asks ≤ MAX_RECORD_BYTES
    → entries_size K ≤ entries_size H + MAX_RECORD_BYTES
asks-fit H K asks is fits = subst (λ (l : List Entry). entries_size l ≤ entries_size H + MAX_RECORD_BYTES) (sym is)
    (omega (arith, history_after-takes H asks, fits))

-- a batch is one that is sure to fit a record
pub batch-size : (asks : List Ask) → length asks ≤ MAX_BATCH → asks_size asks ≤ MAX_RECORD_BYTES
batch-size asks few = let most = asks_size-most asks in omega (arith, few, most)

-- and what stands behind what was there takes no more
rest-fits : (H more K : List Entry) (most : ℕ) → K ≡ H ++ more → entries_size K ≤ entries_size H + most
    → entries_size more ≤ most
rest-fits H more K most is within =
    omega (
      arith,
      within,
      ap (λ (l : List Entry). entries_size l) is,
      sum_by-append (λ (x : Entry). what_size x.what) H more,
    )

-- so their bytes fit where their kinds allow it
pub rest-short : (H more K : List Entry) (most : ℕ) → K ≡ H ++ more → entries_size K ≤ entries_size H + most
    → AreSpelled more → length (spelling more) ≤ most
rest-short H more K most is within spelled =
    omega (arith, rest-fits H more K most is within, spelling-within more spelled)

-- the entries that asks add have at most as many bytes as the asks allow
pub new-fit : (H more : List Entry) (asks : List Ask) → history_after H asks ≡ H ++ more → AreSpelled more
    → length (spelling more) ≤ asks_size asks
new-fit H more asks is spelled =
    rest-short H more (history_after H asks) (asks_size asks) is (history_after-takes H asks) spelled
