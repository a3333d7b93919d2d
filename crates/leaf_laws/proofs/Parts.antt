-- The parts of a decision, read forwards and backwards: what each part says, and what is left where it says nothing.
use Rattle.std.proofs.Common.{◌≡◌, ℕ, ◌<◌, ◌≤◌, ◌⊎◌, Bool, true, false, not, ◌&&◌, nat_le, List, length, slice_get, if◌then◌else◌, Option, Some, None, Result, Ok, Err, refl, sym, ap, inl, inr, ◌∙◌, ⊎_elim, arith, true≢false}
use Rattle.std.specs.Option.{option_map}
use Rattle.std.proofs.lemmas.Bool.{leb-true}
use Rattle.std.proofs.lemmas.Bool.Decides.{nat_tests}
use Rattle.std.proofs.lemmas.Option.{none-some}
use Rattle.farm_types.specs.declared.key.Key.{Key}
use Rattle.farm_types.specs.declared.moment.Moment.{Moment}
use Rattle.farm_entry.specs.Ask.{opening_of}
use Rattle.farm_entry.specs.Decision.{asked_before, decide, full_decision, is_show, key_of, keyed_decision, known_decision, moment_used, or_else, own_decision, refuse_opening, repeat_or_clash, shape_decision}
use Rattle.farm_entry.specs.History.{is_closed, place_of_key, place_of_report}
use Rattle.farm_entry.specs.declared.command.Command.{Command}
use Rattle.farm_entry.specs.declared.command.Command.TheVariants as command
use Rattle.farm_entry.specs.declared.command.OpenAsk.{OpenAsk}
use Rattle.farm_entry.specs.declared.decision.Decision.{Decision}
use Rattle.farm_entry.specs.declared.decision.Decision.TheVariants.{Refuse, Repeat}
use Rattle.farm_entry.specs.declared.entry.Entry.{Entry}
use Rattle.farm_entry.specs.declared.limits.TheConstants.{MAX_ENTRIES}
use Rattle.farm_entry.specs.declared.opening.Opening.{Opening}
use Rattle.farm_entry.specs.declared.refusal.OpenFault.{OpenFault}
use Rattle.farm_entry.specs.declared.refusal.Refusal.TheVariants.{BadOpen, Closed, Full, KeyClash}
use Rattle.leaf_laws.specs.Causes.{IsNew, IsTaken, IsWellFormed, IsWithinLimits, run_told}
use Rattle.farm_laws.proofs.Stepped.{map-none}

-- Which part of a decision speaks: the shape, the key or the run, that the history takes no more, or the command's own
-- case.
pub data Speaks (H : List Entry) (q : Command) (m : Moment) (d : Decision) : Type 0 where
  shape : shape_decision q ≡ Some d → Speaks H q m d
  known : shape_decision q ≡ None → known_decision H q ≡ Some d → Speaks H q m d
  full : shape_decision q ≡ None → known_decision H q ≡ None → full_decision H q ≡ Some d → Speaks H q m d
  own : shape_decision q ≡ None → known_decision H q ≡ None → full_decision H q ≡ None →
      own_decision H q (moment_used H m) ≡ d → Speaks H q m d

speaks_own : (H : List Entry) (q : Command) (m : Moment) (d : Decision) (f : Option Decision) →
    shape_decision q ≡ None →
    known_decision H q ≡ None → full_decision H q ≡ f → or_else f (own_decision H q (moment_used H m)) ≡ d →
    Speaks H q m d
speaks_own H q m d (Some x) s k f h = full s k (f ∙ ap Some h)
speaks_own H q m d None s k f h = own s k f h

speaks_known : (H : List Entry) (q : Command) (m : Moment) (d : Decision) (k : Option Decision) →
    shape_decision q ≡ None →
    known_decision H q ≡ k → or_else k (or_else (full_decision H q) (own_decision H q (moment_used H m))) ≡ d →
    Speaks H q m d
speaks_known H q m d (Some x) s k h = known s (k ∙ ap Some h)
speaks_known H q m d None s k h = speaks_own H q m d (full_decision H q) s k refl h

speaks_shape : (H : List Entry) (q : Command) (m : Moment) (d : Decision) (s : Option Decision) → shape_decision q ≡ s →
    or_else s (or_else (known_decision H q) (or_else (full_decision H q) (own_decision H q (moment_used H m)))) ≡ d →
    Speaks H q m d
speaks_shape H q m d (Some x) s h = shape (s ∙ ap Some h)
speaks_shape H q m d None s h = speaks_known H q m d (known_decision H q) s refl h

pub speaks : (H : List Entry) (q : Command) (m : Moment) (d : Decision) → decide H q m ≡ d → Speaks H q m d
speaks H q m d h = speaks_shape H q m d (shape_decision q) refl h

-- and back: the part that speaks is the decision
pub shape-decides : (H : List Entry) (q : Command) (m : Moment) (d : Decision) → shape_decision q ≡ Some d →
    decide H q m ≡ d
shape-decides H q m d s =
    ap (λ (a : Option Decision). or_else a (or_else (known_decision H q) (or_else (full_decision H q)
    (own_decision H q (moment_used H m))))) s

pub known-decides : (H : List Entry) (q : Command) (m : Moment) (d : Decision) → shape_decision q ≡ None →
    known_decision H q ≡ Some d →
    decide H q m ≡ d
known-decides H q m d s k =
    ap (λ (a : Option Decision). or_else a (or_else (known_decision H q) (or_else (full_decision H q)
    (own_decision H q (moment_used H m))))) s
    ∙ ap (λ (a : Option Decision). or_else a (or_else (full_decision H q) (own_decision H q (moment_used H m)))) k

pub full-decides : (H : List Entry) (q : Command) (m : Moment) (d : Decision) → shape_decision q ≡ None →
    known_decision H q ≡ None →
    full_decision H q ≡ Some d → decide H q m ≡ d
full-decides H q m d s k f =
    ap (λ (a : Option Decision). or_else a (or_else (known_decision H q) (or_else (full_decision H q)
    (own_decision H q (moment_used H m))))) s
    ∙ ap (λ (a : Option Decision). or_else a (or_else (full_decision H q) (own_decision H q (moment_used H m)))) k
    ∙ ap (λ (a : Option Decision). or_else a (own_decision H q (moment_used H m))) f

pub own-decides : (H : List Entry) (q : Command) (m : Moment) → shape_decision q ≡ None → known_decision H q ≡ None →
    full_decision H q ≡ None → decide H q m ≡ own_decision H q (moment_used H m)
own-decides H q m s k f =
    ap (λ (a : Option Decision). or_else a (or_else (known_decision H q) (or_else (full_decision H q)
    (own_decision H q (moment_used H m))))) s
    ∙ ap (λ (a : Option Decision). or_else a (or_else (full_decision H q) (own_decision H q (moment_used H m)))) k
    ∙ ap (λ (a : Option Decision). or_else a (own_decision H q (moment_used H m))) f

-- The shape.

formed_by : (r : Result Opening OpenFault) → refuse_opening r ≡ None → (o : Opening) × (r ≡ Ok o)
formed_by (Ok o) h = (o, refl)
formed_by (Err f) h = absurd (none-some _ (sym h))

-- an open whose shape passes is within the limits
formed-open : (ask : OpenAsk) → refuse_opening (opening_of ask 0) ≡ None → (other : OpenAsk) →
    command.Open ask ≡ command.Open other → IsWithinLimits other
formed-open ask h other e =
    let same : ask ≡ other = cc in
    let there = formed_by (opening_of ask 0) h in
    (there.0, ap (λ (a : OpenAsk). opening_of a 0) (sym same) ∙ there.1)

pub formed : (q : Command) → shape_decision q ≡ None → IsWellFormed q
formed (command.Open ask) h other e = formed-open ask h other e
formed (command.Lease key worker) h other e = absurd (let b : true ≡ false = cc in true≢false b)
formed (command.Report run verdict) h other e = absurd (let b : true ≡ false = cc in true≢false b)
formed (command.Skip run) h other e = absurd (let b : true ≡ false = cc in true≢false b)
formed (command.Cancel key search) h other e = absurd (let b : true ≡ false = cc in true≢false b)
formed (command.TakeRevert key agent) h other e = absurd (let b : true ≡ false = cc in true≢false b)
formed (command.ShowSearch search) h other e = absurd (let b : true ≡ false = cc in true≢false b)
formed command.ShowFarm h other e = absurd (let b : true ≡ false = cc in true≢false b)
formed command.ShowOrders h other e = absurd (let b : true ≡ false = cc in true≢false b)
formed (command.ShowRuns search from) h other e = absurd (let b : true ≡ false = cc in true≢false b)
formed (command.ShowSearches from) h other e = absurd (let b : true ≡ false = cc in true≢false b)

pub shape-none : (q : Command) → IsWellFormed q → shape_decision q ≡ None
shape-none (command.Open ask) h = ap refuse_opening (h ask refl).1
shape-none (command.Lease key worker) h = refl
shape-none (command.Report run verdict) h = refl
shape-none (command.Skip run) h = refl
shape-none (command.Cancel key search) h = refl
shape-none (command.TakeRevert key agent) h = refl
shape-none (command.ShowSearch search) h = refl
shape-none command.ShowFarm h = refl
shape-none command.ShowOrders h = refl
shape-none (command.ShowRuns search from) h = refl
shape-none (command.ShowSearches from) h = refl

-- what the shape says is that an open is outside
pub record ShapeSays (q : Command) (d : Decision) : Type 0 where
  pub ask : OpenAsk
  pub fault : OpenFault
  pub opens : q ≡ command.Open ask
  pub outside : opening_of ask 0 ≡ Err fault
  pub is : Refuse (BadOpen fault) ≡ d

refused_by : (ask : OpenAsk) (r : Result Opening OpenFault) (d : Decision) → opening_of ask 0 ≡ r →
    refuse_opening r ≡ Some d → ShapeSays (command.Open ask) d
refused_by ask (Ok o) d e h = absurd (none-some _ h)
refused_by ask (Err f) d e h = record { ask = ask; fault = f; opens = refl; outside = e; is = cc }

pub shape-says : (q : Command) (d : Decision) → shape_decision q ≡ Some d → ShapeSays q d
shape-says (command.Open ask) d h = refused_by ask (opening_of ask 0) d refl h
shape-says (command.Lease key worker) d h = absurd (none-some _ h)
shape-says (command.Report run verdict) d h = absurd (none-some _ h)
shape-says (command.Skip run) d h = absurd (none-some _ h)
shape-says (command.Cancel key search) d h = absurd (none-some _ h)
shape-says (command.TakeRevert key agent) d h = absurd (none-some _ h)
shape-says (command.ShowSearch search) d h = absurd (none-some _ h)
shape-says command.ShowFarm d h = absurd (none-some _ h)
shape-says command.ShowOrders d h = absurd (none-some _ h)
shape-says (command.ShowRuns search from) d h = absurd (none-some _ h)
shape-says (command.ShowSearches from) d h = absurd (none-some _ h)

-- The key and the run.

keyed-new : (H : List Entry) (q : Command) (key : Key) → keyed_decision H q (Some key) ≡ None → (other : Key) →
    Some key ≡ Some other →
    place_of_key H other ≡ None
keyed-new H q key h other e =
    let same : key ≡ other = cc in
    ap (place_of_key H) (sym same) ∙ map-none (repeat_or_clash H q) (place_of_key H key) h

no_key : (other : Key) (H : List Entry) → None ≡ Some other → place_of_key H other ≡ None
no_key other H e = absurd (none-some other e)

-- a command whose key or run nothing knows
pub new-key : (H : List Entry) (q : Command) → known_decision H q ≡ None → (key : Key) → key_of q ≡ Some key →
    place_of_key H key ≡ None
new-key H (command.Open ask) h key e = keyed-new H (command.Open ask) ask.key h key e
new-key H (command.Lease k worker) h key e = keyed-new H (command.Lease k worker) k h key e
new-key H (command.Report run verdict) h key e = no_key key H e
new-key H (command.Skip run) h key e = no_key key H e
new-key H (command.Cancel k search) h key e = keyed-new H (command.Cancel k search) k h key e
new-key H (command.TakeRevert k agent) h key e = keyed-new H (command.TakeRevert k agent) k h key e
new-key H (command.ShowSearch search) h key e = no_key key H e
new-key H command.ShowFarm h key e = no_key key H e
new-key H command.ShowOrders h key e = no_key key H e
new-key H (command.ShowRuns search from) h key e = no_key key H e
new-key H (command.ShowSearches from) h key e = no_key key H e

report-new : (H : List Entry) (r : ℕ) → option_map Repeat (place_of_report H r) ≡ None → (run : ℕ) → Some r ≡ Some run →
    place_of_report H run ≡ None
report-new H r h run e =
    let same : r ≡ run = cc in
    ap (place_of_report H) (sym same) ∙ map-none Repeat (place_of_report H r) h

pub new-run : (H : List Entry) (q : Command) → known_decision H q ≡ None → (run : ℕ) → run_told q ≡ Some run →
    place_of_report H run ≡ None
new-run H (command.Report r v) h run e = report-new H r h run e
new-run H (command.Skip r) h run e = report-new H r h run e
new-run H (command.Open ask) h run e = absurd (none-some run e)
new-run H (command.Lease k worker) h run e = absurd (none-some run e)
new-run H (command.Cancel k search) h run e = absurd (none-some run e)
new-run H (command.TakeRevert k agent) h run e = absurd (none-some run e)
new-run H (command.ShowSearch search) h run e = absurd (none-some run e)
new-run H command.ShowFarm h run e = absurd (none-some run e)
new-run H command.ShowOrders h run e = absurd (none-some run e)
new-run H (command.ShowRuns search from) h run e = absurd (none-some run e)
new-run H (command.ShowSearches from) h run e = absurd (none-some run e)

pub is_new : (H : List Entry) (q : Command) → shape_decision q ≡ None → known_decision H q ≡ None → IsNew H q
is_new H q s k = record { formed = formed q s; key = new-key H q k; run = new-run H q k }

-- and back
pub known-none : (H : List Entry) (q : Command) → IsNew H q → known_decision H q ≡ None
known-none H (command.Open ask) n = ap (option_map (repeat_or_clash H (command.Open ask))) (n.key ask.key refl)
known-none H (command.Lease k worker) n = ap (option_map (repeat_or_clash H (command.Lease k worker))) (n.key k refl)
known-none H (command.Report run verdict) n = ap (option_map Repeat) (n.run run refl)
known-none H (command.Skip run) n = ap (option_map Repeat) (n.run run refl)
known-none H (command.Cancel k search) n = ap (option_map (repeat_or_clash H (command.Cancel k search))) (n.key k refl)
known-none H (command.TakeRevert k agent) n =
    ap (option_map (repeat_or_clash H (command.TakeRevert k agent))) (n.key k refl)
known-none H (command.ShowSearch search) n = refl
known-none H command.ShowFarm n = refl
known-none H command.ShowOrders n = refl
known-none H (command.ShowRuns search from) n = refl
known-none H (command.ShowSearches from) n = refl

-- what the key or the run says: a repeat, by the key or by the run, or a clash
pub data KnownSays (H : List Entry) (q : Command) (d : Decision) : Type 0 where
  repeats : (key : Key) (place : ℕ) → key_of q ≡ Some key → place_of_key H key ≡ Some place →
      asked_before (slice_get H place) q ≡ true → Repeat place ≡ d → KnownSays H q d
  reported : (run place : ℕ) → run_told q ≡ Some run →
      place_of_report H run ≡ Some place →
      Repeat place ≡ d → KnownSays H q d
  clashes : (key : Key) (place : ℕ) → key_of q ≡ Some key → place_of_key H key ≡ Some place →
      asked_before (slice_get H place) q ≡ false → Refuse (KeyClash place) ≡ d → KnownSays H q d

if-says : (H : List Entry) (q : Command) (key : Key) (place : ℕ) (d : Decision) (b : Bool) → key_of q ≡ Some key →
    place_of_key H key ≡ Some place →
    asked_before (slice_get H place) q ≡ b → (if b then Repeat place else Refuse (KeyClash place)) ≡ d → KnownSays H q d
if-says H q key place d true k p b h = repeats key place k p b h
if-says H q key place d false k p b h = clashes key place k p b h

place-says : (H : List Entry) (q : Command) (key : Key) (o : Option ℕ) (d : Decision) → key_of q ≡ Some key →
    place_of_key H key ≡ o →
    option_map (repeat_or_clash H q) o ≡ Some d → KnownSays H q d
place-says H q key None d k p h = absurd (none-some d h)
place-says H q key (Some place) d k p h =
    let same : repeat_or_clash H q place ≡ d = cc in
    if-says H q key place d (asked_before (slice_get H place) q) k p refl same

report-says : (H : List Entry) (q : Command) (run : ℕ) (o : Option ℕ) (d : Decision) → run_told q ≡ Some run →
    place_of_report H run ≡ o → option_map Repeat o ≡ Some d →
    KnownSays H q d
report-says H q run None d names p h = absurd (none-some d h)
report-says H q run (Some place) d names p h = reported run place names p cc

pub known-says : (H : List Entry) (q : Command) (d : Decision) → known_decision H q ≡ Some d → KnownSays H q d
known-says H (command.Open ask) d h = place-says H (command.Open ask) ask.key (place_of_key H ask.key) d refl refl h
known-says H (command.Lease k worker) d h = place-says H (command.Lease k worker) k (place_of_key H k) d refl refl h
known-says H (command.Report run verdict) d h =
    report-says H (command.Report run verdict) run (place_of_report H run) d refl refl h
known-says H (command.Skip run) d h = report-says H (command.Skip run) run (place_of_report H run) d refl refl h
known-says H (command.Cancel k search) d h = place-says H (command.Cancel k search) k (place_of_key H k) d refl refl h
known-says H (command.TakeRevert k agent) d h =
    place-says H (command.TakeRevert k agent) k (place_of_key H k) d refl refl h
known-says H (command.ShowSearch search) d h = absurd (none-some d h)
known-says H command.ShowFarm d h = absurd (none-some d h)
known-says H command.ShowOrders d h = absurd (none-some d h)
known-says H (command.ShowRuns search from) d h = absurd (none-some d h)
known-says H (command.ShowSearches from) d h = absurd (none-some d h)

-- The room, and whether the farm is closed.

-- what is said to a command that would add: that the history is full, or else that the farm is closed
pub data FullSays (H : List Entry) (q : Command) (d : Decision) : Type 0 where
  says_full : MAX_ENTRIES ≤ length H → is_show q ≡ false → Refuse Full ≡ d → FullSays H q d
  says_closed : length H < MAX_ENTRIES → is_closed H ≡ true → is_show q ≡ false → Refuse Closed ≡ d → FullSays H q d

-- the test for room, and then the one for a closing
abbrev shut_by : (many closed show : Bool) → Option Decision
shut_by many closed show =
    if many && not show then Some (Refuse Full) else (if closed && not show then Some (Refuse Closed) else None)

full_where : (H : List Entry) (q : Command) (d : Decision) (b c s : Bool) → nat_le MAX_ENTRIES (length H) ≡ b →
    is_closed H ≡ c → is_show q ≡ s → shut_by b c s ≡ Some d → FullSays H q d
full_where H q d true c false many closed shows h = says_full (leb-true _ _ many) shows cc
full_where H q d true true true many closed shows h = absurd (none-some d h)
full_where H q d true false true many closed shows h = absurd (none-some d h)
full_where H q d false true false many closed shows h =
    says_closed (let below : length H < MAX_ENTRIES = grind (arith, nat_tests) in below) closed shows cc
full_where H q d false true true many closed shows h = absurd (none-some d h)
full_where H q d false false false many closed shows h = absurd (none-some d h)
full_where H q d false false true many closed shows h = absurd (none-some d h)

pub full-says : (H : List Entry) (q : Command) (d : Decision) → full_decision H q ≡ Some d → FullSays H q d
full-says H q d h = full_where H q d (nat_le MAX_ENTRIES (length H)) (is_closed H) (is_show q) refl refl refl h

-- there is room, and the farm isn't closed
abbrev HasRoom : List Entry → Type 0
HasRoom H = (length H < MAX_ENTRIES) × (is_closed H ≡ false)

room_where : (H : List Entry) (b c s : Bool) → nat_le MAX_ENTRIES (length H) ≡ b → is_closed H ≡ c →
    shut_by b c s ≡ None → HasRoom H ⊎ (s ≡ true)
room_where H b c true many closed h = inr refl
room_where H true c false many closed h = absurd (none-some (Refuse Full) (sym h))
room_where H false true false many closed h = absurd (none-some (Refuse Closed) (sym h))
room_where H false false false many closed h =
    let below : length H < MAX_ENTRIES = grind (arith, nat_tests) in inl (below, closed)

-- where nothing of it is said there is room and the farm isn't closed, or nothing is added
pub has-room : (H : List Entry) (q : Command) → full_decision H q ≡ None → HasRoom H ⊎ (is_show q ≡ true)
has-room H q h = room_where H (nat_le MAX_ENTRIES (length H)) (is_closed H) (is_show q) refl refl h

-- and back
not_full : (n : ℕ) (c s : Bool) → n < MAX_ENTRIES → c ≡ false → shut_by (nat_le MAX_ENTRIES n) c s ≡ None
not_full n c s below unclosed =
    let test : nat_le MAX_ENTRIES n ≡ false = grind (arith, nat_tests) in
    ap (λ (b : Bool). shut_by b c s) test ∙ ap (λ (b : Bool). shut_by false b s) unclosed

shows_all : (b c : Bool) → shut_by b c true ≡ None
shows_all true true = refl
shows_all true false = refl
shows_all false true = refl
shows_all false false = refl

pub full-none : (H : List Entry) (q : Command) → HasRoom H ⊎ (is_show q ≡ true) → full_decision H q ≡ None
full-none H q room =
    ⊎_elim
    (λ (both : HasRoom H). not_full (length H) (is_closed H) (is_show q) both.0 both.1)
    (λ (shows : is_show q ≡ true).
    ap (λ (s : Bool). shut_by (nat_le MAX_ENTRIES (length H)) (is_closed H) s) shows
    ∙ shows_all (nat_le MAX_ENTRIES (length H)) (is_closed H))
    room

pub full-some : (H : List Entry) (q : Command) → MAX_ENTRIES ≤ length H → is_show q ≡ false →
    full_decision H q ≡ Some (Refuse Full)
full-some H q many adds =
    let test : nat_le MAX_ENTRIES (length H) ≡ true = grind (arith, nat_tests) in
    ap (λ (s : Bool). shut_by (nat_le MAX_ENTRIES (length H)) (is_closed H) s) adds
    ∙ ap (λ (b : Bool). shut_by b (is_closed H) false) test

pub closed-some : (H : List Entry) (q : Command) → length H < MAX_ENTRIES → is_closed H ≡ true → is_show q ≡ false →
    full_decision H q ≡ Some (Refuse Closed)
closed-some H q below closed adds =
    let test : nat_le MAX_ENTRIES (length H) ≡ false = grind (arith, nat_tests) in
    ap (λ (s : Bool). shut_by (nat_le MAX_ENTRIES (length H)) (is_closed H) s) adds
    ∙ ap (λ (b : Bool). shut_by b (is_closed H) false) test
    ∙ ap (λ (c : Bool). shut_by false c false) closed

-- Taken together: a command that is taken is decided by its own case, and one that is decided so was taken.

pub taken-decides : (H : List Entry) (q : Command) (m : Moment) → IsTaken H q →
    decide H q m ≡ own_decision H q (moment_used H m)
taken-decides H q m t =
    own-decides H q m (shape-none q t.new.formed) (known-none H q t.new) (full-none H q t.room)

pub is_taken : (H : List Entry) (q : Command) → shape_decision q ≡ None → known_decision H q ≡ None →
    full_decision H q ≡ None → IsTaken H q
is_taken H q s k f = record { new = is_new H q s k; room = has-room H q f }
