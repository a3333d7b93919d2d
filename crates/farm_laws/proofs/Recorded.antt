-- The entry that a command makes may come next: what it says is enough to make it again.
use Rattle.std.proofs.Common.{◌≡◌, ℕ, ◌+◌, nat_le, Bool, true, false, List, [], ◌∷◌, ◌++◌, length, if◌then◌else◌, Option, Some, None, Result, Ok, Err, refl, sym, ap, subst, ◌∙◌, append-nil, true≢false}
use Rattle.std.specs.List.{cons_option}
use Rattle.std.specs.Option.{option_map}
use Rattle.std.proofs.lemmas.Bool.{or_from}
use Rattle.std.proofs.lemmas.Option.{none-some}
use Rattle.weight_exact.specs.declared.run.Verdict.{Verdict}
use Rattle.farm_rules.specs.Orders as rules
use Rattle.farm_rules.specs.declared.orders.Draft.{Draft}
use Rattle.farm_rules.specs.declared.orders.NoOrder.{NoOrder}
use Rattle.farm_rules.specs.declared.orders.NoOrder.TheVariants as none
use Rattle.farm_types.specs.Moment.{moment_ms}
use Rattle.farm_types.specs.declared.key.Key.{Key}
use Rattle.farm_types.specs.declared.moment.Moment.{Moment}
use Rattle.farm_entry.specs.Decision.{add_at, add_opening, decide, cancel_decision, full_decision, known_decision, last_moment, later, lease_decision, moment_used, or_else, own_decision, page_decision, refuse_opening, repeat_or_clash, report_decision, revert_decision, runs_decision, shape_decision, skip_decision}
use Rattle.farm_entry.specs.Ask.{opening_of}
use Rattle.farm_entry.specs.History.{carried_in, is_closed, is_closing, openings, place_of_key}
use Rattle.farm_entry.specs.Legal.{IsAddedBy, IsNext, ask_of, command_of}
use Rattle.farm_entry.specs.Orders.{carried}
use Rattle.farm_entry.specs.Playing.{after, played}
use Rattle.farm_entry.specs.Standing.{is_active, standing}
use Rattle.farm_entry.specs.declared.decision.Decision.{Decision}
use Rattle.farm_entry.specs.declared.decision.Decision.TheVariants.{New, Refuse, Repeat, Show}
use Rattle.farm_entry.specs.declared.command.Command.{Command}
use Rattle.farm_entry.specs.declared.command.Command.TheVariants as command
use Rattle.farm_entry.specs.declared.command.OpenAsk.{OpenAsk}
use Rattle.farm_entry.specs.declared.entry.Entry.{Entry}
use Rattle.farm_entry.specs.declared.entry.What.{What}
use Rattle.farm_entry.specs.declared.entry.What.TheVariants.{Opened, Cancelled, Carried, Closed}
use Rattle.farm_entry.specs.declared.lease.DueRun.{DueRun}
use Rattle.farm_entry.specs.declared.lease.LeasedRun.{LeasedRun}
use Rattle.farm_entry.specs.declared.limits.TheConstants.{MAX_SEARCHES}
use Rattle.farm_entry.specs.declared.opening.Opening.{Opening}
use Rattle.farm_entry.specs.declared.refusal.OpenFault.{OpenFault}
use Rattle.farm_entry.specs.declared.refusal.Refusal.TheVariants.{SearchEnded, TooManySearches}
use Rattle.farm_entry.specs.declared.reply.Reply.{Reply}
use Rattle.farm_laws.proofs.Again.{made_again, under}
use Rattle.farm_laws.proofs.CarriedOver.{carried-grow}
use Rattle.farm_laws.proofs.Closings.{is_closed-grow}
use Rattle.farm_laws.proofs.Made.{is_made}
use Rattle.farm_laws.proofs.Stepped.{passed, refused-adds, unused}

-- Moments.

later-same : (a : Moment) → later a a ≡ a
later-same a = elim (nat_le (moment_ms a) (moment_ms a)) as (λ b. (if b then a else a) ≡ a) [ true ↦ refl | false ↦ refl ]

-- the later of a moment and the later of it and another is that again
later-again : (l m : Moment) → later l (later l m) ≡ later l m
later-again l m =
    let to : Moment → Type 0 = λ x. later l x ≡ x in
    elim (nat_le (moment_ms l) (moment_ms m)) as (λ b. (b ≡ nat_le (moment_ms l) (moment_ms m)) → to (if b then m else l)) [
      | true ↦ λ e. ap (λ (b : Bool). if b then m else l) (sym e)
      | false ↦ λ e. later-same l
    ] refl

-- the moment used is used again
pub moment_used-again : (H : List Entry) (m : Moment) → moment_used H (moment_used H m) ≡ moment_used H m
moment_used-again [] m = later-same (later m m)
moment_used-again (e ∷ H) m = later-again (last_moment e.at H) m

-- Answers.

-- where nothing is said first, the decision is the command's own
pub own-decision : (H : List Entry) (q : Command) (m : Moment) → shape_decision q ≡ None → known_decision H q ≡ None → full_decision H q ≡ None →
    decide H q m ≡ own_decision H q (moment_used H m)
own-decision H q m shape known full =
    ap (λ (a : Option Decision). or_else a (or_else (known_decision H q) (or_else (full_decision H q) (own_decision H q (moment_used H m))))) shape
    ∙ ap (λ (a : Option Decision). or_else a (or_else (full_decision H q) (own_decision H q (moment_used H m)))) known
    ∙ ap (λ (a : Option Decision). or_else a (own_decision H q (moment_used H m))) full

-- an entry says its moment and the command that it names
record Says (q : Command) (m : Moment) (e : Entry) : Type 0 where
  at : e.at ≡ m
  named : command_of e.what ≡ Some q

says : (q : Command) (m : Moment) (what : What) (e : Entry) → command_of what ≡ Some q → add_at m what ≡ New e → Says q m e
says q m what e named h =
    let made : Entry = record { at = m; what = what } in
    let same : made ≡ e = cc in
    record { at = ap (λ (x : Entry). x.at) (sym same); named = ap (λ (x : Entry). command_of x.what) (sym same) ∙ named }

shown-adds : (r : Reply) (e : Entry) → Show r ≡ New e → ⊥
shown-adds r e h = let b : true ≡ false = cc in true≢false b

lease-says : (H : List Entry) (key : Key) (worker : List ℕ) (m : Moment) (d : Option DueRun) (e : Entry) →
    lease_decision H key worker m d ≡ New e → Says (command.Lease key worker) m e
lease-says H key worker m None e h = absurd (refused-adds _ e h)
lease-says H key worker m (Some d) e h = says (command.Lease key worker) m _ e refl h

report-says : (H : List Entry) (run : ℕ) (verdict : Verdict) (m : Moment) (l : Option LeasedRun) (e : Entry) →
    report_decision H run verdict m l ≡ New e → Says (command.Report run verdict) m e
report-says H run verdict m None e h = absurd (refused-adds _ e h)
report-says H run verdict m (Some l) e h = says (command.Report run verdict) m _ e refl h

skip-says : (H : List Entry) (run : ℕ) (m : Moment) (l : Option LeasedRun) (e : Entry) →
    skip_decision H run m l ≡ New e → Says (command.Skip run) m e
skip-says H run m None e h = absurd (refused-adds _ e h)
skip-says H run m (Some l) e h = says (command.Skip run) m _ e refl h

active-says : (key : Key) (search : ℕ) (m : Moment) (b : Bool) (other : Decision) (e : Entry) → (other ≡ New e → ⊥) →
    (if b then add_at m (Cancelled key search) else other) ≡ New e → Says (command.Cancel key search) m e
active-says key s m true other e never h = says (command.Cancel key s) m _ e refl h
active-says key s m false other e never h = absurd (never h)

cancel-says : (H : List Entry) (key : Key) (search : ℕ) (m : Moment) (o : Option Opening) (e : Entry) →
    cancel_decision H key search m o ≡ New e → Says (command.Cancel key search) m e
cancel-says H key s m None e h = absurd (refused-adds _ e h)
cancel-says H key s m (Some o) e h =
    active-says key s m (is_active (standing H o)) (Refuse (SearchEnded (standing H o))) e (refused-adds _ e) h

revert-says : (key : Key) (agent : List ℕ) (m : Moment) (n : Result Draft NoOrder) (e : Entry) →
    revert_decision key agent m n ≡ New e → Says (command.TakeRevert key agent) m e
revert-says key agent m (Err none.NoRevert) e h = absurd (refused-adds _ e h)
revert-says key agent m (Err (none.DailyLimit day count)) e h = absurd (refused-adds _ e h)
revert-says key agent m (Ok d) e h = says (command.TakeRevert key agent) m _ e refl h

page-adds : (H : List Entry) (search : ℕ) (o : Option Opening) (e : Entry) → page_decision H search o ≡ New e → ⊥
page-adds H s None e h = refused-adds _ e h
page-adds H s (Some o) e h = shown-adds _ e h

runs-adds : (H : List Entry) (search from : ℕ) (o : Option Opening) (e : Entry) →
    runs_decision H search from o ≡ New e → ⊥
runs-adds H s from None e h = refused-adds _ e h
runs-adds H s from (Some o) e h = shown-adds _ e h

-- an entry that names a command is the one that the command adds at the entry's moment
next-as : (H : List Entry) (q : Command) (m : Moment) (e : Entry) → Says q m e → decide H q m ≡ New e → IsNext H e
next-as H q m e s h =
    subst (IsAddedBy H e) (sym s.named) (subst (λ (x : Moment). decide H q x ≡ New e) (sym s.at) h)

-- what a command adds it adds at the moment used
added-again : (H : List Entry) (q : Command) (m : Moment) (e : Entry) → decide H q m ≡ New e → decide H q (moment_used H m) ≡ New e
added-again H q m e h =
    let p = passed H q m e h in
    own-decision H q (moment_used H m) p.shape p.known p.full ∙ ap (own_decision H q) (moment_used-again H m) ∙ p.own

-- Opens.

-- what an open adds
record AddsOpening (full : Bool) (made : Result Opening OpenFault) (m : Moment) (e : Entry) : Type 0 where
  opening : Opening
  few : full ≡ false
  is_made : made ≡ Ok opening
  is : record { at = m; what = Opened opening } ≡ e

open-adds : (full : Bool) (made : Result Opening OpenFault) (m : Moment) (e : Entry) →
    (if full then Refuse TooManySearches else add_opening m made) ≡ New e → AddsOpening full made m e
open-adds true made m e h = absurd (refused-adds _ e h)
open-adds false (Err f) m e h = absurd (refused-adds _ e h)
open-adds false (Ok o) m e h = record { opening = o; few = refl; is_made = refl; is = cc }

-- the open that an opening names adds it at the moment used
opened-again : (H : List Entry) (ask : OpenAsk) (m : Moment) (o : Opening) → known_decision H (command.Open ask) ≡ None →
    full_decision H (command.Open ask) ≡ None → nat_le MAX_SEARCHES (length (openings H)) ≡ false →
    opening_of ask (length (openings H) + 1) ≡ Ok o →
    decide H (command.Open (ask_of o)) (moment_used H m) ≡ New (record { at = moment_used H m; what = Opened o })
opened-again H ask m o known full few h =
    let made = is_made ask (length (openings H) + 1) o h in
    let q = command.Open (ask_of o) in
    let used = moment_used H m in
    let shape : shape_decision q ≡ None = ap refuse_opening (made_again ask _ o h 0) in
    let free : place_of_key H o.key ≡ None =
    subst (λ (k : Key). place_of_key H k ≡ None) made.key (unused H (command.Open ask) ask.key known) in
    let unknown : known_decision H q ≡ None = ap (option_map (repeat_or_clash H q)) free in
    let again : opening_of (ask_of o) (length (openings H) + 1) ≡ Ok o =
    made_again ask _ o h (length (openings H) + 1) ∙ ap (λ (n : ℕ). Ok (under o n)) made.number in
    own-decision H q used shape unknown full
    ∙ ap (own_decision H q) (moment_used-again H m)
    ∙ ap (λ (b : Bool). if b then Refuse TooManySearches else add_opening used (opening_of (ask_of o) (length (openings H) + 1))) few
    ∙ ap (add_opening used) again

open-next : (H : List Entry) (ask : OpenAsk) (m : Moment) (e : Entry) → decide H (command.Open ask) m ≡ New e → IsNext H e
open-next H ask m e h =
    let p = passed H (command.Open ask) m e h in
    let adds = open-adds (nat_le MAX_SEARCHES (length (openings H))) (opening_of ask (length (openings H) + 1)) (moment_used H m) e p.own in
    subst (IsNext H) adds.is (opened-again H ask m adds.opening p.known p.full adds.few adds.is_made)

-- whatever command it is
pub recorded : (H : List Entry) (q : Command) (m : Moment) (e : Entry) → decide H q m ≡ New e → IsNext H e
recorded H (command.Open ask) m e h = open-next H ask m e h
recorded H (command.Lease key worker) m e h =
    let q = command.Lease key worker in
    let s = lease-says H key worker (moment_used H m) _ e (passed H q m e h).own in
    next-as H q (moment_used H m) e s (added-again H q m e h)
recorded H (command.Report run verdict) m e h =
    let q = command.Report run verdict in
    let s = report-says H run verdict (moment_used H m) _ e (passed H q m e h).own in
    next-as H q (moment_used H m) e s (added-again H q m e h)
recorded H (command.Skip run) m e h =
    let q = command.Skip run in
    let s = skip-says H run (moment_used H m) _ e (passed H q m e h).own in
    next-as H q (moment_used H m) e s (added-again H q m e h)
recorded H (command.Cancel key search) m e h =
    let q = command.Cancel key search in
    let s = cancel-says H key search (moment_used H m) _ e (passed H q m e h).own in
    next-as H q (moment_used H m) e s (added-again H q m e h)
recorded H (command.TakeRevert key agent) m e h =
    let q = command.TakeRevert key agent in
    let s = revert-says key agent (moment_used H m) _ e (passed H q m e h).own in
    next-as H q (moment_used H m) e s (added-again H q m e h)
recorded H (command.ShowSearch search) m e h = absurd (page-adds H search _ e (passed H (command.ShowSearch search) m e h).own)
recorded H command.ShowFarm m e h = absurd (shown-adds _ e (passed H command.ShowFarm m e h).own)
recorded H command.ShowOrders m e h = absurd (shown-adds _ e (passed H command.ShowOrders m e h).own)
recorded H (command.ShowRuns search from) m e h =
    absurd (runs-adds H search from _ e (passed H (command.ShowRuns search from) m e h).own)
recorded H (command.ShowSearches from) m e h =
    absurd (shown-adds _ e (passed H (command.ShowSearches from) m e h).own)

-- What it adds names a command, so it is neither a closing nor a carried order.

-- an entry names a command
abbrev pub IsNamed : What → Type 0
IsNamed w = (q : Command) × (command_of w ≡ Some q)

says-named : (q : Command) (m : Moment) (e : Entry) → Says q m e → IsNamed e.what
says-named q m e s = (q, s.named)

pub added-named : (H : List Entry) (q : Command) (m : Moment) (e : Entry) → decide H q m ≡ New e → IsNamed e.what
added-named H (command.Open ask) m e h =
    let p = passed H (command.Open ask) m e h in
    let adds =
    open-adds (nat_le MAX_SEARCHES (length (openings H))) (opening_of ask (length (openings H) + 1)) (moment_used H m) e
    p.own in
    (command.Open (ask_of adds.opening), ap (λ (x : Entry). command_of x.what) (sym adds.is))
added-named H (command.Lease key worker) m e h =
    says-named _ _ e (lease-says H key worker (moment_used H m) _ e (passed H (command.Lease key worker) m e h).own)
added-named H (command.Report run verdict) m e h =
    says-named _ _ e (report-says H run verdict (moment_used H m) _ e (passed H (command.Report run verdict) m e h).own)
added-named H (command.Skip run) m e h =
    says-named _ _ e (skip-says H run (moment_used H m) _ e (passed H (command.Skip run) m e h).own)
added-named H (command.Cancel key search) m e h =
    says-named _ _ e (cancel-says H key search (moment_used H m) _ e (passed H (command.Cancel key search) m e h).own)
added-named H (command.TakeRevert key agent) m e h =
    says-named _ _ e (revert-says key agent (moment_used H m) _ e (passed H (command.TakeRevert key agent) m e h).own)
added-named H (command.ShowSearch search) m e h =
    absurd (page-adds H search _ e (passed H (command.ShowSearch search) m e h).own)
added-named H command.ShowFarm m e h = absurd (shown-adds _ e (passed H command.ShowFarm m e h).own)
added-named H command.ShowOrders m e h = absurd (shown-adds _ e (passed H command.ShowOrders m e h).own)
added-named H (command.ShowRuns search from) m e h =
    absurd (runs-adds H search from _ e (passed H (command.ShowRuns search from) m e h).own)
added-named H (command.ShowSearches from) m e h =
    absurd (shown-adds _ e (passed H (command.ShowSearches from) m e h).own)

pub named-unclosing : (w : What) → IsNamed w → is_closing w ≡ false
named-unclosing Closed named = absurd (none-some named.0 named.1)
named-unclosing w named = refl

pub named-uncarried : (w : What) → IsNamed w → carried_in w ≡ None
named-uncarried (Carried commit day) named = absurd (none-some named.0 named.1)
named-uncarried w named = refl

-- what is decided to be new is no closing, and carries nothing over
pub asked-unclosing : (H : List Entry) (q : Command) (m : Moment) (e : Entry) → decide H q m ≡ New e →
    (is_closing e.what ≡ false) × (carried_in e.what ≡ None)
asked-unclosing H q m e h =
    let named = added-named H q m e h in (named-unclosing e.what named, named-uncarried e.what named)

-- so a history that isn't closed stays so as commands are decided, and what was carried over stays the same
pub unclosed-after : (H : List Entry) (q : Command) (m : Moment) → is_closed H ≡ false →
    is_closed (after H (decide H q m)) ≡ false
unclosed-after H q m unclosed = by (decide H q m) refl
  where
    by : (d : Decision) → decide H q m ≡ d → is_closed (after H d) ≡ false
    by (Refuse cause) is = unclosed
    by (Repeat place) is = unclosed
    by (Show page) is = unclosed
    by (New e) is = is_closed-grow H e ∙ or_from _ _ unclosed (asked-unclosing H q m e is).0

pub carried-after : (H : List Entry) (q : Command) (m : Moment) → carried (after H (decide H q m)) ≡ carried H
carried-after H q m = by (decide H q m) refl
  where
    by : (d : Decision) → decide H q m ≡ d → carried (after H d) ≡ carried H
    by (Refuse cause) is = refl
    by (Repeat place) is = refl
    by (Show page) is = refl
    by (New e) is =
        carried-grow H e
        ∙ ap (λ (o : Option rules.Ordered). carried H ++ cons_option o []) (asked-unclosing H q m e is).1
        ∙ append-nil (carried H)

pub unclosed-played : (H : List Entry) (asks : List (Command × Moment)) → is_closed H ≡ false →
    is_closed (played H asks) ≡ false
unclosed-played H [] unclosed = unclosed
unclosed-played H (asked ∷ more) unclosed =
    unclosed-played (after H (decide H asked.0 asked.1)) more (unclosed-after H asked.0 asked.1 unclosed)

pub carried-played : (H : List Entry) (asks : List (Command × Moment)) → carried (played H asks) ≡ carried H
carried-played H [] = refl
carried-played H (asked ∷ more) =
    carried-played (after H (decide H asked.0 asked.1)) more ∙ carried-after H asked.0 asked.1
