-- No request with a field named Origin adds an entry: a POST with one is refused, and what others ask for is shown.
use Rattle.std.proofs.Common.{ℕ, ◌≡◌, ◌+◌, Bool, true, false, if◌then◌else◌, List, [], length, drop, take, refl, sym, ap, subst, ◌∙◌, Option, Some, None, Result, Ok, Err, nat_lt, nat_le, ⊎_elim}
use Rattle.std.specs.Prelude.{◌&&◌, ⊤}
use Rattle.std.proofs.lemmas.Bool.{cases_Bool, false≢true}
use Rattle.farm_entry.specs.Decision.{decide, is_show, or_else, page_decision, runs_decision}
use Rattle.farm_entry.specs.History.{is_closed, opening_numbered, order_lines}
use Rattle.farm_entry.specs.Pages.{totals}
use Rattle.farm_entry.specs.Playing.{after}
use Rattle.farm_entry.specs.SearchLines.{search_list}
use Rattle.farm_entry.specs.declared.command.Command.{Command}
use Rattle.farm_entry.specs.declared.command.Command.TheVariants as command
use Rattle.farm_entry.specs.declared.decision.Decision.{Decision}
use Rattle.farm_entry.specs.declared.decision.Decision.TheVariants.{New, Refuse, Repeat, Show}
use Rattle.farm_entry.specs.declared.entry.Entry.{Entry}
use Rattle.farm_entry.specs.declared.limits.TheConstants.{MAX_ENTRIES}
use Rattle.farm_entry.specs.declared.opening.Opening.{Opening}
use Rattle.farm_entry.specs.declared.refusal.Refusal.TheVariants.{Closed, Full}
use Rattle.farm_entry.specs.declared.reply.Reply.TheVariants as reply
use Rattle.farm_entry.specs.declared.answer.Answer.{Answer}
use Rattle.farm_store.specs.declared.asking.Ask.{Ask}
use Rattle.connection_laws.specs.Moments.{Given}
use Rattle.farm_types.specs.declared.moment.Moment.{Moment}
use Rattle.farm_wire.specs.Reading.{body_reading}
use Rattle.farm_wire.specs.declared.fault.WireFault.{WireFault}
use Rattle.http_requests.specs.Fields.{fields_of}
use Rattle.http_requests.specs.Framing.{closes_after, has_host, has_origin, is_foreign, is_head_method, is_post, wants_interim}
use Rattle.http_requests.specs.Items.{Item, IsRequest, body_of, head_size, item_by, item_of, refused}
use Rattle.http_requests.proofs.Foreign.{item-foreign, item-hostless}
use Rattle.http_requests.proofs.Rows.{endpoint_of-holds, route_allow}
use Rattle.http_requests.specs.Routes.{allows, endpoint_of}
use Rattle.http_words.specs.declared.endpoint.Endpoint.{Endpoint}
use Rattle.http_words.specs.declared.fault.Fault.{Fault}
use Rattle.http_words.specs.declared.fault.Fault.TheVariants as fault
use Rattle.http_words.specs.declared.route.Route.{Route}
use Rattle.http_words.specs.declared.route.Route.TheVariants as route
use Rattle.httparse.specs.Grammar.{RequestHead}
use Rattle.connection_laws.specs.Kinds.{Kind, commands, faulty, kind_by, kind_of, log}
use Rattle.connection_laws.specs.Kinds as kinds
use Rattle.connection_laws.specs.Outcomes.{ItemOutcome, answered, copied, counted, failed, failed_too, faulted, misread, uncalled, unread}
use Rattle.connection_laws.specs.Progress.{Progress, decision_on, new_place, recorded_place}
use Rattle.connection_laws.specs.Steps.{MayComeTo}

-- ---- what is shown adds nothing

page-adds_none : (H : List Entry) (search : ℕ) (o : Option Opening) → new_place H (page_decision H search o) ≡ []
page-adds_none H search None = refl
page-adds_none H search (Some o) = refl

runs-adds_none : (H : List Entry) (search from : ℕ) (o : Option Opening)
    → new_place H (runs_decision H search from o) ≡ []
runs-adds_none H search from None = refl
runs-adds_none H search from (Some o) = refl

-- a full history still shows, and so does a closed one
shown-full : (H : List Entry) (full closed : Bool) (d : Decision) → new_place H d ≡ []
    → new_place H (or_else
    (if full && false then Some (Refuse Full) else if closed && false then Some (Refuse Closed) else None) d) ≡ []
shown-full H true true d none = none
shown-full H true false d none = none
shown-full H false true d none = none
shown-full H false false d none = none

pub show-adds_none : (H : List Entry) (q : Command) (m : Moment) → is_show q ≡ true → new_place H (decide H q m) ≡ []
show-adds_none H (command.Open ask) m shows = absurd (false≢true shows)
show-adds_none H (command.Lease key worker) m shows = absurd (false≢true shows)
show-adds_none H (command.Report run verdict) m shows = absurd (false≢true shows)
show-adds_none H (command.Skip run) m shows = absurd (false≢true shows)
show-adds_none H (command.Cancel key search) m shows = absurd (false≢true shows)
show-adds_none H (command.TakeRevert key agent) m shows = absurd (false≢true shows)
show-adds_none H (command.ShowSearch search) m shows =
    shown-full H (nat_le MAX_ENTRIES (length H)) (is_closed H) (page_decision H search (opening_numbered H search))
    (page-adds_none H search (opening_numbered H search))
show-adds_none H command.ShowFarm m shows =
    shown-full H (nat_le MAX_ENTRIES (length H)) (is_closed H) (Show (reply.Farm (totals H))) refl
show-adds_none H command.ShowOrders m shows =
    shown-full H (nat_le MAX_ENTRIES (length H)) (is_closed H) (Show (reply.Orders (order_lines H))) refl
show-adds_none H (command.ShowRuns search from) m shows =
    shown-full H (nat_le MAX_ENTRIES (length H)) (is_closed H) (runs_decision H search from (opening_numbered H search))
    (runs-adds_none H search from (opening_numbered H search))
show-adds_none H (command.ShowSearches from) m shows =
    shown-full H (nat_le MAX_ENTRIES (length H)) (is_closed H) (Show (reply.Searches (search_list H from))) refl

-- a decision that adds nothing leaves the history as it is
after-adds_none : (H : List Entry) (d : Decision) → new_place H d ≡ [] → after H d ≡ H
after-adds_none H (Refuse cause) none = refl
after-adds_none H (Repeat place) none = refl
after-adds_none H (Show page) none = refl
after-adds_none H (New e) none = let bad : ⊥ = cc in absurd bad

-- ---- what an item that isn't a POST asks for

-- what was read is a command that only shows, or a fault
abbrev ShowsIn : Result Command WireFault → Type 0
ShowsIn (Ok q) = is_show q ≡ true
ShowsIn (Err f) = ⊤

-- what is asked for is only shown
abbrev Shows : Kind → Type 0
Shows (faulty f) = ⊤
Shows (commands r) = ShowsIn r
Shows kinds.totals = ⊤
Shows (log from) = ⊤

-- a route that POST alone doesn't ask for
route-shows : (r : Route) (method body : List ℕ) → is_post method ≡ false → allows (route_allow r) method ≡ true
    → Shows (commands (body_reading r body))
unfolding body_reading
route-shows route.Open method body other allowed = absurd (false≢true (sym other ∙ allowed))
route-shows route.Lease method body other allowed = absurd (false≢true (sym other ∙ allowed))
route-shows (route.Report run) method body other allowed = absurd (false≢true (sym other ∙ allowed))
route-shows (route.Cancel search) method body other allowed = absurd (false≢true (sym other ∙ allowed))
route-shows route.Revert method body other allowed = absurd (false≢true (sym other ∙ allowed))
route-shows (route.Search search) method body other allowed = refl
route-shows (route.Runs search from) method body other allowed = refl
route-shows (route.List from) method body other allowed = refl
route-shows route.Farm method body other allowed = refl
route-shows route.Orders method body other allowed = refl

endpoint-shows : (method target body : List ℕ) → is_post method ≡ false
    → Shows (kind_by (endpoint_of method target) body)
endpoint-shows method target body other =
    endpoint_of-holds (λ (r : Result Endpoint Fault). Shows (kind_by r body)) method target (record {
      command = λ r allowed. route-shows r method body other allowed;
      totals = tt;
      log = λ from one. tt;
      not_found = tt;
      not_allowed = λ methods. tt;
      bad_field = λ name. tt;
    })

either-shows : (b : Bool) (x y : Item) → Shows (kind_of x) → Shows (kind_of y) → Shows (kind_of (if b then x else y))
either-shows true x y p q = p
either-shows false x y p q = q

by-shows : (head : RequestHead) (behind : List ℕ) (r : Result ℕ Fault) → is_post head.method ≡ false
    → Shows (kind_of (item_by head behind r))
by-shows head behind (Err f) other = tt
by-shows head behind (Ok len) other =
    either-shows (nat_lt (length behind) len)
    (refused (wants_interim head.minor (fields_of head) len) (is_head_method head.method) fault.BadRequest)
    (record {
      interim = wants_interim head.minor (fields_of head) len;
      withheld = is_head_method head.method;
      closes = closes_after head.minor (fields_of head);
      asks = endpoint_of head.method head.target;
      body = take len behind;
      size = head_size head + len;
    })
    tt (endpoint-shows head.method head.target (take len behind) other)

head-shows : (head : RequestHead) (behind : List ℕ) → is_post head.method ≡ false
    → Shows (kind_of (item_of head behind))
unfolding item_of
head-shows head behind other = by-shows head behind (body_of head) other

-- ---- what an item with an Origin field asks for

-- a POST with one comes to a fault
foreign-shows : (bytes : List ℕ) (item : Item) (x : IsRequest bytes item)
    → is_foreign x.head.method (fields_of x.head) ≡ true → Shows (kind_of item)
foreign-shows bytes item x foreign =
    ⊎_elim
    (λ (host : has_host x.head.minor (fields_of x.head) ≡ true).
    subst (λ (i : Item). Shows (kind_of i)) (sym (item-foreign bytes item x foreign host)) tt)
    (λ (none : has_host x.head.minor (fields_of x.head) ≡ false).
    subst (λ (i : Item). Shows (kind_of i)) (sym (item-hostless bytes item x foreign none)) tt)
    (cases_Bool (has_host x.head.minor (fields_of x.head)))

origin-shows : (bytes : List ℕ) (item : Item) (x : IsRequest bytes item) → has_origin (fields_of x.head) ≡ true
    → Shows (kind_of item)
origin-shows bytes item x origin =
    ⊎_elim
    (λ (post : is_post x.head.method ≡ true).
    let foreign : is_foreign x.head.method (fields_of x.head) ≡ true = λ k. origin k && post k in
    foreign-shows bytes item x foreign)
    (λ (other : is_post x.head.method ≡ false).
    subst (λ (i : Item). Shows (kind_of i)) (sym x.item_is) (head-shows x.head (drop (head_size x.head) bytes) other))
    (cases_Bool (is_post x.head.method))

-- ---- what it comes to

come-adds_none : (gives : Given → Type 0) (c : Progress) (item : Item) (o : ItemOutcome) → Shows (kind_of item)
    → MayComeTo gives c item o → recorded_place o ≡ []
come-adds_none gives c item (faulted f) shows m = refl
come-adds_none gives c item (misread f) shows m = refl
come-adds_none gives c item (answered H ask a) shows m =
    show-adds_none H ask.command ask.at (subst Shows m.asked.command shows)
come-adds_none gives c item (counted H) shows m = refl
come-adds_none gives c item (copied H from) shows m = refl
come-adds_none gives c item (failed H ask before count) shows m = refl
come-adds_none gives c item (failed_too ask) shows m = refl
come-adds_none gives c item unread shows m = refl
come-adds_none gives c item (uncalled H ask) shows m = refl

pub origin-adds_none : (gives : Given → Type 0) (c : Progress) (bytes : List ℕ) (item : Item) (o : ItemOutcome)
    (x : IsRequest bytes item) → has_origin (fields_of x.head) ≡ true → MayComeTo gives c item o → recorded_place o ≡ []
origin-adds_none gives c bytes item o x origin m = come-adds_none gives c item o (origin-shows bytes item x origin) m

pub origin-after : (gives : Given → Type 0) (c : Progress) (bytes : List ℕ) (item : Item) (o : ItemOutcome)
    (x : IsRequest bytes item) → has_origin (fields_of x.head) ≡ true → MayComeTo gives c item o
    → (H : List Entry) (ask : Ask) (a : Answer)
    → o ≡ answered H ask a → after H (decision_on H ask) ≡ H
origin-after gives c bytes item o x origin m H ask a is =
    after-adds_none H (decision_on H ask)
    (sym (ap recorded_place is) ∙ origin-adds_none gives c bytes item o x origin m)
