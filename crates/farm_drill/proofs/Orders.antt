-- What a revert of the caller comes to.
use Rattle.std.proofs.Common.{is_ok, MatchBool, ◌≡◌, ℕ, ◌+◌, ◌<◌, ◌≤◌, nat_le, nat_lt, Bool, true, false, List, [], ◌∷◌, ◌++◌, length, Option, Some, None, Result, Ok, Err, if◌then◌else◌, refl, sym, ap, subst, ◌∙◌, ⊎_elim, arith}
use Rattle.std.proofs.lemmas.Bool.{cases_Bool}
use Rattle.std.proofs.lemmas.Bool.Decides.{nat_tests}
use Rattle.farm_types.proofs.SameValues.{moment_ms-injective}
use Rattle.farm_types.specs.Moment.{moment_ms}
use Rattle.farm_types.specs.declared.key.Key.{Key}
use Rattle.farm_types.specs.declared.moment.Moment.{Moment}
use Rattle.farm_rules.specs.Orders.{candidates, draft_of, earliest, orders_of}
use Rattle.farm_rules.specs.declared.orders.Candidate.{Candidate}
use Rattle.farm_rules.specs.declared.orders.Draft.{Draft}
use Rattle.farm_rules.specs.declared.orders.NoOrder.{NoOrder}
use Rattle.farm_rules.specs.declared.orders.OrderedCommit.{OrderedCommit}
use Rattle.farm_rules.specs.declared.orders.NoOrder.TheVariants as none
use Rattle.farm_entry.specs.Decision.{decide, moment_used, revert_decision}
use Rattle.farm_entry.specs.History.{daily_limit, is_closed, order_lines, place_of_key}
use Rattle.farm_entry.specs.Legal.{IsLegal}
use Rattle.farm_entry.specs.Orders.{carried, confirmed_searches, day_in, given, next_order_at, orders}
use Rattle.farm_entry.specs.Playing.{after}
use Rattle.farm_entry.specs.declared.command.Command.TheVariants.{TakeRevert}
use Rattle.farm_entry.specs.declared.decision.Decision.{Decision}
use Rattle.farm_entry.specs.declared.decision.Decision.TheVariants.{Refuse}
use Rattle.farm_entry.specs.declared.entry.Entry.{Entry}
use Rattle.farm_entry.specs.declared.entry.What.TheVariants.{Ordered}
use Rattle.farm_entry.specs.declared.limits.TheConstants.{MAX_ENTRIES}
use Rattle.farm_entry.specs.declared.refusal.Refusal.{Refusal}
use Rattle.farm_entry.specs.declared.refusal.Refusal.TheVariants.{Full}
use Rattle.farm_entry.specs.declared.reply.Reply.{Reply}
use Rattle.farm_laws.proofs.CarriedOver.{orders-split}
use Rattle.farm_laws.proofs.OrdersOnce.{days-limited}
use Rattle.shared_farm.specs.Rests.{IsByCommands}
use Rattle.farm_entry.specs.Answer.{IsAnswer}
use Rattle.farm_entry.specs.declared.answer.Answer.TheVariants as answer
use Rattle.common_types.specs.Prefix.{IsPrefix}
use Rattle.drill_plan.specs.Start.{drill_founding, revert_ms}
use Rattle.drill_plan.specs.declared.limits.TheConstants.{DRILL_DAILY}
use Rattle.farm_drill.specs.Asked.{AskSays, IsDone, IsRefused}
use Rattle.farm_drill.specs.Ends.{NoOrderGiven, RevertsEnded}
use Rattle.farm_drill.specs.Steps.{GivesOrder}
use Rattle.farm_drill.proofs.Leases.{full-is, room-is}

-- The decision on a request for an order, under a new key.

revert-own : (H : List Entry) (key : Key) (agent : List ℕ) (at : Moment) → place_of_key H key ≡ None
    → nat_le MAX_ENTRIES (length H) ≡ false → is_closed H ≡ false
    → decide H (TakeRevert key agent) at
    ≡ revert_decision key agent (moment_used H at) (next_order_at H (moment_ms (moment_used H at)))
revert-own H key agent at none room unclosed = rw (none, room, unclosed) refl

revert-full : (H : List Entry) (key : Key) (agent : List ℕ) (at : Moment) → place_of_key H key ≡ None
    → nat_le MAX_ENTRIES (length H) ≡ true → decide H (TakeRevert key agent) at ≡ Refuse Full
revert-full H key agent at none full = rw (none, full) refl

order-case : (H : List Entry) (key : Key) (agent : List ℕ) (m : Moment) (r : Reply) (new : List Entry)
    (n : Result Draft NoOrder)
    → length H < MAX_ENTRIES → IsAnswer H (revert_decision key agent m n) (answer.Done r)
    → new ≡ after H (revert_decision key agent m n) → GivesOrder H key new
order-case H key agent m r new (Ok d) room answers is =
    let e : Entry = record { at = m; what = Ordered key agent d.order d.commit d.search d.day } in
    record { more = record { entry = e; is = is; keyed = refl; room = room }; order = refl }
order-case H key agent m r new (Err none.NoRevert) room answers is = absurd answers
order-case H key agent m r new (Err (none.DailyLimit day count)) room answers is = absurd answers

pub order-done : (H : List Entry) (key : Key) (agent : List ℕ) (at : Moment) (r : Reply) (new : List Entry)
    → is_closed H ≡ false → place_of_key H key ≡ None → IsDone H (TakeRevert key agent) at r new → GivesOrder H key new
order-done H key agent at r new unclosed free done =
    ⊎_elim
    (λ (full : nat_le MAX_ENTRIES (length H) ≡ true).
    absurd (subst (λ (d : Decision). IsAnswer H d (answer.Done r)) (revert-full H key agent at free full) done.answers))
    (λ (room : nat_le MAX_ENTRIES (length H) ≡ false).
    let own = revert-own H key agent at free room unclosed in
    order-case H key agent (moment_used H at) r new (next_order_at H (moment_ms (moment_used H at))) (room-is H room)
    (subst (λ (d : Decision). IsAnswer H d (answer.Done r)) own done.answers)
    (done.history ∙ ap (after H) own))
    (cases_Bool (nat_le MAX_ENTRIES (length H)))

-- Where an order is refused.

-- an order, or what stands against it
abbrev if_draft : Bool → Draft → NoOrder → Result Draft NoOrder
if_draft b draft fault = if b then Ok draft else Err fault

limit-if : (c : Candidate) (order day limit count : ℕ) (b : Bool) (d k : ℕ) → nat_lt count limit ≡ b
    → if_draft b (record { order = order; commit = c.commit; search = c.search; day = day }) (none.DailyLimit day count)
    ≡ Err (none.DailyLimit d k) → (d ≡ day) × (k ≡ count) × (limit ≤ count)
limit-if c order day limit count true d k test same = cc same
limit-if c order day limit count false d k test same =
    let days : d ≡ day = cc same in
    let counts : k ≡ count = cc same in
    (days, counts, grind (arith, nat_tests))

limit-of : (first : Option Candidate) (order day limit count d k : ℕ)
    → draft_of first order day limit count ≡ Err (none.DailyLimit d k) → (d ≡ day) × (k ≡ count) × (limit ≤ count)
limit-of None order day limit count d k same = cc same
limit-of (Some c) order day limit count d k same = limit-if c order day limit count (nat_lt count limit) d k refl same

-- a history that begins with the founding has its daily limit
pub limit-is : (H : List Entry) → IsPrefix (drill_founding ∷ []) H → daily_limit H ≡ DRILL_DAILY
limit-is H begins = ap daily_limit begins.1

given-none : (H : List Entry) (key : Key) (agent : List ℕ) (m : Moment) (cause : Refusal) (n : Result Draft NoOrder)
    → IsLegal H → carried H ≡ [] → daily_limit H ≡ DRILL_DAILY → next_order_at H (moment_ms m) ≡ n
    → (key' : Key) (agent' : List ℕ) (m' : Moment)
    → revert_decision key' agent' m' n ≡ Refuse cause → NoOrderGiven H (revert_decision key agent m n)
given-none H key agent m cause (Ok d) legal own limit is key' agent' m' refused = cc refused
given-none H key agent m cause (Err none.NoRevert) legal own limit is key' agent' m' refused = tt
given-none H key agent m cause (Err (none.DailyLimit day count)) legal own limit is key' agent' m' refused =
    let moment : ℕ = day_in H (moment_ms m) in
    let same = limit-of (earliest (candidates (confirmed_searches H) (orders H))) (length (order_lines H) + 1) moment
    (daily_limit H) (orders_of moment (orders H)) day count is in
    let alone : orders H ≡ given H = orders-split H legal ∙ ap (λ (l : List OrderedCommit). l ++ given H) own in
    let most : orders_of moment (orders H) ≤ daily_limit H =
    subst (λ (l : List OrderedCommit). orders_of moment l ≤ daily_limit H) (sym alone) (days-limited H moment legal) in
    let day_is : orders_of day (orders H) ≡ orders_of moment (orders H) =
    ap (λ (x : ℕ). orders_of x (orders H)) same.0 in
    (omega (arith, same.1, same.2, limit), omega (arith, same.1, same.2, limit))

pub order-refused : (H : List Entry) (key : Key) (agent : List ℕ) (at : Moment) (cause : Refusal) (new : List Entry)
    → IsLegal H → IsByCommands H
    → IsPrefix (drill_founding ∷ []) H → moment_ms at ≡ revert_ms (length (order_lines H) + 1)
    → place_of_key H key ≡ None
    → IsRefused H (TakeRevert key agent) at cause new → RevertsEnded H
order-refused H key agent at cause new legal by begins when free refused key' agent' at' when' free' =
    let moment : at' ≡ at = moment_ms-injective at' at (when' ∙ sym when) in
    ⊎_elim
    (λ (full : nat_le MAX_ENTRIES (length H) ≡ true).
    subst (NoOrderGiven H) (sym (revert-full H key' agent' at' free' full)) (full-is H legal by.unclosed full))
    (λ (room : nat_le MAX_ENTRIES (length H) ≡ false).
    let n = next_order_at H (moment_ms (moment_used H at)) in
    let own : revert_decision key agent (moment_used H at) n ≡ Refuse cause =
    sym (revert-own H key agent at free room by.unclosed) ∙ refused.decided in
    let theirs : decide H (TakeRevert key' agent') at' ≡ revert_decision key' agent' (moment_used H at) n =
    ap (decide H (TakeRevert key' agent')) moment ∙ revert-own H key' agent' at free' room by.unclosed in
    subst (NoOrderGiven H) (sym theirs)
    (given-none H key' agent' (moment_used H at) cause n legal by.none_carried (limit-is H begins) refl key agent
    (moment_used H at) own))
    (cases_Bool (nat_le MAX_ENTRIES (length H)))

-- what the store's answer says: an order is given, or none is left
pub order-says : (H : List Entry) (key : Key) (agent : List ℕ) (at : Moment) (given : Result Reply Refusal)
    (new : List Entry)
    → IsLegal H → IsByCommands H → IsPrefix (drill_founding ∷ []) H
    → moment_ms at ≡ revert_ms (length (order_lines H) + 1) → place_of_key H key ≡ None → AskSays H (TakeRevert key agent) at given new
    → MatchBool (is_ok given) (GivesOrder H key new) ((new ≡ H) × RevertsEnded new)
order-says H key agent at (Ok r) new legal by begins when free says =
    order-done H key agent at r new by.unclosed free says
order-says H key agent at (Err cause) new legal by begins when free says = (
  says.history,
  subst RevertsEnded (sym says.history) (order-refused H key agent at cause new legal by begins when free says),
)
