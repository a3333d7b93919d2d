-- What a lease of the caller comes to.
use Rattle.std.proofs.Common.{◌≡◌, ◌⊎◌, inl, inr, ℕ, ◌+◌, ◌<◌, ◌≤◌, nat_le, Bool, true, false, List, [], ◌∷◌, ◌++◌, length, take, All, Option, Some, None, Result, Ok, Err, IfSome, IfNone, option_map, if◌then◌else◌, refl, sym, ap, subst, ◌∙◌, ⊎_elim, arith}
use Rattle.std.specs.Option.{option_and_then}
use Rattle.std.proofs.lemmas.Bool.{cases_Bool}
use Rattle.std.proofs.lemmas.Bool.Decides.{nat_tests}
use Rattle.farm_types.specs.Moment.{moment_ms}
use Rattle.farm_types.specs.declared.key.Key.{Key}
use Rattle.farm_types.specs.declared.moment.Moment.{Moment}
use Rattle.farm_entry.specs.Decision.{decide, last_moment, later, lease_decision, moment_used}
use Rattle.farm_entry.specs.Due.{next_run}
use Rattle.farm_entry.specs.History.{all_leases, is_closed, lease_ms, opening_numbered, place_of_key}
use Rattle.farm_entry.specs.Setup.{commit_of}
use Rattle.farm_entry.specs.Legal.{IsLegal}
use Rattle.farm_entry.specs.Playing.{after}
use Rattle.farm_entry.specs.Reply.{reply_at, reply_to}
use Rattle.farm_entry.specs.declared.command.Command.TheVariants.{Lease}
use Rattle.farm_entry.specs.declared.decision.Decision.{Decision}
use Rattle.farm_entry.specs.declared.decision.Decision.TheVariants.{Refuse}
use Rattle.farm_entry.specs.declared.entry.Entry.{Entry}
use Rattle.farm_entry.specs.declared.entry.What.TheVariants.{Leased}
use Rattle.farm_entry.specs.declared.lease.DueRun.{DueRun}
use Rattle.farm_entry.specs.declared.lease.LeasedRun.{LeasedRun}
use Rattle.farm_entry.specs.declared.limits.TheConstants.{MAX_ENTRIES}
use Rattle.farm_entry.specs.declared.opening.Opening.{Opening}
use Rattle.farm_entry.specs.declared.refusal.Refusal.{Refusal}
use Rattle.farm_entry.specs.declared.refusal.Refusal.TheVariants.{Full}
use Rattle.farm_entry.specs.declared.reply.Reply.{Reply}
use Rattle.farm_entry.specs.declared.reply.Reply.TheVariants as reply
use Rattle.farm_core.specs.Outcome.{handed_out}
use Rattle.farm_laws.proofs.Bounds.{entries-unclosed}
use Rattle.farm_laws.proofs.Moments.{moments-until_last}
use Rattle.farm_laws.proofs.Replies.{slice_get-last}
use Rattle.farm_entry.specs.Answer.{IsAnswer}
use Rattle.farm_entry.specs.declared.answer.Answer.TheVariants as answer
use Rattle.common_types.specs.Prefix.{IsPrefix}
use Rattle.drill_plan.specs.Start.{drill_founding, drill_moment}
use Rattle.farm_drill.specs.Asked.{AskSays, IsDone, IsRefused}
use Rattle.farm_drill.specs.Ends.{IsFull, NoneIsDue}
use Rattle.farm_drill.specs.Steps.{FindsNone, HandsOut, run_given}

-- The decision on a lease under a new key.

lease-own : (H : List Entry) (key : Key) (w : List ℕ) (at : Moment) → place_of_key H key ≡ None
    → nat_le MAX_ENTRIES (length H) ≡ false → is_closed H ≡ false
    → decide H (Lease key w) at
    ≡ lease_decision H key w (moment_used H at) (next_run H (moment_ms (moment_used H at)))
lease-own H key w at none room unclosed = rw (none, room, unclosed) refl

lease-full : (H : List Entry) (key : Key) (w : List ℕ) (at : Moment) → place_of_key H key ≡ None
    → nat_le MAX_ENTRIES (length H) ≡ true → decide H (Lease key w) at ≡ Refuse Full
lease-full H key w at none full = rw (none, full) refl

-- what a test of the room tells
pub full-is : (H : List Entry) → IsLegal H → is_closed H ≡ false → nat_le MAX_ENTRIES (length H) ≡ true → IsFull H
full-is H legal unclosed full = let few = entries-unclosed H legal unclosed in grind (arith, nat_tests)

pub room-is : (H : List Entry) → nat_le MAX_ENTRIES (length H) ≡ false → length H < MAX_ENTRIES
room-is H room = grind (arith, nat_tests)

-- the reply of a lease

reply-last : (H : List Entry) (e : Entry)
    → reply_at (H ++ e ∷ []) (length H) ≡ reply_to (take (length H + 1) (H ++ e ∷ [])) e.what
reply-last H e =
    ap (option_and_then (λ (x : Entry). reply_to (take (length H + 1) (H ++ e ∷ [])) x.what)) (slice_get-last H e)

hands-out : (o : Option Opening) (lease : LeasedRun) (make : Opening → Reply) (r : Reply)
    → ((x : Opening) → handed_out (make x) ≡ Some lease) → option_map make o ≡ Some r → handed_out r ≡ Some lease
hands-out None lease make r tells same = cc same
hands-out (Some x) lease make r tells same = let equal : make x ≡ r = cc in ap handed_out (sym equal) ∙ tells x

pub record IsLeased (H : List Entry) (key : Key) (r : Reply) (new : List Entry) : Type 0 where
  pub lease : LeasedRun
  pub handed : HandsOut H key lease new
  pub reply : handed_out r ≡ Some lease

lease-case : (H : List Entry) (key : Key) (w : List ℕ) (m : Moment) (new : List Entry) (r : Reply) (n : Option DueRun)
    → length H < MAX_ENTRIES → IsAnswer H (lease_decision H key w m n) (answer.Done r)
    → new ≡ after H (lease_decision H key w m n) → IsLeased H key r new
lease-case H key w m new r None room answers is = absurd answers
lease-case H key w m new r (Some d) room answers is =
    let run : ℕ = length (all_leases H) + 1 in
    let deadline : ℕ = moment_ms m + lease_ms H in
    let e : Entry = record { at = m; what = Leased key w run d.search d.stage d.position deadline } in
    let lease : LeasedRun =
    record { run = run; search = d.search; stage = d.stage; position = d.position; deadline = deadline } in
    let G : List Entry = take (length H + 1) (H ++ e ∷ []) in
    record {
      lease = lease;
      handed = record { more = record { entry = e; is = is; keyed = refl; room = room }; handed = refl };
      reply = hands-out (opening_numbered G d.search) lease
          (λ o. reply.Leased run d.search d.stage d.position (commit_of o d.position) o.test deadline) r (λ x. refl)
          (sym (reply-last H e) ∙ answers);
    }

pub lease-done : (H : List Entry) (key : Key) (w : List ℕ) (at : Moment) (r : Reply) (new : List Entry)
    → is_closed H ≡ false → place_of_key H key ≡ None → IsDone H (Lease key w) at r new → IsLeased H key r new
lease-done H key w at r new unclosed none done =
    ⊎_elim
    (λ (full : nat_le MAX_ENTRIES (length H) ≡ true).
    absurd (subst (λ (d : Decision). IsAnswer H d (answer.Done r)) (lease-full H key w at none full) done.answers))
    (λ (room : nat_le MAX_ENTRIES (length H) ≡ false).
    let own = lease-own H key w at none room unclosed in
    lease-case H key w (moment_used H at) new r (next_run H (moment_ms (moment_used H at))) (room-is H room)
    (subst (λ (d : Decision). IsAnswer H d (answer.Done r)) own done.answers)
    (done.history ∙ ap (after H) own))
    (cases_Bool (nat_le MAX_ENTRIES (length H)))

-- where a lease is refused, the history is full or no run is due

no-run-case : (H : List Entry) (key : Key) (w : List ℕ) (m : Moment) (cause : Refusal) (n : Option DueRun)
    → lease_decision H key w m n ≡ Refuse cause → n ≡ None
no-run-case H key w m cause None same = refl
no-run-case H key w m cause (Some d) same = cc same

pub lease-refused : (H : List Entry) (key : Key) (w : List ℕ) (cause : Refusal) (new : List Entry)
    → IsLegal H → is_closed H ≡ false → place_of_key H key ≡ None → IsRefused H (Lease key w) drill_moment cause new
    → IsFull H ⊎ FindsNone H
lease-refused H key w cause new legal unclosed none refused =
    ⊎_elim
    (λ (full : nat_le MAX_ENTRIES (length H) ≡ true). inl (full-is H legal unclosed full))
    (λ (room : nat_le MAX_ENTRIES (length H) ≡ false).
    let own = lease-own H key w drill_moment none room unclosed in
    inr (record {
      room = room;
      none = no-run-case H key w (moment_used H drill_moment) cause
          (next_run H (moment_ms (moment_used H drill_moment)))
          (sym own ∙ refused.decided);
    }))
    (cases_Bool (nat_le MAX_ENTRIES (length H)))

-- what the store's answer says of the run that it hands out, if it does
pub record IsLeaseSaid (H : List Entry) (key : Key) (run : Option LeasedRun) (new : List Entry) : Type 0 where
  pub leased : IfSome run (λ lease. HandsOut H key lease new)
  pub none : IfNone run ((new ≡ H) × (IsFull new ⊎ FindsNone new))

said-run : (H : List Entry) (key : Key) (run : Option LeasedRun) (lease : LeasedRun) (new : List Entry)
    → run ≡ Some lease
    → HandsOut H key lease new → IsLeaseSaid H key run new
said-run H key run lease new is handed =
    subst (λ (o : Option LeasedRun). IsLeaseSaid H key o new) (sym is) (record { leased = handed; none = tt })

pub lease-says : (H : List Entry) (key : Key) (w : List ℕ) (at : Moment) (given : Result Reply Refusal)
    (new : List Entry)
    → IsLegal H → is_closed H ≡ false → place_of_key H key ≡ None → at ≡ drill_moment
    → AskSays H (Lease key w) at given new
    → IsLeaseSaid H key (run_given given) new
lease-says H key w at (Ok r) new legal unclosed free when says =
    let done = lease-done H key w at r new unclosed free says in
    said-run H key (handed_out r) done.lease new done.reply done.handed
lease-says H key w at (Err cause) new legal unclosed free when says =
    let refused = subst (λ (m : Moment). IsRefused H (Lease key w) m cause new) when says in
    let why = lease-refused H key w cause new legal unclosed free refused in
    record {
      leased = tt;
      none = (refused.history, subst (λ (G : List Entry). IsFull G ⊎ FindsNone G) (sym refused.history) why);
    }

-- The last moment of a history that begins with the founding is not before it.

founded-first : (H : List Entry) → IsLegal H → IsPrefix (drill_founding ∷ []) H
    → moment_ms drill_moment ≤ moment_ms (last_moment drill_moment H)
founded-first H legal begins =
    let all = moments-until_last H drill_moment legal in
    let is : H ≡ drill_founding ∷ begins.0 = begins.1 in
    let each =
    subst (λ (es : List Entry). All (λ (e : Entry). moment_ms e.at ≤ moment_ms (last_moment drill_moment H)) es) is all in
    each 0 drill_founding (omega arith)

later-last : (a b : Moment) (t : Bool) → moment_ms b ≤ moment_ms a → (t ≡ true → moment_ms a ≤ moment_ms b)
    → moment_ms (if t then b else a) ≡ moment_ms a
later-last a b true low high = let h = high refl in omega arith
later-last a b false low high = refl

same-later : (a : Moment) (t : Bool) → (if t then a else a) ≡ a
same-later a true = refl
same-later a false = refl

last-any : (m n : Moment) (H : List Entry) → IsLegal H → last_moment m H ≡ last_moment n H
last-any m n [] legal = absurd legal
last-any m n (e ∷ H) legal = refl

pub none-due : (H : List Entry) → IsLegal H → is_closed H ≡ false → IsPrefix (drill_founding ∷ []) H → FindsNone H
    → NoneIsDue H
none-due H legal unclosed begins finds key worker free =
    let last = last_moment drill_moment H in
    let m = moment_used H drill_moment in
    let same : moment_ms m ≡ moment_ms last = later-last last drill_moment _ (founded-first H legal begins)
    (λ is. grind (arith, nat_tests)) in
    let used : moment_used H last ≡ last = ap (λ (x : Moment). later x last) (last-any last drill_moment H legal)
    ∙ same-later last _ in
    lease-own H key worker last free finds.room unclosed
    ∙ ap (λ (x : Moment). lease_decision H key worker x (next_run H (moment_ms x))) used
    ∙ ap (lease_decision H key worker last) (ap (next_run H) (sym same) ∙ finds.none)
