-- What the commands of the caller come to, by what the store answered.
use Rattle.std.proofs.Common.{◌≡◌, ◌+◌, ◌++◌, ◌∷◌, ◌≤◌, ◌<◌, [], ℕ, Bool, true, false, List, All, Contains, MatchBool, length, take, get_or, None, Result, Ok, Err, is_ok, is_some, append_assoc, length-append, refl, sym, ap, subst, ◌∙◌, arith, take-suc, add-one}
use Rattle.std.proofs.lemmas.List.Elements.{All-push, All-weaker}
use Rattle.common_types.specs.Prefix.{IsPrefix}
use Rattle.weight_exact.specs.declared.run.Verdict.{Verdict}
use Rattle.farm_types.specs.declared.key.Key.{Key}
use Rattle.farm_types.specs.declared.moment.Moment.{Moment}
use Rattle.farm_entry.specs.Decision.{decide}
use Rattle.farm_entry.specs.History.{all_leases, is_closed, is_reported, order_in, place_of_key}
use Rattle.farm_entry.specs.Legal.{IsLegal}
use Rattle.farm_entry.specs.Playing.{after}
use Rattle.farm_entry.specs.declared.command.Command.{Command}
use Rattle.farm_entry.specs.declared.command.Command.TheVariants.{Open, Report}
use Rattle.farm_entry.specs.declared.command.OpenAsk.{OpenAsk}
use Rattle.farm_entry.specs.declared.decision.Decision.TheVariants.{New, Refuse}
use Rattle.farm_entry.specs.declared.entry.Entry.{Entry}
use Rattle.farm_entry.specs.declared.lease.LeasedRun.{LeasedRun}
use Rattle.farm_entry.specs.declared.refusal.Refusal.{Refusal}
use Rattle.farm_entry.specs.declared.reply.Reply.{Reply}
use Rattle.drill_plan.specs.Plan.{planned_ask}
use Rattle.drill_plan.specs.Start.{IsOpened, IsStart, drill_founding, drill_moment}
use Rattle.farm_drill.specs.Asked.{AskSays, IsDone, IsRefused}
use Rattle.farm_drill.specs.Ends.{AreOrders, IsFull}
use Rattle.farm_drill.specs.Free.{AreFree, key_numbered}
use Rattle.farm_drill.specs.declared.keys.Keys.{Keys}
use Rattle.farm_drill.proofs.Reports.{report-done, report-refused}

-- An open of the plan.

-- what the law on the plan's opens says of one history
abbrev pub IsTaken : List Entry → (before : ℕ) → Type 0
IsTaken H before =
    (e : Entry) × IsOpened (before + 1) e × (decide H (Open (planned_ask (before + 1))) drill_moment ≡ New e)
    × IsStart (before + 1) (H ++ e ∷ [])

decided : (H : List Entry) (before : ℕ) (ask : OpenAsk) (at : Moment) (t : IsTaken H before)
    → ask ≡ planned_ask (before + 1)
    → at ≡ drill_moment → decide H (Open ask) at ≡ New t.0
decided H before ask at t asks when =
    ap (λ (a : OpenAsk). decide H (Open a) at) asks ∙ ap (decide H (Open (planned_ask (before + 1)))) when ∙ t.2

pub open-not_refused : (H : List Entry) (before : ℕ) (ask : OpenAsk) (at : Moment) (cause : Refusal) (new : List Entry)
    → IsTaken H before → ask ≡ planned_ask (before + 1) → at ≡ drill_moment → IsRefused H (Open ask) at cause new → ⊥
open-not_refused H before ask at cause new t asks when refused =
    let both : Refuse cause ≡ New t.0 = sym refused.decided ∙ decided H before ask at t asks when in
    cc both

pub open-done : (H : List Entry) (before : ℕ) (ask : OpenAsk) (at : Moment) (r : Reply) (new : List Entry)
    → IsTaken H before → ask ≡ planned_ask (before + 1) → at ≡ drill_moment → IsDone H (Open ask) at r new
    → IsStart (before + 1) new
open-done H before ask at r new t asks when done =
    let is : new ≡ H ++ t.0 ∷ [] = done.history ∙ ap (after H) (decided H before ask at t asks when) in
    subst (IsStart (before + 1)) (sym is) t.3

-- a founding is that of a drill whose searches are still to be opened
pub start-none : (H : List Entry) → H ≡ drill_founding ∷ [] → IsStart 0 H
start-none H is = record { openings = []; opened = tt; all = refl; is = is }

-- A report.

-- the history goes on as what was asked is decided
pub asked-after : (H new : List Entry) (command : Command) (at : Moment) (given : Result Reply Refusal)
    → AskSays H command at given new → new ≡ after H (decide H command at)
asked-after H new command at (Ok r) says = says.history
asked-after H new command at (Err cause) says = says.history ∙ sym (ap (after H) says.decided)

-- the run is reported, or the history is full; no run was handed out, and no key was taken
pub record IsReportSaid (H : List Entry) (run : ℕ) (done : Bool) (new : List Entry) : Type 0 where
  pub reported : MatchBool done (is_reported new run ≡ true) (IsFull new)
  pub leases : all_leases new ≡ all_leases H
  pub keys : (key : Key) → place_of_key H key ≡ None → place_of_key new key ≡ None

pub report-says : (H : List Entry) (l : LeasedRun) (v : Verdict) (at : Moment) (given : Result Reply Refusal)
    (new : List Entry)
    → IsLegal H → is_closed H ≡ false → Contains (all_leases H) l → AskSays H (Report l.run v) at given new
    → IsReportSaid H l.run (is_ok given) new
report-says H l v at (Ok r) new legal unclosed there says =
    let done = report-done H l v at r new legal unclosed there says in
    record { reported = done.reported; leases = done.leases; keys = done.keys }
report-says H l v at (Err cause) new legal unclosed there says =
    let full : IsFull H = report-refused H l v at cause new legal unclosed there says in
    let same : new ≡ H = says.history in
    record {
      reported = subst IsFull (sym same) full;
      leases = ap all_leases same;
      keys = λ key none. ap (λ (G : List Entry). place_of_key G key) same ∙ none;
    }

-- Keys that stay free.

pub free-on : (H new : List Entry) (keys : Keys) → AreFree H keys
    → ((key : Key) → place_of_key H key ≡ None → place_of_key new key ≡ None) → AreFree new keys
free-on H new keys free on n from within none = on (key_numbered n) (free n from within none)

-- keys that were free once an entry with the key stands there
pub free-then : (H new : List Entry) (e : Entry) (keys : Keys) → new ≡ H ++ e ∷ [] → AreFree (H ++ e ∷ []) keys
    → AreFree new keys
free-then H new e keys is free = subst (λ (G : List Entry). AreFree G keys) (sym is) free

-- Orders that are added.

pub one-order-more : (start H new orders : List Entry) (e : Entry) → AreOrders orders → H ≡ start ++ orders
    → new ≡ H ++ e ∷ []
    → is_some (order_in e.what) ≡ true → (more : List Entry) × AreOrders more × (new ≡ start ++ more)
one-order-more start H new orders e all is more order = (
  orders ++ e ∷ [],
  All-push (λ (x : Entry). is_some (order_in x.what) ≡ true) orders e all order,
  more ∙ ap (λ (G : List Entry). G ++ e ∷ []) is ∙ append_assoc start orders (e ∷ []),
)

pub longer-by : (H new : List Entry) (e : Entry) → new ≡ H ++ e ∷ [] → length new ≡ length H + 1
longer-by H new e is = ap length is ∙ length-append H (e ∷ [])

pub prefix-le : (H new : List Entry) → IsPrefix H new → length H ≤ length new
prefix-le H new longer = omega (arith, ap length longer.1, length-append H longer.0)

-- Reports of those that are missing.

pub reports-more : (H new : List Entry) (ls : List LeasedRun) (i : ℕ) (l : LeasedRun) → i < length ls
    → l ≡ get_or ls i l
    → ((run : ℕ) → is_reported H run ≡ true → is_reported new run ≡ true)
    → All (λ (r : LeasedRun). is_reported H r.run ≡ true) (take i ls) → is_reported new l.run ≡ true
    → All (λ (r : LeasedRun). is_reported new r.run ≡ true) (take (i + 1) ls)
reports-more H new ls i l below is stays all now =
    let P : LeasedRun → Type 0 = λ r. is_reported new r.run ≡ true in
    let longer : take (i + 1) ls ≡ take i ls ++ get_or ls i l ∷ [] = rw add-one (take-suc ls i l below) in
    let whole : take (i + 1) ls ≡ take i ls ++ l ∷ [] = longer ∙ ap (λ (y : LeasedRun). take i ls ++ y ∷ []) (sym is) in
    subst (All P) (sym whole)
    (All-push P (take i ls) l (All-weaker (λ (r : LeasedRun). is_reported H r.run ≡ true) P (λ r h. stays r.run h)
    (take i ls) all) now)
