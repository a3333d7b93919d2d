-- Each step of a worker keeps what holds of a world.
use Rattle.std.proofs.Common.{◌≡◌, ◌==◌, ℕ, Bool, true, false, not, ◌&&◌, List, [], ◌∷◌, ◌++◌, All, slice_get, if◌then◌else◌, Option, Some, None, refl, sym, ap, subst, ◌∙◌, ⊎_elim}
use Rattle.std.proofs.lemmas.List.Elements.{All-append, All-cons, All-nil, All-set, Contains-append_right}
use Rattle.std.proofs.lemmas.Option.{none-some, same_Some}
use Rattle.farm_laws.proofs.Lists.{contains-head}
use Rattle.farm_types.specs.declared.key.Key.{Key}
use Rattle.farm_entry.specs.Setup.{commit_of}
use Rattle.farm_entry.specs.declared.command.Command.TheVariants.{Lease}
use Rattle.farm_entry.specs.declared.entry.Entry.{Entry}
use Rattle.farm_entry.specs.declared.refusal.Refusal.TheVariants.{Closed, NoRun}
use Rattle.farm_entry.specs.declared.reply.Reply.TheVariants as reply
use Rattle.worker_core.specs.Core.{Core}
use Rattle.worker_core.specs.Origins.{Asked, ComesFrom, is_test}
use Rattle.worker_core.specs.Steps.{core_step}
use Rattle.worker_core.specs.declared.action.Action.{Action}
use Rattle.worker_core.specs.declared.action.Action.TheVariants.{Draw, AskLease, RunTest, SendReport, Stop}
use Rattle.worker_core.specs.declared.event.Event.{Event}
use Rattle.worker_core.specs.declared.event.Event.TheVariants.{Begin, Drew, Leased, Noted, Nothing, Ran, Lost}
use Rattle.worker_core.specs.declared.tested.Tested.{Tested}
use Rattle.worker_core.specs.declared.tested.Tested.TheVariants.{Untestable, Verdict}
use Rattle.worker_core.proofs.Origins.{last-is, step-origin}
use Rattle.leaf_laws.specs.Given.{IsGiven}
use Rattle.leaf_laws.specs.Workers.{closed_event, event_of, fresh, gets, hears, last_of, lease_after, lease_in_answer, report_of, request_of, restarts, runner_says, runs_test, steps, told, worker_steps}
use Rattle.leaf_laws.specs.World.{LeaseAnswer, Made, Request, Said, SentAnswer, Worker, World, refused, replied}
use Rattle.leaf_laws.proofs.LeaseAnswers.{IsTrueLease}
use Rattle.leaf_laws.proofs.Sound.{IsBacked, IsHonest, IsSound, IsTruthful, got, made-more}

-- An event that may reach a worker: a lease comes with its answer, which is so, and what came of a test is
-- what a runner said.
pub record IsFair (H : List Entry) (made : List Made) (w : Worker) (event : Event) (came : Option LeaseAnswer) : Type 0 where
  pub so : (a : LeaseAnswer) → came ≡ Some a → IsTrueLease H a
  pub leased : (run : ℕ) → event ≡ Leased run → (a : LeaseAnswer) × (came ≡ Some a) × (a.run ≡ run)
  pub ran : (run : ℕ) (t : Tested) → w.core.last ≡ Some (RunTest run) → event ≡ Ran t → IsGiven H made run t

-- The worker after a step.

either-lease : (b : Bool) (came kept : Option LeaseAnswer) (a : LeaseAnswer) (P : Type 0) → (came ≡ Some a → P) →
    (kept ≡ Some a → P) → (if b then came else kept) ≡ Some a → P
either-lease true came kept a P first second is = first is
either-lease false came kept a P first second is = second is

told-runs : (H : List Entry) (made : List Made) (w : Worker) (event : Event) (came : Option LeaseAnswer) → IsHonest H made w →
    IsFair H made w event came → (after : Option Action) (run : ℕ) → after ≡ Some (RunTest run) →
    ComesFrom w.core event (RunTest run) →
    (a : LeaseAnswer) × (lease_after w.core.last after came w.lease ≡ Some a) × (a.run ≡ run)
told-runs H made w event came honest fair after run is from =
    ⊎_elim
    (λ (same : w.core.last ≡ Some (RunTest run)).
    let has = honest.runs run same in
    let kept : lease_after w.core.last after came w.lease ≡ w.lease =
    ap (λ (x : Option Action). lease_after x after came w.lease) same
    ∙ ap (λ (x : Option Action). lease_after (Some (RunTest run)) x came w.lease) is in
    (has.0, kept ∙ has.1, has.2))
    (λ (new : Asked w.core × (event ≡ Leased run)).
    let has = fair.leased run new.1 in
    let taken : lease_after w.core.last after came w.lease ≡ came =
    ap (λ (x : Option Action). lease_after x after came w.lease) new.0.1
    ∙ ap (λ (x : Option Action). lease_after (Some (AskLease new.0.0)) x came w.lease) is in
    (has.0, taken ∙ has.1, has.2))
    from

told-reports : (H : List Entry) (made : List Made) (w : Worker) (event : Event) (came : Option LeaseAnswer) → IsHonest H made w →
    IsFair H made w event came → (run : ℕ) (t : Tested) → ComesFrom w.core event (SendReport run t) →
    IsGiven H made run t
told-reports H made w event came honest fair run t from =
    ⊎_elim
    (λ (same : w.core.last ≡ Some (SendReport run t)). honest.reports run t same)
    (λ (ran : (w.core.last ≡ Some (RunTest run)) × (event ≡ Ran t)). fair.ran run t ran.0 ran.1)
    from

-- the cause of the action that a worker did last
cause-of : (core : Core) (event : Event) (action : Action) → (core_step core event).core.last ≡ Some action →
    ComesFrom core event action
cause-of core event action last =
    subst (λ (x : Action). ComesFrom core event x) (same_Some _ _ (sym (last-is core event) ∙ last)) (step-origin core event)

told-honest : (H : List Entry) (made : List Made) (w : Worker) (event : Event) (came : Option LeaseAnswer) → IsHonest H made w →
    IsFair H made w event came → IsHonest H made (told w event came)
told-honest H made w event came honest fair =
    let next = (core_step w.core event).core in
    record {
      lease = λ a is. either-lease (is_test next.last && not (is_test w.core.last)) came w.lease a (IsTrueLease H a) (fair.so a) (honest.lease a) is;
      runs = λ run last. told-runs H made w event came honest fair next.last run last (cause-of w.core event (RunTest run) last);
      reports = λ run t last.
          told-reports H made w event came honest fair run t (cause-of w.core event (SendReport run t) last);
    }

-- What it sends.

command-backed : (H : List Entry) (made : List Made) (run : ℕ) (t : Tested) → IsGiven H made run t →
    IsBacked H made (report_of run t)
command-backed H made run (Verdict v) given other (Verdict u) same =
    let runs : run ≡ other = cc in
    let verdicts : v ≡ u = cc in
    subst (λ (x : ℕ). IsGiven H made x (Verdict u)) runs
    (subst (λ (x : _). IsGiven H made run (Verdict x)) verdicts given)
command-backed H made run (Verdict v) given other Untestable same = absurd cc
command-backed H made run Untestable given other (Verdict u) same = absurd cc
command-backed H made run Untestable given other Untestable same =
    let runs : run ≡ other = cc in subst (λ (x : ℕ). IsGiven H made x Untestable) runs given

lease-backed : (H : List Entry) (made : List Made) (key : Key) (name : List ℕ) → IsBacked H made (Lease key name)
lease-backed H made key name run (Verdict v) same = absurd cc
lease-backed H made key name run Untestable same = absurd cc

sent-backed : (H : List Entry) (made : List Made) (worker : ℕ) (name : List ℕ) (action : Action) →
    ((run : ℕ) (t : Tested) → action ≡ SendReport run t → IsGiven H made run t) →
    All (λ (r : Request). IsBacked H made r.command) (request_of worker name action)
sent-backed H made worker name (AskLease key) given =
    All-cons (λ (r : Request). IsBacked H made r.command) _ [] (lease-backed H made key name) (All-nil (λ (r : Request). IsBacked H made r.command))
sent-backed H made worker name (SendReport run t) given =
    All-cons (λ (r : Request). IsBacked H made r.command) _ [] (command-backed H made run t (given run t refl))
    (All-nil (λ (r : Request). IsBacked H made r.command))
sent-backed H made worker name Draw given = All-nil (λ (r : Request). IsBacked H made r.command)
sent-backed H made worker name (RunTest run) given = All-nil (λ (r : Request). IsBacked H made r.command)
sent-backed H made worker name (Stop end) given = All-nil (λ (r : Request). IsBacked H made r.command)

-- The world after a step.

steps-sound : (world : World) (worker : ℕ) (event : Event) (came : Option LeaseAnswer) (w : Worker) → IsSound world →
    slice_get world.workers worker ≡ Some w → IsFair world.history world.made w event came →
    IsSound (steps world worker event came (Some w))
steps-sound world worker event came w sound there fair =
    let H = world.history in
    let made = world.made in
    let honest = got (λ (x : Worker). IsHonest H made x) world.workers worker w sound.staffed there in
    let next = told-honest H made w event came honest fair in
    record {
      legal = sound.legal;
      reported = sound.reported;
      said = sound.said;
      requested = All-append (λ (r : Request). IsBacked H made r.command) world.requests
          (request_of worker w.name (core_step w.core event).action) sound.requested
          (sent-backed H made worker w.name (core_step w.core event).action
          (λ run t is. next.reports run t (last-is w.core event ∙ ap (λ (x : Action). Some x) is)));
      answered = sound.answered;
      staffed = All-set (λ (x : Worker). IsHonest H made x) world.workers worker (told w event came) next sound.staffed;
    }

step-sound : (world : World) (worker : ℕ) (event : Event) (came : Option LeaseAnswer) → IsSound world → (o : Option Worker) →
    slice_get world.workers worker ≡ o →
    ((w : Worker) → o ≡ Some w → IsFair world.history world.made w event came) → IsSound (steps world worker event came o)
step-sound world worker event came sound None there fair = sound
step-sound world worker event came sound (Some w) there fair =
    steps-sound world worker event came w sound there (fair w refl)

-- an event that brings no lease, and nothing that a runner said
pub plain-sound : (world : World) (worker : ℕ) (event : Event) → IsSound world → ((run : ℕ) → event ≡ Leased run → ⊥) →
    ((t : Tested) → event ≡ Ran t → ⊥) → IsSound (worker_steps world worker event None)
plain-sound world worker event sound no_lease no_test =
    step-sound world worker event None sound (slice_get world.workers worker) refl
    (λ w there. record {
      so = λ a is. absurd (none-some a is);
      leased = λ run is. absurd (no_lease run is);
      ran = λ run t last is. absurd (no_test t is);
    })

pub begins-sound : (world : World) (worker : ℕ) → IsSound world → IsSound (worker_steps world worker Begin None)
begins-sound world worker sound = plain-sound world worker Begin sound (λ run is. absurd cc) (λ t is. absurd cc)

pub draws-sound : (world : World) (worker : ℕ) (key : Key) → IsSound world → IsSound (worker_steps world worker (Drew key) None)
draws-sound world worker key sound = plain-sound world worker (Drew key) sound (λ run is. absurd cc) (λ t is. absurd cc)

pub loses-sound : (world : World) (worker status : ℕ) → IsSound world → IsSound (worker_steps world worker (Lost status) None)
loses-sound world worker status sound =
    plain-sound world worker (Lost status) sound (λ run is. absurd cc) (λ t is. absurd cc)

-- Answers.

-- that the farm is closed tells no lease, and nothing that a runner said
closed-unleased : (last : Option Action) (run : ℕ) → Some (closed_event last) ≡ Some (Leased run) → ⊥
closed-unleased None run is = absurd cc
closed-unleased (Some Draw) run is = absurd cc
closed-unleased (Some (AskLease key)) run is = absurd cc
closed-unleased (Some (RunTest other)) run is = absurd cc
closed-unleased (Some (SendReport other t)) run is = absurd cc
closed-unleased (Some (Stop end)) run is = absurd cc

closed-untested : (last : Option Action) (t : Tested) → Some (closed_event last) ≡ Some (Ran t) → ⊥
closed-untested None t is = absurd cc
closed-untested (Some Draw) t is = absurd cc
closed-untested (Some (AskLease key)) t is = absurd cc
closed-untested (Some (RunTest run)) t is = absurd cc
closed-untested (Some (SendReport run other)) t is = absurd cc
closed-untested (Some (Stop end)) t is = absurd cc

-- what an answer tells of a lease comes with the lease
tells-lease : (last : Option Action) (said : Said) (run : ℕ) → event_of last said ≡ Some (Leased run) →
    (a : LeaseAnswer) × (lease_in_answer said ≡ Some a) × (a.run ≡ run)
tells-lease last (replied (reply.Leased n search stage position commit test deadline)) run is =
    let same : n ≡ run = cc in (record { run = n; test = test; commit = commit }, refl, same)
tells-lease last (replied (reply.Reported n search verdict _ standing)) run is = absurd cc
tells-lease last (replied (reply.Skipped n search _ standing)) run is = absurd cc
tells-lease last (replied (reply.Opened search budget standing)) run is = absurd (none-some _ is)
tells-lease last (replied (reply.Cancelled search)) run is = absurd (none-some _ is)
tells-lease last (replied (reply.Ordered order commit search day)) run is = absurd (none-some _ is)
tells-lease last (replied (reply.Search page)) run is = absurd (none-some _ is)
tells-lease last (replied (reply.Farm totals)) run is = absurd (none-some _ is)
tells-lease last (replied (reply.Orders page)) run is = absurd (none-some _ is)
tells-lease last (replied (reply.Runs page)) run is = absurd (none-some _ is)
tells-lease last (replied (reply.Searches page)) run is = absurd (none-some _ is)
tells-lease last (refused NoRun) run is = absurd cc
tells-lease last (refused Closed) run is = absurd (closed-unleased last run is)
tells-lease last (refused _) run is = absurd (none-some _ is)

-- no answer tells what a runner said
tells-none : (last : Option Action) (said : Said) (t : Tested) → event_of last said ≡ Some (Ran t) → ⊥
tells-none last (replied (reply.Leased n search stage position commit test deadline)) t is = absurd cc
tells-none last (replied (reply.Reported n search verdict _ standing)) t is = absurd cc
tells-none last (replied (reply.Skipped n search _ standing)) t is = absurd cc
tells-none last (replied (reply.Opened search budget standing)) t is = none-some _ is
tells-none last (replied (reply.Cancelled search)) t is = none-some _ is
tells-none last (replied (reply.Ordered order commit search day)) t is = none-some _ is
tells-none last (replied (reply.Search page)) t is = none-some _ is
tells-none last (replied (reply.Farm totals)) t is = none-some _ is
tells-none last (replied (reply.Orders page)) t is = none-some _ is
tells-none last (replied (reply.Runs page)) t is = none-some _ is
tells-none last (replied (reply.Searches page)) t is = none-some _ is
tells-none last (refused NoRun) t is = absurd cc
tells-none last (refused Closed) t is = closed-untested last t is
tells-none last (refused _) t is = none-some _ is

hears-sound : (world : World) (worker : ℕ) (last : Option Action) (said : Said) → IsSound world →
    IsTruthful world.history said → (o : Option Event) → event_of last said ≡ o → IsSound (hears world worker said o)
hears-sound world worker last said sound so None tells = sound
hears-sound world worker last said sound so (Some event) tells =
    step-sound world worker event (lease_in_answer said) sound (slice_get world.workers worker) refl
    (λ w there. record {
      so = so;
      leased = λ run is. tells-lease last said run (tells ∙ ap (λ (x : Event). Some x) is);
      ran = λ run t running is. absurd (tells-none last said t (tells ∙ ap (λ (x : Event). Some x) is));
    })

either-sound : (b : Bool) (one other : World) → IsSound one → IsSound other → IsSound (if b then one else other)
either-sound true one other first second = first
either-sound false one other first second = second

gets-at : (world : World) (worker place : ℕ) → IsSound world → (o : Option SentAnswer)
    → slice_get world.answers place ≡ o →
    IsSound (gets world worker o)
gets-at world worker place sound None there = sound
gets-at world worker place sound (Some answer) there =
    let so = got (λ (a : SentAnswer). IsTruthful world.history a.said) world.answers place answer
    sound.answered there in
    let event = event_of (last_of world worker) answer.said in
    either-sound (answer.to == worker) (hears world worker answer.said event) world
    (hears-sound world worker (last_of world worker) answer.said sound so event refl) sound

pub gets-sound : (world : World) (worker place : ℕ) → IsSound world → IsSound (gets world worker (slice_get world.answers place))
gets-sound world worker place sound = gets-at world worker place sound (slice_get world.answers place) refl

-- Runners.

-- what a runner says of the run of a lease
made-given : (H : List Entry) (made : List Made) (a : LeaseAnswer) (t : Tested) → IsTrueLease H a →
    IsGiven H (made ++ record { test = a.test; commit = a.commit; tested = t } ∷ []) a.run t
made-given H made a t is =
    let said : Made = record { test = a.test; commit = a.commit; tested = t } in
    let wanted : Made = record { test = is.search.test; commit = commit_of is.search is.lease.position; tested = t } in
    let same : said ≡ wanted = λ i. record { test = is.test i; commit = is.commit i; tested = t } in
    record {
      lease = is.lease;
      leased = is.leased;
      search = is.search;
      opened = is.opened;
      given = Contains-append_right made (said ∷ []) wanted (contains-head [] said wanted same);
    }

runs-at : (world : World) (worker : ℕ) (t : Tested) (w : Worker) → slice_get world.workers worker ≡ Some w →
    IsSound world →
    (last : Option Action) (lease : Option LeaseAnswer) → w.core.last ≡ last → w.lease ≡ lease →
    IsSound (runs_test world worker t last lease)
runs-at world worker t w there sound (Some (RunTest run)) (Some a) last lease =
    let H = world.history in
    let more : List Made = record { test = a.test; commit = a.commit; tested = t } ∷ [] in
    let wider : World = record {
      history = H;
      workers = world.workers;
      requests = world.requests;
      answers = world.answers;
      made = world.made ++ more;
    } in
    let honest = got (λ (x : Worker). IsHonest H world.made x) world.workers worker w sound.staffed there in
    let has = honest.runs run last in
    let same : a ≡ has.0 = same_Some a has.0 (sym lease ∙ has.1) in
    let of_run : a.run ≡ run = ap (λ (x : LeaseAnswer). x.run) same ∙ has.2 in
    let given = made-given H world.made a t (honest.lease a lease) in
    step-sound wider worker (Ran t) None (made-more world more sound) (slice_get world.workers worker) refl
    (λ x is. record {
      so = λ b none. absurd (none-some b none);
      leased = λ other no. absurd cc;
      ran = λ other u last_is told_is.
          let workers : w ≡ x = same_Some w x (sym there ∙ is) in
          let lasts : Some (RunTest run) ≡ Some (RunTest other) =
          sym last ∙ ap (λ (y : Worker). y.core.last) workers ∙ last_is in
          let runs : run ≡ other = cc in
          let tests : t ≡ u = cc in
          subst (λ (n : ℕ). IsGiven H (world.made ++ more) n u) (of_run ∙ runs)
          (subst (λ (y : Tested). IsGiven H (world.made ++ more) a.run y) tests given);
    })
runs-at world worker t w there sound last lease last_is lease_is = sound

says-at : (world : World) (worker : ℕ) (t : Tested) → IsSound world → (o : Option Worker) →
    slice_get world.workers worker ≡ o →
    IsSound (runner_says world worker t o)
says-at world worker t sound None there = sound
says-at world worker t sound (Some w) there = runs-at world worker t w there sound w.core.last w.lease refl refl

pub says-sound : (world : World) (worker : ℕ) (t : Tested) → IsSound world →
    IsSound (runner_says world worker t (slice_get world.workers worker))
says-sound world worker t sound = says-at world worker t sound (slice_get world.workers worker) refl

-- Starting anew.

pub fresh-honest : (H : List Entry) (made : List Made) (name : List ℕ) (runs : ℕ) → IsHonest H made (fresh name runs)
fresh-honest H made name runs = record {
  lease = λ a is. absurd (none-some a is);
  runs = λ run is. absurd (none-some _ is);
  reports = λ run t is. absurd (none-some _ is);
}

restarts-at : (world : World) (worker runs : ℕ) → IsSound world → (o : Option Worker) → IsSound (restarts world worker runs o)
restarts-at world worker runs sound None = sound
restarts-at world worker runs sound (Some w) = record {
  legal = sound.legal;
  reported = sound.reported;
  said = sound.said;
  requested = sound.requested;
  answered = sound.answered;
  staffed = All-set (λ (x : Worker). IsHonest world.history world.made x) world.workers worker (fresh w.name runs)
      (fresh-honest world.history world.made w.name runs) sound.staffed;
}

pub restarts-sound : (world : World) (worker runs : ℕ) → IsSound world →
    IsSound (restarts world worker runs (slice_get world.workers worker))
restarts-sound world worker runs sound = restarts-at world worker runs sound (slice_get world.workers worker)
