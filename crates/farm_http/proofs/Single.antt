-- One request at the front of the bytes held, answered by itself.
use Rattle.std.proofs.Common.{ℕ, ◌≡◌, ◌≢◌, ◌≤◌, ◌<◌, ◌⊎◌, inl, None, Bool, true, false, List, [], ◌∷◌, ◌++◌, length, Option, Result, Ok, Err, refl, sym, ap, ◌∙◌, subst, arith, append-nil}
use Rattle.std.specs.Io.KnownBytes.{append_known}
use Rattle.connection_laws.specs.Answers.{Response, interim_of, no_memory, response_of, response_to}
use Rattle.connection_laws.specs.Kinds.{commands, kind_by, kind_of}
use Rattle.connection_laws.specs.Outcomes.{ItemOutcome, Step, counted, faulted, misread, unread}
use Rattle.connection_laws.specs.Progress.{Progress, IsWithin, progress_past, recorded_place}
use Rattle.connection_laws.specs.Steps.{IsStep}
use Rattle.connection_laws.specs.declared.served.ServeFault.{ServeFault}
use Rattle.farm_entry.specs.Legal.{IsLegal}
use Rattle.farm_entry.specs.declared.command.Command.{Command}
use Rattle.farm_entry.specs.declared.entry.Entry.{Entry}
use Rattle.connection_laws.specs.Moments.{Given}
use Rattle.farm_wire.specs.Reading.{body_reading}
use Rattle.farm_wire.specs.declared.fault.WireFault.{WireFault}
use Rattle.farm_wire.specs.declared.fault.WireFault.TheVariants as wire
use Rattle.http_requests.proofs.ItemLaws.{next-unique, open-some}
use Rattle.http_requests.specs.Items.{Item}
use Rattle.http_requests.specs.Next.{IsNextFor, item_in}
use Rattle.http_requests.specs.declared.request.Request.{Request}
use Rattle.http_words.specs.declared.endpoint.Endpoint.{Endpoint}
use Rattle.http_words.specs.declared.endpoint.Endpoint.TheVariants as endpoint
use Rattle.http_words.specs.declared.fault.Fault.{Fault}
use Rattle.http_words.specs.declared.route.Route.{Route}
use Rattle.common_types.specs.Prefix.{IsPrefix}
use Rattle.common_types.proofs.Prefixes.{IsPrefix-equal, IsPrefix-refl}
use Rattle.turn_lock.specs.Known.{Known}
use Rattle.farm_http.specs.Batches.{BatchState, IsBatch, all_answered}
use Rattle.farm_http.specs.Bytes.{PutSays, request_bytes}
use Rattle.connection_laws.specs.Owners.{holding_of}
use Rattle.connection_laws.proofs.Owners.{HoldsMore-nothing}
use Rattle.farm_http.specs.Callers.{CallerState, IsAfter, mark_of}
use Rattle.farm_http.specs.Fronts.{FrontSays, Halves}
use Rattle.farm_http.specs.Noting.{AreQuiet, TookNote}
use Rattle.connection_laws.specs.Told.{told_history}
use Rattle.farm_http.specs.declared.front.Answered.{Answered}
use Rattle.farm_http.proofs.BatchSteps.{front-says, front-stands, items-put}
use Rattle.farm_http.proofs.Gathering.{front-one, next-here}

-- a request that doesn't close takes a byte or more
pub next-bytes : (complete : Bool) (held : List ℕ) (request : Request) → IsNextFor complete held request
    → request.closes ≡ false
    → 0 < request.size
next-bytes complete held request n open_ = open-some held (item_in held request) (next-here complete held request n)
    open_

-- what answering it comes to
abbrev pub one_answered : Request → Answered
one_answered request = record { requests = 1; size = request.size; closes = request.closes }

-- The request came to a step, and its answer was put, or a part of it.
pub front-single : (gives : Given → Type 0) (c : Progress) (complete : Bool) (held : List ℕ) (out : Bool)
    (link : Halves) (old new : CallerState) (request : Request) (step : Step) (r : Response)
    → IsNextFor complete held request → out ≡ request.interim → IsStep gives c (item_in held request) step
    → IsAfter c (step ∷ []) old new → response_of step ≡ r
    → AreQuiet (step ∷ []) ⊎ TookNote link.aside link.later link.before new.pass → (result : Result Answered ServeFault)
    → ((d : Answered) → result ≡ Ok d → d ≡ one_answered request)
    → PutSays (request_bytes request r) link.before link.now result
    → FrontSays gives c complete held out link old new result
front-single gives c complete held out link old new request step r n shown is_step after said noted result same put =
    let item = item_in held request in
    let b : BatchState = record { asks = []; requests = []; size = request.size; closes = request.closes } in
    let whole = items-put item [] (request ∷ []) step [] (r ∷ [])
    (record { interim = refl; withheld = refl; closes = refl }, tt) tt
    (said, tt) in
    front-says gives c complete held out link old new (one_answered request) (item ∷ []) (step ∷ [])
    (request_bytes request r)
    (omega arith) (front-one complete held request b n (next-bytes complete held request n) refl refl) refl
    (is_step, tt) after (ap (λ (x : Bool). interim_of x ++ request_bytes request r) shown
    ∙ ap (λ (l : List ℕ). interim_of request.interim ++ l) (sym (append-nil (request_bytes request r))) ∙ whole)
    (shown, noted) result same put

-- what is carried is within what a reader has seen that has seen just the last totals
pub within-own : (c : Progress) (pass : Known) (read : List Entry) → IsWithin c (mark_of pass read)
    → IsWithin c (mark_of pass c.totals)
within-own c pass read w = record { seen = w.seen; totals = IsPrefix-refl c.totals; faults = w.faults }

-- a step that changes nothing of what the pass knows
record IsStill (c : Progress) (o : ItemOutcome) (read : List Entry) : Type 0 where
  seen : (progress_past c o).seen ≡ c.seen
  faults : (progress_past c o).faults ≡ c.faults
  none : recorded_place o ≡ []
  counts : read ≡ (progress_past c o).totals

still-after : (c : Progress) (step : Step) (pass : Known) (was read : List Entry) → IsStill c step.outcome read
    → IsWithin c (mark_of pass was) → IsAfter c (step ∷ []) (record { pass = pass; reader = was })
    (record { pass = pass; reader = read })
still-after c step pass was read s w =
    let low = w.faults in let same = s.faults in record {
      within = record {
        seen = subst (λ (H : List Entry). IsPrefix H pass.seen) (sym s.seen) w.seen;
        totals = IsPrefix-equal (progress_past c step.outcome).totals read (sym s.counts);
        faults = subst (λ (n : ℕ). n ≤ pass.faults) (sym same) low;
      };
      holds = HoldsMore-nothing (step ∷ []) (holding_of pass) (holding_of pass)
          (ap (λ (l : List ℕ). l ++ []) s.none) refl;
      counted = s.counts;
    }

-- ---- the steps of single requests

module _ (gives : Given → Type 0) (c : Progress) (complete : Bool) (held : List ℕ) (out : Bool)
    (link : Halves)
    (pass : Known) (request : Request) (next : IsNextFor complete held request) (shown : out ≡ request.interim)
    (within : IsWithin c (mark_of pass c.totals)) where
  -- a step after which the pass is as before
  single-says : (read : List Entry) (step : Step) (r : Response) → IsStep gives c (item_in held request) step
      → IsStill c step.outcome read
      → response_of step ≡ r → told_history step.outcome ≡ None → (result : Result Answered ServeFault)
      → ((d : Answered) → result ≡ Ok d → d ≡ one_answered request)
      → PutSays (request_bytes request r) link.before link.now result
      → FrontSays gives c complete held out link (record { pass = pass; reader = c.totals })
      (record { pass = pass; reader = read }) result
  single-says read step r is_step still said quiet result same put =
      front-single gives c complete held out link (record { pass = pass; reader = c.totals })
      (record { pass = pass; reader = read })
      request step r next shown is_step (still-after c step pass c.totals read still within) said
      (inl (quiet, tt)) result same put

  -- a fault
  pub faulted-says : (f : Fault) → request.asks ≡ Err f → (result : Result Answered ServeFault)
      → ((d : Answered) → result ≡ Ok d → d ≡ one_answered request)
      → PutSays (request_bytes request (response_to (faulted f))) link.before link.now result
      → FrontSays gives c complete held out link (record { pass = pass; reader = c.totals })
      (record { pass = pass; reader = c.totals }) result
  faulted-says f asks result same put =
      single-says c.totals (record { outcome = faulted f; written = true }) (response_to (faulted f))
      (ap (λ (a : Result Endpoint Fault). kind_by a (item_in held request).body) asks, refl)
      (record { seen = refl; faults = refl; none = refl; counts = refl }) refl refl result same put

  -- the totals of a history that begins with the last one
  pub counted-says : (H : List Entry) (w : Bool) → request.asks ≡ Ok endpoint.Totals → IsPrefix c.totals H → IsLegal H
      → (result : Result Answered ServeFault) → ((d : Answered) → result ≡ Ok d → d ≡ one_answered request)
      → PutSays (request_bytes request (response_of (record { outcome = counted H; written = w })))
      link.before link.now result
      → FrontSays gives c complete held out link (record { pass = pass; reader = c.totals })
      (record { pass = pass; reader = H }) result
  counted-says H w asks begins legal result same put =
      single-says H (record { outcome = counted H; written = w })
      (response_of (record { outcome = counted H; written = w })) (
        record {
          asked = ap (λ (a : Result Endpoint Fault). kind_by a (item_in held request).body) asks;
          begins = begins;
          legal = legal;
        },
        tt,
      )
      (record { seen = refl; faults = refl; none = refl; counts = refl }) refl refl result same put

  command-kind : (route : Route) → request.asks ≡ Ok (endpoint.Command route)
      → kind_of (item_in held request) ≡ commands (body_reading route (item_in held request).body)
  command-kind route asks = ap (λ (a : Result Endpoint Fault). kind_by a (item_in held request).body) asks

  -- a body that is no command
  pub misread-says : (route : Route) (f : WireFault) (w : Bool) → request.asks ≡ Ok (endpoint.Command route)
      → body_reading route (item_in held request).body ≡ Err f → (result : Result Answered ServeFault)
      → ((d : Answered) → result ≡ Ok d → d ≡ one_answered request)
      → PutSays (request_bytes request (response_of (record { outcome = misread f; written = w })))
      link.before link.now result
      → FrontSays gives c complete held out link (record { pass = pass; reader = c.totals })
      (record { pass = pass; reader = c.totals }) result
  misread-says route f w asks is result same put =
      single-says c.totals (record { outcome = misread f; written = w })
      (response_of (record { outcome = misread f; written = w }))
      (command-kind route asks ∙ ap (λ (x : Result Command WireFault). commands x) is, tt)
      (record { seen = refl; faults = refl; none = refl; counts = refl }) refl refl result same put

  -- memory ran out before its command was known
  pub unread-says : (route : Route) → request.asks ≡ Ok (endpoint.Command route) → (result : Result Answered ServeFault)
      → ((d : Answered) → result ≡ Ok d → d ≡ one_answered request)
      → PutSays (request_bytes request no_memory) link.before link.now result
      → FrontSays gives c complete held out link (record { pass = pass; reader = c.totals })
      (record { pass = pass; reader = c.totals }) result
  unread-says route asks result same put =
      single-says c.totals (record { outcome = unread; written = true }) no_memory
      (record { reading = body_reading route (item_in held request).body; asked = command-kind route asks }, tt)
      (record { seen = refl; faults = refl; none = refl; counts = refl }) refl refl result same put

  -- the body of a command was not read: it is no command, or memory ran out for it
  pub unasked-says : (route : Route) (f : WireFault) → request.asks ≡ Ok (endpoint.Command route)
      → (f ≢ wire.Memory → body_reading route (item_in held request).body ≡ Err f)
      → (result : Result Answered ServeFault)
      → ((d : Answered) → result ≡ Ok d → d ≡ one_answered request)
      → (f ≢ wire.Memory → (w : Bool) × PutSays (request_bytes request
      (response_of (record { outcome = misread f; written = w }))) link.before link.now result)
      → (f ≡ wire.Memory → PutSays (request_bytes request no_memory) link.before link.now result)
      → FrontSays gives c complete held out link (record { pass = pass; reader = c.totals })
      (record { pass = pass; reader = c.totals }) result
  unasked-says route wire.Memory asks is result same misread_put unread_put = unread-says route asks result same
      (unread_put refl)
  unasked-says route wire.TooLong asks is result same misread_put unread_put =
      let p = misread_put (λ e. cc) in misread-says route wire.TooLong p.0 asks (is (λ e. cc)) result same p.1
  unasked-says route wire.BadJson asks is result same misread_put unread_put =
      let p = misread_put (λ e. cc) in misread-says route wire.BadJson p.0 asks (is (λ e. cc)) result same p.1
  unasked-says route (wire.BadField field) asks is result same misread_put unread_put =
      let p = misread_put (λ e. cc) in misread-says route (wire.BadField field) p.0 asks (is (λ e. cc)) result same p.1

-- ---- results

-- a fault, after which a part was put
pub put-as_err : (bytes : List ℕ) (before now : Option (List ℕ)) (result : Result Answered ServeFault) (f : ServeFault)
    → result ≡ Err f → (part : List ℕ) × IsPrefix part bytes × (now ≡ append_known before part)
    → PutSays bytes before now result
put-as_err bytes before now result f is put =
    subst (λ (r : Result Answered ServeFault). PutSays bytes before now r) (sym is) put

pub no-answer : (done : Answered) (result : Result Answered ServeFault) (f : ServeFault) → result ≡ Err f
    → (d : Answered) → result ≡ Ok d → d ≡ done
no-answer done result f is d was = let bad : ⊥ = cc in absurd bad

-- an answer
pub ok-answer : (done e : Answered) → e ≡ done → (d : Answered) → ◌≡◌ {A = Result Answered ServeFault} (Ok e) (Ok d)
    → d ≡ done
ok-answer done e is d was = let first : d ≡ e = cc in first ∙ is

-- what one request's answer comes to
pub answered-one : (d : Answered) (request : Request) → d.requests ≡ 1 → d.size ≡ request.size
    → d.closes ≡ request.closes
    → d ≡ one_answered request
answered-one d request a b e = λ i. record { requests = a i; size = b i; closes = e i }

pub answered-all : (d : Answered) (b : BatchState) → d.requests ≡ length b.asks → d.size ≡ b.size → d.closes ≡ b.closes
    → d ≡ all_answered b
answered-all d b n s e = λ i. record { requests = n i; size = s i; closes = e i }

-- the first item of a batch is the request at the front
pub batch-shown : (gives : Given → Type 0) (complete : Bool) (held : List ℕ) (b : BatchState) (request : Request)
    (is : IsBatch gives complete held b) → IsNextFor complete held request → request.interim ≡ is.first.interim
batch-shown gives complete held b request is n =
    ap (λ (i : Item). i.interim)
    (next-unique held (item_in held request) is.first (next-here complete held request n)
    (front-stands complete held (is.first ∷ is.others) (all_answered b) is.front).0)

pub read-both : (gives : Given → Type 0) (c : Progress) (complete : Bool) (held : List ℕ) (out : Bool)
    (link : Halves)
    (old new : Known) (was : List Entry) (result : Result Answered ServeFault) → was ≡ c.totals
    → FrontSays gives c complete held out link (record { pass = old; reader = c.totals })
    (record { pass = new; reader = c.totals }) result
    → FrontSays gives c complete held out link (record { pass = old; reader = was })
    (record { pass = new; reader = was }) result
read-both gives c complete held out link old new was result same f =
    subst (λ (H : List Entry). FrontSays gives c complete held out link (record { pass = old; reader = H })
    (record { pass = new; reader = H }) result) (sym same) f
