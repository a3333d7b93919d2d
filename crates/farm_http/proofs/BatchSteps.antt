-- What a batch's turn gives its items, and what was put for them.
use Rattle.std.proofs.Common.{ℕ, ◌≡◌, ◌≤◌, inl, inr, Bool, true, false, List, [], ◌∷◌, ◌++◌, length, map, Option, Result, Ok, Err, refl, sym, ap, ◌∙◌, subst, arith, append-nil, append_assoc, decimal, suc}
use Rattle.std.specs.Prelude.{⊤}
use Rattle.connection_laws.specs.Answers.{Response, interim_of, item_bytes, no_memory, response_bytes, response_of, store_fault, transcript}
use Rattle.connection_laws.specs.Batches.{AreAnsweredBy, AreAsked, AreAtOnce, failed_steps, uncalled_steps}
use Rattle.http_requests.specs.Fronts.{Fronts}
use Rattle.connection_laws.specs.Outcomes.{answered, failed_too, uncalled, Step}
use Rattle.connection_laws.specs.Progress.{Progress, IsWithin, decision_on, progress_after}
use Rattle.connection_laws.specs.Steps.{AreSteps}
use Rattle.connection_laws.specs.declared.served.ServeFault.{ServeFault}
use Rattle.connection_laws.proofs.Batches.{answered-steps, answered-progress_after, failed-steps, failed-progress_after, failed-places, uncalled-steps, uncalled-progress_after, uncalled-places}
use Rattle.http_requests.proofs.FrontLaws.{opens-fronts}
use Rattle.connection_laws.proofs.Transcripts.{all-fronts}
use Rattle.farm_entry.specs.Playing.{after}
use Rattle.farm_entry.specs.declared.entry.Entry.{Entry}
use Rattle.farm_store.specs.Answering.{AreAnswers}
use Rattle.farm_entry.specs.declared.answer.Answer.{Answer}
use Rattle.farm_store.specs.declared.asking.Ask.{Ask}
use Rattle.farm_store.specs.declared.asking.CallFault.{CallFault}
use Rattle.farm_store.specs.declared.asking.CallFault.TheVariants as fault
use Rattle.connection_laws.specs.Moments.{Given, at_count}
use Rattle.http_answers.specs.Answers.{allow_line, body_put, close_line, status_line}
use Rattle.http_answers.specs.Pieces.{parts_joined}
use Rattle.http_requests.specs.Items.{Item, Items, closed}
use Rattle.http_requests.specs.declared.request.Request.{Request}
use Rattle.common_types.specs.Prefix.{IsPrefix}
use Rattle.common_types.proofs.Prefixes.{IsPrefix-equal, IsPrefix-refl}
use Rattle.shared_farm.specs.Turns.{IsTurn}
use Rattle.turn_lock.specs.Known.{Known}
use Rattle.farm_http.specs.Batches.{ArePutAs, BatchState, IsBatch, IsPutAs, all_answered}
use Rattle.farm_http.specs.Bytes.{PutSays, farm_responses, request_bytes, requests_bytes}
use Rattle.connection_laws.specs.Owners.{holding_of}
use Rattle.connection_laws.proofs.Owners.{HoldsMore-nothing}
use Rattle.turn_lock.specs.Known.{left_by}
use Rattle.turn_lock.specs.declared.view.Stake.{Stake}
use Rattle.farm_http.specs.Callers.{CallerState, IsAfter, mark_of}
use Rattle.farm_http.specs.Fronts.{AreAnswered, AreFront, FrontSays, Halves}
use Rattle.farm_http.specs.Noting.{ArePreceded, TookNote}
use Rattle.farm_http.specs.Turns.{IsBatchPut, TurnPut}
use Rattle.farm_http.specs.declared.front.Answered.{Answered}
use Rattle.farm_http.proofs.Turns.{IsAnsweredTurn, IsFailedTurn, IsUnansweredTurn, turn-answered, turn-failed, turn-uncalled}

-- ---- bytes

-- the answer to a request is the one to its item
pub item-request : (item : Item) (request : Request) (step : Step) (r : Response) → IsPutAs item request
    → response_of step ≡ r
    → response_bytes item (response_of step) ≡ request_bytes request r
unfolding response_bytes request_bytes
item-request item request step r p is i =
    parts_joined (status_line (is i).status) (decimal (length (is i).body)) (allow_line (is i).allow)
    (close_line (p.closes i)) (body_put (p.withheld i) (is i).body)

-- each step is answered so
abbrev pub SayEach : List Step → List Response → Type 0
SayEach [] [] = ⊤
SayEach (step ∷ steps) (r ∷ responses) = (response_of step ≡ r) × SayEach steps responses
SayEach _ _ = ⊥

-- what is put for an item without an interim answer is its answer
at_once-bytes : (item : Item) (step : Step) (b : Bool) → item.interim ≡ b
    → item_bytes item step ≡ interim_of b ++ response_bytes item (response_of step)
unfolding item_bytes
at_once-bytes item step b is = ap (λ (x : Bool). interim_of x ++ response_bytes item (response_of step)) is

-- items without interim answers are put as their requests
pub others-put : (items : List Item) (requests : List Request) (steps : List Step) (responses : List Response)
    → ArePutAs items requests → AreAtOnce items → SayEach steps responses
    → requests_bytes requests responses ≡ transcript items steps
others-put [] [] steps responses p o x = refl
others-put [] (request ∷ requests) steps responses p o x = absurd p
others-put (item ∷ items) [] steps responses p o x = absurd p
others-put (item ∷ items) (request ∷ requests) [] [] p o x = refl
others-put (item ∷ items) (request ∷ requests) [] (r ∷ responses) p o x = absurd x
others-put (item ∷ items) (request ∷ requests) (step ∷ steps) [] p o x = absurd x
others-put (item ∷ items) (request ∷ requests) (step ∷ steps) (r ∷ responses) p o x =
    let rest = others-put items requests steps responses p.1 o.1 x.1 in
    let first = at_once-bytes item step false o.0 ∙ item-request item request step r p.0 x.0 in
    ap (λ (l : List ℕ). l ++ requests_bytes requests responses) (sym first)
    ∙ ap (λ (l : List ℕ). item_bytes item step ++ l) rest

-- items of which the first may have an interim answer
pub items-put : (item : Item) (items : List Item) (requests : List Request) (step : Step) (steps : List Step)
    (responses : List Response) → ArePutAs (item ∷ items) requests → AreAtOnce items → SayEach (step ∷ steps) responses
    → interim_of item.interim ++ requests_bytes requests responses ≡ transcript (item ∷ items) (step ∷ steps)
items-put item items [] step steps responses p o x = absurd p
items-put item items (request ∷ requests) step steps [] p o x = absurd x
items-put item items (request ∷ requests) step steps (r ∷ responses) p o x =
    let rest = others-put items requests steps responses p.1 o x.1 in
    let first = item-request item request step r p.0 x.0 in
    sym (append_assoc (interim_of item.interim) (request_bytes request r) (requests_bytes requests responses))
    ∙ ap (λ (l : List ℕ). (interim_of item.interim ++ l) ++ requests_bytes requests responses) (sym first)
    ∙ ap (λ (l : List ℕ). l ++ requests_bytes requests responses) (sym (at_once-bytes item step item.interim refl))
    ∙ ap (λ (l : List ℕ). item_bytes item step ++ l) rest

-- answered: each item came to the farm's answer, and its text was written or not
abbrev pub answered_steps : List Entry → List Ask → List Answer → List Bool → List Step
answered_steps H [] answers ws = []
answered_steps H (ask ∷ asks) [] ws = []
answered_steps H (ask ∷ asks) (a ∷ answers) [] = []
answered_steps H (ask ∷ asks) (a ∷ answers) (w ∷ ws) =
    record { outcome = answered H ask a; written = w } ∷ answered_steps (after H (decision_on H ask)) asks answers ws

pub answered-by : (H : List Entry) (asks : List Ask) (answers : List Answer) (ws : List Bool)
    → AreAnswers H asks answers
    → length ws ≡ length answers → AreAnsweredBy H asks answers (answered_steps H asks answers ws)
answered-by H [] [] ws x same = tt
answered-by H [] (a ∷ answers) ws x same = absurd x
answered-by H (ask ∷ asks) [] ws x same = absurd x
answered-by H (ask ∷ asks) (a ∷ answers) [] x same = absurd (omega arith)
answered-by H (ask ∷ asks) (a ∷ answers) (w ∷ ws) x same =
    (refl, answered-by (after H (decision_on H ask)) asks answers ws x.1 (omega arith))

answered-say : (H : List Entry) (asks : List Ask) (answers : List Answer) (ws : List Bool) → AreAnswers H asks answers
    → length ws ≡ length answers → SayEach (answered_steps H asks answers ws) (farm_responses answers ws)
answered-say H [] [] ws x same = tt
answered-say H [] (a ∷ answers) ws x same = absurd x
answered-say H (ask ∷ asks) [] ws x same = absurd x
answered-say H (ask ∷ asks) (a ∷ answers) [] x same = absurd (omega arith)
answered-say H (ask ∷ asks) (a ∷ answers) (w ∷ ws) x same =
    (refl, answered-say (after H (decision_on H ask)) asks answers ws x.1 (omega arith))

-- all were answered alike
alike-say : (requests : List Request) (asks : List Ask) (make : Ask → Step) (r : Response)
    → ((ask : Ask) → response_of (make ask) ≡ r) → length requests ≡ length asks
    → SayEach (map make asks) (map (λ (request : Request). r) requests)
alike-say [] [] make r is same = tt
alike-say [] (ask ∷ asks) make r is same = absurd (omega arith)
alike-say (request ∷ requests) [] make r is same = absurd (omega arith)
alike-say (request ∷ requests) (ask ∷ asks) make r is same = (is ask, alike-say requests asks make r is (omega arith))

failed-say : (requests : List Request) (H : List Entry) (asks : List Ask) (first last : ℕ)
    → length requests ≡ length asks
    → SayEach (failed_steps H asks first last) (map (λ (request : Request). store_fault) requests)
failed-say [] H [] first last same = tt
failed-say [] H (ask ∷ asks) first last same = absurd (omega arith)
failed-say (request ∷ requests) H [] first last same = absurd (omega arith)
failed-say (request ∷ requests) H (ask ∷ asks) first last same = (
  refl,
  alike-say requests asks (λ (more : Ask). record { outcome = failed_too more; written = true }) store_fault
      (λ more. refl) (omega arith),
)

-- all of a batch's steps together: there is one for the first item
steps-put : (gives : Given → Type 0) (c : Progress) (out : Bool) (item : Item) (items : List Item)
    (requests : List Request)
    (steps : List Step) (responses : List Response) → out ≡ item.interim → AreSteps gives c (item ∷ items) steps
    → ArePutAs (item ∷ items) requests → AreAtOnce items → SayEach steps responses
    → interim_of out ++ requests_bytes requests responses ≡ transcript (item ∷ items) steps
steps-put gives c out item items requests [] responses same g p o x = absurd g
steps-put gives c out item items requests (step ∷ steps) responses same g p o x =
    ap (λ (b : Bool). interim_of b ++ requests_bytes requests responses) same
    ∙ items-put item items requests step steps responses p o x

put_as-length : (items : List Item) (requests : List Request) → ArePutAs items requests → length requests ≡ length items
put_as-length [] [] p = refl
put_as-length [] (request ∷ requests) p = absurd p
put_as-length (item ∷ items) [] p = absurd p
put_as-length (item ∷ items) (request ∷ requests) p = ap (λ (n : ℕ). suc n) (put_as-length items requests p.1)

-- ---- items

pub front-stands : (complete : Bool) (held : List ℕ) (items : List Item) (done : Answered)
    → AreFront complete held items done
    → Fronts held items
front-stands complete held items done f = front_by done.closes refl
  where
    front_by : (b : Bool) → done.closes ≡ b → Fronts held items
    front_by true is =
        all-fronts held items closed (subst (λ (l : List ℕ). Items l items closed) (append-nil held)
        (f.0 is [] (λ e. refl)))
    front_by false is = opens-fronts held items (f.1 is).open_

-- what was put for items at the front, by the steps that they came to
pub front-says : (gives : Given → Type 0) (c : Progress) (complete : Bool) (held : List ℕ) (out : Bool)
    (link : Halves) (old new : CallerState) (done : Answered) (items : List Item) (steps : List Step)
    (bytes : List ℕ)
    → 1 ≤ length items → AreFront complete held items done → done.requests ≡ length items → AreSteps gives c items steps
    → IsAfter c steps old new → interim_of out ++ bytes ≡ transcript items steps
    → ArePreceded out items steps link.aside link.later link.before new.pass → (result : Result Answered ServeFault)
    → ((d : Answered) → result ≡ Ok d → d ≡ done) → PutSays bytes link.before link.now result
    → FrontSays gives c complete held out link old new result
front-says gives c complete held out link old new done items steps bytes some front count steps_are after is noted
    (Ok d) same put =
    let d_is = same d refl in
    record {
      put = bytes;
      puts = put;
      says = subst (λ (x : Answered). AreAnswered gives c complete held out bytes link old new x) (sym d_is) (record {
        items = items;
        steps = steps;
        some = some;
        front = front;
        are_steps = steps_are;
        after = after;
        put_is = is;
        requests = count;
        noted = noted;
      });
    }
front-says gives c complete held out link old new done items steps bytes some front count steps_are after is noted
    (Err f) same put =
    record {
      put = put.0;
      puts = put.2;
      says = record {
        items = items;
        steps = steps;
        front = front-stands complete held items done front;
        are_steps = steps_are;
        after = after;
        begins =
            subst (λ (l : List ℕ). IsPrefix (interim_of out ++ put.0) l) is
            (IsPrefix-behind (interim_of out) put.0 bytes put.1);
        noted = inl noted;
      };
    }
  where
    IsPrefix-behind : (first part all : List ℕ) → IsPrefix part all → IsPrefix (first ++ part) (first ++ all)
    IsPrefix-behind first part all p =
        (p.0, ap (λ (l : List ℕ). first ++ l) p.1 ∙ sym (append_assoc first part p.0))

asked-length : (gives : Given → Type 0) (items : List Item) (asks : List Ask) → AreAsked gives items asks
    → length asks ≡ length items
asked-length gives [] [] q = refl
asked-length gives [] (ask ∷ asks) q = absurd q
asked-length gives (item ∷ items) [] q = absurd q
asked-length gives (item ∷ items) (ask ∷ asks) q = ap (λ (n : ℕ). suc n) (asked-length gives items asks q.1)

-- ---- what is known after the batch

-- a pass with the same places and the same stake holds the same
pub same-holding : (old new : Known) → new.mine ≡ old.mine → new.stake ≡ old.stake → holding_of new ≡ holding_of old
same-holding old new mine stake =
    ap (λ (l : List ℕ). record {
      parts = new.stake.parts;
      lending = new.stake.lending;
      owned = record { places = l; undecided = new.stake.undecided };
    }) mine
    ∙ ap (λ (s : Stake). record {
      parts = s.parts;
      lending = s.lending;
      owned = record { places = old.mine; undecided = s.undecided };
    }) stake

failed-after : (gives : Given → Type 0) (c : Progress) (first last : ℕ) (old new : Known) (item : Item)
    (others : List Item) (asks : List Ask) → AreAsked gives (item ∷ others) asks → IsFailedTurn c first last old new
    → IsAfter c (failed_steps new.seen asks first last) (record { pass = old; reader = c.totals })
    (record { pass = new; reader = c.totals })
failed-after gives c first last old new item others [] q a = absurd q
failed-after gives c first last old new item others (ask ∷ asks) q a =
    let steps = failed_steps new.seen (ask ∷ asks) first last in
    let carried = failed-progress_after c new.seen first last ask asks in
    let count : (progress_after c steps).faults ≡ new.faults = carried.2 ∙ sym a.last in
    record {
      within = record {
        seen = subst (λ (H : List Entry). IsPrefix H new.seen) (sym carried.0) (IsPrefix-refl new.seen);
        totals = IsPrefix-equal (progress_after c steps).totals c.totals carried.1;
        faults = omega arith;
      };
      holds = record {
        parts = ap (λ (s : Stake). s.parts) a.unanswered.stake;
        lending = ap (λ (s : Stake). s.lending) a.unanswered.stake;
        places =
            a.unanswered.mine ∙ sym (append-nil old.mine)
            ∙ ap (λ (l : List ℕ). old.mine ++ l) (sym (failed-places new.seen first last (ask ∷ asks)));
        newer = left_by true new.seen a.unanswered.pending;
        undecided = ap (λ (s : Stake). s.undecided) a.unanswered.stake;
        left = (inl (refl, a.unanswered.fit), tt);
      };
      counted = sym carried.1;
    }

uncalled-after : (c : Progress) (old new : Known) (asks : List Ask) → IsUnansweredTurn c false old new
    → c.faults ≤ new.faults
    → IsAfter c (uncalled_steps new.seen asks) (record { pass = old; reader = c.totals })
    (record { pass = new; reader = c.totals })
uncalled-after c old new asks a le =
    let steps = uncalled_steps new.seen asks in
    let carried = uncalled-progress_after c new.seen asks a.begins in
    let count : (progress_after c steps).faults ≡ c.faults = carried.2 in
    record {
      within = record {
        seen = carried.0;
        totals = IsPrefix-equal (progress_after c steps).totals c.totals carried.1;
        faults = omega arith;
      };
      holds = HoldsMore-nothing steps (holding_of old) (holding_of new) (uncalled-places new.seen asks)
          (same-holding old new a.mine a.stake);
      counted = sym carried.1;
    }

answered-after : (c : Progress) (old new : Known) (asks : List Ask) (answers : List Answer) (steps : List Step)
    (a : IsAnsweredTurn c asks answers old new) → AreAnsweredBy a.at asks answers steps → c.faults ≤ new.faults
    → IsAfter c steps (record { pass = old; reader = c.totals }) (record { pass = new; reader = c.totals })
answered-after c old new asks answers steps a by le =
    let carried = answered-progress_after c a.at asks answers steps a.begins by in
    let count : (progress_after c steps).faults ≡ c.faults = carried.2 in
    record {
      within = record {
        seen = subst (λ (H : List Entry). IsPrefix (progress_after c steps).seen H) (sym a.seen) carried.0;
        totals = IsPrefix-equal (progress_after c steps).totals c.totals carried.1;
        faults = omega arith;
      };
      holds = record {
        parts = ap (λ (s : Stake). s.parts) a.stake;
        lending = ap (λ (s : Stake). s.lending) a.stake;
        places = a.places steps by;
        newer = [];
        undecided = ap (λ (s : Stake). s.undecided) a.stake;
        left = tt;
      };
      counted = sym carried.1;
    }

module _ {D : Type 0} (count : D → ℕ) (gives : Given → Type 0) (c : Progress) (complete : Bool) (held : List ℕ)
    (out : Bool) (link : Halves) (old new : Known) (b : BatchState)
    (counts : (disk : D) → gives (at_count (count disk)))
    (took : TookNote link.aside link.later link.before new) where
  by_turn : (is : IsBatch gives complete held b) → out ≡ is.first.interim → IsWithin c (mark_of old c.totals)
      → old.faults ≤ new.faults
      → (result : Result Answered ServeFault) → ((d : Answered) → result ≡ Ok d → d ≡ all_answered b)
      → (turn : Result (List Answer) CallFault) → IsTurn count b.asks turn old new
      → TurnPut turn b.requests link.before link.now result
      → FrontSays gives c complete held out link (record { pass = old; reader = c.totals })
      (record { pass = new; reader = c.totals }) result
  by_turn is shown w le result same (Ok answers) t (ws, long, put) =
      let a = turn-answered count c b.asks answers old new w t in
      let steps = answered_steps a.at b.asks answers ws in
      let items = is.first ∷ is.others in
      let by = answered-by a.at b.asks answers ws a.answered long in
      let low = w.faults in
      let g = answered-steps gives c a.at items b.asks answers steps is.asked a.begins a.answered by in
      front-says gives c complete held out link _ _ (all_answered b) items steps
      (requests_bytes b.requests (farm_responses answers ws)) (omega arith) is.front
      (asked-length gives items b.asks is.asked) g
      (answered-after c old new b.asks answers steps a by (omega arith))
      (steps-put gives c out is.first is.others b.requests steps (farm_responses answers ws) shown g is.put_as
      is.at_once (answered-say a.at b.asks answers ws a.answered long))
      (shown, inr took) result same put
  by_turn is shown w le result same (Err (fault.Refused cause)) t put = absurd put
  by_turn is shown w le result same (Err (fault.StoreFault first last)) t put =
      let a = turn-failed count c b.asks first last old new w t in
      let items = is.first ∷ is.others in
      let steps = failed_steps new.seen b.asks first last in
      let responses = map (λ (request : Request). store_fault) b.requests in
      let each = put_as-length items b.requests is.put_as ∙ sym (asked-length gives items b.asks is.asked) in
      let g =
      failed-steps gives c new.seen first last is.first is.others b.asks is.asked is.at_once is.few a.unanswered.begins
      a.first a.rose (subst (λ (n : ℕ). gives (at_count n)) (sym t.cause.0) (counts t.found.disk))
      (subst (λ (n : ℕ). gives (at_count n)) (sym t.cause.1) (counts t.left.disk)) in
      front-says gives c complete held out link _ _ (all_answered b) items steps
      (requests_bytes b.requests responses) (omega arith) is.front (asked-length gives items b.asks is.asked) g
      (failed-after gives c first last old new is.first is.others b.asks is.asked a)
      (steps-put gives c out is.first is.others b.requests steps responses shown g is.put_as is.at_once
      (failed-say b.requests new.seen b.asks first last each))
      (shown, inr took) result same put
  by_turn is shown w le result same (Err fault.Memory) t put =
      let a = turn-uncalled count c b.asks old new w t in
      let items = is.first ∷ is.others in
      let steps = uncalled_steps new.seen b.asks in
      let responses = map (λ (request : Request). no_memory) b.requests in
      let each = put_as-length items b.requests is.put_as ∙ sym (asked-length gives items b.asks is.asked) in
      let low = w.faults in
      let g = uncalled-steps gives c new.seen items b.asks is.asked a.begins in
      front-says gives c complete held out link _ _ (all_answered b) items steps
      (requests_bytes b.requests responses) (omega arith) is.front (asked-length gives items b.asks is.asked) g
      (uncalled-after c old new b.asks a (omega arith))
      (steps-put gives c out is.first is.others b.requests steps responses shown g is.put_as is.at_once
      (alike-say b.requests b.asks (λ (ask : Ask). record { outcome = uncalled new.seen ask; written = true }) no_memory
      (λ ask. refl) each))
      (shown, inr took) result same put

  -- what answering a batch at one turn came to
  pub batch-says : (is : IsBatch gives complete held b) → out ≡ is.first.interim → IsWithin c (mark_of old c.totals)
      → old.faults ≤ new.faults → (result : Result Answered ServeFault)
      → ((d : Answered) → result ≡ Ok d → d ≡ all_answered b)
      → IsBatchPut count b.asks b.requests old new link.before link.now result
      → FrontSays gives c complete held out link (record { pass = old; reader = c.totals })
      (record { pass = new; reader = c.totals }) result
  batch-says is shown w le result same p = by_turn is shown w le result same p.turn p.had p.put

-- what a batch's turn came to, where its answers were put or a put failed, as the answer that tells of it
turn-put_ok : (turn : Result (List Answer) CallFault) (requests : List Request) (before now : Option (List ℕ))
    (d : Answered)
    → TurnPut {T = Unit {0}} turn requests before now (Ok tt) → TurnPut {T = Answered} turn requests before now (Ok d)
turn-put_ok (Ok answers) requests before now d t = t
turn-put_ok (Err (fault.Refused cause)) requests before now d t = absurd t
turn-put_ok (Err (fault.StoreFault first last)) requests before now d t = t
turn-put_ok (Err fault.Memory) requests before now d t = t

turn-put_err : (turn : Result (List Answer) CallFault) (requests : List Request) (before now : Option (List ℕ))
    (f e : ServeFault)
    → TurnPut {T = Unit {0}} turn requests before now (Err f) → TurnPut {T = Answered} turn requests before now (Err e)
turn-put_err (Ok answers) requests before now f e t = t
turn-put_err (Err (fault.Refused cause)) requests before now f e t = absurd t
turn-put_err (Err (fault.StoreFault first last)) requests before now f e t = t
turn-put_err (Err fault.Memory) requests before now f e t = t

pub batch-put_ok : {D : Type 0} (count : D → ℕ) (asks : List Ask) (requests : List Request) (old new : Known)
    (before now : Option (List ℕ)) (d : Answered) (u : Unit {0})
    → IsBatchPut {D = D} {T = Unit {0}} count asks requests old new before now (Ok u)
    → IsBatchPut {D = D} {T = Answered} count asks requests old new before now (Ok d)
batch-put_ok count asks requests old new before now d u p = record {
  turn = p.turn;
  had = p.had;
  put = turn-put_ok p.turn requests before now d p.put;
}

pub batch-put_err : {D : Type 0} (count : D → ℕ) (asks : List Ask) (requests : List Request) (old new : Known)
    (before now : Option (List ℕ)) (result : Result Answered ServeFault) (e f : ServeFault) → result ≡ Err e
    → IsBatchPut {D = D} {T = Unit {0}} count asks requests old new before now (Err f)
    → IsBatchPut {D = D} {T = Answered} count asks requests old new before now result
batch-put_err count asks requests old new before now result e f is p =
    subst (λ (r : Result Answered ServeFault). IsBatchPut count asks requests old new before now r) (sym is) (record {
      turn = p.turn;
      had = p.had;
      put = turn-put_err p.turn requests before now f e p.put;
    })
