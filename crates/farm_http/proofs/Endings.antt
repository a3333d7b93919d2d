-- How the serving of a connection ends: with all answered, or by a fault on the way.
use Rattle.std.proofs.Common.{ℕ, ◌≡◌, ◌<◌, ◌≤◌, ◌+◌, ◌==◌, ◌||◌, ◌&&◌, not, ◌⊎◌, inl, inr, ⊎_elim, Bool, true, false, List, [], ◌∷◌, ◌++◌, length, Option, Result, Ok, Err, refl, sym, ap, ◌∙◌, subst, append_assoc, append-nil, length-append, arith}
use Rattle.std.proofs.lemmas.Bool.Decides.{nat_tests}
use Rattle.std.specs.Io.KnownBytes.{append_known}
use Rattle.std.specs.Result.{IsErrAnd}
use Rattle.connection_laws.specs.Answers.{interim_of, transcript}
use Rattle.connection_laws.specs.Held.{IsReadOut}
use Rattle.connection_laws.specs.Kinds.{kind_of}
use Rattle.connection_laws.specs.Marks.{Mark}
use Rattle.connection_laws.specs.Progress.{Progress, IsWithin, progress_after}
use Rattle.connection_laws.specs.Serving.{OnReadFault, Serves, why_of}
use Rattle.connection_laws.specs.Waiting.{AreWaiting}
use Rattle.connection_laws.specs.declared.served.ServeFault.{ServeFault}
use Rattle.connection_laws.specs.declared.served.Served.{Served}
use Rattle.connection_laws.specs.declared.served.Why.{Why}
use Rattle.connection_laws.specs.declared.served.Why.TheVariants as whys
use Rattle.connection_laws.proofs.Answers.{interim-part}
use Rattle.connection_laws.proofs.Further.{after-legal, further-kept, further-place, further-step, further-stopped, further-within, further_step}
use Rattle.connection_laws.proofs.Loop.{held-follows}
use Rattle.connection_laws.proofs.Progress.{progress_after-longer, steps-append}
use Rattle.connection_laws.proofs.Transcripts.{transcript-append}
use Rattle.farm_entry.specs.Legal.{IsLegal}
use Rattle.farm_entry.specs.declared.entry.Entry.{Entry}
use Rattle.connection_laws.specs.Moments.{Given}
use Rattle.http_requests.specs.Fronts.{Fronts, Opens, behind}
use Rattle.http_requests.specs.Items.{Item, Items, IsIdle, End, closed, ended}
use Rattle.http_requests.proofs.FrontLaws.{fronts-prefix, opens-items, opens-more}
use Rattle.http_requests.proofs.Heads.{HasHead-busy}
use Rattle.link_io.specs.Links.{LinkState}
use Rattle.link_io.specs.declared.source.TheConstants.{INPUT_LIMIT}
use Rattle.link_io.proofs.Told.{append_known-nil}
use Rattle.common_types.specs.Prefix.{IsPrefix}
use Rattle.common_types.proofs.Prefixes.{IsPrefix-trans, IsPrefix-length}
use Rattle.connection_laws.specs.Owners.{Holding, holding_of}
use Rattle.connection_laws.proofs.Owners.{HoldsMore-nothing}
use Rattle.farm_http.specs.Callers.{CallerState, mark_of}
use Rattle.farm_http.specs.Connection.{GoesOn, HasStopped, IsLeftWaiting, IsServing, WasServed}
use Rattle.farm_http.specs.Fronts.{AreAnswered, AreClosing, ArePartly, Halves}
use Rattle.connection_laws.specs.Told.{AreSaid, Saying, if_put, noted_in}
use Rattle.connection_laws.proofs.Said.{AreSaid-append, AreSaid-put}
use Rattle.link_io.specs.Intake.{Intake, no_intake}
use Rattle.link_io.specs.Notes.{TakesNotes}
use Rattle.common_types.proofs.Rows.{AreAmong-refl}
use Rattle.common_types.specs.Rows.{AreAmong}
use Rattle.farm_http.specs.Noting.{ArePreceded, IsUnbegun}
use Rattle.farm_http.specs.Received.{AsksInterim, ReceivedState, is_complete}
use Rattle.farm_http.specs.declared.front.Answered.{Answered}
use Rattle.farm_http.proofs.Asked.{item-asks}
use Rattle.farm_http.proofs.Serving.{after-append, asked_by, at_link, interim_both, put-joined}
use Rattle.farm_http.proofs.Noted.{TakesNotes-trans, front-told, so_far-on, unbegun-said}
use Rattle.farm_http.proofs.Stops.{on_read}
use Rattle.farm_http.proofs.Work.{why_by}

-- ---- a request at the front that was cut

one-front : (bytes : List ℕ) (item : Item) (items : List Item) (end : End) → Items bytes (item ∷ items) end
    → Fronts bytes (item ∷ [])
one-front bytes item items end (p, inl x) = (p, inl (x.0, refl))
one-front bytes item items end (p, inr x) = (p, inr (x.0, tt))

-- an interim answer that may be out in part, or that is out, begins the answers to the item at the front
cut-partly : (gives : Given → Type 0) (c : Progress) (held : List ℕ) (asks out : Bool) (put : List ℕ)
    (new : CallerState)
    (all : List Item) (end : End) → Items held all end → (asks ≡ true → AsksInterim held)
    → IsPrefix (interim_of out ++ put) (interim_of asks) → IsWithin c (mark_of new.pass new.reader) → new.reader ≡
    c.totals
    → IsLegal c.totals
    → (link : Halves) → ArePartly gives c held out put link new new
cut-partly gives c held false out put new all end whole asked begins within read legal link = record {
  items = [];
  steps = [];
  front = tt;
  are_steps = tt;
  after = record {
    within = within;
    holds = HoldsMore-nothing [] (holding_of new.pass) (holding_of new.pass) refl refl;
    counted = read;
  };
  begins = begins;
  noted = inr tt;
}
cut-partly gives c held true out put new [] end whole asked begins within read legal link =
    let a = asked refl in absurd (HasHead-busy held a.head a.has whole.0.blank)
cut-partly gives c held true out put new (item ∷ all) end whole asked begins within read legal link =
    let step = further_step c (kind_of item) in
    let kept = further-kept c (kind_of item) in
    let asks = item-asks held item (asked refl) whole.0 in
    record {
      items = item ∷ [];
      steps = step ∷ [];
      front = one-front held item all end whole;
      are_steps = (further-step gives c item (kind_of item) refl legal, tt);
      after = record {
        within = further-within c (item ∷ []) (mark_of new.pass new.reader) within;
        holds = HoldsMore-nothing (step ∷ []) (holding_of new.pass) (holding_of new.pass)
            (ap (λ (l : List ℕ). l ++ []) (further-place c (kind_of item))) refl;
        counted = read ∙ sym kept.totals;
      };
      begins =
          IsPrefix-trans (interim_of out ++ put) (interim_of true) (transcript (item ∷ []) (step ∷ [])) begins
          (subst (λ (b : Bool). IsPrefix (interim_of b) (transcript (item ∷ []) (step ∷ []))) asks
          (interim-part item step));
      noted = inr (subst (λ (b : Bool). length (interim_of out ++ put) ≤ length (interim_of b)) (sym asks)
          (IsPrefix-length (interim_of out ++ put) (interim_of true) begins));
    }

-- ---- the loop

module _ (start : Progress) (gives : Given → Type 0) (old : CallerState) (before : LinkState) where
  -- a fault stopped it on the way
  pub serving-stops : (fault : ServeFault) (mid new : CallerState) (now later : LinkState) (r : ReceivedState)
      (requests : ℕ)
      (put : List ℕ)
      (all : List Item) (end : End) (aside after_aside : Intake)
      (is : IsServing start gives old mid before now r requests) → IsLegal start.totals
      → ArePartly gives (progress_after start is.steps) r.held r.interim put (at_link now later aside after_aside) mid
      new
      → aside.notes ≡ now.notes → after_aside.notes ≡ later.notes → TakesNotes now.notes later.notes
      → AreAmong mid.pass.rows new.pass.rows
      → later.taken ≡ now.taken → later.put ≡ append_known now.put put → Items r.held all end
      → OnReadFault fault (IsLeftWaiting start gives old new before later)
      → HasStopped fault start gives old new before later
  serving-stops fault mid new now later r requests put all end aside after_aside is legal a aside_is after_is notes rows
      takes puts whole waits =
      let said = noted_in new.pass.rows before later in
      let part : List ℕ = interim_of r.interim ++ put in
      let n : ℕ = length (is.put ++ part) in
      let c = progress_after start is.steps in
      let so_far = so_far-on start gives mid.pass.rows new.pass.rows before now later is.taken is.put is.items is.steps
      rows notes is.so_far in
      let front : AreSaid (if_put n said) (length is.put) a.items a.steps = ⊎_elim
      (λ (p : ArePreceded r.interim a.items a.steps aside after_aside now.put new.pass).
      AreSaid-put said n (length is.put) a.items a.steps
      (front-told gives c before now later is.put r.interim new.pass a.items a.steps aside after_aside p aside_is
      after_is is.passed.puts a.are_steps a.after.within.seen))
      (λ (u : IsUnbegun part a.items). unbegun-said said is.put part a.items a.steps u)
      a.noted in
      let told : AreSaid (if_put n said) 0 (is.items ++ a.items) (is.steps ++ a.steps) =
      AreSaid-append gives start (if_put n said) 0 is.items a.items is.steps a.steps is.so_far.are_steps
      (AreSaid-put said n 0 is.items is.steps so_far.told)
      (subst (λ (k : ℕ). AreSaid (if_put n said) k a.items a.steps)
      (ap (λ (l : List ℕ). length l) is.so_far.put_is ∙ omega arith) front) in
      let after = after-append start is.steps a.steps old mid new is.after a.after in
      let most = is.most in let size = is.size in
      let left = fronts-prefix r.held a.items all end a.front whole in
      let items_are : Items is.taken ((is.items ++ a.items) ++ left.0) end =
      subst (λ (l : List Item). Items is.taken l end) (sym (append_assoc is.items a.items left.0))
      (opens-items is.taken is.items (a.items ++ left.0) end is.so_far.opens
      (subst (λ (l : List ℕ). Items l (a.items ++ left.0) end) is.held
      (subst (λ (l : List Item). Items r.held l end) left.1 whole))) in
      further-stopped fault start (mark_of new.pass new.reader) gives said before later is.taken
      (is.put ++ (interim_of r.interim ++ put))
      (is.items ++ a.items) left.0 (is.steps ++ a.steps) end
      (holding_of old.pass) (holding_of new.pass) new.reader
      (record {
        takes = takes ∙ is.passed.takes;
        puts = put-joined before.put now.put later.put r.interim is.put put is.passed.puts puts;
        notes = TakesNotes-trans before.notes now.notes later.notes is.passed.notes notes;
      }) (omega arith) items_are
      (steps-append gives start is.items a.items is.steps a.steps is.so_far.are_steps a.are_steps) legal after.within (
        a.begins.0,
        transcript-append gives start is.items a.items is.steps a.steps is.so_far.are_steps
            ∙ ap (λ (l : List ℕ). l ++ transcript a.items a.steps) (sym is.so_far.put_is)
            ∙ ap (λ (l : List ℕ). is.put ++ l) a.begins.1
            ∙ sym (append_assoc is.put (interim_of r.interim ++ put) a.begins.0),
      )
      (record { holds = after.holds; counted = after.counted }) told waits

  -- it stopped before anything of the request at the front was answered, but for its interim answer
  pub serving-cut : (fault : ServeFault) (new : CallerState) (now later : LinkState) (r : ReceivedState) (requests : ℕ)
      (put : List ℕ) (asks : Bool)
      (all : List Item) (end : End) → IsServing start gives old new before now r requests → IsLegal start.totals
      → (asks ≡ true → AsksInterim r.held) → IsPrefix (interim_of r.interim ++ put) (interim_of asks)
      → later.taken ≡ now.taken → later.put ≡ append_known now.put put → TakesNotes now.notes later.notes
      → Items r.held all end
      → OnReadFault fault (IsLeftWaiting start gives old new before later)
      → HasStopped fault start gives old new before later
  serving-cut fault new now later r requests put asks all end is legal asked begins takes puts notes whole waits =
      let c = progress_after start is.steps in
      let aside : Intake = record no_intake { notes = now.notes } in
      let after : Intake = record no_intake { notes = later.notes } in
      serving-stops fault new new now later r requests put all end aside after is legal
      (cut-partly gives c r.held asks r.interim put new all end whole asked begins is.after.within is.after.counted
      (after-legal gives start is.items is.steps is.so_far.are_steps legal) (at_link now later aside after))
      refl refl notes (AreAmong-refl new.pass.rows) takes puts whole waits

  -- all that is whole was answered, and more is waited for
  serving-waits : (new : CallerState) (now later : LinkState) (r : ReceivedState) (requests : ℕ)
      → IsServing start gives old new before now r requests → later.taken ≡ now.taken → later.put ≡ now.put
      → TakesNotes now.notes later.notes → AreWaiting r.held r.interim
      → IsLeftWaiting start gives old new before later
  serving-waits new now later r requests is takes puts notes waits = record {
    taken = is.taken;
    put = is.put;
    items = is.items;
    steps = is.steps;
    interim = r.interim;
    so_far = so_far-on start gives new.pass.rows new.pass.rows before now later is.taken is.put is.items is.steps
        (AreAmong-refl new.pass.rows) notes is.so_far;
    waits = subst (λ (l : List ℕ). AreWaiting l r.interim) is.held waits;
    passed = record {
      takes = takes ∙ is.passed.takes;
      puts = puts ∙ is.passed.puts;
      notes = TakesNotes-trans before.notes now.notes later.notes is.passed.notes notes;
    };
    ends = is.after.within;
    keeps = record { holds = is.after.holds; counted = is.after.counted };
  }

  -- a take failed, or memory ran out for it
  pub serving-untaken : (fault : ServeFault) (new : CallerState) (now later : LinkState) (r : ReceivedState)
      (requests : ℕ)
      (all : List Item) (end : End)
      → IsServing start gives old new before now r requests → IsLegal start.totals → later.taken ≡ now.taken
      → later.put ≡ now.put → TakesNotes now.notes later.notes
      → Items r.held all end → AreWaiting r.held r.interim
      → HasStopped fault start gives old new before later
  serving-untaken fault new now later r requests all end is legal takes puts notes whole waits =
      serving-cut fault new now later r requests [] r.interim all end is legal is.interim
      ([], sym (ap (λ (l : List ℕ). l ++ []) (append-nil (interim_of r.interim)) ∙ append-nil (interim_of r.interim)))
      takes (puts ∙ sym (append_known-nil now.put)) notes whole
      (on_read fault (IsLeftWaiting start gives old new before later)
      (serving-waits new now later r requests is takes puts notes waits))

  -- the put of an interim answer failed
  pub serving-unput : (fault : ServeFault) (new : CallerState) (now later : LinkState) (r : ReceivedState)
      (requests : ℕ)
      (asked : Bool) (all : List Item)
      (end : End) → IsServing start gives old new before now r requests → IsLegal start.totals
      → (asked ≡ true → AsksInterim r.held)
      → later.taken ≡ now.taken
      → (part : List ℕ) × IsPrefix part (interim_of (asked && not r.interim)) × (later.put ≡ append_known now.put part)
      → TakesNotes now.notes later.notes → Items r.held all end
      → OnReadFault fault (IsLeftWaiting start gives old new before later)
      → HasStopped fault start gives old new before later
  serving-unput fault new now later r requests asked all end is legal asks takes puts notes whole waits =
      serving-cut fault new now later r requests puts.0 (r.interim || asked) all end is legal
      (asked_by r.interim asked r.held is.interim asks) (
        puts.1.0,
        sym (interim_both r.interim asked) ∙ ap (λ (l : List ℕ). interim_of r.interim ++ l) puts.1.1
            ∙ sym (append_assoc (interim_of r.interim) puts.0 puts.1.0),
      )
      takes puts.2 notes whole waits

  no_interim : (b : Bool) (held : List ℕ) → (b ≡ true → AsksInterim held) → IsIdle held → b ≡ false
  no_interim false held asks idle = refl
  no_interim true held asks idle =
      let a = asks refl in absurd (HasHead-busy held a.head a.has idle.blank)

  -- the input was read to its end or to its limit, and nothing is left to answer
  pub serving-ends : (new : CallerState) (now : LinkState) (r : ReceivedState) (served : Served)
      (is : IsServing start gives old new before now r served.requests) → IsIdle r.held
      → IsReadOut is.taken is.items ended now.ended
      → served.why ≡ why_of ended is.taken
      → WasServed served start gives old new before now
  serving-ends new now r served is idle read why =
      let most = is.most in let size = is.size in
      record {
        taken = is.taken;
        put = is.put;
        passed = record {
          takes = is.passed.takes;
          puts =
              is.passed.puts
              ∙ ap (λ (b : Bool). append_known before.put (is.put ++ interim_of b))
              (no_interim r.interim r.held is.interim idle)
              ∙ ap (λ (l : List ℕ). append_known before.put l) (append-nil is.put);
          notes = is.passed.notes;
        };
        most = omega arith;
        held = record {
          items = is.items;
          steps = is.steps;
          are_steps = is.so_far.are_steps;
          ends = is.after.within;
          is_put = record {
            end = ended;
            items_are =
                subst (λ (l : List Item). Items is.taken l ended) (append-nil is.items)
                (opens-items is.taken is.items [] ended is.so_far.opens
                (subst (λ (l : List ℕ). IsIdle l) is.held idle, refl));
            read = read;
            put_is = is.so_far.put_is;
          };
          told = AreSaid-put (noted_in new.pass.rows before now) (length is.put) 0 is.items is.steps is.so_far.told;
        };
        keeps = record { holds = is.after.holds; counted = is.after.counted };
        requests = is.requests_are;
        why_is = why;
      }

  at_limit : (taken : ℕ) → (taken == INPUT_LIMIT) ≡ true → taken ≡ INPUT_LIMIT
  at_limit taken is = grind (arith, nat_tests)

  complete_by : (b : Bool) (taken : ℕ) → (b || (taken == INPUT_LIMIT)) ≡ true → (b ≡ true) ⊎ (taken ≡ INPUT_LIMIT)
  complete_by true taken is = inl refl
  complete_by false taken is = inr (at_limit taken is)

  -- why it ended, where no item closes
  pub serving-why : (new : CallerState) (now : LinkState) (r : ReceivedState) (requests : ℕ) (why : Why)
      (is : IsServing start gives old new before now r requests) → (r.taken ≡ INPUT_LIMIT → why ≡ whys.Limit)
      → (r.taken < INPUT_LIMIT → why ≡ whys.End) → why ≡ why_of ended is.taken
  serving-why new now r requests why is limit none =
      why_by r.taken (length is.taken) INPUT_LIMIT why is.size is.most limit none

  -- where no more is taken, the input has ended or as much was taken as is at most
  pub serving-complete : (new : CallerState) (now : LinkState) (r : ReceivedState) (requests : ℕ)
      (is : IsServing start gives old new before now r requests) → is_complete r ≡ true
      → (now.ended ≡ true) ⊎ (length is.taken ≡ INPUT_LIMIT)
  serving-complete new now r requests is complete =
      elim (complete_by r.ended r.taken complete) as (λ _. (now.ended ≡ true) ⊎ (length is.taken ≡ INPUT_LIMIT)) [
        | inl e ↦ inl (is.ends e)
        | inr l ↦ inr (sym is.size ∙ l)
      ]

  -- nothing is left to answer, and no more is taken
  pub serving-idle : (new : CallerState) (now : LinkState) (r : ReceivedState) (requests : ℕ) (why : Why)
      → IsServing start gives old new before now r requests → is_complete r ≡ true → IsIdle r.held
      → (r.taken ≡ INPUT_LIMIT → why ≡ whys.Limit) → (r.taken < INPUT_LIMIT → why ≡ whys.End)
      → WasServed (record { requests = requests; why = why }) start gives old new before now
  serving-idle new now r requests why is complete idle limit none =
      serving-ends new now r (record { requests = requests; why = why }) is idle
      (elim (serving-complete new now r requests is complete) as (λ _. IsReadOut is.taken is.items ended now.ended) [
        | inl e ↦ inl e
        | inr l ↦ inr (inl l)
      ])
      (serving-why new now r requests why is limit none)

  closes-read : (complete : Bool) (taken held : List ℕ) (items more : List Item) (over : Bool) → Opens taken items
      → held ≡ behind taken items → AreClosing complete held more
      → (complete ≡ true → (over ≡ true) ⊎ (length taken ≡ INPUT_LIMIT)) → IsReadOut taken (items ++ more) closed over
  closes-read true taken held items more over open_ is closing read =
      elim (read refl) as (λ _. IsReadOut taken (items ++ more) closed over) [
        | inl e ↦ inl e
        | inr l ↦ inr (inl l)
      ]
  closes-read false taken held items more over open_ is closing read =
      inr (inr (record {
        closes = refl;
        stays = λ rest.
            let longer = opens-more taken rest items open_ in
            opens-items (taken ++ rest) items more closed longer.0
            (subst (λ (l : List ℕ). Items l more closed) (ap (λ (l : List ℕ). l ++ rest) is ∙ sym longer.1)
            (closing rest (λ e. let bad : ⊥ = cc in absurd bad)));
      }))

  -- items at the front were answered, of which the last closes the connection
  pub serving-closes : (mid new : CallerState) (now later : LinkState) (r : ReceivedState) (requests : ℕ) (put : List ℕ)
      (complete : Bool) (done : Answered) (served : Served) (aside after_aside : Intake)
      (is : IsServing start gives old mid before now r requests)
      → AreAnswered gives (progress_after start is.steps) complete r.held r.interim put
      (at_link now later aside after_aside) mid new done
      → aside.notes ≡ now.notes → after_aside.notes ≡ later.notes → TakesNotes now.notes later.notes
      → AreAmong mid.pass.rows new.pass.rows → done.closes ≡ true
      → (complete ≡ true → (later.ended ≡ true) ⊎ (length is.taken ≡ INPUT_LIMIT))
      → later.taken ≡ now.taken → later.put ≡ append_known now.put put
      → served.requests ≡ requests + done.requests → served.why ≡ why_of closed is.taken
      → WasServed served start gives old new before later
  serving-closes mid new now later r requests put complete done served aside after_aside is a aside_is after_is notes
      rows shut read takes puts sum why =
      let said = noted_in new.pass.rows before later in
      let part : List ℕ = interim_of r.interim ++ put in
      let after = after-append start is.steps a.steps old mid new is.after a.after in
      let most = is.most in let size = is.size in
      let closing = a.front.0 shut in
      record {
        taken = is.taken;
        put = is.put ++ (interim_of r.interim ++ put);
        passed = record {
          takes = takes ∙ is.passed.takes;
          puts = put-joined before.put now.put later.put r.interim is.put put is.passed.puts puts;
          notes = TakesNotes-trans before.notes now.notes later.notes is.passed.notes notes;
        };
        most = omega arith;
        held = record {
          items = is.items ++ a.items;
          steps = is.steps ++ a.steps;
          are_steps = steps-append gives start is.items a.items is.steps a.steps is.so_far.are_steps a.are_steps;
          ends = after.within;
          is_put = record {
            end = closed;
            items_are =
                opens-items is.taken is.items a.items closed is.so_far.opens
                (subst (λ (l : List ℕ). Items l a.items closed) (append-nil r.held ∙ is.held) (closing [] (λ e. refl)));
            read = closes-read complete is.taken r.held is.items a.items later.ended is.so_far.opens is.held closing
                read;
            put_is =
                ap (λ (l : List ℕ). l ++ (interim_of r.interim ++ put)) is.so_far.put_is
                ∙ ap (λ (l : List ℕ). transcript is.items is.steps ++ l) a.put_is
                ∙ sym (transcript-append gives start is.items a.items is.steps a.steps is.so_far.are_steps);
          };
          told = AreSaid-put said (length (is.put ++ part)) 0 (is.items ++ a.items) (is.steps ++ a.steps)
              (AreSaid-append gives start said 0 is.items a.items is.steps a.steps is.so_far.are_steps
              (so_far-on start gives mid.pass.rows new.pass.rows before now later is.taken is.put is.items is.steps rows
              notes is.so_far).told
              (subst (λ (k : ℕ). AreSaid said k a.items a.steps)
              (ap (λ (l : List ℕ). length l) is.so_far.put_is ∙ omega arith)
              (front-told gives (progress_after start is.steps) before now later is.put r.interim new.pass a.items
              a.steps aside after_aside a.noted aside_is after_is is.passed.puts a.are_steps a.after.within.seen)));
        };
        keeps = record { holds = after.holds; counted = after.counted };
        requests =
            sum ∙ ap (λ (n : ℕ). n + done.requests) is.requests_are ∙ ap (λ (n : ℕ). length is.items + n) a.requests
            ∙ sym (length-append is.items a.items);
        why_is = why;
      }

  -- a fault stopped this turn of the loop
  pub goes_on-stopped : (Q : ServeFault → Type 0) (work : ℕ) (result : Result (Option Why) ServeFault)
      (new : CallerState)
      (now : LinkState) (r : ReceivedState) (requests : ℕ) → IsErrAnd result Q
      → ((fault : ServeFault) → result ≡ Err fault → (items : List Item) → (end : End) → Items r.held items end
      → HasStopped fault start gives old new before now)
      → GoesOn start gives old before work result new now r requests
  goes_on-stopped Q work (Ok why) new now r requests failed stopped = absurd failed
  goes_on-stopped Q work (Err fault) new now r requests failed stopped = stopped fault refl

  -- as much was left to do
  pub goes_on-from : (work other : ℕ) (result : Result (Option Why) ServeFault) (new : CallerState) (now : LinkState)
      (r : ReceivedState) (requests : ℕ) → work ≡ other → GoesOn start gives old before work result new now r requests
      → GoesOn start gives old before other result new now r requests
  goes_on-from work other result new now r requests same goes =
      subst (λ (n : ℕ). GoesOn start gives old before n result new now r requests) same goes

-- ---- what was served goes on

-- what was seen at entry is within what is seen at exit, and begins what the reader has seen
pub record IsFurther (start : Progress) (final : Mark) (read : List Entry) : Type 0 where
  pub within : IsWithin start final
  pub counted : IsPrefix start.totals read

pub serves-further : (result : Result Served ServeFault) (start : Progress) (final : Mark) (gives : Given → Type 0)
    (said : Saying) (before now : LinkState)
    (mine kept : Holding) (read : List Entry) → Serves result start final gives said before now mine kept read
    → IsFurther start final read
serves-further (Ok served) start final gives said before now mine kept read s = record {
  within = held-follows start final gives said s.taken s.put now.ended true s.held;
  counted =
      subst (λ (H : List Entry). IsPrefix start.totals H) (sym s.keeps.counted)
      (progress_after-longer gives start s.held.items s.held.steps s.held.are_steps).1;
}
serves-further (Err fault) start final gives said before now mine kept read s = record {
  within = held-follows start final gives said s.taken s.put now.ended false s.held;
  counted =
      subst (λ (H : List Entry). IsPrefix start.totals H) (sym s.keeps.counted)
      (progress_after-longer gives start s.held.items s.held.steps s.held.are_steps).1;
}
