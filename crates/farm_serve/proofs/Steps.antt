-- The steps of the network keep what the value in the lock keeps.
use Rattle.std.proofs.Common.{◌≡◌, inl, inr, ◌<◌, ◌≤◌, ◌+◌, ◌++◌, ◌∷◌, [], ℕ, List, Option, Some, IfSome, Result, Ok, Err, Bool, true, false, arith, ap, sym, refl, subst, ◌∙◌}
use Rattle.connection_laws.specs.Marks.{Mark, Follows}
use Rattle.connection_laws.specs.declared.served.ServeFault.{ServeFault}
use Rattle.connection_laws.specs.declared.served.ServeFault.TheVariants.{ReadFault, WriteFault, Memory}
use Rattle.connection_laws.specs.declared.served.Served.{Served}
use Rattle.connection_laws.specs.Owners.{Owned, both_owned, holding_of}
use Rattle.connection_laws.specs.Told.{Saying}
use Rattle.connection_laws.proofs.Noting.{noted-more}
use Rattle.farm_entry.specs.declared.entry.Entry.{Entry}
use Rattle.farm_http.specs.Callers.{mark_of, noted_by}
use Rattle.farm_types.specs.declared.moment.Moment.{Moment}
use Rattle.common_types.specs.Counts.{Rose}
use Rattle.link_io.specs.Links.{LinkState}
use Rattle.link_io.specs.Notes.{Note}
use Rattle.link_io.specs.Telling.{add_told}
use Rattle.common_types.proofs.Rows.{AreAmong-before, AreAmong-behind, AreAmong-refl}
use Rattle.common_types.specs.Rows.{AreAmong}
use Rattle.common_types.specs.declared.row.Row.{Row}
use Rattle.link_io.specs.Events.{NetworkEvent, accepted, accept_ended, accept_failed, connected, connect_failed, returned}
use Rattle.common_types.proofs.Prefixes.{IsPrefix-trans}
use Rattle.turn_lock.specs.Known.{Known, IsReady, borrowed, both_lendings, lending_kept}
use Rattle.turn_lock.specs.Loans.{AreOut, AreSame, HasOut, weigh}
use Rattle.turn_lock.specs.declared.view.Lending.{Lending}
use Rattle.turn_lock.specs.declared.view.Loan.{Loan}
use Rattle.turn_lock.specs.declared.view.Stake.{Stake}
use Rattle.turn_lock.proofs.Loans.{AreOut-back, AreOut-lent}
use Rattle.farm_serve.proofs.Counts.{IfSome-map, IfSome-both, Rose-later, Rose-from}
use Rattle.farm_serve.proofs.Owners.{owned_same}
use Rattle.farm_serve.proofs.Marks.{Follows-refl, Follows-trans, IsHeldOf-longer, IsHeldBack-longer, IsSaidBy}
use Rattle.farm_serve.specs.Entries.{AtEntry, start_of}
use Rattle.farm_serve.specs.Gained.{AreAccepts, AreHeldBack, links_of, returns_of}
use Rattle.farm_serve.specs.Links.{IsHeldBack, IsServedLink, loan_of, mark_lent}
use Rattle.farm_serve.specs.Serving.{IsGainedBy, IsServing, owned_by}
use Rattle.farm_serve.specs.Standings.{noted}
use Rattle.farm_serve.specs.declared.standing.ServeState.{ServeState}

-- what is known by some rows is known by more
pub noted-rows : (later : Mark) (old new : Known) → AreAmong old.rows new.rows
    → IsSaidBy later (noted_by old) (noted_by new)
noted-rows later old new rows notes place H begins holds = noted-more old.rows new.rows [] notes place H rows holds

-- what is said in other words of a history that begins a later mark's is so of one that begins an earlier mark's
IsSaidBy-earlier : (earlier later : Mark) (said other : List Note → Saying) → Follows earlier later
    → IsSaidBy later said other → IsSaidBy earlier said other
IsSaidBy-earlier earlier later said other follows by notes place H begins holds =
    by notes place H (IsPrefix-trans H earlier.seen later.seen begins follows.longer) holds

-- what is held of the links taken back stays held for what was seen later
pub AreHeldBack-longer : (start final later : Mark) (clock other : Moment → Type 0) (said in_words : List Note → Saying)
    (short still : Bool) (owned : Owned) (out : List Loan) (events : List NetworkEvent) → Follows final later
    → ((at : Moment) → clock at → other at) → IsSaidBy later said in_words → (short ≡ true → still ≡ true)
    → AreHeldBack start final clock said short owned out events
    → AreHeldBack start later other in_words still owned out events
AreHeldBack-longer start final later clock other said in_words short still owned out [] follows more by stays h =
    (h.0, Follows-trans start final later h.1 follows, h.2)
AreHeldBack-longer start final later clock other said in_words short still owned out
    (accepted ∷ events) follows more by stays h = (
      h.0,
      h.1,
      Follows-trans h.0 final later h.2 follows,
      h.3,
      AreHeldBack-longer start h.0 h.0 clock other said in_words short still owned h.1 events (Follows-refl h.0) more
          (IsSaidBy-earlier h.0 later said in_words (Follows-trans h.0 final later h.2 follows) by) stays h.4,
    )
AreHeldBack-longer start final later clock other said in_words short still owned out
    (accept_ended ∷ events) follows more by stays h =
    AreHeldBack-longer start final later clock other said in_words short still owned out events follows more by stays h
AreHeldBack-longer start final later clock other said in_words short still owned out
    (accept_failed ∷ events) follows more by stays h =
    AreHeldBack-longer start final later clock other said in_words short still owned out events follows more by stays h
AreHeldBack-longer start final later clock other said in_words short still owned out
    (connected ∷ events) follows more by stays h =
    AreHeldBack-longer start final later clock other said in_words short still owned out events follows more by stays h
AreHeldBack-longer start final later clock other said in_words short still owned out
    (connect_failed ∷ events) follows more by stays h =
    AreHeldBack-longer start final later clock other said in_words short still owned out events follows more by stays h
AreHeldBack-longer start final later clock other said in_words short still owned out
    (returned link ∷ events) follows more by stays h = (
      h.0,
      h.1,
      h.2,
      h.3,
      h.4,
      IsHeldBack-longer (mark_lent start h.2) final later clock other said in_words short still h.1 link follows more by
          stays h.5,
      Follows-trans h.3 final later h.6 follows,
      AreHeldBack-longer start h.3 h.3 clock other said in_words short still h.0 (h.2 ∷ out) events (Follows-refl h.3)
          more (IsSaidBy-earlier h.3 later said in_words (Follows-trans h.3 final later h.6 follows) by) stays h.7,
    )

-- and for the same loans in another order
AreHeldBack-same : (start final : Mark) (clock : Moment → Type 0) (said : List Note → Saying) (short : Bool)
    (owned : Owned) (out other : List Loan) (events : List NetworkEvent) → AreSame out other
    → AreHeldBack start final clock said short owned out events
    → AreHeldBack start final clock said short owned other events
AreHeldBack-same start final clock said short owned out other [] same h = (h.0, h.1, λ w. sym (same w) ∙ h.2 w)
AreHeldBack-same start final clock said short owned out other (accepted ∷ events) same h =
    (h.0, h.1, h.2, λ w. sym (same w) ∙ h.3 w, h.4)
AreHeldBack-same start final clock said short owned out other (accept_ended ∷ events) same h =
    AreHeldBack-same start final clock said short owned out other events same h
AreHeldBack-same start final clock said short owned out other (accept_failed ∷ events) same h =
    AreHeldBack-same start final clock said short owned out other events same h
AreHeldBack-same start final clock said short owned out other (connected ∷ events) same h =
    AreHeldBack-same start final clock said short owned out other events same h
AreHeldBack-same start final clock said short owned out other (connect_failed ∷ events) same h =
    AreHeldBack-same start final clock said short owned out other events same h
AreHeldBack-same start final clock said short owned out other (returned link ∷ events) same h = (
  h.0,
  h.1,
  h.2,
  h.3,
  h.4,
  h.5,
  h.6,
  AreHeldBack-same start h.3 clock said short h.0 (h.2 ∷ out) (h.2 ∷ other) events
      (λ w. ap (λ (n : ℕ). w h.2 + n) (same w)) h.7,
)

-- as many loans are out as links
AreHeldBack-count : (start final : Mark) (clock : Moment → Type 0) (said : List Note → Saying) (short : Bool)
    (owned : Owned) (out : List Loan) (events : List NetworkEvent) → AreAccepts events
    → AreHeldBack start final clock said short owned out events
    → links_of events ≡ returns_of events + weigh (λ (l : Loan). 1) out
AreHeldBack-count start final clock said short owned out [] asked h =
    let none : weigh (λ (l : Loan). 1) out ≡ 0 = h.2 (λ l. 1) in omega (arith, none)
AreHeldBack-count start final clock said short owned out (accepted ∷ events) asked h =
    let more = AreHeldBack-count start h.0 clock said short owned h.1 events asked.1 h.4 in
    let same = h.3 (λ l. 1) in
    omega (arith, more, same)
AreHeldBack-count start final clock said short owned out (accept_ended ∷ events) asked h =
    AreHeldBack-count start final clock said short owned out events asked.1 h
AreHeldBack-count start final clock said short owned out (accept_failed ∷ events) asked h =
    AreHeldBack-count start final clock said short owned out events asked.1 h
AreHeldBack-count start final clock said short owned out (connected ∷ events) asked h = absurd asked
AreHeldBack-count start final clock said short owned out (connect_failed ∷ events) asked h = absurd asked
AreHeldBack-count start final clock said short owned out (returned link ∷ events) asked h =
    let more = AreHeldBack-count start h.3 clock said short h.0 (h.2 ∷ out) events asked h.7 in omega (arith, more)

no-loan : (out : List Loan) → weigh (λ (l : Loan). 1) out ≡ 0 → out ≡ []
no-loan [] none = refl
no-loan (l ∷ out) none = absurd (omega (arith, none))

-- where no link is out, no loan is
pub AreHeldBack-all : (start final : Mark) (clock : Moment → Type 0) (said : List Note → Saying) (short : Bool)
    (owned : Owned) (out : List Loan) (events : List NetworkEvent) → AreAccepts events
    → links_of events ≡ returns_of events → AreHeldBack start final clock said short owned out events
    → AreHeldBack start final clock said short owned [] events
AreHeldBack-all start final clock said short owned out events asked back h =
    let count = AreHeldBack-count start final clock said short owned out events asked h in
    subst (λ (l : List Loan). AreHeldBack start final clock said short owned l events)
    (no-loan out (omega (arith, count, back))) h

-- a pass was used to split off another one, to which it lent what it has seen
pub record IsLentFrom (old new : Known) (read : List Entry) : Type 0 where
  pub lock : new.lock ≡ old.lock
  pub ready : new.ready ≡ old.ready
  pub same : mark_of new read ≡ mark_of old read
  pub rows : new.rows ≡ old.rows
  pub mine : new.mine ≡ old.mine
  pub undecided : new.stake.undecided ≡ old.stake.undecided
  pub some : 0 < new.stake.parts
  pub key : old.stake.lending.keys ≡ 1
  pub lending : new.stake.lending ≡ lending_kept old.seen old.faults old.stake.lending

-- one more was told
told_more : (event : NetworkEvent) (gained before : List NetworkEvent) (now new : Option (List NetworkEvent))
    → now ≡ Some (gained ++ before) → new ≡ add_told event now → new ≡ Some ((event ∷ gained) ++ before)
told_more event gained before now new is more = more ∙ ap (λ (o : Option (List NetworkEvent)). add_told event o) is

abbrev pub stands : ℕ → Bool → Bool → Bool → ServeState
stands left ended failed short = record { left = left; ended = ended; failed = failed; short = short }

module _ (a : AtEntry) (clock : Moment → Type 0) (pass : Known) (read : List Entry) (out : ℕ) (s : ServeState)
    (left : ℕ)
    (now new : Option (List NetworkEvent)) (count after : ℕ) (less : left + 1 ≡ s.left) (never : count ≤ after)
    (h : IsServing a clock pass read out s now count) where
  gained_link : (held : Known) → IsLentFrom pass held read → (before : List NetworkEvent) → s.ended ≡ false
      → new ≡ add_told accepted now → IsGainedBy a clock pass read out s before now
      → IsGainedBy a clock held read (out + 1) (stands left s.ended s.failed s.short) before new
  gained_link held lent before not_yet more k =
      let mark : Mark = mark_of pass read in
      record {
        gained = accepted ∷ k.gained;
        is = told_more accepted k.gained before now new k.is more;
        accepts = (let e = k.accepts in omega arith);
        last = sym not_yet;
        asked = (k.last ∙ not_yet, k.asked);
        faults = k.faults;
        links = (let e = k.links in omega arith);
        loans = loan_of mark ∷ k.loans;
        are_out = subst (λ (l : Lending). AreOut l (loan_of mark ∷ k.loans)) (sym lent.lending)
            (AreOut-lent pass.stake.lending pass.seen pass.faults k.loans lent.key k.are_out);
        held = (
          mark,
          k.loans,
          subst (λ (m : Mark). Follows mark m) (sym lent.same) (Follows-refl mark),
          λ w. refl,
          subst (λ (o : Owned). AreHeldBack (start_of a) mark clock (noted_by held) s.short o k.loans k.gained)
              (sym (owned_same pass held lent.mine lent.undecided))
              (AreHeldBack-longer (start_of a) mark mark clock clock (noted_by pass) (noted_by held) s.short s.short
              (owned_by pass) k.loans k.gained (Follows-refl mark) (λ at m. m)
              (noted-rows mark pass held (subst (λ (l : List Row). AreAmong pass.rows l) (sym lent.rows)
              (AreAmong-refl pass.rows))) (λ is. is) k.held),
        );
      }

  gained_end : (before : List NetworkEvent) → s.ended ≡ false → new ≡ add_told accept_ended now
      → IsGainedBy a clock pass read out s before now
      → IsGainedBy a clock pass read out (stands left true s.failed s.short) before new
  gained_end before not_yet more k = record {
    gained = accept_ended ∷ k.gained;
    is = told_more accept_ended k.gained before now new k.is more;
    accepts = (let e = k.accepts in omega arith);
    last = refl;
    asked = (k.last ∙ not_yet, k.asked);
    faults = k.faults;
    links = k.links;
    loans = k.loans;
    are_out = k.are_out;
    held = k.held;
  }

  gained_failure : (before : List NetworkEvent) → s.ended ≡ false → new ≡ add_told accept_failed now
      → IsGainedBy a clock pass read out s before now
      → IsGainedBy a clock pass read out (stands left s.ended true s.short) before new
  gained_failure before not_yet more k = record {
    gained = accept_failed ∷ k.gained;
    is = told_more accept_failed k.gained before now new k.is more;
    accepts = (let e = k.accepts in omega arith);
    last = sym not_yet;
    asked = (k.last ∙ not_yet, k.asked);
    faults = refl;
    links = k.links;
    loans = k.loans;
    are_out = k.are_out;
    held = k.held;
  }

  -- an accept gave a link, for which a pass was split off
  pub serving_link : (held : Known) → IsLentFrom pass held read → s.ended ≡ false → new ≡ add_told accepted now
      → IsServing a clock held read (out + 1) (stands left s.ended s.failed s.short) new after
  serving_link held lent not_yet more = record {
    ready = record { own = lent.lock ∙ h.ready.own; free = lent.ready ∙ h.ready.free; some = lent.some };
    begins = subst (λ (m : Mark). Follows (start_of a) m) (sym lent.same) h.begins;
    faults = (let e = h.faults in omega arith);
    rose = λ is. Rose-later a.count count after (h.rose is) never;
    gained = IfSome-map a.told (λ before. IsGainedBy a clock pass read out s before now)
        (λ before. IsGainedBy a clock held read (out + 1) (stands left s.ended s.failed s.short) before new)
        (λ before k. gained_link held lent before not_yet more k) h.gained;
  }

  -- an accept answered that no more will come
  pub serving_end : s.ended ≡ false → new ≡ add_told accept_ended now
      → IsServing a clock pass read out (stands left true s.failed s.short) new after
  serving_end not_yet more = record {
    ready = h.ready;
    begins = h.begins;
    faults = (let e = h.faults in omega arith);
    rose = λ is. Rose-later a.count count after (h.rose is) never;
    gained = IfSome-map a.told (λ before. IsGainedBy a clock pass read out s before now)
        (λ before. IsGainedBy a clock pass read out (stands left true s.failed s.short) before new)
        (λ before k. gained_end before not_yet more k) h.gained;
  }

  -- an accept failed
  pub serving_failure : s.ended ≡ false → new ≡ add_told accept_failed now → Rose count after
      → IsServing a clock pass read out (stands left s.ended true s.short) new after
  serving_failure not_yet more rose = record {
    ready = h.ready;
    begins = h.begins;
    faults = (let e = h.faults in omega arith);
    rose = λ is. Rose-from a.count count after h.faults rose;
    gained = IfSome-map a.told (λ before. IsGainedBy a clock pass read out s before now)
        (λ before. IsGainedBy a clock pass read out (stands left s.ended true s.short) before new)
        (λ before k. gained_failure before not_yet more k) h.gained;
  }

-- the held pass has seen more
pub serving_longer : (a : AtEntry) (clock : Moment → Type 0) (old held : Known) (read : List Entry)
    (out : ℕ) (s : ServeState) (now : Option (List NetworkEvent)) (count : ℕ) → IsReady a.lock held
    → Follows (mark_of old read) (mark_of held read) → AreAmong old.rows held.rows
    → held.mine ≡ old.mine → held.stake ≡ old.stake
    → IsServing a clock old read out s now count → IsServing a clock held read out s now count
serving_longer a clock old held read out s now count ready more rows places same h = record {
  ready = ready;
  begins = Follows-trans (start_of a) (mark_of old read) (mark_of held read) h.begins more;
  faults = h.faults;
  rose = h.rose;
  gained = IfSome-map a.told (λ before. IsGainedBy a clock old read out s before now)
      (λ before. IsGainedBy a clock held read out s before now)
      (λ before k. record {
        gained = k.gained;
        is = k.is;
        accepts = k.accepts;
        last = k.last;
        asked = k.asked;
        faults = k.faults;
        links = k.links;
        loans = k.loans;
        are_out = subst (λ (t : Stake). AreOut t.lending k.loans) (sym same) k.are_out;
        held = subst
            (λ (o : Owned). AreHeldBack (start_of a) (mark_of held read) clock (noted_by held) s.short o k.loans
            k.gained)
            (sym (owned_same old held places (ap (λ (t : Stake). t.undecided) same)))
            (AreHeldBack-longer (start_of a) (mark_of old read) (mark_of held read) clock clock (noted_by old)
            (noted_by held) s.short s.short (owned_by old) k.loans k.gained more (λ at m. m)
            (noted-rows (mark_of held read) old held rows) (λ is. is) k.held);
      }) h.gained;
}

-- memory ran out
pub serving_short : (a : AtEntry) (clock : Moment → Type 0) (pass : Known) (read : List Entry) (out : ℕ)
    (s : ServeState)
    (now : Option (List NetworkEvent)) (count : ℕ) → IsServing a clock pass read out s now count
    → IsServing a clock pass read out (stands s.left s.ended s.failed true) now count
serving_short a clock pass read out s now count h = record {
  ready = h.ready;
  begins = h.begins;
  faults = h.faults;
  rose = h.rose;
  gained = IfSome-map a.told (λ before. IsGainedBy a clock pass read out s before now)
      (λ before. IsGainedBy a clock pass read out (stands s.left s.ended s.failed true) before
      now)
      (λ before k. record {
        gained = k.gained;
        is = k.is;
        accepts = k.accepts;
        last = k.last;
        asked = k.asked;
        faults = k.faults;
        links = k.links;
        loans = k.loans;
        are_out = k.are_out;
        held = AreHeldBack-longer (start_of a) (mark_of pass read) (mark_of pass read) clock clock (noted_by pass)
            (noted_by pass) s.short
            true (owned_by pass) k.loans k.gained (Follows-refl (mark_of pass read)) (λ at m. m)
            (λ notes place H begins holds. holds)
            (λ is. refl)
            k.held;
      }) h.gained;
}

-- what is held of a link that was served is what is held of one taken back
held_back : (served : Result Served ServeFault) (start final later : Mark) (clock : Moment → Type 0)
    (said in_words : List Note → Saying) (s : ServeState) (owned : Owned) (link : LinkState)
    → Follows final later → IsSaidBy later said in_words → IsServedLink start final clock said owned link served
    → IsHeldBack start later clock in_words (noted served s).short owned link
held_back (Ok done) start final later clock said in_words s owned link more by h =
    inl (IsHeldOf-longer start final later clock clock said in_words owned link true more (λ at m. m) by h)
held_back (Err ReadFault) start final later clock said in_words s owned link more by h =
    inr (IsHeldOf-longer start final later clock clock said in_words owned link false more (λ at m. m) by h.0, inr h.1)
held_back (Err WriteFault) start final later clock said in_words s owned link more by h =
    inr (IsHeldOf-longer start final later clock clock said in_words owned link false more (λ at m. m) by h.0, inr h.1)
held_back (Err Memory) start final later clock said in_words s owned link more by h =
    inr (IsHeldOf-longer start final later clock clock said in_words owned link false more (λ at m. m) by h, inl refl)

stays_short : (served : Result Served ServeFault) (s : ServeState) → s.short ≡ true → (noted served s).short ≡ true
stays_short (Ok done) s is = is
stays_short (Err ReadFault) s is = is
stays_short (Err WriteFault) s is = is
stays_short (Err Memory) s is = refl

-- how a link was served says nothing of the accepts
pub record SameAccepts (old new : ServeState) : Type 0 where
  pub left : new.left ≡ old.left
  pub ended : new.ended ≡ old.ended
  pub failed : new.failed ≡ old.failed

pub same_accepts : (served : Result Served ServeFault) (s : ServeState) → SameAccepts s (noted served s)
same_accepts (Ok done) s = record { left = refl; ended = refl; failed = refl }
same_accepts (Err ReadFault) s = record { left = refl; ended = refl; failed = refl }
same_accepts (Err WriteFault) s = record { left = refl; ended = refl; failed = refl }
same_accepts (Err Memory) s = record { left = refl; ended = refl; failed = refl }

module _ (a : AtEntry) (clock : Moment → Type 0) (served : Result Served ServeFault) (s : ServeState)
    (old mine held : Known) (was seen read : List Entry)
    (out left_out : ℕ) (now new : Option (List NetworkEvent)) (count after : ℕ) (link : LinkState)
    (never : count ≤ after) (less : left_out + 1 ≡ out)
    (first : Follows (mark_of old was) (mark_of held read)) (second : Follows (mark_of mine seen) (mark_of held read))
    (rows : held.rows ≡ old.rows ++ mine.rows)
    (owned : owned_by held ≡ both_owned (owned_by old) (holding_of mine).owned)
    (told : new ≡ add_told (returned link) now) (loan : Loan)
    (lending : held.stake.lending ≡ both_lendings old.stake.lending (borrowed loan))
    (key : held.stake.lending.keys ≡ 1) (has : HasOut held.stake.lending) where
  gained_back : (before : List NetworkEvent) → IsGainedBy a clock old was out s before now
      → IsServedLink (mark_lent (start_of a) loan) (mark_of mine seen) clock (noted_by mine) (holding_of mine).owned
      link served → IsGainedBy a clock held read left_out (noted served s) before new
  gained_back before h by =
      let same = same_accepts served s in
      let loans = has.known key in
      record {
        gained = returned link ∷ h.gained;
        is = told_more (returned link) h.gained before now new h.is told;
        accepts = (let e = h.accepts in let l = same.left in omega arith);
        last = h.last ∙ sym same.ended;
        asked = h.asked;
        faults = h.faults ∙ sym same.failed;
        links = (let e = h.links in omega arith);
        loans = loans.0;
        are_out = loans.1;
        held = (
          owned_by old,
          (holding_of mine).owned,
          loan,
          mark_of old was,
          owned,
          held_back served (mark_lent (start_of a) loan) (mark_of mine seen) (mark_of held read) clock (noted_by mine)
              (noted_by held) s (holding_of mine).owned link second
              (noted-rows (mark_of held read) mine held (subst (λ (l : List Row). AreAmong mine.rows l) (sym rows)
              (AreAmong-behind old.rows mine.rows mine.rows (AreAmong-refl mine.rows)))) by,
          first,
          AreHeldBack-same (start_of a) (mark_of old was) clock (noted_by held) (noted served s).short (owned_by old)
              h.loans (loan ∷ loans.0) h.gained
              (AreOut-back old.stake.lending loan h.loans loans.0 h.are_out
              (subst (λ (l : Lending). AreOut l loans.0) lending loans.1))
              (AreHeldBack-longer (start_of a) (mark_of old was) (mark_of old was) clock clock (noted_by old)
              (noted_by held) s.short (noted served s).short (owned_by old) h.loans h.gained
              (Follows-refl (mark_of old was)) (λ at m. m)
              (noted-rows (mark_of old was) old held (subst (λ (l : List Row). AreAmong old.rows l) (sym rows)
              (AreAmong-before old.rows old.rows mine.rows (AreAmong-refl old.rows)))) (stays_short served s) h.held),
        );
      }

  -- a link was taken back
  pub serving_back : IsReady a.lock held → IsServing a clock old was out s now count
      → IfSome a.told (λ _. IsServedLink (mark_lent (start_of a) loan) (mark_of mine seen) clock (noted_by mine)
      (holding_of mine).owned link served)
      → IsServing a clock held read left_out (noted served s) new after
  serving_back ready h by =
      let same = same_accepts served s in
      record {
        ready = ready;
        begins = Follows-trans (start_of a) (mark_of old was) (mark_of held read) h.begins first;
        faults = (let e = h.faults in omega arith);
        rose = λ is. Rose-later a.count count after (h.rose (sym same.failed ∙ is)) never;
        gained = IfSome-both a.told (λ before. IsGainedBy a clock old was out s before now)
            (λ _. IsServedLink (mark_lent (start_of a) loan) (mark_of mine seen) clock (noted_by mine)
            (holding_of mine).owned link served)
            (λ before. IsGainedBy a clock held read left_out (noted served s) before new)
            (λ before k m. gained_back before k m) h.gained by;
      }
