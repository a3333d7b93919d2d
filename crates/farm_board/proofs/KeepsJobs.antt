-- Each kind of step keeps the rule of the table.
use Rattle.std.proofs.Common.{◌≡◌, ◌≢◌, ◌∷◌, [], List, Option, Some, None, ℕ, length, replicate, get_or, set, ◌<◌, ◌==◌, if◌then◌else◌, arith, sym, refl, ap, ◌∙◌, subst, length-set, get_or-set_same, get_or-set_other}
use Rattle.std.proofs.lemmas.List.{length-replicate}
use mathlib.Core.Logic.{dite}
use mathlib.Core.Option.{some, none}
use native.Mathlib.Decide.{ℕ_discrete}
use prog.Atomic.{either}
use lib.ListN.{get_elem?}
use lib.Seq.{set-get_or}
use Rattle.atomic_table.specs.Table.{State, Me, Act, keeps, takes, gives, Valid, stepped, step, carried_after, Allows, Enters, opening}
use Rattle.atomic_table.proofs.Lists.{set_here, set_else, set_again, exchanged}
use Rattle.farm_board.specs.JobRules.{Stage, free, claimed, posted, taken, answered, word_at, home_at, part_at, part_with, view_of, IsRight, IsSlot, IsKept}
use Rattle.farm_board.specs.JobSteps.{Begins, Reserves, Posts, Takes, Ends, Fetches, Retracts}
use Rattle.farm_board.specs.JobViews.{idle, claiming, asking, helping}
use Rattle.farm_board.specs.declared.jobs.TheConstants.{SLOTS}
use Rattle.farm_board.specs.declared.job_steps.TheConstants.{FREE, CLAIMED, POSTED, TAKEN, ANSWERED}
use Rattle.farm_board.specs.declared.job_view.SeatPart.{SeatPart}
use Rattle.farm_board.specs.declared.job_view.SeatPart.TheVariants.{Idle, Claims, Asks, Helps}
use Rattle.farm_board.specs.declared.job_view.Slot.{Slot}
use Rattle.farm_board.specs.declared.job_view.Slot.TheVariants.{Job, Answer}
use Rattle.farm_board.specs.declared.job_view.View.{View}
use Rattle.farm_board.proofs.JobRows.{cond-same, cond-other, at-lt-length, at-get_or, get_or-push, get_or-replicate, at-replicate}
use Rattle.farm_board.proofs.Stages.{claims-elsewhere, asks-elsewhere, helps-elsewhere, claims-here, asks-here, helps-here, is-free, is-posted, is-claimed-by, is-posted-by, is-answered-by, is-taken-by, idle-not-by}

module _ {K Q A : Type 0} (may : K → Q → Type 0) (says : K → Q → A → Type 0) (key : K) where
  abbrev Contents : Type 0
  Contents = Option (Slot Q A)

  abbrev St : Type 0
  St = State Contents (View K Q)

  abbrev Seat : Type 0
  Seat = Me Contents (View K Q)

  abbrev table : List ℕ → List (mathlib.Core.Option.Option Contents) → List (View K Q) → St
  table words homes views = record { words = words; homes = homes; views = views }

  abbrev IsKeptIn : St → Type 0
  IsKeptIn = IsKept may says key

  -- what a seat does with a slot, by its view
  part-by_view : (s : St) (kept : IsKeptIn s) (slot : ℕ) (within : slot < SLOTS) (seat : ℕ) (v : View K Q)
      → get_elem? s.views seat ≡ some v
      → part_with slot v.part ≡ part_at slot (kept.slots slot within).stage seat
  part-by_view s kept slot within seat v at =
      ap (λ (x : View K Q). part_with slot x.part) (sym (at-get_or s.views seat v (idle key) at))
      ∙ (kept.slots slot within).parts seat

  -- what holds of so many slots, and of a seat as it should be, holds of those in hand
  carried : (F : ℕ → Seat → Type 0) (slots : ℕ) (m n : Seat) → slots ≡ SLOTS → m ≡ n → F SLOTS n → F slots m
  carried F slots m n sized is f =
      subst (λ (k : ℕ). F k m) (sym sized) (subst (λ (x : Seat). F SLOTS x) (sym is) f)

  -- nothing changed
  unmoved : (s : St) (kept : IsKeptIn s) (slot seat : ℕ) (m : Seat) → get_elem? s.views seat ≡ some m.0
      → IsKeptIn (stepped s slot (get_or s.words slot 0) seat m.1 m.0 keeps)
  unmoved s kept slot seat m at =
      subst (λ (ws : List ℕ). IsKeptIn (table ws s.homes (set s.views seat m.0))) (sym (set-get_or s.words slot 0))
      (subst (λ (vs : List (View K Q)). IsKeptIn (table s.words s.homes vs)) (sym (set_again s.views seat m.0 at)) kept)

  -- A slot goes from one stage to another by a step of one seat, which does with other slots what it did, while the
  -- other seats do with this one what they did.
  moved : (s : St) (kept : IsKeptIn s) (slot : ℕ) (within : slot < SLOTS) → length s.homes ≡ SLOTS
      → (seat : ℕ) (v w : View K Q) → get_elem? s.views seat ≡ some v → w.key ≡ key
      → ((n : ℕ) → n ≢ slot → part_with n w.part ≡ part_with n v.part)
      → (before after : Stage Q A) → (kept.slots slot within).stage ≡ before
      → ((i : ℕ) → i ≢ seat → part_at slot before i ≡ part_at slot after i)
      → part_with slot w.part ≡ part_at slot after seat → IsRight may says key after
      → IsKeptIn
      (table (set s.words slot (word_at after)) (set s.homes slot (home_at after)) (set s.views seat w))
  moved s kept slot within sized seat v w at key_is elsewhere before after is others here right =
      let views : List (View K Q) = set s.views seat w in
      let s' : St = table (set s.words slot (word_at after)) (set s.homes slot (home_at after)) views in
      let new_one : view_of key views seat ≡ w =
      get_or-set_same s.views seat w (idle key) (at-lt-length s.views seat v at) in
      let old_one : view_of key s.views seat ≡ v = at-get_or s.views seat v (idle key) at in
      let same : (i : ℕ) → i ≢ seat → view_of key views i ≡ view_of key s.views i =
      λ i ne. get_or-set_other s.views seat i w (idle key) (λ e. ne (omega (arith, e))) in
      record {
        words = length-set s.words slot (word_at after) ∙ kept.words;
        keys = λ i. dite (ℕ_discrete i seat)
            (λ e. subst (λ (n : ℕ). (view_of key views n).key ≡ key) (sym e)
            (ap (λ (x : View K Q). x.key) new_one ∙ key_is))
            (λ ne. ap (λ (x : View K Q). x.key) (same i ne) ∙ kept.keys i);
        slots = λ n below. dite (ℕ_discrete n slot)
            (λ e. subst (λ (m : ℕ). IsSlot may says key s' m) (sym e) record {
              stage = after;
              word = get_or-set_same s.words slot (word_at after) 0 (omega (arith, kept.words, within));
              home = set_here s.homes slot (home_at after) (omega (arith, sized, within));
              parts = λ i. dite (ℕ_discrete i seat)
                  (λ e. subst (λ (m : ℕ). part_with slot (view_of key views m).part ≡ part_at slot after m) (sym e)
                  (ap (λ (x : View K Q). part_with slot x.part) new_one ∙ here))
                  (λ ne. ap (λ (x : View K Q). part_with slot x.part) (same i ne)
                  ∙ (kept.slots slot within).parts i ∙ ap (λ (st : Stage Q A). part_at slot st i) is ∙ others i ne);
              right = right;
            })
            (λ ne.
            let k = kept.slots n below in
            record {
              stage = k.stage;
              word = get_or-set_other s.words slot n (word_at after) 0 (λ e. ne (omega (arith, e))) ∙ k.word;
              home = set_else s.homes slot n (home_at after) ne ∙ k.home;
              parts = λ i. dite (ℕ_discrete i seat)
                  (λ e. subst (λ (m : ℕ). part_with n (view_of key views m).part ≡ part_at n k.stage m) (sym e)
                  (ap (λ (x : View K Q). part_with n x.part) new_one ∙ elsewhere n ne
                  ∙ part-by_view s kept n below seat v at))
                  (λ other. ap (λ (x : View K Q). part_with n x.part) (same i other) ∙ k.parts i);
              right = k.right;
            });
      }

  -- the table at the start
  pub starts : IsKeptIn (opening (replicate SLOTS FREE) (replicate SLOTS None) (idle key))
  starts = record {
    words = length-replicate SLOTS FREE;
    keys = λ i. ap (λ (x : View K Q). x.key) (get_or-replicate 1 i (idle key));
    slots = λ n below. record {
      stage = free;
      word = get_or-replicate SLOTS n FREE;
      home = at-replicate SLOTS n None below;
      parts = λ i. ap (λ (x : View K Q). part_with n x.part) (get_or-replicate 1 i (idle key));
      right = tt;
    };
  }

  -- a new seat
  pub begins : (slots word : ℕ) → Enters IsKeptIn slots word
      (λ n w. Begins {A = A} (step slots word 0 0 none) (idle key, []) n (w, []))
  begins slots word s kept sized fits = (
    idle key,
    record {
      words = kept.words;
      keys = λ i. ap (λ (x : View K Q). x.key) (get_or-push s.views i (idle key)) ∙ kept.keys i;
      slots = λ n below.
          let k = kept.slots n below in
          record {
            stage = k.stage;
            word = k.word;
            home = k.home;
            parts = λ i. ap (λ (x : View K Q). part_with n x.part) (get_or-push s.views i (idle key)) ∙ k.parts i;
            right = k.right;
          };
    },
    refl,
  )

  -- claim
  claims_plainly : (seat slot : ℕ) → slot < SLOTS
      → Allows IsKeptIn SLOTS seat (idle key, []) slot (λ n. either (n == FREE) CLAIMED n)
      (Reserves (step SLOTS slot FREE CLAIMED none) (idle key, []))
  claims_plainly seat slot within s kept sized at fits =
      let m : Seat = (idle key, []) in
      let k = kept.slots slot within in
      let Goes : ℕ → Type 0 =
      λ n. (w : View K Q) × (a : Act Contents) × Valid s.homes m.1 a × IsKeptIn (stepped s slot n seat m.1 w a)
      × Reserves (step SLOTS slot FREE CLAIMED none) m (get_or s.words slot 0) (w, carried_after m.1 a) in
      exchanged (get_or s.words slot 0) FREE CLAIMED Goes
      (λ e.
      let is : k.stage ≡ free = is-free k.stage (sym k.word ∙ e) in (
        claiming key slot,
        takes slot None,
        k.home ∙ ap (λ (st : Stage Q A). some (home_at st)) is,
        moved s kept slot within sized seat m.0 (claiming key slot) at refl (λ n ne. claims-elsewhere n slot ne) free
            (claimed seat) is (λ i ne. sym (cond-other i seat (Claims slot) Idle ne))
            (claims-here slot ∙ sym (cond-same seat seat (Claims slot) Idle refl)) tt,
        ((λ _. refl), λ ne. absurd (ne e)),
      ))
      (λ ne. (m.0, keeps, tt, unmoved s kept slot seat m at, ((λ e. absurd (ne e)), λ _. refl)))

  -- a seat that has the slot for itself
  claims-slot : (s : St) (kept : IsKeptIn s) (slot : ℕ) (within : slot < SLOTS) (seat : ℕ)
      → get_elem? s.views seat ≡ some (claiming key slot) → (kept.slots slot within).stage ≡ claimed seat
  claims-slot s kept slot within seat at =
      is-claimed-by slot seat (kept.slots slot within).stage
      (sym (part-by_view s kept slot within seat (claiming key slot) at) ∙ claims-here slot)

  -- post
  posts_plainly : (seat slot : ℕ) (job : Q) → slot < SLOTS → may key job
      → Allows IsKeptIn SLOTS seat (claiming key slot, (slot, Some (Job job)) ∷ []) slot (λ _. POSTED)
      (λ _. Posts (step SLOTS slot POSTED 0 none) (claiming key slot, (slot, Some (Job job)) ∷ []) POSTED)
  posts_plainly seat slot job within right s kept sized at fits = (
    asking key slot job,
    gives,
    tt,
    moved s kept slot within sized seat (claiming key slot) (asking key slot job) at refl
        (λ n ne. asks-elsewhere n slot job ne ∙ sym (claims-elsewhere n slot ne)) (claimed seat) (posted seat job)
        (claims-slot s kept slot within seat at)
        (λ i ne. cond-other i seat (Claims slot) Idle ne ∙ sym (cond-other i seat (Asks slot job) Idle ne))
        (asks-here slot job ∙ sym (cond-same seat seat (Asks slot job) Idle refl)) right,
    (job, refl, refl),
  )

  -- the part of a helper among the others
  helper-among : (slot by helper : ℕ) (job : Q) (i : ℕ) → i ≢ helper
      → part_at {Q = Q} {A = A} slot (posted by job) i ≡ part_at {Q = Q} {A = A} slot (taken by helper job) i
  helper-among slot by helper job i ne =
      ap (λ (p : SeatPart Q). if i == by then Asks slot job else p) (sym (cond-other i helper (Helps slot job) Idle ne))

  -- take
  takes_job_plainly : (seat slot : ℕ) → slot < SLOTS
      → Allows IsKeptIn SLOTS seat (idle key, []) slot (λ n. either (n == POSTED) TAKEN n)
      (Takes may (step SLOTS slot POSTED TAKEN none) (idle key, []))
  takes_job_plainly seat slot within s kept sized at fits =
      let m : Seat = (idle key, []) in
      let k = kept.slots slot within in
      let Goes : ℕ → Type 0 =
      λ n. (w : View K Q) × (a : Act Contents) × Valid s.homes m.1 a × IsKeptIn (stepped s slot n seat m.1 w a)
      × Takes may (step SLOTS slot POSTED TAKEN none) m (get_or s.words slot 0) (w, carried_after m.1 a) in
      exchanged (get_or s.words slot 0) POSTED TAKEN Goes
      (λ e.
      let p = is-posted k.stage (sym k.word ∙ e) in
      let by : ℕ = p.0 in
      let job : Q = p.1 in
      let is : k.stage ≡ posted by job = p.2 in
      let right : may key job = subst (λ (st : Stage Q A). IsRight may says key st) is k.right in
      let ne : seat ≢ by =
      idle-not-by slot seat by job k.stage is (part-by_view s kept slot within seat m.0 at) in (
        helping key slot job,
        takes slot (Some (Job job)),
        k.home ∙ ap (λ (st : Stage Q A). some (home_at st)) is,
        moved s kept slot within sized seat m.0 (helping key slot job) at refl (λ n ne. helps-elsewhere n slot job ne)
            (posted by job) (taken by seat job) is (λ i other. helper-among slot by seat job i other)
            (helps-here slot job
            ∙ sym (cond-other seat by (Asks slot job) (if seat == seat then Helps slot job else Idle) ne
            ∙ cond-same seat seat (Helps slot job) Idle refl))
            right,
        ((λ _. (job, right, refl)), λ other. absurd (other e)),
      ))
      (λ ne. (m.0, keeps, tt, unmoved s kept slot seat m at, ((λ e. absurd (ne e)), λ _. refl)))

  -- answer
  answers_plainly : (seat slot : ℕ) (job : Q) (answer : A) → slot < SLOTS → says key job answer
      → Allows IsKeptIn SLOTS seat (helping key slot job, (slot, Some (Answer answer)) ∷ []) slot (λ _. ANSWERED)
      (λ _. Ends (step SLOTS slot ANSWERED 0 none) (helping key slot job, (slot, Some (Answer answer)) ∷ []) ANSWERED)
  answers_plainly seat slot job answer within right s kept sized at fits =
      let t = is-taken-by slot seat job (kept.slots slot within).stage
      (sym (part-by_view s kept slot within seat (helping key slot job) at) ∙ helps-here slot job) in
      let by : ℕ = t.0 in (
        idle key,
        gives,
        tt,
        moved s kept slot within sized seat (helping key slot job) (idle key) at refl
            (λ n ne. sym (helps-elsewhere n slot job ne)) (taken by seat job) (answered by job answer) t.2
            (λ i ne. sym (helper-among slot by seat job i ne))
            (sym (cond-other seat by (Asks slot job) Idle t.1)) right,
        refl,
      )

  -- what a seat that asks does with the slot
  asks-slot : (s : St) (kept : IsKeptIn s) (slot : ℕ) (within : slot < SLOTS) (seat : ℕ) (job : Q)
      → get_elem? s.views seat ≡ some (asking key slot job)
      → part_at slot (kept.slots slot within).stage seat ≡ Asks slot job
  asks-slot s kept slot within seat job at =
      sym (part-by_view s kept slot within seat (asking key slot job) at) ∙ asks-here slot job

  -- fetch
  fetches_plainly : (seat slot : ℕ) (job : Q) → slot < SLOTS
      → Allows IsKeptIn SLOTS seat (asking key slot job, []) slot (λ n. either (n == ANSWERED) CLAIMED n)
      (Fetches says (step SLOTS slot ANSWERED CLAIMED none) (asking key slot job, []))
  fetches_plainly seat slot job within s kept sized at fits =
      let m : Seat = (asking key slot job, []) in
      let k = kept.slots slot within in
      let Goes : ℕ → Type 0 =
      λ n. (w : View K Q) × (a : Act Contents) × Valid s.homes m.1 a × IsKeptIn (stepped s slot n seat m.1 w a)
      × Fetches says (step SLOTS slot ANSWERED CLAIMED none) m (get_or s.words slot 0) (w, carried_after m.1 a) in
      exchanged (get_or s.words slot 0) ANSWERED CLAIMED Goes
      (λ e.
      let p = is-answered-by slot seat job k.stage (asks-slot s kept slot within seat job at) (sym k.word ∙ e) in
      let answer : A = p.0 in
      let is : k.stage ≡ answered seat job answer = p.1 in
      let right : says key job answer = subst (λ (st : Stage Q A). IsRight may says key st) is k.right in (
        claiming key slot,
        takes slot (Some (Answer answer)),
        k.home ∙ ap (λ (st : Stage Q A). some (home_at st)) is,
        moved s kept slot within sized seat m.0 (claiming key slot) at refl
            (λ n ne. claims-elsewhere n slot ne ∙ sym (asks-elsewhere n slot job ne)) (answered seat job answer)
            (claimed seat) is
            (λ i ne. cond-other i seat (Asks slot job) Idle ne ∙ sym (cond-other i seat (Claims slot) Idle ne))
            (claims-here slot ∙ sym (cond-same seat seat (Claims slot) Idle refl)) tt,
        ((λ _. (job, answer, refl, right, refl)), λ ne. absurd (ne e)),
      ))
      (λ ne. (m.0, keeps, tt, unmoved s kept slot seat m at, ((λ e. absurd (ne e)), λ _. refl)))

  -- retract
  retracts_plainly : (seat slot : ℕ) (job : Q) → slot < SLOTS
      → Allows IsKeptIn SLOTS seat (asking key slot job, []) slot (λ n. either (n == POSTED) CLAIMED n)
      (Retracts (step SLOTS slot POSTED CLAIMED none) (asking key slot job, []))
  retracts_plainly seat slot job within s kept sized at fits =
      let m : Seat = (asking key slot job, []) in
      let k = kept.slots slot within in
      let Goes : ℕ → Type 0 =
      λ n. (w : View K Q) × (a : Act Contents) × Valid s.homes m.1 a × IsKeptIn (stepped s slot n seat m.1 w a)
      × Retracts (step SLOTS slot POSTED CLAIMED none) m (get_or s.words slot 0) (w, carried_after m.1 a) in
      exchanged (get_or s.words slot 0) POSTED CLAIMED Goes
      (λ e.
      let is : k.stage ≡ posted seat job =
      is-posted-by slot seat job k.stage (asks-slot s kept slot within seat job at) (sym k.word ∙ e) in (
        claiming key slot,
        takes slot (Some (Job job)),
        k.home ∙ ap (λ (st : Stage Q A). some (home_at st)) is,
        moved s kept slot within sized seat m.0 (claiming key slot) at refl
            (λ n ne. claims-elsewhere n slot ne ∙ sym (asks-elsewhere n slot job ne)) (posted seat job)
            (claimed seat) is
            (λ i ne. cond-other i seat (Asks slot job) Idle ne ∙ sym (cond-other i seat (Claims slot) Idle ne))
            (claims-here slot ∙ sym (cond-same seat seat (Claims slot) Idle refl)) tt,
        ((λ _. (job, refl, refl)), λ ne. absurd (ne e)),
      ))
      (λ ne. (m.0, keeps, tt, unmoved s kept slot seat m at, ((λ e. absurd (ne e)), λ _. refl)))

  -- free
  frees_plainly : (seat slot : ℕ) → slot < SLOTS
      → Allows IsKeptIn SLOTS seat (claiming key slot, (slot, None) ∷ []) slot (λ _. FREE)
      (λ _. Ends (step SLOTS slot FREE 0 none) (claiming key slot, (slot, None) ∷ []) FREE)
  frees_plainly seat slot within s kept sized at fits = (
    idle key,
    gives,
    tt,
    moved s kept slot within sized seat (claiming key slot) (idle key) at refl
        (λ n ne. sym (claims-elsewhere n slot ne)) (claimed seat) free (claims-slot s kept slot within seat at)
        (λ i ne. cond-other i seat (Claims slot) Idle ne) refl tt,
    refl,
  )

  -- The same for the slots of a table that has so many, and a seat that is as it should be.

  pub claims : (slots seat slot : ℕ) (m : Seat) → slots ≡ SLOTS → m ≡ (idle key, []) → slot < SLOTS
      → Allows IsKeptIn slots seat m slot (λ n. either (n == FREE) CLAIMED n)
      (Reserves (step slots slot FREE CLAIMED none) m)
  claims slots seat slot m many is within =
      carried
      (λ k x. Allows IsKeptIn k seat x slot (λ n. either (n == FREE) CLAIMED n)
      (Reserves (step k slot FREE CLAIMED none) x))
      slots m (idle key, []) many is (claims_plainly seat slot within)

  pub posts : (slots seat slot : ℕ) (m : Seat) (job : Q) → slots ≡ SLOTS
      → m ≡ (claiming key slot, (slot, Some (Job job)) ∷ []) → slot < SLOTS → may key job
      → Allows IsKeptIn slots seat m slot (λ _. POSTED) (λ _. Posts (step slots slot POSTED 0 none) m POSTED)
  posts slots seat slot m job many is within right =
      carried
      (λ k x. Allows IsKeptIn k seat x slot (λ _. POSTED) (λ _. Posts (step k slot POSTED 0 none) x POSTED))
      slots m (claiming key slot, (slot, Some (Job job)) ∷ []) many is (posts_plainly seat slot job within right)

  pub takes_job : (slots seat slot : ℕ) (m : Seat) → slots ≡ SLOTS → m ≡ (idle key, []) → slot < SLOTS
      → Allows IsKeptIn slots seat m slot (λ n. either (n == POSTED) TAKEN n)
      (Takes may (step slots slot POSTED TAKEN none) m)
  takes_job slots seat slot m many is within =
      carried
      (λ k x. Allows IsKeptIn k seat x slot (λ n. either (n == POSTED) TAKEN n)
      (Takes may (step k slot POSTED TAKEN none) x))
      slots m (idle key, []) many is (takes_job_plainly seat slot within)

  pub answers : (slots seat slot : ℕ) (m : Seat) (job : Q) (answer : A) → slots ≡ SLOTS
      → m ≡ (helping key slot job, (slot, Some (Answer answer)) ∷ []) → slot < SLOTS → says key job answer
      → Allows IsKeptIn slots seat m slot (λ _. ANSWERED) (λ _. Ends (step slots slot ANSWERED 0 none) m ANSWERED)
  answers slots seat slot m job answer many is within right =
      carried
      (λ k x. Allows IsKeptIn k seat x slot (λ _. ANSWERED) (λ _. Ends (step k slot ANSWERED 0 none) x ANSWERED))
      slots m (helping key slot job, (slot, Some (Answer answer)) ∷ []) many is
      (answers_plainly seat slot job answer within right)

  pub fetches : (slots seat slot : ℕ) (m : Seat) (job : Q) → slots ≡ SLOTS → m ≡ (asking key slot job, [])
      → slot < SLOTS
      → Allows IsKeptIn slots seat m slot (λ n. either (n == ANSWERED) CLAIMED n)
      (Fetches says (step slots slot ANSWERED CLAIMED none) m)
  fetches slots seat slot m job many is within =
      carried
      (λ k x. Allows IsKeptIn k seat x slot (λ n. either (n == ANSWERED) CLAIMED n)
      (Fetches says (step k slot ANSWERED CLAIMED none) x))
      slots m (asking key slot job, []) many is (fetches_plainly seat slot job within)

  pub retracts : (slots seat slot : ℕ) (m : Seat) (job : Q) → slots ≡ SLOTS → m ≡ (asking key slot job, [])
      → slot < SLOTS
      → Allows IsKeptIn slots seat m slot (λ n. either (n == POSTED) CLAIMED n)
      (Retracts (step slots slot POSTED CLAIMED none) m)
  retracts slots seat slot m job many is within =
      carried
      (λ k x. Allows IsKeptIn k seat x slot (λ n. either (n == POSTED) CLAIMED n)
      (Retracts (step k slot POSTED CLAIMED none) x))
      slots m (asking key slot job, []) many is (retracts_plainly seat slot job within)

  pub frees : (slots seat slot : ℕ) (m : Seat) → slots ≡ SLOTS → m ≡ (claiming key slot, (slot, None) ∷ [])
      → slot < SLOTS
      → Allows IsKeptIn slots seat m slot (λ _. FREE) (λ _. Ends (step slots slot FREE 0 none) m FREE)
  frees slots seat slot m many is within =
      carried
      (λ k x. Allows IsKeptIn k seat x slot (λ _. FREE) (λ _. Ends (step k slot FREE 0 none) x FREE))
      slots m (claiming key slot, (slot, None) ∷ []) many is (frees_plainly seat slot within)
