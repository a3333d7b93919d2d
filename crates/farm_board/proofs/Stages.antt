-- The stages of a slot: which one it is, by its word and by what a seat does with it.
use Rattle.std.proofs.Common.{◌≡◌, ◌≢◌, ◌==◌, if◌then◌else◌, ℕ, arith, sym, refl, ap, ◌∙◌}
use mathlib.Core.Logic.{dite}
use native.Mathlib.Decide.{ℕ_discrete}
use Rattle.farm_board.specs.JobRules.{Stage, free, claimed, posted, taken, answered, word_at, part_at, part_with}
use Rattle.farm_board.specs.declared.job_steps.TheConstants.{FREE, POSTED, ANSWERED}
use Rattle.farm_board.specs.declared.job_view.SeatPart.{SeatPart}
use Rattle.farm_board.specs.declared.job_view.SeatPart.TheVariants.{Idle, Claims, Asks, Helps}
use Rattle.farm_board.proofs.JobRows.{cond-same, cond-other}

module _ {Q : Type 0} where
  -- which kind of part it is
  abbrev kind : SeatPart Q → ℕ
  kind Idle = 0
  kind (Claims slot) = 1
  kind (Asks slot job) = 2
  kind (Helps slot job) = 3

  -- its job, or another one
  abbrev job_or : Q → SeatPart Q → Q
  job_or other Idle = other
  job_or other (Claims slot) = other
  job_or other (Asks slot job) = job
  job_or other (Helps slot job) = job

  -- parts of two kinds differ
  Idle-Claims : (slot : ℕ) → ◌≡◌ {A = SeatPart Q} Idle (Claims slot) → ⊥
  Idle-Claims slot e = let t : 0 ≡ 1 = ap kind e in omega (arith, t)

  Idle-Asks : (slot : ℕ) (job : Q) → Idle ≡ Asks slot job → ⊥
  Idle-Asks slot job e = let t : 0 ≡ 2 = ap kind e in omega (arith, t)

  Idle-Helps : (slot : ℕ) (job : Q) → Idle ≡ Helps slot job → ⊥
  Idle-Helps slot job e = let t : 0 ≡ 3 = ap kind e in omega (arith, t)

  Asks-Claims : (slot own : ℕ) (job : Q) → Asks slot job ≡ Claims own → ⊥
  Asks-Claims slot own job e = let t : 2 ≡ 1 = ap kind e in omega (arith, t)

  Helps-Claims : (slot own : ℕ) (job : Q) → Helps slot job ≡ Claims own → ⊥
  Helps-Claims slot own job e = let t : 3 ≡ 1 = ap kind e in omega (arith, t)

  Claims-Asks : (slot own : ℕ) (job : Q) → Claims slot ≡ Asks own job → ⊥
  Claims-Asks slot own job e = let t : 1 ≡ 2 = ap kind e in omega (arith, t)

  Claims-Helps : (slot own : ℕ) (job : Q) → Claims slot ≡ Helps own job → ⊥
  Claims-Helps slot own job e = let t : 1 ≡ 3 = ap kind e in omega (arith, t)

  Asks-Helps : (slot own : ℕ) (job other : Q) → Asks slot job ≡ Helps own other → ⊥
  Asks-Helps slot own job other e = let t : 2 ≡ 3 = ap kind e in omega (arith, t)

  -- a part that is about another slot, as one about this slot
  pub claims-elsewhere : (slot own : ℕ) → slot ≢ own → ◌≡◌ {A = SeatPart Q} (part_with slot (Claims own)) Idle
  claims-elsewhere slot own ne = cond-other own slot (Claims own) Idle (λ e. ne (sym e))

  pub asks-elsewhere : (slot own : ℕ) (job : Q) → slot ≢ own → part_with slot (Asks own job) ≡ Idle
  asks-elsewhere slot own job ne = cond-other own slot (Asks own job) Idle (λ e. ne (sym e))

  pub helps-elsewhere : (slot own : ℕ) (job : Q) → slot ≢ own → part_with slot (Helps own job) ≡ Idle
  helps-elsewhere slot own job ne = cond-other own slot (Helps own job) Idle (λ e. ne (sym e))

  -- and one that is about this slot
  pub claims-here : (slot : ℕ) → ◌≡◌ {A = SeatPart Q} (part_with slot (Claims slot)) (Claims slot)
  claims-here slot = cond-same slot slot (Claims slot) Idle refl

  pub asks-here : (slot : ℕ) (job : Q) → part_with slot (Asks slot job) ≡ Asks slot job
  asks-here slot job = cond-same slot slot (Asks slot job) Idle refl

  pub helps-here : (slot : ℕ) (job : Q) → part_with slot (Helps slot job) ≡ Helps slot job
  helps-here slot job = cond-same slot slot (Helps slot job) Idle refl

module _ {Q A : Type 0} where
  -- the word tells that nobody uses the slot
  pub is-free : (stage : Stage Q A) → word_at stage ≡ FREE → stage ≡ free
  is-free free e = refl
  is-free (claimed by) e = absurd (omega (arith, e))
  is-free (posted by job) e = absurd (omega (arith, e))
  is-free (taken by helper job) e = absurd (omega (arith, e))
  is-free (answered by job answer) e = absurd (omega (arith, e))

  -- the word tells that a job is posted
  pub is-posted : (stage : Stage Q A) → word_at stage ≡ POSTED
      → (by : ℕ) × (job : Q) × (stage ≡ posted by job)
  is-posted free e = absurd (omega (arith, e))
  is-posted (claimed by) e = absurd (omega (arith, e))
  is-posted (posted by job) e = (by, job, refl)
  is-posted (taken by helper job) e = absurd (omega (arith, e))
  is-posted (answered by job answer) e = absurd (omega (arith, e))

  -- a seat that has the slot for itself has claimed it
  pub is-claimed-by : (slot seat : ℕ) (stage : Stage Q A) → part_at slot stage seat ≡ Claims slot
      → stage ≡ claimed seat
  is-claimed-by slot seat free e = absurd (Idle-Claims slot e)
  is-claimed-by slot seat (claimed by) e = dite (ℕ_discrete seat by)
      (λ same. ap (λ (n : ℕ). claimed n) (sym same))
      (λ ne. absurd (Idle-Claims slot (sym (cond-other seat by (Claims slot) Idle ne) ∙ e)))
  is-claimed-by slot seat (posted by job) e = dite (ℕ_discrete seat by)
      (λ same. absurd (Asks-Claims slot slot job (sym (cond-same seat by (Asks slot job) Idle same) ∙ e)))
      (λ ne. absurd (Idle-Claims slot (sym (cond-other seat by (Asks slot job) Idle ne) ∙ e)))
  is-claimed-by slot seat (taken by helper job) e =
      let rest : SeatPart Q = if seat == helper then Helps slot job else Idle in
      dite (ℕ_discrete seat by)
      (λ same. absurd (Asks-Claims slot slot job (sym (cond-same seat by (Asks slot job) rest same) ∙ e)))
      (λ ne. dite (ℕ_discrete seat helper)
      (λ same. absurd (Helps-Claims slot slot job
      (sym (cond-other seat by (Asks slot job) rest ne ∙ cond-same seat helper (Helps slot job) Idle same) ∙ e)))
      (λ not_it. absurd (Idle-Claims slot
      (sym (cond-other seat by (Asks slot job) rest ne ∙ cond-other seat helper (Helps slot job) Idle not_it) ∙ e))))
  is-claimed-by slot seat (answered by job answer) e = dite (ℕ_discrete seat by)
      (λ same. absurd (Asks-Claims slot slot job (sym (cond-same seat by (Asks slot job) Idle same) ∙ e)))
      (λ ne. absurd (Idle-Claims slot (sym (cond-other seat by (Asks slot job) Idle ne) ∙ e)))

  -- where a job is posted, the seat that asks posted its own
  pub is-posted-by : (slot seat : ℕ) (job : Q) (stage : Stage Q A) → part_at slot stage seat ≡ Asks slot job
      → word_at stage ≡ POSTED → stage ≡ posted seat job
  is-posted-by slot seat job free e w = absurd (omega (arith, w))
  is-posted-by slot seat job (claimed by) e w = absurd (omega (arith, w))
  is-posted-by slot seat job (posted by own) e w = dite (ℕ_discrete seat by)
      (λ same.
      let it : own ≡ job = ap (job_or own) (sym (cond-same seat by (Asks slot own) Idle same) ∙ e) in
      λ i. posted (sym same i) (it i))
      (λ ne. absurd (Idle-Asks slot job (sym (cond-other seat by (Asks slot own) Idle ne) ∙ e)))
  is-posted-by slot seat job (taken by helper own) e w = absurd (omega (arith, w))
  is-posted-by slot seat job (answered by own answer) e w = absurd (omega (arith, w))

  -- where an answer is, it is that to the job of the seat that asks
  pub is-answered-by : (slot seat : ℕ) (job : Q) (stage : Stage Q A) → part_at slot stage seat ≡ Asks slot job
      → word_at stage ≡ ANSWERED → (answer : A) × (stage ≡ answered seat job answer)
  is-answered-by slot seat job free e w = absurd (omega (arith, w))
  is-answered-by slot seat job (claimed by) e w = absurd (omega (arith, w))
  is-answered-by slot seat job (posted by own) e w = absurd (omega (arith, w))
  is-answered-by slot seat job (taken by helper own) e w = absurd (omega (arith, w))
  is-answered-by slot seat job (answered by own answer) e w = dite (ℕ_discrete seat by)
      (λ same.
      let it : own ≡ job = ap (job_or own) (sym (cond-same seat by (Asks slot own) Idle same) ∙ e) in
      (answer, λ i. answered (sym same i) (it i) answer))
      (λ ne. absurd (Idle-Asks slot job (sym (cond-other seat by (Asks slot own) Idle ne) ∙ e)))

  -- a seat that helps took the job, which another seat posted
  pub is-taken-by : (slot seat : ℕ) (job : Q) (stage : Stage Q A) → part_at slot stage seat ≡ Helps slot job
      → (by : ℕ) × (seat ≢ by) × (stage ≡ taken by seat job)
  is-taken-by slot seat job free e = absurd (Idle-Helps slot job e)
  is-taken-by slot seat job (claimed by) e = dite (ℕ_discrete seat by)
      (λ same. absurd (Claims-Helps slot slot job (sym (cond-same seat by (Claims slot) Idle same) ∙ e)))
      (λ ne. absurd (Idle-Helps slot job (sym (cond-other seat by (Claims slot) Idle ne) ∙ e)))
  is-taken-by slot seat job (posted by own) e = dite (ℕ_discrete seat by)
      (λ same. absurd (Asks-Helps slot slot own job (sym (cond-same seat by (Asks slot own) Idle same) ∙ e)))
      (λ ne. absurd (Idle-Helps slot job (sym (cond-other seat by (Asks slot own) Idle ne) ∙ e)))
  is-taken-by slot seat job (taken by helper own) e =
      let rest : SeatPart Q = if seat == helper then Helps slot own else Idle in
      dite (ℕ_discrete seat by)
      (λ same. absurd (Asks-Helps slot slot own job (sym (cond-same seat by (Asks slot own) rest same) ∙ e)))
      (λ ne. dite (ℕ_discrete seat helper)
      (λ same.
      let it : own ≡ job =
      ap (job_or own)
      (sym (cond-other seat by (Asks slot own) rest ne ∙ cond-same seat helper (Helps slot own) Idle same) ∙ e) in
      (by, ne, λ i. taken by (sym same i) (it i)))
      (λ not_it. absurd (Idle-Helps slot job
      (sym (cond-other seat by (Asks slot own) rest ne ∙ cond-other seat helper (Helps slot own) Idle not_it) ∙ e))))
  is-taken-by slot seat job (answered by own answer) e = dite (ℕ_discrete seat by)
      (λ same. absurd (Asks-Helps slot slot own job (sym (cond-same seat by (Asks slot own) Idle same) ∙ e)))
      (λ ne. absurd (Idle-Helps slot job (sym (cond-other seat by (Asks slot own) Idle ne) ∙ e)))

  -- a seat that does nothing with a slot isn't the one that posted there
  pub idle-not-by : (slot seat by : ℕ) (job : Q) (stage : Stage Q A) → stage ≡ posted by job
      → Idle ≡ part_at slot stage seat → seat ≢ by
  idle-not-by slot seat by job stage is e same =
      Idle-Asks slot job
      (e ∙ ap (λ (st : Stage Q A). part_at slot st seat) is ∙ cond-same seat by (Asks slot job) Idle same)
