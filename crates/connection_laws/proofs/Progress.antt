-- What is carried from item to item: how it goes on, and in place of what it may stand.
use Rattle.std.proofs.Common.{ℕ, ◌≡◌, inl, inr, ◌≤◌, List, [], ◌∷◌, ◌++◌, refl, sym, ap, ◌∙◌, append_assoc, arith, le_refl}
use Rattle.farm_entry.specs.Playing.{after}
use Rattle.farm_entry.specs.declared.decision.Decision.{Decision}
use Rattle.farm_entry.specs.declared.decision.Decision.TheVariants.{New, Refuse, Repeat, Show}
use Rattle.farm_entry.specs.declared.entry.Entry.{Entry}
use Rattle.connection_laws.specs.Moments.{Given}
use Rattle.http_requests.specs.Items.{Item}
use Rattle.common_types.specs.Prefix.{IsPrefix}
use Rattle.common_types.proofs.Prefixes.{IsPrefix-refl, IsPrefix-trans, IsPrefix-append}
use Rattle.common_types.specs.Counts.{Rose}
use Rattle.connection_laws.specs.Progress.{Progress, progress_after, decision_on, recorded_place, recorded_places, progress_past, IsBefore, IsWithin}
use Rattle.connection_laws.specs.Marks.{Mark, Follows}
use Rattle.connection_laws.specs.Outcomes.{ItemOutcome, faulted, misread, answered, counted, copied, failed, failed_too, unread, uncalled, Step}
use Rattle.connection_laws.specs.Steps.{MayComeTo, AreSteps}

-- what an item may come to, it may come to as well where less was seen before
pub may_come-before : (gives : Given → Type 0) (c d : Progress) (item : Item) (o : ItemOutcome) → IsBefore c d
    → MayComeTo gives d item o
    → MayComeTo gives c item o
may_come-before gives c d item (faulted f) b m = m
may_come-before gives c d item (misread f) b m = m
may_come-before gives c d item (answered H ask a) b m = record {
  asked = m.asked;
  begins = IsPrefix-trans c.seen d.seen H b.seen m.begins;
  answer = m.answer;
}
may_come-before gives c d item (counted H) b m = record {
  asked = m.asked;
  begins = IsPrefix-trans c.totals d.totals H b.totals m.begins;
  legal = m.legal;
}
may_come-before gives c d item (copied H from) b m = record {
  asked = m.asked;
  begins = IsPrefix-trans c.seen d.seen H b.seen m.begins;
}
may_come-before gives c d item (failed H ask before count) b m =
    let low = b.faults in let first = m.first in
    record {
      asked = m.asked;
      begins = IsPrefix-trans c.seen d.seen H b.seen m.begins;
      first = omega arith;
      rose = m.rose;
      from_disk = m.from_disk;
      to_disk = m.to_disk;
    }
may_come-before gives c d item (failed_too ask) b m =
    let left = b.left in let room = m.room in record { asked = m.asked; room = omega arith; at_once = m.at_once }
may_come-before gives c d item unread b m = m
may_come-before gives c d item (uncalled H ask) b m = record {
  asked = m.asked;
  begins = IsPrefix-trans c.seen d.seen H b.seen m.begins;
}

-- and what is carried past it is in the same order
pub progress_past-before : (c d : Progress) (o : ItemOutcome) → IsBefore c d
    → IsBefore (progress_past c o) (progress_past d o)
progress_past-before c d (faulted f) b = record {
  seen = b.seen;
  totals = b.totals;
  faults = b.faults;
  left = le_refl 0;
}
progress_past-before c d (misread f) b = record {
  seen = b.seen;
  totals = b.totals;
  faults = b.faults;
  left = le_refl 0;
}
progress_past-before c d (answered H ask a) b = record {
  seen = IsPrefix-refl (after H (decision_on H ask));
  totals = b.totals;
  faults = b.faults;
  left = le_refl 0;
}
progress_past-before c d (counted H) b = record {
  seen = b.seen;
  totals = IsPrefix-refl H;
  faults = b.faults;
  left = le_refl 0;
}
progress_past-before c d (copied H from) b = record {
  seen = IsPrefix-refl H;
  totals = b.totals;
  faults = b.faults;
  left = le_refl 0;
}
progress_past-before c d (failed H ask before count) b = record {
  seen = IsPrefix-refl H;
  totals = b.totals;
  faults = le_refl count;
  left = le_refl _;
}
progress_past-before c d (failed_too ask) b =
    let left = b.left in record { seen = b.seen; totals = b.totals; faults = b.faults; left = omega arith }
progress_past-before c d unread b = record { seen = b.seen; totals = b.totals; faults = b.faults; left = le_refl 0 }
progress_past-before c d (uncalled H ask) b = record {
  seen = IsPrefix-refl H;
  totals = b.totals;
  faults = b.faults;
  left = le_refl 0;
}

pub steps-before : (gives : Given → Type 0) (c d : Progress) (items : List Item) (steps : List Step) → IsBefore c d
    → AreSteps gives d items steps → AreSteps gives c items steps
steps-before gives c d [] [] b g = g
steps-before gives c d [] (step ∷ steps) b g = g
steps-before gives c d (item ∷ items) [] b g = g
steps-before gives c d (item ∷ items) (step ∷ steps) b g = (
  (may_come-before gives c d item step.outcome b g.0.0, g.0.1),
  steps-before gives (progress_past c step.outcome) (progress_past d step.outcome) items steps
      (progress_past-before c d step.outcome b) g.1,
)

pub progress_after-before : (c d : Progress) (steps : List Step) → IsBefore c d
    → IsBefore (progress_after c steps) (progress_after d steps)
progress_after-before c d [] b = b
progress_after-before c d (step ∷ steps) b =
    progress_after-before (progress_past c step.outcome) (progress_past d step.outcome) steps
    (progress_past-before c d step.outcome b)

pub within-before : (c d : Progress) (final : Mark) → IsBefore c d → IsWithin d final → IsWithin c final
within-before c d final b w =
    let low = b.faults in let high = w.faults in
    record {
      seen = IsPrefix-trans c.seen d.seen final.seen b.seen w.seen;
      totals = IsPrefix-trans c.totals d.totals final.totals b.totals w.totals;
      faults = omega arith;
    }

pub within-longer : (c : Progress) (final later : Mark) → IsWithin c final → Follows final later → IsWithin c later
within-longer c final later w f =
    let low = w.faults in let more = f.more in
    record {
      seen = IsPrefix-trans c.seen final.seen later.seen w.seen f.longer;
      totals = IsPrefix-trans c.totals final.totals later.totals w.totals f.counted;
      faults = omega arith;
    }

-- a decision takes nothing off a history
pub after-longer : (H : List Entry) (d : Decision) → IsPrefix H (after H d)
after-longer H (Refuse cause) = IsPrefix-refl H
after-longer H (Repeat place) = IsPrefix-refl H
after-longer H (Show page) = IsPrefix-refl H
after-longer H (New e) = IsPrefix-append H (e ∷ [])

-- the histories go on past an item, and so past all
pub progress_past-longer : (gives : Given → Type 0) (c : Progress) (item : Item) (o : ItemOutcome)
    → MayComeTo gives c item o
    → IsPrefix c.seen (progress_past c o).seen × IsPrefix c.totals (progress_past c o).totals
progress_past-longer gives c item (faulted f) m = (IsPrefix-refl c.seen, IsPrefix-refl c.totals)
progress_past-longer gives c item (misread f) m = (IsPrefix-refl c.seen, IsPrefix-refl c.totals)
progress_past-longer gives c item (answered H ask a) m = (
  IsPrefix-trans c.seen H (after H (decision_on H ask)) m.begins (after-longer H (decision_on H ask)),
  IsPrefix-refl c.totals,
)
progress_past-longer gives c item (counted H) m = (IsPrefix-refl c.seen, m.begins)
progress_past-longer gives c item (copied H from) m = (m.begins, IsPrefix-refl c.totals)
progress_past-longer gives c item (failed H ask before count) m = (m.begins, IsPrefix-refl c.totals)
progress_past-longer gives c item (failed_too ask) m = (IsPrefix-refl c.seen, IsPrefix-refl c.totals)
progress_past-longer gives c item unread m = (IsPrefix-refl c.seen, IsPrefix-refl c.totals)
progress_past-longer gives c item (uncalled H ask) m = (m.begins, IsPrefix-refl c.totals)

pub progress_after-longer : (gives : Given → Type 0) (c : Progress) (items : List Item) (steps : List Step)
    → AreSteps gives c items steps
    → IsPrefix c.seen (progress_after c steps).seen × IsPrefix c.totals (progress_after c steps).totals
progress_after-longer gives c [] [] g = (IsPrefix-refl c.seen, IsPrefix-refl c.totals)
progress_after-longer gives c [] (step ∷ steps) g = absurd g
progress_after-longer gives c (item ∷ items) [] g = absurd g
progress_after-longer gives c (item ∷ items) (step ∷ steps) g =
    let next = progress_past c step.outcome in
    let one = progress_past-longer gives c item step.outcome g.0.0 in
    let all = progress_after-longer gives next items steps g.1 in (
      IsPrefix-trans c.seen next.seen (progress_after next steps).seen one.0 all.0,
      IsPrefix-trans c.totals next.totals (progress_after next steps).totals one.1 all.1,
    )

-- more items
pub steps-append : (gives : Given → Type 0) (c : Progress) (items more : List Item) (steps rest : List Step)
    → AreSteps gives c items steps → AreSteps gives (progress_after c steps) more rest
    → AreSteps gives c (items ++ more) (steps ++ rest)
steps-append gives c [] more [] rest g m = m
steps-append gives c [] more (s ∷ steps) rest g m = absurd g
steps-append gives c (i ∷ items) more [] rest g m = absurd g
steps-append gives c (i ∷ items) more (s ∷ steps) rest g m =
    (g.0, steps-append gives (progress_past c s.outcome) items more steps rest g.1 m)

pub progress_after-append : (c : Progress) (steps rest : List Step)
    → progress_after c (steps ++ rest) ≡ progress_after (progress_after c steps) rest
progress_after-append c [] rest = refl
progress_after-append c (s ∷ steps) rest = progress_after-append (progress_past c s.outcome) steps rest

-- the count of the disk doesn't fall past an item, and so past all
rose-le : (a b : ℕ) → Rose a b → a ≤ b
rose-le a b (inl lt) = omega arith
rose-le a b (inr (one, other)) = let same : a ≡ b = one ∙ sym other in omega arith

pub progress_past-count : (gives : Given → Type 0) (c : Progress) (item : Item) (o : ItemOutcome)
    → MayComeTo gives c item o
    → c.faults ≤ (progress_past c o).faults
progress_past-count gives c item (faulted f) m = le_refl c.faults
progress_past-count gives c item (misread f) m = le_refl c.faults
progress_past-count gives c item (answered H ask a) m = le_refl c.faults
progress_past-count gives c item (counted H) m = le_refl c.faults
progress_past-count gives c item (copied H from) m = le_refl c.faults
progress_past-count gives c item (failed H ask before count) m =
    let first = m.first in let rose = rose-le before count m.rose in omega arith
progress_past-count gives c item (failed_too ask) m = le_refl c.faults
progress_past-count gives c item unread m = le_refl c.faults
progress_past-count gives c item (uncalled H ask) m = le_refl c.faults

pub progress_after-count : (gives : Given → Type 0) (c : Progress) (items : List Item) (steps : List Step)
    → AreSteps gives c items steps
    → c.faults ≤ (progress_after c steps).faults
progress_after-count gives c [] [] g = le_refl c.faults
progress_after-count gives c [] (step ∷ steps) g = absurd g
progress_after-count gives c (item ∷ items) [] g = absurd g
progress_after-count gives c (item ∷ items) (step ∷ steps) g =
    let one = progress_past-count gives c item step.outcome g.0.0 in
    let all = progress_after-count gives (progress_past c step.outcome) items steps g.1 in
    omega arith

-- the places of more items stand behind those before them
pub recorded_places-append : (steps rest : List Step) → recorded_places (steps ++ rest)
    ≡ recorded_places steps ++ recorded_places rest
recorded_places-append [] rest = refl
recorded_places-append (s ∷ steps) rest =
    ap (λ (l : List ℕ). recorded_place s.outcome ++ l) (recorded_places-append steps rest)
    ∙ sym (append_assoc (recorded_place s.outcome) (recorded_places steps) (recorded_places rest))
