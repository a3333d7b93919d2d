-- Items that were answered, and more items behind them: there are steps to which those may come too.
use Rattle.std.proofs.Common.{ℕ, ◌≡◌, ◌≤◌, ◌+◌, arith, Bool, true, false, List, [], ◌∷◌, ◌++◌, length, refl, sym, ap, ◌∙◌, subst, append-nil}
use Rattle.farm_entry.specs.Legal.{IsLegal}
use Rattle.farm_entry.specs.declared.entry.Entry.{Entry}
use Rattle.connection_laws.specs.Moments.{Given}
use Rattle.http_requests.specs.Items.{Item, Items, End}
use Rattle.link_io.specs.Links.{LinkState}
use Rattle.link_io.specs.declared.source.TheConstants.{INPUT_LIMIT}
use Rattle.common_types.specs.Prefix.{IsPrefix}
use Rattle.common_types.proofs.Prefixes.{IsPrefix-length, IsPrefix-refl, IsPrefix-trans}
use Rattle.connection_laws.specs.Answers.{transcript}
use Rattle.connection_laws.specs.Held.{HeldFrom}
use Rattle.connection_laws.specs.Kinds.{Kind, faulty, commands, totals, log, kind_of}
use Rattle.connection_laws.specs.Marks.{Mark}
use Rattle.connection_laws.specs.Outcomes.{ItemOutcome, faulted, misread, answered, counted, copied, failed, failed_too, unread, uncalled, Step}
use Rattle.connection_laws.specs.Owners.{Holding}
use Rattle.connection_laws.specs.Progress.{Progress, IsWithin, progress_after, progress_past, recorded_place, recorded_places}
use Rattle.connection_laws.specs.Serving.{HasPassed, IsKept, IsStopped, IsWaiting, OnReadFault}
use Rattle.connection_laws.specs.declared.served.ServeFault.{ServeFault}
use Rattle.connection_laws.specs.Steps.{AreSteps, IsStep, MayComeTo}
use Rattle.connection_laws.specs.Told.{AreSaid, Saying, if_put}
use Rattle.connection_laws.proofs.Said.{AreSaid-append, AreSaid-unput}
use Rattle.connection_laws.proofs.Transcripts.{transcript-append}
use Rattle.connection_laws.proofs.Owners.{HoldsMore-append, HoldsMore-nothing}
use Rattle.connection_laws.proofs.Progress.{progress_after-append, steps-append}

-- a step to which an item of this kind may come, whatever the farm does
abbrev pub further_step : Progress → Kind → Step
further_step c (faulty f) = record { outcome = faulted f; written = true }
further_step c (commands reading) = record { outcome = unread; written = true }
further_step c totals = record { outcome = counted c.totals; written = true }
further_step c (log from) = record { outcome = copied c.seen from; written = true }

abbrev pub further_steps : Progress → List Item → List Step
further_steps c [] = []
further_steps c (item ∷ items) =
    let step = further_step c (kind_of item) in
    step ∷ further_steps (progress_past c step.outcome) items

-- what is carried stays, but for the rest of a batch
pub record IsKeptBy (c d : Progress) : Type 0 where
  pub seen : d.seen ≡ c.seen
  pub totals : d.totals ≡ c.totals
  pub faults : d.faults ≡ c.faults

pub further-kept : (c : Progress) (k : Kind) → IsKeptBy c (progress_past c (further_step c k).outcome)
further-kept c (faulty f) = record { seen = refl; totals = refl; faults = refl }
further-kept c (commands reading) = record { seen = refl; totals = refl; faults = refl }
further-kept c totals = record { seen = refl; totals = refl; faults = refl }
further-kept c (log from) = record { seen = refl; totals = refl; faults = refl }

pub further-place : (c : Progress) (k : Kind) → recorded_place (further_step c k).outcome ≡ []
further-place c (faulty f) = refl
further-place c (commands reading) = refl
further-place c totals = refl
further-place c (log from) = refl

pub further-step : (gives : Given → Type 0) (c : Progress) (item : Item) (k : Kind) → kind_of item ≡ k
    → IsLegal c.totals
    → IsStep gives c item (further_step c k)
further-step gives c item (faulty f) is legal = (is, refl)
further-step gives c item (commands reading) is legal = (record { reading = reading; asked = is }, tt)
further-step gives c item totals is legal = (record { asked = is; begins = IsPrefix-refl c.totals; legal = legal }, tt)
further-step gives c item (log from) is legal = (record { asked = is; begins = IsPrefix-refl c.seen }, tt)

pub further-steps : (gives : Given → Type 0) (c : Progress) (items : List Item) → IsLegal c.totals
    → AreSteps gives c items (further_steps c items)
further-steps gives c [] legal = tt
further-steps gives c (item ∷ items) legal =
    let next = progress_past c (further_step c (kind_of item)).outcome in
    let kept = further-kept c (kind_of item) in (
      further-step gives c item (kind_of item) refl legal,
      further-steps gives next items (subst (λ (H : List Entry). IsLegal H) (sym kept.totals) legal),
    )

pub further-within : (c : Progress) (items : List Item) (final : Mark) → IsWithin c final
    → IsWithin (progress_after c (further_steps c items)) final
further-within c [] final w = w
further-within c (item ∷ items) final w =
    let next = progress_past c (further_step c (kind_of item)).outcome in
    let kept = further-kept c (kind_of item) in
    let same = kept.faults in let low = w.faults in
    further-within next items final (record {
      seen = subst (λ (H : List Entry). IsPrefix H final.seen) (sym kept.seen) w.seen;
      totals = subst (λ (H : List Entry). IsPrefix H final.totals) (sym kept.totals) w.totals;
      faults = subst (λ (n : ℕ). n ≤ final.faults) (sym same) low;
    })

-- the history of the last totals stays legal
past-legal : (gives : Given → Type 0) (c : Progress) (item : Item) (o : ItemOutcome) → MayComeTo gives c item o
    → IsLegal c.totals
    → IsLegal (progress_past c o).totals
past-legal gives c item (faulted f) m legal = legal
past-legal gives c item (misread f) m legal = legal
past-legal gives c item (answered H ask a) m legal = legal
past-legal gives c item (counted H) m legal = m.legal
past-legal gives c item (copied H from) m legal = legal
past-legal gives c item (failed H ask before count) m legal = legal
past-legal gives c item (failed_too ask) m legal = legal
past-legal gives c item unread m legal = legal
past-legal gives c item (uncalled H ask) m legal = legal

pub after-legal : (gives : Given → Type 0) (c : Progress) (items : List Item) (steps : List Step)
    → AreSteps gives c items steps
    → IsLegal c.totals → IsLegal (progress_after c steps).totals
after-legal gives c [] [] g legal = legal
after-legal gives c [] (step ∷ steps) g legal = absurd g
after-legal gives c (item ∷ items) [] g legal = absurd g
after-legal gives c (item ∷ items) (step ∷ steps) g legal =
    after-legal gives (progress_past c step.outcome) items steps g.1 (past-legal gives c item step.outcome g.0.0 legal)

-- ---- what was answered, and then all that is left

further-places : (c : Progress) (items : List Item) → recorded_places (further_steps c items) ≡ []
further-places c [] = refl
further-places c (item ∷ items) =
    let step = further_step c (kind_of item) in
    ap (λ (l : List ℕ). l ++ recorded_places (further_steps (progress_past c step.outcome) items))
    (further-place c (kind_of item)) ∙ further-places (progress_past c step.outcome) items

further-totals : (c : Progress) (items : List Item) → (progress_after c (further_steps c items)).totals ≡ c.totals
further-totals c [] = refl
further-totals c (item ∷ items) =
    let next = progress_past c (further_step c (kind_of item)).outcome in
    further-totals next items ∙ (further-kept c (kind_of item)).totals

-- the steps of items that were answered, and such steps of more items
abbrev pub with_further : Progress → List Step → List Item → List Step
with_further start steps more = steps ++ further_steps (progress_after start steps) more

pub with_further-steps : (gives : Given → Type 0) (start : Progress) (items more : List Item) (steps : List Step)
    → AreSteps gives start items steps → IsLegal start.totals
    → AreSteps gives start (items ++ more) (with_further start steps more)
with_further-steps gives start items more steps g legal =
    let c = progress_after start steps in
    steps-append gives start items more steps (further_steps c more) g
    (further-steps gives c more (after-legal gives start items steps g legal))

pub with_further-within : (start : Progress) (final : Mark) (more : List Item) (steps : List Step)
    → IsWithin (progress_after start steps) final
    → IsWithin (progress_after start (with_further start steps more)) final
with_further-within start final more steps w =
    let c = progress_after start steps in
    subst (λ (d : Progress). IsWithin d final) (sym (progress_after-append start steps (further_steps c more)))
    (further-within c more final w)

pub with_further-begins : (gives : Given → Type 0) (start : Progress) (put : List ℕ) (items more : List Item)
    (steps : List Step)
    → AreSteps gives start items steps → IsPrefix put (transcript items steps)
    → IsPrefix put (transcript (items ++ more) (with_further start steps more))
with_further-begins gives start put items more steps g p =
    let rest = further_steps (progress_after start steps) more in
    IsPrefix-trans put (transcript items steps) (transcript (items ++ more) (steps ++ rest)) p
    (transcript more rest, transcript-append gives start items more steps rest g)

-- of them no byte was put
pub with_further-told : (gives : Given → Type 0) (said : Saying) (start : Progress) (put : List ℕ)
    (items more : List Item) (steps : List Step)
    → AreSteps gives start items steps → IsPrefix put (transcript items steps)
    → AreSaid (if_put (length put) said) 0 items steps
    → AreSaid (if_put (length put) said) 0 (items ++ more) (with_further start steps more)
with_further-told gives said start put items more steps g p told =
    let le : length put ≤ length (transcript items steps) = IsPrefix-length put (transcript items steps) p in
    AreSaid-append gives start (if_put (length put) said) 0 items more steps
    (further_steps (progress_after start steps) more) g told
    (AreSaid-unput said (length put) (0 + length (transcript items steps)) more
    (further_steps (progress_after start steps) more) (omega (arith, le)))

-- they record nothing, and the totals stay
pub with_further-kept : (start : Progress) (steps : List Step) (more : List Item) (mine kept : Holding)
    (read : List Entry)
    → IsKept start steps mine kept read → IsKept start (with_further start steps more) mine kept read
with_further-kept start steps more mine kept read k =
    let c = progress_after start steps in
    let rest = further_steps c more in
    record {
      holds = HoldsMore-append steps rest mine kept kept k.holds
          (HoldsMore-nothing rest kept kept (further-places c more) refl);
      counted =
          k.counted
          ∙ sym (ap (λ (d : Progress). d.totals) (progress_after-append start steps rest) ∙ further-totals c more);
    }

-- What was put for some items is a prefix of the answers to all.
pub further-held : (start : Progress) (final : Mark) (gives : Given → Type 0) (said : Saying) (taken put : List ℕ)
    (over : Bool) (items more : List Item) (steps : List Step) (end : End) → Items taken (items ++ more) end
    → AreSteps gives start items steps
    → IsLegal start.totals → IsWithin (progress_after start steps) final → IsPrefix put (transcript items steps)
    → AreSaid (if_put (length put) said) 0 items steps
    → HeldFrom start final gives said taken put over false
further-held start final gives said taken put over items more steps end i g legal w p told = record {
  items = items ++ more;
  steps = with_further start steps more;
  are_steps = with_further-steps gives start items more steps g legal;
  ends = with_further-within start final more steps w;
  is_put = record { end = end; items_are = i; begins = with_further-begins gives start put items more steps g p };
  told = with_further-told gives said start put items more steps g p told;
}

-- The serving stopped there.
pub further-stopped : (fault : ServeFault) (start : Progress) (final : Mark) (gives : Given → Type 0)
    (said : Saying) (old new : LinkState) (taken put : List ℕ)
    (items more : List Item) (steps : List Step) (end : End) (mine kept : Holding) (read : List Entry)
    → HasPassed old new taken put → length taken ≤ INPUT_LIMIT
    → Items taken (items ++ more) end → AreSteps gives start items steps → IsLegal start.totals
    → IsWithin (progress_after start steps) final → IsPrefix put (transcript items steps)
    → IsKept start steps mine kept read → AreSaid (if_put (length put) said) 0 items steps
    → OnReadFault fault (IsWaiting start final gives said old new mine kept read)
    → IsStopped fault start final gives said old new mine kept read
further-stopped fault start final gives said old new taken put items more steps end mine kept read passed most i g legal
    w p k told waits = record {
      taken = taken;
      put = put;
      passed = passed;
      most = most;
      held = record {
        items = items ++ more;
        steps = with_further start steps more;
        are_steps = with_further-steps gives start items more steps g legal;
        ends = with_further-within start final more steps w;
        is_put = record { end = end; items_are = i; begins = with_further-begins gives start put items more steps g p };
        told = with_further-told gives said start put items more steps g p told;
      };
      keeps = with_further-kept start steps more mine kept read k;
      waiting = waits;
    }
