-- What is held with some moments is held with more.
use Rattle.std.proofs.Common.{ℕ, Bool, List, [], ◌∷◌}
use Rattle.farm_store.specs.declared.asking.Ask.{Ask}
use Rattle.connection_laws.specs.Moments.{Given, at_moment, at_count}
use Rattle.http_requests.specs.Items.{Item}
use Rattle.connection_laws.specs.Held.{HeldFrom}
use Rattle.connection_laws.specs.Marks.{Mark}
use Rattle.connection_laws.specs.Outcomes.{ItemOutcome, faulted, misread, answered, counted, copied, failed, failed_too, unread, uncalled, Step}
use Rattle.connection_laws.specs.Progress.{Progress, progress_past}
use Rattle.connection_laws.specs.Steps.{AreSteps, IsAsked, MayComeTo}
use Rattle.connection_laws.specs.Told.{Saying}

module _ (gives other : Given → Type 0) (more : (given : Given) → gives given → other given) where
  asked-more : (item : Item) (ask : Ask) → IsAsked gives item ask → IsAsked other item ask
  asked-more item ask a = record { command = a.command; moment = more (at_moment ask.at) a.moment }

  may_come-more : (c : Progress) (item : Item) (o : ItemOutcome) → MayComeTo gives c item o → MayComeTo other c item o
  may_come-more c item (faulted f) m = m
  may_come-more c item (misread f) m = m
  may_come-more c item (answered H ask a) m =
      record { asked = asked-more item ask m.asked; begins = m.begins; answer = m.answer }
  may_come-more c item (counted H) m = m
  may_come-more c item (copied H from) m = m
  may_come-more c item (failed H ask before count) m =
      record {
        asked = asked-more item ask m.asked;
        begins = m.begins;
        first = m.first;
        rose = m.rose;
        from_disk = more (at_count before) m.from_disk;
        to_disk = more (at_count count) m.to_disk;
      }
  may_come-more c item (failed_too ask) m =
      record { asked = asked-more item ask m.asked; room = m.room; at_once = m.at_once }
  may_come-more c item unread m = m
  may_come-more c item (uncalled H ask) m = record { asked = asked-more item ask m.asked; begins = m.begins }

  pub steps-more : (c : Progress) (items : List Item) (steps : List Step) → AreSteps gives c items steps
      → AreSteps other c items steps
  steps-more c [] [] g = g
  steps-more c [] (step ∷ steps) g = absurd g
  steps-more c (item ∷ items) [] g = absurd g
  steps-more c (item ∷ items) (step ∷ steps) g = (
    (may_come-more c item step.outcome g.0.0, g.0.1),
    steps-more (progress_past c step.outcome) items steps g.1,
  )

  unfoldable pub held-more : (start : Progress) (final : Mark) (said : Saying) (taken put : List ℕ) (over whole : Bool)
      → HeldFrom start final gives said taken put over whole → HeldFrom start final other said taken put over whole
  held-more start final said taken put over whole h = record {
    items = h.items;
    steps = h.steps;
    are_steps = steps-more start h.items h.steps h.are_steps;
    ends = h.ends;
    is_put = h.is_put;
    told = h.told;
  }
