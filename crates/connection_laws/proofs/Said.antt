-- What is said of answers.
use Rattle.std.proofs.Common.{ℕ, ◌+◌, ◌≤◌, List, [], ◌∷◌, ◌++◌, length, Option, Some, None, IfSome, arith, subst, length-append}
use Rattle.farm_entry.specs.Playing.{after}
use Rattle.farm_entry.specs.declared.entry.Entry.{Entry}
use Rattle.http_requests.specs.Items.{Item}
use Rattle.common_types.specs.Prefix.{IsPrefix}
use Rattle.common_types.proofs.Prefixes.{IsPrefix-length, IsPrefix-trans}
use Rattle.connection_laws.specs.Answers.{interim_of, item_bytes, response_bytes, response_of, transcript}
use Rattle.connection_laws.specs.Moments.{Given}
use Rattle.connection_laws.specs.Outcomes.{ItemOutcome, faulted, misread, answered, counted, copied, failed, failed_too, unread, uncalled, Step}
use Rattle.connection_laws.specs.Progress.{Progress, decision_on, progress_after, progress_past}
use Rattle.connection_laws.specs.Steps.{AreSteps, MayComeTo}
use Rattle.connection_laws.specs.Told.{AreSaid, Saying, first_byte, if_put, told_history}
use Rattle.connection_laws.proofs.Progress.{progress_after-longer}

some-weaker : {A : Type 0} (x : Option A) (P Q : A → Type 0) → ((a : A) → P a → Q a) → IfSome x P → IfSome x Q
some-weaker None P Q weaker holds = tt
some-weaker (Some a) P Q weaker holds = weaker a holds

some-always : {A : Type 0} (x : Option A) (P : A → Type 0) → ((a : A) → P a) → IfSome x P
some-always None P always = tt
some-always (Some a) P always = always a

pub AreSaid-weaker : (said other : Saying) (from : ℕ) (items : List Item) (steps : List Step)
    → ((place : ℕ) (H : List Entry) → said place H → other place H) → AreSaid said from items steps
    → AreSaid other from items steps
AreSaid-weaker said other from [] steps weaker all = tt
AreSaid-weaker said other from (item ∷ items) [] weaker all = tt
AreSaid-weaker said other from (item ∷ items) (step ∷ steps) weaker (one, others) = (
  some-weaker (told_history step.outcome) (said (first_byte from item)) (other (first_byte from item))
      (λ H holds. weaker (first_byte from item) H holds) one,
  AreSaid-weaker said other (from + length (item_bytes item step)) items steps weaker others,
)

-- of answers of which no byte was put nothing is said
pub AreSaid-unput : (said : Saying) (count from : ℕ) (items : List Item) (steps : List Step) → count ≤ from
    → AreSaid (if_put count said) from items steps
AreSaid-unput said count from [] steps le = tt
AreSaid-unput said count from (item ∷ items) [] le = tt
AreSaid-unput said count from (item ∷ items) (step ∷ steps) le = (
  some-always (told_history step.outcome) (if_put count said (first_byte from item))
      (λ H lt. absurd (omega (arith, le, lt))),
  AreSaid-unput said count (from + length (item_bytes item step)) items steps (omega (arith, le)),
)

pub AreSaid-append : (gives : Given → Type 0) (c : Progress) (said : Saying) (from : ℕ) (items more : List Item)
    (steps rest : List Step) → AreSteps gives c items steps → AreSaid said from items steps
    → AreSaid said (from + length (transcript items steps)) more rest
    → AreSaid said from (items ++ more) (steps ++ rest)
AreSaid-append gives c said from [] more [] rest g all others =
    subst (λ (n : ℕ). AreSaid said n more rest) (omega arith) others
AreSaid-append gives c said from [] more (step ∷ steps) rest g all others = absurd g
AreSaid-append gives c said from (item ∷ items) more [] rest g all others = absurd g
AreSaid-append gives c said from (item ∷ items) more (step ∷ steps) rest g (one, all) others = (
  one,
  AreSaid-append gives (progress_past c step.outcome) said (from + length (item_bytes item step)) items more steps rest
      g.1 all
      (subst (λ (n : ℕ). AreSaid said n more rest)
      (omega (arith, length-append (item_bytes item step) (transcript items steps))) others),
)

-- what is said of all answers is said of those of which a byte was put
pub AreSaid-put : (said : Saying) (count from : ℕ) (items : List Item) (steps : List Step)
    → AreSaid said from items steps → AreSaid (if_put count said) from items steps
AreSaid-put said count from items steps all =
    AreSaid-weaker said (if_put count said) from items steps (λ place H holds lt. holds) all

-- and of fewer bytes
pub AreSaid-shorter : (said : Saying) (put less : List ℕ) (from : ℕ) (items : List Item) (steps : List Step)
    → IsPrefix less put → AreSaid (if_put (length put) said) from items steps
    → AreSaid (if_put (length less) said) from items steps
AreSaid-shorter said put less from items steps p all =
    let le : length less ≤ length put = IsPrefix-length less put p in
    AreSaid-weaker (if_put (length put) said) (if_put (length less) said) from items steps
    (λ place H holds lt. holds (omega (arith, lt, le))) all

-- what is put for an item is no shorter than its interim answer
interim-shorter : (item : Item) (step : Step) → length (interim_of item.interim) ≤ length (item_bytes item step)
unfolding item_bytes
interim-shorter item step =
    omega (arith, length-append (interim_of item.interim) (response_bytes item (response_of step)))

-- the history that an outcome's answer tells of begins the one that is carried past it
past-told : (gives : Given → Type 0) (c : Progress) (item : Item) (o : ItemOutcome) (last : List Entry)
    (P : List Entry → Type 0) → MayComeTo gives c item o → IsPrefix (progress_past c o).seen last
    → ((H : List Entry) → IsPrefix H last → P H) → IfSome (told_history o) P
past-told gives c item (faulted f) last P m begins each = tt
past-told gives c item (misread f) last P m begins each = tt
past-told gives c item (answered H ask a) last P m begins each = each (after H (decision_on H ask)) begins
past-told gives c item (counted H) last P m begins each = tt
past-told gives c item (copied H from) last P m begins each = each H begins
past-told gives c item (failed H ask before count) last P m begins each = tt
past-told gives c item (failed_too ask) last P m begins each = tt
past-told gives c item unread last P m begins each = tt
past-told gives c item (uncalled H ask) last P m begins each = tt

past-weaker : (gives : Given → Type 0) (c : Progress) (item : Item) (o : ItemOutcome) (last : List Entry)
    (P Q : List Entry → Type 0) → MayComeTo gives c item o → IsPrefix (progress_past c o).seen last
    → ((H : List Entry) → IsPrefix H last → P H → Q H) → IfSome (told_history o) P → IfSome (told_history o) Q
past-weaker gives c item (faulted f) last P Q m begins weaker holds = tt
past-weaker gives c item (misread f) last P Q m begins weaker holds = tt
past-weaker gives c item (answered H ask a) last P Q m begins weaker holds =
    weaker (after H (decision_on H ask)) begins holds
past-weaker gives c item (counted H) last P Q m begins weaker holds = tt
past-weaker gives c item (copied H from) last P Q m begins weaker holds = weaker H begins holds
past-weaker gives c item (failed H ask before count) last P Q m begins weaker holds = tt
past-weaker gives c item (failed_too ask) last P Q m begins weaker holds = tt
past-weaker gives c item unread last P Q m begins weaker holds = tt
past-weaker gives c item (uncalled H ask) last P Q m begins weaker holds = tt

-- what may be said of each history that begins one which goes on from all that is carried is said of the answers
pub AreSaid-within : (gives : Given → Type 0) (c : Progress) (said : Saying) (low from : ℕ) (items : List Item)
    (steps : List Step) (last : List Entry) → low ≤ from → AreSteps gives c items steps
    → IsPrefix (progress_after c steps).seen last
    → ((place : ℕ) (H : List Entry) → low ≤ place → IsPrefix H last → said place H) → AreSaid said from items steps
AreSaid-within gives c said low from [] steps last le g begins each = tt
AreSaid-within gives c said low from (item ∷ items) [] last le g begins each = tt
AreSaid-within gives c said low from (item ∷ items) (step ∷ steps) last le g begins each =
    let next = progress_past c step.outcome in (
      past-told gives c item step.outcome last (said (first_byte from item)) g.0.0
          (IsPrefix-trans next.seen (progress_after next steps).seen last
          (progress_after-longer gives next items steps g.1).0 begins)
          (λ H p. each (first_byte from item) H (omega (arith, le)) p),
      AreSaid-within gives next said low (from + length (item_bytes item step)) items steps last (omega (arith, le)) g.1
          begins each,
    )

-- the same from an item on whose interim answer is out already
pub AreSaid-front : (gives : Given → Type 0) (c : Progress) (said : Saying) (low from : ℕ) (item : Item)
    (items : List Item) (step : Step) (steps : List Step) (last : List Entry) → low ≤ first_byte from item
    → AreSteps gives c (item ∷ items) (step ∷ steps) → IsPrefix (progress_after c (step ∷ steps)).seen last
    → ((place : ℕ) (H : List Entry) → low ≤ place → IsPrefix H last → said place H)
    → AreSaid said from (item ∷ items) (step ∷ steps)
AreSaid-front gives c said low from item items step steps last le g begins each =
    let next = progress_past c step.outcome in
    let shorter : length (interim_of item.interim) ≤ length (item_bytes item step) = interim-shorter item step in (
      past-told gives c item step.outcome last (said (first_byte from item)) g.0.0
          (IsPrefix-trans next.seen (progress_after next steps).seen last
          (progress_after-longer gives next items steps g.1).0 begins)
          (λ H p. each (first_byte from item) H le p),
      AreSaid-within gives next said low (from + length (item_bytes item step)) items steps last
          (omega (arith, le, shorter)) g.1 begins each,
    )

-- where no more was put than the first item's interim answer nothing is said
pub AreSaid-unbegun : (said : Saying) (count from : ℕ) (item : Item) (items : List Item) (steps : List Step)
    → count ≤ first_byte from item → AreSaid (if_put count said) from (item ∷ items) steps
AreSaid-unbegun said count from item items [] le = tt
AreSaid-unbegun said count from item items (step ∷ steps) le =
    let shorter : length (interim_of item.interim) ≤ length (item_bytes item step) = interim-shorter item step in (
      some-always (told_history step.outcome) (if_put count said (first_byte from item))
          (λ H lt. absurd (omega (arith, le, lt))),
      AreSaid-unput said count (from + length (item_bytes item step)) items steps (omega (arith, le, shorter)),
    )

-- what is said of an answer is something weaker of a history that begins the last one
pub AreSaid-along : (gives : Given → Type 0) (c : Progress) (said other : Saying) (from : ℕ) (items : List Item)
    (steps : List Step) (last : List Entry) → AreSteps gives c items steps
    → IsPrefix (progress_after c steps).seen last
    → ((place : ℕ) (H : List Entry) → IsPrefix H last → said place H → other place H) → AreSaid said from items steps
    → AreSaid other from items steps
AreSaid-along gives c said other from [] steps last g begins weaker all = tt
AreSaid-along gives c said other from (item ∷ items) [] last g begins weaker all = tt
AreSaid-along gives c said other from (item ∷ items) (step ∷ steps) last g begins weaker (one, all) =
    let next = progress_past c step.outcome in (
      past-weaker gives c item step.outcome last (said (first_byte from item)) (other (first_byte from item)) g.0.0
          (IsPrefix-trans next.seen (progress_after next steps).seen last
          (progress_after-longer gives next items steps g.1).0 begins)
          (λ H p holds. weaker (first_byte from item) H p holds) one,
      AreSaid-along gives next said other (from + length (item_bytes item step)) items steps last g.1 begins weaker all,
    )
