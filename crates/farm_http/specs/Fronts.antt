-- What the items at the front of the bytes held came to.
use Rattle.std.specs.Prelude.{ℕ, ◌≡◌, ◌≤◌, ◌⊎◌, Bool, true, false, List, ◌++◌, length, drop, Option, Result, Ok, Err}
use Rattle.std.specs.Io.KnownBytes.{append_known}
use Rattle.connection_laws.specs.Answers.{interim_of, transcript}
use Rattle.http_requests.specs.Fronts.{Fronts, Opens, behind}
use Rattle.connection_laws.specs.Outcomes.{Step}
use Rattle.connection_laws.specs.Progress.{Progress}
use Rattle.connection_laws.specs.Steps.{AreSteps}
use Rattle.connection_laws.specs.declared.served.ServeFault.{ServeFault}
use Rattle.connection_laws.specs.Moments.{Given}
use Rattle.http_requests.specs.Items.{Item, Items, closed}
use Rattle.http_requests.specs.Next.{MayFollow}
use Rattle.link_io.specs.Intake.{Intake}
use Rattle.link_io.specs.declared.sink.Sink as sink
use Rattle.common_types.specs.Prefix.{IsPrefix}
use Rattle.farm_http.specs.Callers.{CallerState, IsAfter}
use Rattle.farm_http.specs.Noting.{ArePreceded, IsUnbegun}
use Rattle.farm_http.specs.declared.front.Answered.{Answered}

-- These items stand at the front of the bytes, and none of them closes: they take so many bytes, at least one each.
pub record AreOpen (held : List ℕ) (items : List Item) (size : ℕ) : Type 0 where
  pub open_ : Opens held items
  pub rest : behind held items ≡ drop size held
  pub within : size ≤ length held
  pub few : length items ≤ size

-- these are all items of the bytes, and the last one closes, whatever follows
abbrev pub AreClosing : (complete : Bool) → List ℕ → List Item → Type 0
AreClosing complete held items = (more : List ℕ) → MayFollow complete more → Items (held ++ more) items closed

-- the one or the other
abbrev pub AreFront : (complete : Bool) → List ℕ → List Item → Answered → Type 0
AreFront complete held items done =
    (done.closes ≡ true → AreClosing complete held items) × (done.closes ≡ false → AreOpen held items done.size)

-- a link before and after: the bytes put to it, where it tells, and what it keeps of its other half, with its notes
pub record Halves : Type 0 where
  pub before : Option (List ℕ)
  pub now : Option (List ℕ)
  pub aside : Intake
  pub later : Intake

-- the same by the meaning that the link's type gives to its writing half
abbrev pub halves : {L : Type 0} → sink.Ghosts L → (old new : L) → Halves
halves K old new =
    record { before = K.written old; now = K.written new; aside = K.aside old; later = K.aside new }

-- Items at the front were answered whole.
pub record AreAnswered (gives : Given → Type 0) (c : Progress) (complete : Bool) (held : List ℕ) (out : Bool)
    (put : List ℕ) (link : Halves) (old new : CallerState) (done : Answered) : Type 0 where
  pub items : List Item
  pub steps : List Step
  pub some : 1 ≤ length items
  pub front : AreFront complete held items done
  pub are_steps : AreSteps gives c items steps
  pub after : IsAfter c steps old new
  pub put_is : interim_of out ++ put ≡ transcript items steps
  pub requests : done.requests ≡ length items
  pub noted : ArePreceded out items steps link.aside link.later link.before new.pass

-- A part of the answers to items at the front was put.
pub record ArePartly (gives : Given → Type 0) (c : Progress) (held : List ℕ) (out : Bool) (put : List ℕ) (link : Halves)
    (old new : CallerState) : Type 0 where
  pub items : List Item
  pub steps : List Step
  pub front : Fronts held items
  pub are_steps : AreSteps gives c items steps
  pub after : IsAfter c steps old new
  pub begins : IsPrefix (interim_of out ++ put) (transcript items steps)
  pub noted : ArePreceded out items steps link.aside link.later link.before new.pass
      ⊎ IsUnbegun (interim_of out ++ put) items

abbrev pub FrontBy : (Given → Type 0) → Progress → (complete : Bool) → List ℕ → (out : Bool) → List ℕ
    → Halves → (old new : CallerState)
    → Result Answered ServeFault → Type 0
FrontBy gives c complete held out put link old new (Ok done) =
    AreAnswered gives c complete held out put link old new done
FrontBy gives c complete held out put link old new (Err fault) = ArePartly gives c held out put link old new

-- What answering the items at the front came to, from what is carried to them: the bytes that were put, and the steps
-- that the items came to.
pub record FrontSays (gives : Given → Type 0) (c : Progress) (complete : Bool) (held : List ℕ) (out : Bool)
    (link : Halves) (old new : CallerState) (result : Result Answered ServeFault) : Type 0 where
  pub put : List ℕ
  pub puts : link.now ≡ append_known link.before put
  pub says : FrontBy gives c complete held out put link old new result
