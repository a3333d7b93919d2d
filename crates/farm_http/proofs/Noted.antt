-- What the answers at the front tell of, by the note that the link took before they were put.
use Rattle.std.proofs.Common.{ℕ, ◌≡◌, ◌≤◌, ◌+◌, ◌⊎◌, ◌++◌, ◌∷◌, [], inl, ⊎_elim, Bool, List, length, Option, Some, None, IfSome, arith, refl, sym, ap, ◌∙◌, subst, append_assoc, length-append}
use Rattle.std.specs.Prelude.{⊤}
use Rattle.std.specs.Io.KnownBytes.{append_known}
use Rattle.connection_laws.specs.Answers.{interim_of, item_bytes}
use Rattle.connection_laws.specs.Held.{IsSoFar}
use Rattle.connection_laws.specs.Moments.{Given}
use Rattle.connection_laws.specs.Outcomes.{Step}
use Rattle.connection_laws.specs.Progress.{Progress, progress_after}
use Rattle.connection_laws.specs.Steps.{AreSteps}
use Rattle.connection_laws.specs.Told.{AreSaid, IsNoted, Saying, first_byte, if_put, noted_in}
use Rattle.connection_laws.proofs.Loop.{so_far-said}
use Rattle.connection_laws.proofs.Noting.{TakesNotes-refl, noted_in-grown}
use Rattle.connection_laws.proofs.Said.{AreSaid-front, AreSaid-unbegun}
use Rattle.farm_entry.specs.declared.entry.Entry.{Entry}
use Rattle.http_requests.specs.Items.{Item}
use Rattle.link_io.specs.Intake.{Intake}
use Rattle.link_io.specs.Links.{LinkState}
use Rattle.link_io.specs.Notes.{Note, TakesNotes, note_at, with_note}
use Rattle.common_types.proofs.Prefixes.{IsPrefix-length}
use Rattle.common_types.specs.Prefix.{IsPrefix}
use Rattle.common_types.specs.Rows.{AreAmong}
use Rattle.common_types.specs.declared.row.Row.{Row}
use Rattle.shared_farm.specs.Logs.{IsOver}
use Rattle.turn_lock.specs.Known.{Known}
use Rattle.farm_http.specs.Noting.{ArePreceded, AreQuiet, IsOutFor, IsUnbegun, MayNote, TookNote}

pub TakesNotes-trans : (a b c : Option (List Note)) → TakesNotes a b → TakesNotes b c → TakesNotes a c
TakesNotes-trans None b c first second =
    subst (λ (o : Option (List Note)). TakesNotes o c) first second
TakesNotes-trans (Some notes) b c (newer, is) second =
    let more : TakesNotes (Some (newer ++ notes)) c = subst (λ (o : Option (List Note)). TakesNotes o c) is second in
    (more.0 ++ newer, more.1 ∙ ap (λ (l : List Note). Some l) (sym (append_assoc more.0 newer notes)))

pub TakesNotes-with_note : (put : Option (List ℕ)) (moment : ℕ) (notes : Option (List Note))
    → TakesNotes notes (with_note (note_at put moment) notes)
TakesNotes-with_note None moment None = refl
TakesNotes-with_note None moment (Some notes) = ([], refl)
TakesNotes-with_note (Some put) moment None = refl
TakesNotes-with_note (Some put) moment (Some notes) = (record { put = length put; moment = moment } ∷ [], refl)

-- of answers that tell of nothing
pub quiet-said : (said : Saying) (from : ℕ) (items : List Item) (steps : List Step) → AreQuiet steps
    → AreSaid said from items steps
quiet-said said from [] steps quiet = tt
quiet-said said from (item ∷ items) [] quiet = tt
quiet-said said from (item ∷ items) (step ∷ steps) (none, others) = (
  subst (λ (o : Option (List Entry)). IfSome o (said (first_byte from item))) (sym none) tt,
  quiet-said said (from + length (item_bytes item step)) items steps others,
)

nothing-said : (notes : Option (List Note)) → IfSome notes (λ all. ⊤)
nothing-said None = tt
nothing-said (Some notes) = tt

-- the note says of each later place what the pass had seen when it was taken
note-says : (before_put put : Option (List ℕ)) (notes : Option (List Note)) (first : List ℕ) (moment place : ℕ)
    (pass : Known) (H : List Entry) → put ≡ append_known before_put first → IsOver moment pass → length first ≤ place
    → IsPrefix H pass.seen
    → IfSome (with_note (note_at put moment) notes)
    (λ all. IfSome before_put (λ had. IsNoted pass.rows all (length had + place) H))
note-says None put notes first moment place pass H is over le begins =
    nothing-said (with_note (note_at put moment) notes)
note-says (Some had) put None first moment place pass H is over le begins =
    subst (λ (o : Option (List ℕ)). IfSome (with_note (note_at o moment) None)
    (λ all. IsNoted pass.rows all (length had + place) H)) (sym is) tt
note-says (Some had) put (Some notes) first moment place pass H is over le begins =
    let long = length-append had first in
    let few = IsPrefix-length H pass.seen begins in
    let holds = over.holds in
    subst (λ (o : Option (List ℕ)). IfSome (with_note (note_at o moment) (Some notes))
    (λ all. IsNoted pass.rows all (length had + place) H)) (sym is)
    (record {
      note = record { put = length (had ++ first); moment = moment };
      noted = inl refl;
      before = omega (arith, long, le);
      row = over.row;
      known = over.known;
      holds = omega (arith, few, holds);
      same = sym over.same;
    })

-- The answers at the front tell of no more than was noted before them.
pub noted-front : (gives : Given → Type 0) (c : Progress) (before now later : LinkState) (first : List ℕ) (out : Bool)
    (pass : Known) (moment : ℕ) (items : List Item) (steps : List Step) → IsOutFor out items
    → now.put ≡ append_known before.put (first ++ interim_of out) → IsOver moment pass
    → later.notes ≡ with_note (note_at now.put moment) now.notes → AreSteps gives c items steps
    → IsPrefix (progress_after c steps).seen pass.seen
    → AreSaid (noted_in pass.rows before later) (length first) items steps
noted-front gives c before now later first out pass moment [] steps is put over noted g begins = tt
noted-front gives c before now later first out pass moment (item ∷ items) [] is put over noted g begins = tt
noted-front gives c before now later first out pass moment (item ∷ items) (step ∷ steps) is put over noted g begins =
    let low : ℕ = length (first ++ interim_of out) in
    let at : low ≤ first_byte (length first) item =
    subst (λ (b : Bool). low ≤ length first + length (interim_of b)) is
    (omega (arith, length-append first (interim_of out))) in
    AreSaid-front gives c (noted_in pass.rows before later) low (length first) item items step steps pass.seen at g
    begins (λ place H le p. subst (λ (o : Option (List Note)). IfSome o
    (λ all. IfSome before.put (λ had. IsNoted pass.rows all (length had + place) H))) (sym noted)
    (note-says before.put now.put now.notes (first ++ interim_of out) moment place pass H put over le p))

-- what is said of the answers so far stays said
pub so_far-on : (start : Progress) (gives : Given → Type 0) (rows all : List Row) (before now later : LinkState)
    (taken put : List ℕ) (items : List Item) (steps : List Step) → AreAmong rows all
    → TakesNotes now.notes later.notes → IsSoFar start gives (noted_in rows before now) taken put items steps
    → IsSoFar start gives (noted_in all before later) taken put items steps
so_far-on start gives rows all before now later taken put items steps among takes s =
    so_far-said start gives (noted_in rows before now) (noted_in all before later) taken put items steps
    (λ place H holds. noted_in-grown rows all before now later place H among takes holds) s

-- by what came first: the link took a note, or no answer tells of a history
pub front-told : (gives : Given → Type 0) (c : Progress) (before now later : LinkState) (first : List ℕ) (out : Bool)
    (pass : Known) (items : List Item) (steps : List Step) (aside after : Intake)
    → ArePreceded out items steps aside after now.put pass → aside.notes ≡ now.notes → after.notes ≡ later.notes
    → now.put ≡ append_known before.put (first ++ interim_of out) → AreSteps gives c items steps
    → IsPrefix (progress_after c steps).seen pass.seen
    → AreSaid (noted_in pass.rows before later) (length first) items steps
front-told gives c before now later first out pass items steps aside after (is, either) aside_is after_is put g begins =
    ⊎_elim
    (λ (quiet : AreQuiet steps). quiet-said (noted_in pass.rows before later) (length first) items steps quiet)
    (λ (t : TookNote aside after now.put pass).
    noted-front gives c before now later first out pass t.moment items steps is put t.over
    (sym after_is ∙ ap (λ (i : Intake). i.notes) t.noted
    ∙ ap (λ (o : Option (List Note)). with_note (note_at now.put t.moment) o) aside_is) g begins)
    either

-- what may have been put of the first item's interim answer says nothing
pub unbegun-said : (said : Saying) (put part : List ℕ) (items : List Item) (steps : List Step) → IsUnbegun part items
    → AreSaid (if_put (length (put ++ part)) said) (length put) items steps
unbegun-said said put part [] steps le = tt
unbegun-said said put part (item ∷ items) steps le =
    AreSaid-unbegun said (length (put ++ part)) (length put) item items steps
    (omega (arith, length-append put part, le))

pub TakesNotes-same : (old new : Option (List Note)) → new ≡ old → TakesNotes old new
TakesNotes-same old new same =
    subst (λ (o : Option (List Note)). TakesNotes old o) (sym same) (TakesNotes-refl old)

-- where a note may have been taken, nothing else was done to what a put keeps
pub record IsNotedAlone (old new : Intake) : Type 0 where
  pub taken : new.taken ≡ old.taken
  pub ended : new.ended ≡ old.ended
  pub notes : TakesNotes old.notes new.notes

pub noted-alone : (old new : Intake) (put : Option (List ℕ)) (pass : Known) → MayNote old new put pass
    → IsNotedAlone old new
noted-alone old new put pass either = ⊎_elim
    (λ (same : new ≡ old). record {
      taken = ap (λ (i : Intake). i.taken) same;
      ended = ap (λ (i : Intake). i.ended) same;
      notes = TakesNotes-same old.notes new.notes (ap (λ (i : Intake). i.notes) same);
    })
    (λ (t : TookNote old new put pass). record {
      taken = ap (λ (i : Intake). i.taken) t.noted;
      ended = ap (λ (i : Intake). i.ended) t.noted;
      notes = subst (λ (o : Option (List Note)). TakesNotes old.notes o) (sym (ap (λ (i : Intake). i.notes) t.noted))
          (TakesNotes-with_note put t.moment old.notes);
    })
    either
