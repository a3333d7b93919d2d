-- What is said of the events that a network gained, the newest first.
use Rattle.std.specs.Prelude.{◌≡◌, ◌+◌, ℕ, List, [], ◌∷◌, Bool, true, false, ⊤}
use Rattle.connection_laws.specs.Marks.{Follows, Mark}
use Rattle.connection_laws.specs.Owners.{Owned, both_owned, none_owned}
use Rattle.connection_laws.specs.Told.{Saying}
use Rattle.farm_types.specs.declared.moment.Moment.{Moment}
use Rattle.link_io.specs.Notes.{Note}
use Rattle.link_io.specs.Events.{NetworkEvent, accepted, accept_ended, accept_failed, connected, connect_failed, returned}
use Rattle.turn_lock.specs.Loans.{AreSame}
use Rattle.turn_lock.specs.declared.view.Loan.{Loan}
use Rattle.farm_serve.specs.Links.{IsHeldBack, loan_of, mark_lent}

-- how many accepts were made
abbrev pub accepts_of : List NetworkEvent → ℕ
accepts_of [] = 0
accepts_of (accepted ∷ events) = accepts_of events + 1
accepts_of (accept_ended ∷ events) = accepts_of events + 1
accepts_of (accept_failed ∷ events) = accepts_of events + 1
accepts_of (connected ∷ events) = accepts_of events
accepts_of (connect_failed ∷ events) = accepts_of events
accepts_of (returned link ∷ events) = accepts_of events

-- how many links were given
abbrev pub links_of : List NetworkEvent → ℕ
links_of [] = 0
links_of (accepted ∷ events) = links_of events + 1
links_of (accept_ended ∷ events) = links_of events
links_of (accept_failed ∷ events) = links_of events
links_of (connected ∷ events) = links_of events + 1
links_of (connect_failed ∷ events) = links_of events
links_of (returned link ∷ events) = links_of events

-- how many links were taken back
abbrev pub returns_of : List NetworkEvent → ℕ
returns_of [] = 0
returns_of (accepted ∷ events) = returns_of events
returns_of (accept_ended ∷ events) = returns_of events
returns_of (accept_failed ∷ events) = returns_of events
returns_of (connected ∷ events) = returns_of events
returns_of (connect_failed ∷ events) = returns_of events
returns_of (returned link ∷ events) = returns_of events + 1

-- whether the last accept answered that no more will come
abbrev pub last_ended : List NetworkEvent → Bool
last_ended [] = false
last_ended (accepted ∷ events) = false
last_ended (accept_ended ∷ events) = true
last_ended (accept_failed ∷ events) = false
last_ended (connected ∷ events) = last_ended events
last_ended (connect_failed ∷ events) = last_ended events
last_ended (returned link ∷ events) = last_ended events

-- whether an accept failed
abbrev pub has_failed : List NetworkEvent → Bool
has_failed [] = false
has_failed (accepted ∷ events) = has_failed events
has_failed (accept_ended ∷ events) = has_failed events
has_failed (accept_failed ∷ events) = true
has_failed (connected ∷ events) = has_failed events
has_failed (connect_failed ∷ events) = has_failed events
has_failed (returned link ∷ events) = has_failed events

-- The network was asked for links by accepts alone: it made no connect, and no accept stands behind one that answered
-- that no more will come.
abbrev pub AreAccepts : List NetworkEvent → Type 0
AreAccepts [] = ⊤
AreAccepts (accepted ∷ events) = (last_ended events ≡ false) × AreAccepts events
AreAccepts (accept_ended ∷ events) = (last_ended events ≡ false) × AreAccepts events
AreAccepts (accept_failed ∷ events) = (last_ended events ≡ false) × AreAccepts events
AreAccepts (connected ∷ events) = ⊥
AreAccepts (connect_failed ∷ events) = ⊥
AreAccepts (returned link ∷ events) = AreAccepts events

-- What is held of each link that was taken back, up to what was seen then; what entries are theirs together; and which
-- of them came before which.
--
-- At each accept that gave a link, what was seen then was lent to a link, and all that is held of the links that were
-- taken back by then is held up to it. Each link begins with what was lent at an accept before it was taken back, and
-- no two begin with the same one's: `out` are the loans of the links that are still out, each as often as it was lent.
abbrev pub AreHeldBack : Mark → Mark → (Moment → Type 0) → (List Note → Saying) → (short : Bool) → Owned
    → (out : List Loan) → List NetworkEvent → Type 0
AreHeldBack start final clock said short owned out [] =
    (owned ≡ none_owned) × Follows start final × AreSame out []
AreHeldBack start final clock said short owned out (accepted ∷ events) =
    (mark : Mark) × (others : List Loan) × Follows mark final × AreSame out (loan_of mark ∷ others)
    × AreHeldBack start mark clock said short owned others events
AreHeldBack start final clock said short owned out (accept_ended ∷ events) =
    AreHeldBack start final clock said short owned out events
AreHeldBack start final clock said short owned out (accept_failed ∷ events) =
    AreHeldBack start final clock said short owned out events
AreHeldBack start final clock said short owned out (connected ∷ events) =
    AreHeldBack start final clock said short owned out events
AreHeldBack start final clock said short owned out (connect_failed ∷ events) =
    AreHeldBack start final clock said short owned out events
AreHeldBack start final clock said short owned out (returned link ∷ events) =
    (others own : Owned) × (loan : Loan) × (mark : Mark) × (owned ≡ both_owned others own)
    × IsHeldBack (mark_lent start loan) final clock said short own link × Follows mark final
    × AreHeldBack start mark clock said short others (loan ∷ out) events
