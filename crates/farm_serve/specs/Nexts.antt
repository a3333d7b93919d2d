-- What comes next.
use Rattle.std.specs.Prelude.{◌≡◌, ◌≤◌, ◌+◌, ℕ, List, [], IfSome}
use Rattle.farm_entry.specs.Legal.{IsLegal}
use Rattle.farm_entry.specs.declared.entry.Entry.{Entry}
use Rattle.link_io.specs.Links.{LinkState, fresh_link}
use Rattle.common_types.specs.Prefix.{IsPrefix}
use Rattle.turn_lock.specs.Known.{Known, IsReady, borrowed}
use Rattle.farm_serve.specs.Entries.{AtEntry}
use Rattle.farm_serve.specs.Standings.{IsClosed}
use Rattle.farm_serve.specs.declared.standing.NextLink.{NextLink}
use Rattle.farm_serve.specs.declared.standing.NextLink.TheVariants as next
use Rattle.farm_serve.specs.declared.standing.ServeState.{ServeState}

-- a pass is of the farm, and has seen a history that begins with the one at entry, and a count of faults no less
pub record IsPassOf (a : AtEntry) (pass : Known) : Type 0 where
  pub ready : IsReady a.lock pass
  pub begins : IsPrefix a.first pass.seen
  pub faults : a.faults ≤ pass.faults

-- a pass was just split off: it has one part of the farm, no entry is known to be its own, and it borrowed what it has
-- seen
abbrev pub IsNew : Known → Type 0
IsNew pass =
    (pass.stake.parts ≡ 1) × (pass.mine ≡ []) × (pass.stake.undecided ≡ [])
    × (pass.stake.lending ≡ borrowed (record { seen = pass.seen; faults = pass.faults }))

-- a reader has seen a legal history that begins with the one at entry
pub record IsReaderOf (a : AtEntry) (seen : List Entry) : Type 0 where
  pub begins : IsPrefix a.first seen
  pub legal : IsLegal seen

-- a link has not failed, and where the network tells, it has done nothing yet
pub record IsFresh (a : AtEntry) (link : LinkState) : Type 0 where
  pub unfailed : link.count ≡ 0
  pub idle : IfSome a.told (λ _. link ≡ fresh_link)

-- an accept was made, and its link counts in the share; or it gave none; or no accept is to be made
abbrev pub NextSays : {L : Type 0} → (L → LinkState) → AtEntry → (s s' : ServeState) → (m m' : ℕ) → NextLink L → Type 0
NextSays state a s s' m m' (next.Link link pass) =
    (s'.left + 1 ≡ s.left) × (m' ≡ m + 1) × IsPassOf a pass × IsNew pass × IsFresh a (state link)
NextSays state a s s' m m' next.Nothing = (s'.left + 1 ≡ s.left) × (m' ≡ m)
NextSays state a s s' m m' next.Closed = (m' ≡ m) × (s' ≡ s) × IsClosed s
