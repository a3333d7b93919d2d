-- What an ask comes to, by what the network tells of its tries.
use Rattle.std.specs.Prelude.{◌≡◌, ◌<◌, ℕ, List, length, Option, Result, Ok, Err}
use Rattle.farm_entry.specs.declared.entry.Entry.{Entry}
use Rattle.http_exchange.specs.Sending.{AreLost}
use Rattle.http_exchange.specs.declared.sending.Lost.{Lost}
use Rattle.http_exchange.specs.declared.sending.Lost.TheVariants as lost_by
use Rattle.http_exchange.specs.declared.sending.TheConstants.{MAX_TRIES}
use Rattle.link_io.specs.Events.{NetworkEvent}
use Rattle.journal_follow.specs.Asks.{ask_request}
use Rattle.journal_follow.specs.Following.{GivesUp, IsRound, Last, WasPut, answered, cut_off, told_last, unanswered}
use Rattle.journal_follow.specs.declared.fault.FollowFault.{FollowFault}
use Rattle.journal_follow.specs.declared.fault.FollowFault.TheVariants.{Memory, NetFault, Peer}

-- how an ask ends: a page came, or the ask was given up, or memory ran out
abbrev pub AskEnds : (from : ℕ) → Last → Result (List Entry) FollowFault → Type 0
AskEnds from (answered r) (Ok page) = IsRound from r × (r.page ≡ page)
AskEnds from (unanswered lost t) (Err fault) =
    AreLost (ask_request from) lost × (length lost < MAX_TRIES) × GivesUp from lost t fault
AskEnds from (cut_off lost x) (Err Memory) =
    AreLost (ask_request from) lost × (length lost < MAX_TRIES) × WasPut (ask_request from) x
AskEnds from last answer = ⊥

abbrev pub AskComesTo : (from : ℕ) → (before after : Option (List NetworkEvent)) → Result (List Entry) FollowFault → Type 0
AskComesTo from before after result =
    (last : Last) × (after ≡ told_last last before) × AskEnds from last result

-- what is answered once the last try was lost
abbrev pub given_up : Lost → FollowFault
given_up lost_by.Network = NetFault
given_up (lost_by.Peer status) = Peer status
