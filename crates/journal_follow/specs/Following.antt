-- What following a leader comes to.
use Rattle.std.specs.Prelude.{◌≡◌, ◌≢◌, ◌<◌, ◌⊎◌, ◌+◌, ℕ, true, false, List, [], ◌∷◌, length, Option, Some, None}
use Rattle.std.specs.Prelude.{Result, Ok, Err, ⊤}
use Rattle.std.specs.List.{flat_map}
use Rattle.farm_entry.specs.declared.entry.Entry.{Entry}
use Rattle.journal_follow.specs.Taking.{Came, Held, Takes, stored}
use Rattle.http_exchange.specs.Exchanges.{Exchange, IsPut, exchange_events, tell_all}
use Rattle.http_exchange.specs.Sending.{AreLost, IsTry, Try, sent_of, told_tries, told_try}
use Rattle.http_exchange.specs.declared.response.Response.{Response}
use Rattle.http_exchange.specs.declared.sending.Lost.TheVariants as lost_by
use Rattle.http_exchange.specs.declared.sending.Sent.TheVariants.{Lost}
use Rattle.http_exchange.specs.declared.sending.TheConstants.{MAX_TRIES}
use Rattle.link_io.specs.Events.{NetworkEvent}
use Rattle.journal_follow.specs.Asks.{IsAnswered, Reads, ask_request}
use Rattle.journal_follow.specs.Taken.{Answers}
use Rattle.journal_follow.specs.declared.fault.FollowFault.{FollowFault}
use Rattle.journal_follow.specs.declared.fault.FollowFault.TheVariants.{Foreign, Gap, Memory, NetFault, Peer}
use Rattle.journal_follow.specs.declared.following.Followed.{Followed}

-- a round: the tries of its ask that were lost, the one that was answered, and the entries of that answer
pub record Round : Type 0 where
  pub lost : List Try
  pub answered : Try
  pub page : List Entry

-- a round that asks for the entries from this one on
pub record IsRound (from : ℕ) (r : Round) : Type 0 where
  pub few : length r.lost < MAX_TRIES
  pub were_lost : AreLost (ask_request from) r.lost
  pub response : Response
  pub answers : IsAnswered from r.answered response
  pub reads : Reads from response (Ok r.page)

-- how many entries are compared once the pages of these rounds were
abbrev pub compared_after : ℕ → List Round → ℕ
compared_after compared [] = compared
compared_after compared (r ∷ more) = compared_after (compared + length r.page) more

-- rounds one after the other, each with some entries, which were taken
abbrev pub AreTaken : (compared : ℕ) → List Round → (old new : Held) → Type 0
AreTaken compared [] old new = new ≡ old
AreTaken compared (r ∷ more) old new =
    IsRound (compared + 1) r × (r.page ≢ [])
    × (count : ℕ) × (next : Held) × Takes (stored count) (compared + 1) r.page old next
    × AreTaken (compared + length r.page) more next new

-- the entries of all pages, in order
abbrev pub entries_of : List Round → List Entry
entries_of rounds = flat_map (λ (r : Round). r.page) rounds

-- What followed the rounds that were taken: nothing, as so many were made as were to be made; a round that was
-- answered; tries without an answer that says a page; or tries, of which for the last one or its answer memory ran
-- out.
pub data Last : Type 0 where
  nothing : Last
  answered : Round → Last
  unanswered : List Try → Try → Last
  cut_off : List Try → Option Exchange → Last

abbrev pub told_round : Round → Option (List NetworkEvent) → Option (List NetworkEvent)
told_round r told = told_try r.answered (told_tries r.lost told)

abbrev pub told_rounds : List Round → Option (List NetworkEvent) → Option (List NetworkEvent)
told_rounds [] told = told
told_rounds (r ∷ more) told = told_rounds more (told_round r told)

abbrev pub told_exchange : Option Exchange → Option (List NetworkEvent) → Option (List NetworkEvent)
told_exchange None told = told
told_exchange (Some x) told = tell_all (exchange_events x) told

abbrev pub told_last : Last → Option (List NetworkEvent) → Option (List NetworkEvent)
told_last nothing told = told
told_last (answered r) told = told_round r told
told_last (unanswered lost t) told = told_try t (told_tries lost told)
told_last (cut_off lost x) told = told_exchange x (told_tries lost told)

-- an ask was put, or a prefix of it, or it was not made
abbrev pub WasPut : (request : List ℕ) → Option Exchange → Type 0
WasPut request None = ⊤
WasPut request (Some x) = IsPut request x

-- The last try came to no page, and the ask isn't sent again: something else was answered, or the last of all tries was
-- lost, by a fault of the network where it met one.
abbrev pub GivesUp : (from : ℕ) → List Try → Try → FollowFault → Type 0
GivesUp from lost t (Peer status) =
    ((response : Response) × IsAnswered from t response × Reads from response (Err (Peer status)))
    ⊎ ((length lost + 1 ≡ MAX_TRIES) × IsTry (ask_request from) t × (sent_of t.answer ≡ Lost (lost_by.Peer status)))
GivesUp from lost t NetFault =
    (length lost + 1 ≡ MAX_TRIES) × IsTry (ask_request from) t × (sent_of t.answer ≡ Lost lost_by.Network)
GivesUp from lost t fault = ⊥

-- How following ends, where so many entries are compared, by what follows the rounds that were taken. The page of a
-- last round is empty, or it was not taken, as the follower's call answered.
abbrev pub Ends : (rounds made compared : ℕ) → Last → (held new : Held) → Result Followed FollowFault → Type 0
Ends rounds made compared nothing held new (Ok followed) =
    (new ≡ held) × (made ≡ rounds) × (followed.whole ≡ false) × (followed.entries ≡ length new.history)
Ends rounds made compared (answered r) held new (Ok followed) =
    (new ≡ held) × IsRound (compared + 1) r × (r.page ≡ []) × (made < rounds)
    × (followed.whole ≡ true) × (followed.entries ≡ length new.history) × (length new.history ≡ compared)
Ends rounds made compared (answered r) held new (Err fault) =
    IsRound (compared + 1) r × (made < rounds)
    × (((new ≡ held) × (r.page ≡ []) × (fault ≡ Foreign compared) × (compared < length new.history))
    ⊎ ((r.page ≢ []) × (came : Came) × Takes came (compared + 1) r.page held new × Answers came (Err fault)))
Ends rounds made compared (unanswered lost t) held new (Err fault) =
    (new ≡ held) × (made < rounds) × AreLost (ask_request (compared + 1)) lost × (length lost < MAX_TRIES)
    × GivesUp (compared + 1) lost t fault
Ends rounds made compared (cut_off lost x) held new (Err Memory) =
    (new ≡ held) × (made < rounds) × AreLost (ask_request (compared + 1)) lost × (length lost < MAX_TRIES)
    × WasPut (ask_request (compared + 1)) x
Ends rounds made compared last held new answer = ⊥

-- what holds where the leader had no more
abbrev pub OnWhole : Result Followed FollowFault → Type 0 → Type 0
OnWhole (Ok followed) P = followed.whole ≡ true → P
OnWhole (Err fault) P = ⊤

-- A follower that follows a leader for so many rounds: pages are taken one after the other, and then it ends. What the
-- network tells of it is just that. Where the leader has no more, the history is the entries of the pages, in order.
pub record Follows (rounds : ℕ) (old new : Held) (before after : Option (List NetworkEvent))
    (result : Result Followed FollowFault) : Type 0 where
  pub taken : List Round
  pub held : Held
  pub last : Last
  pub are : AreTaken 0 taken old held
  pub tells : after ≡ told_last last (told_rounds taken before)
  pub ends : Ends rounds (length taken) (compared_after 0 taken) last held new result
  pub whole : OnWhole result (new.history ≡ entries_of taken)

-- the answer is none that only taking a page comes to
abbrev pub IsOfFollowing : {T : Type 0} → Result T FollowFault → Type 0
IsOfFollowing (Err (Gap from have)) = ⊥
IsOfFollowing answer = ⊤
