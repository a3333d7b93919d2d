-- What a round of following comes to.
use Rattle.std.specs.Prelude.{◌≡◌, ◌≢◌, ◌<◌, ◌+◌, ℕ, true, List, [], length, Option, Result, Ok, Err}
use Rattle.journal_follow.specs.Taking.{Held, Takes, stored}
use Rattle.link_io.specs.Events.{NetworkEvent}
use Rattle.journal_follow.specs.Following.{Ends, IsRound, Last, Round, told_last, told_round}
use Rattle.journal_follow.specs.declared.fault.FollowFault.{FollowFault}
use Rattle.journal_follow.specs.declared.fault.FollowFault.TheVariants.{Foreign}
use Rattle.journal_follow.specs.declared.following.Followed.{Followed}
use Rattle.journal_follow.specs.declared.following.Went.{Went}
use Rattle.journal_follow.specs.declared.following.Went.TheVariants.{On, Whole}

-- a page with some entries was taken, with which so many are compared
pub record GoesOn (compared : ℕ) (old new : Held) (before after : Option (List NetworkEvent)) (next : ℕ) : Type 0 where
  pub round : Round
  pub is : IsRound (compared + 1) round
  pub some : round.page ≢ []
  pub tells : after ≡ told_round round before
  pub count : ℕ
  pub takes : Takes (stored count) (compared + 1) round.page old new
  pub next_is : next ≡ compared + length round.page

-- it ends, as the one round of a follower that is to make one
pub record IsLast (compared : ℕ) (old new : Held) (before after : Option (List NetworkEvent))
    (result : Result Followed FollowFault) : Type 0 where
  pub last : Last
  pub tells : after ≡ told_last last before
  pub ends : Ends 1 0 compared last old new result

abbrev pub RoundSays : (compared : ℕ) → (old new : Held) → (before after : Option (List NetworkEvent))
    → Result Went FollowFault → Type 0
RoundSays compared old new before after (Ok (On next)) = GoesOn compared old new before after next
RoundSays compared old new before after (Ok (Whole followed)) = IsLast compared old new before after (Ok followed)
RoundSays compared old new before after (Err fault) = IsLast compared old new before after (Err fault)

-- the leader has no more
abbrev pub EndedSays : (compared : ℕ) → Held → Result Went FollowFault → Type 0
EndedSays compared held (Ok (On next)) = ⊥
EndedSays compared held (Ok (Whole followed)) =
    (followed.whole ≡ true) × (followed.entries ≡ length held.history) × (length held.history ≡ compared)
EndedSays compared held (Err fault) = (fault ≡ Foreign compared) × (compared < length held.history)
