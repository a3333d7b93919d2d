-- From an ask and what is done with its page to what a round comes to.
use Rattle.std.proofs.Common.{◌≡◌, ◌≢◌, ◌≤◌, ◌+◌, ◌++◌, inl, ℕ, List, [], length, Option, refl, sym, ◌∙◌, ap, subst}
use Rattle.std.proofs.Common.{arith}
use Rattle.std.specs.Prelude.{Result, Ok, Err}
use Rattle.farm_entry.specs.declared.entry.Entry.{Entry}
use Rattle.farm_entry.specs.declared.limits.TheConstants.{MAX_ENTRIES}
use Rattle.journal_follow.specs.Page.{MayBeHeld}
use Rattle.journal_follow.proofs.Going.{stored-behind}
use Rattle.journal_follow.proofs.Holding.{may-front}
use Rattle.journal_follow.proofs.Takings.{may-bounded}
use Rattle.journal_follow.specs.Taking.{Came, Held, Takes, foreign, gap, stored, undecided, unrepaired, unstored}
use Rattle.link_io.specs.Events.{NetworkEvent}
use Rattle.journal_follow.specs.Asked.{AskComesTo, AskEnds}
use Rattle.journal_follow.specs.Following.{Ends, IsRound, Last, Round, answered, cut_off, nothing, told_last}
use Rattle.journal_follow.specs.Following.{told_round, unanswered}
use Rattle.journal_follow.specs.Rounds.{EndedSays, RoundSays}
use Rattle.journal_follow.specs.Taken.{Answers}
use Rattle.journal_follow.specs.declared.fault.FollowFault.{FollowFault}
use Rattle.journal_follow.specs.declared.fault.FollowFault.TheVariants as fault
use Rattle.journal_follow.specs.declared.following.Went.{Went}
use Rattle.journal_follow.specs.declared.following.Went.TheVariants.{On, Whole}

-- no page came
unasked-ends : (compared : ℕ) (held : Held) (last : Last) (f : FollowFault) → AskEnds (compared + 1) last (Err f)
    → Ends 1 0 compared last held held (Err f)
unasked-ends compared held nothing f ends = absurd ends
unasked-ends compared held (answered r) f ends = absurd ends
unasked-ends compared held (unanswered lost t) f ends = (refl, omega arith, ends.0, ends.1, ends.2)
unasked-ends compared held (cut_off lost x) fault.Memory ends = (refl, omega arith, ends.0, ends.1, ends.2)
unasked-ends compared held (cut_off lost x) (fault.Gap a b) ends = absurd ends
unasked-ends compared held (cut_off lost x) (fault.Foreign a) ends = absurd ends
unasked-ends compared held (cut_off lost x) (fault.StoreFault a b) ends = absurd ends
unasked-ends compared held (cut_off lost x) (fault.Damaged a) ends = absurd ends
unasked-ends compared held (cut_off lost x) fault.NetFault ends = absurd ends
unasked-ends compared held (cut_off lost x) (fault.Peer a) ends = absurd ends

pub round-unasked : (compared : ℕ) (held : Held) (before after : Option (List NetworkEvent)) (f : FollowFault)
    → AskComesTo (compared + 1) before after (Err f) → RoundSays compared held held before after (Err f)
round-unasked compared held before after f comes = record {
  last = comes.0;
  tells = comes.1;
  ends = unasked-ends compared held comes.0 f comes.2;
}

-- a page came
pub record HasPage (compared : ℕ) (before after : Option (List NetworkEvent)) (page : List Entry) : Type 0 where
  pub round : Round
  pub is : IsRound (compared + 1) round
  pub page_is : round.page ≡ page
  pub tells : after ≡ told_round round before

has-page : (compared : ℕ) (before after : Option (List NetworkEvent)) (page : List Entry) (last : Last)
    → after ≡ told_last last before → AskEnds (compared + 1) last (Ok page) → HasPage compared before after page
has-page compared before after page (answered r) tells ends =
    record { round = r; is = ends.0; page_is = ends.1; tells = tells }
has-page compared before after page nothing tells ends = absurd ends
has-page compared before after page (unanswered lost t) tells ends = absurd ends
has-page compared before after page (cut_off lost x) tells ends = absurd ends

pub asked-page : (compared : ℕ) (before after : Option (List NetworkEvent)) (page : List Entry)
    → AskComesTo (compared + 1) before after (Ok page) → HasPage compared before after page
asked-page compared before after page comes = has-page compared before after page comes.0 comes.1 comes.2

-- it is empty
pub round-ended : (compared : ℕ) (held : Held) (before after : Option (List NetworkEvent)) (page : List Entry)
    (result : Result Went FollowFault) → AskComesTo (compared + 1) before after (Ok page) → page ≡ []
    → EndedSays compared held result → RoundSays compared held held before after result
round-ended compared held before after page (Ok (On next)) comes none ended = absurd ended
round-ended compared held before after page (Ok (Whole followed)) comes none ended =
    let r = asked-page compared before after page comes in
    record {
      last = answered r.round;
      tells = r.tells;
      ends = (refl, r.is, r.page_is ∙ none, omega arith, ended.0, ended.1, ended.2);
    }
round-ended compared held before after page (Err f) comes none ended =
    let r = asked-page compared before after page comes in
    record {
      last = answered r.round;
      tells = r.tells;
      ends = (r.is, omega arith, inl (refl, r.page_is ∙ none, ended.0, ended.1));
    }

stored-came : (compared : ℕ) (old new : Held) (page : List Entry) (came : Came) (n : ℕ) → Answers came (Ok n)
    → Takes came (compared + 1) page old new → (count : ℕ) × Takes (stored count) (compared + 1) page old new
stored-came compared old new page (stored count) n answers takes = (count, takes)
stored-came compared old new page (gap a b) n answers takes = absurd answers
stored-came compared old new page (foreign p) n answers takes = absurd answers
stored-came compared old new page unrepaired n answers takes = absurd answers
stored-came compared old new page undecided n answers takes = absurd answers
stored-came compared old new page unstored n answers takes = absurd answers

-- so many entries are few
pub page-bounded : (compared : ℕ) (old new : Held) (page : List Entry) (came : Came) (n : ℕ) → Answers came (Ok n)
    → Takes came (compared + 1) page old new → compared ≤ length old.history → MayBeHeld (new.history ++ new.pending)
    → compared + length page ≤ MAX_ENTRIES + 1
page-bounded compared old new page came n answers takes le may =
    let all = stored-came compared old new page came n answers takes in
    let behind = stored-behind all.0 compared page old new all.1 le in
    let most = may-bounded new.history (may-front new.history new.pending may) in
    omega (arith, behind.0, most)

-- it was
pub round-taken : (compared : ℕ) (old new : Held) (before after : Option (List NetworkEvent)) (page : List Entry)
    (n next : ℕ) → AskComesTo (compared + 1) before after (Ok page) → page ≢ [] → (came : Came)
    → Answers came (Ok n) → Takes came (compared + 1) page old new → next ≡ compared + length page
    → RoundSays compared old new before after (Ok (On next))
round-taken compared old new before after page n next comes some came answers takes is =
    let r = asked-page compared before after page comes in
    let all = stored-came compared old new page came n answers takes in
    record {
      round = r.round;
      is = r.is;
      some = λ none. some (sym r.page_is ∙ none);
      tells = r.tells;
      count = all.0;
      takes = subst (λ (l : List Entry). Takes (stored all.0) (compared + 1) l old new) (sym r.page_is) all.1;
      next_is = is ∙ ap (λ (l : List Entry). compared + length l) (sym r.page_is);
    }
