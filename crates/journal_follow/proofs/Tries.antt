-- From the sending of an ask to what it comes to.
use Rattle.std.proofs.Common.{inl, inr, ◌≡◌, ℕ, List, [], Option, Some, None, Result, Ok, Err, refl, sym, arith}
use Rattle.farm_entry.specs.declared.entry.Entry.{Entry}
use Rattle.common_types.specs.declared.memory.Memory as want
use Rattle.http_exchange.proofs.Sendings.{put-tried}
use Rattle.http_exchange.specs.Sending.{IsCutOff, IsLost, IsSent}
use Rattle.http_exchange.specs.declared.response.Response.{Response}
use Rattle.http_exchange.specs.declared.sending.Lost as sending
use Rattle.http_exchange.specs.declared.sending.Lost.TheVariants as lost_by
use Rattle.http_exchange.specs.declared.sending.Sent.TheVariants.{Answered, Lost}
use Rattle.link_io.specs.Events.{NetworkEvent}
use Rattle.journal_follow.specs.Asked.{AskComesTo, given_up}
use Rattle.journal_follow.specs.Asks.{Reads, ask_request}
use Rattle.journal_follow.specs.Following.{answered, cut_off, unanswered}
use Rattle.journal_follow.specs.declared.fault.FollowFault.{FollowFault}
use Rattle.journal_follow.specs.declared.fault.FollowFault.TheVariants as fault

-- a response came
pub ask-answered : (from : ℕ) (before after : Option (List NetworkEvent)) (response : Response)
    (result : Result (List Entry) FollowFault) → IsSent (ask_request from) before after (Answered response)
    → Reads from response result → AskComesTo from before after result
ask-answered from before after response (Ok page) s reads = (
  answered (record { lost = s.lost; answered = s.last; page = page }),
  s.tells,
  (
    record {
      few = s.few;
      were_lost = s.were_lost;
      response = response;
      answers = (s.is_try, sym s.comes);
      reads = reads;
    },
    refl,
  ),
)
ask-answered from before after response (Err (fault.Peer status)) s reads = (
  unanswered s.lost s.last,
  s.tells,
  (s.were_lost, s.few, inl (response, (s.is_try, sym s.comes), reads)),
)
ask-answered from before after response (Err fault.Memory) s reads = (
  cut_off s.lost (Some s.last.exchange),
  s.tells,
  (s.were_lost, s.few, put-tried (ask_request from) s.last.exchange s.last.answer s.is_try),
)
ask-answered from before after response (Err (fault.Gap a b)) s reads = absurd reads
ask-answered from before after response (Err (fault.Foreign a)) s reads = absurd reads
ask-answered from before after response (Err (fault.StoreFault a b)) s reads = absurd reads
ask-answered from before after response (Err (fault.Damaged a)) s reads = absurd reads
ask-answered from before after response (Err fault.NetFault) s reads = absurd reads

-- the last try was lost
pub ask-lost : (from : ℕ) (before after : Option (List NetworkEvent)) (lost : sending.Lost)
    → IsSent (ask_request from) before after (Lost lost) → AskComesTo from before after (Err (given_up lost))
ask-lost from before after lost_by.Network s =
    (unanswered s.lost s.last, s.tells, (s.were_lost, s.few, (s.all tt, s.is_try, sym s.comes)))
ask-lost from before after (lost_by.Peer status) s =
    (unanswered s.lost s.last, s.tells, (s.were_lost, s.few, inr (s.all tt, s.is_try, sym s.comes)))

-- memory ran out for an answer, and for the ask
pub ask-short : (from : ℕ) (before after : Option (List NetworkEvent)) → IsCutOff (ask_request from) before after
    → AskComesTo from before after (Err fault.Memory)
ask-short from before after s = (cut_off s.lost (Some s.exchange), s.tells, (s.were_lost, s.few, s.put))

pub ask-none : (from : ℕ) (told : Option (List NetworkEvent)) → AskComesTo from told told (Err fault.Memory)
ask-none from told = (cut_off [] None, refl, (tt, omega arith, tt))

-- what a response says is no fault of the network
pub reads-not-net : (from : ℕ) (response : Response) → Reads from response (Err fault.NetFault) → ⊥
reads-not-net from response reads = reads
