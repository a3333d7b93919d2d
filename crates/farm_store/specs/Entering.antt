-- What a store gives of a command that is entered without a reply: the run that the reply would hand out, if it would.
use Rattle.std.specs.Prelude.{◌≡◌, List, [], ◌∷◌, Option, Result, Ok, Err}
use Rattle.farm_types.specs.declared.moment.Moment.{Moment}
use Rattle.farm_core.specs.Outcome.{handed_out}
use Rattle.farm_entry.specs.declared.answer.Answer.{Answer}
use Rattle.farm_entry.specs.declared.answer.Answer.TheVariants.{Done, Refused}
use Rattle.farm_entry.specs.declared.command.Command.{Command}
use Rattle.farm_entry.specs.declared.entry.Entry.{Entry}
use Rattle.farm_entry.specs.declared.lease.LeasedRun.{LeasedRun}
use Rattle.farm_entry.specs.declared.refusal.Refusal.{Refusal}
use Rattle.farm_entry.specs.declared.reply.Reply.{Reply}
use Rattle.farm_store.specs.Answering.{AreAnswers, CallSays}
use Rattle.farm_store.specs.State.{StoreState}
use Rattle.farm_store.specs.declared.asking.Ask.{Ask}
use Rattle.farm_store.specs.declared.asking.CallFault.{CallFault}

-- of an answer, the run that its reply hands out, if it does, or its refusal
abbrev pub run_or_refusal : Answer → Result (Option LeasedRun) Refusal
run_or_refusal (Done reply) = Ok (handed_out reply)
run_or_refusal (Refused cause) = Err cause

-- what is given of an ask that is answered at a history by the run alone
pub record IsEntered (H : List Entry) (ask : Ask) (given : Result (Option LeasedRun) Refusal) : Type 0 where
  pub answer : Answer
  pub is : AreAnswers H (ask ∷ []) (answer ∷ [])
  pub gives : given ≡ run_or_refusal answer

-- of what a call answers, the run that its reply hands out, if it does; a refusal or a fault is the same
abbrev pub run_given : Result Reply CallFault → Result (Option LeasedRun) CallFault
run_given (Ok reply) = Ok (handed_out reply)
run_given (Err fault) = Err fault

-- a command at a moment came to what a call with it comes to, of which the run was given that the reply hands out
pub record Enters {D : Type 0} (command : Command) (at : Moment) (result : Result (Option LeasedRun) CallFault)
    (old new : StoreState D) : Type 0 where
  pub answer : Result Reply CallFault
  pub gives : result ≡ run_given answer
  pub says : CallSays command at answer old new
