-- What the body of an answer tells a worker that asked for a lease.
use Rattle.std.specs.Prelude.{ℕ, Bool, false, ◌||◌, List, Option, Some, None, option_and_then, Result, Ok, Err, codes}
use Rattle.std.specs.Option.{ok_or}
use Rattle.std.specs.Str.{bytes_eq}
use Rattle.serde_json.specs.Data.{Data}
use Rattle.serde_json.specs.Find.{as_str, get}
use Rattle.farm_wire.specs.Forms as form
use Rattle.farm_wire.specs.Reading.{object_in}
use Rattle.worker_agent.specs.declared.answer.AnswerFault.{AnswerFault}
use Rattle.worker_agent.specs.declared.answer.AnswerFault.TheVariants.{Shape}
use Rattle.worker_agent.specs.declared.answer.LeaseAnswer.{LeaseAnswer}

-- what is made of what was read, or the fault in its place
abbrev pub and_then : {X Y : Type 0} → Result X AnswerFault → (X → Result Y AnswerFault) → Result Y AnswerFault
and_then (Ok x) make = make x
and_then (Err f) make = Err f

-- the object that a body is, in JSON
unfoldable pub object_of : List ℕ → Result Data AnswerFault
object_of body = ok_or (object_in body) Shape

-- a member of an object in its form
unfoldable pub member_in : {X : Type 0} → (name : List ℕ) → (Data → Option X) → Data → Result X AnswerFault
member_in name form json = ok_or (option_and_then form (get name json)) Shape

-- the run, the test and the commit that an object names
unfoldable pub lease_in : Data → Result LeaseAnswer AnswerFault
lease_in json =
    and_then (member_in (codes "run") form.ordinal json) (λ run.
    and_then (member_in (codes "test") form.name json) (λ test.
    and_then (member_in (codes "commit") form.commit json) (λ commit.
    Ok (record { run = run; test = test; commit = commit }))))

-- the lease that a body answers
unfoldable pub lease_reading : List ℕ → Result LeaseAnswer AnswerFault
lease_reading body = and_then (object_of body) lease_in

-- the word of a refusal says that there is no run to be had: none is due, or the farm is closed
abbrev pub is_no_run_word : Option (List ℕ) → Bool
is_no_run_word None = false
is_no_run_word (Some text) = bytes_eq text (codes "NoRun") || bytes_eq text (codes "Closed")

-- the word of a refusal says that the farm is closed
abbrev pub is_closed_word : Option (List ℕ) → Bool
is_closed_word None = false
is_closed_word (Some text) = bytes_eq text (codes "Closed")

-- an object refuses a lease, as there is no run
unfoldable pub refuses_run : Data → Bool
refuses_run json = is_no_run_word (option_and_then as_str (get (codes "refused") json))

abbrev pub tells_refusal : Result Data AnswerFault → Bool
tells_refusal (Ok json) = refuses_run json
tells_refusal (Err fault) = false

-- a body says that there is no run
unfoldable pub tells_no_run : List ℕ → Bool
tells_no_run body = tells_refusal (object_of body)

-- an object refuses a report, as the farm is closed
unfoldable pub refuses_closed : Data → Bool
refuses_closed json = is_closed_word (option_and_then as_str (get (codes "refused") json))

abbrev pub tells_closing : Result Data AnswerFault → Bool
tells_closing (Ok json) = refuses_closed json
tells_closing (Err fault) = false

-- a body says that the farm is closed
unfoldable pub tells_closed : List ℕ → Bool
tells_closed body = tells_closing (object_of body)
