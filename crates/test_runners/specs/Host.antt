-- How a test host is asked, and what its answers say.
use Rattle.std.specs.Prelude.{◌≡◌, ◌≤◌, ◌<◌, ◌⊎◌, ◌++◌, ℕ, Bool, true, List, [], ◌∷◌, length, if◌then◌else◌, Option, Some, None, codes}
use Rattle.std.specs.Str.{bytes_eq}
use Rattle.farm_types.specs.CommitId.{id_digits}
use Rattle.farm_types.specs.declared.commit_id.CommitId.{CommitId}
use Rattle.http_exchange.specs.Exchanges.{Exchange, talked, unconnected}
use Rattle.common_types.specs.Prefix.{IsPrefix}
use Rattle.weight_exact.specs.declared.run.Verdict.TheVariants.{Pass, Fail}
use Rattle.worker_core.specs.declared.tested.Tested.{Tested}
use Rattle.worker_core.specs.declared.tested.Tested.TheVariants as tested
use Rattle.test_runners.specs.declared.host.TheConstants.{ANSWER_BYTES}

-- the line by which a host is asked: `COMMIT TEST`
abbrev pub question_of : CommitId → (test : List ℕ) → List ℕ
question_of commit test = ((id_digits commit ++ 32 ∷ []) ++ test) ++ 10 ∷ []

-- what a line says that came whole, with its line feed
abbrev pub line_of : (answer : List ℕ) → Option Tested
line_of answer =
    if bytes_eq answer (codes "pass\n") then Some (tested.Verdict Pass)
    else if bytes_eq answer (codes "fail\n") then Some (tested.Verdict Fail)
    else if bytes_eq answer (codes "skip\n") then Some tested.Untestable
    else None

-- what the whole of an answer says: the line `pass`, `fail` or `skip`, which may lack its line feed
abbrev pub answer_of : (answer : List ℕ) → Option Tested
answer_of answer =
    if bytes_eq answer (codes "pass") then Some (tested.Verdict Pass)
    else if bytes_eq answer (codes "fail") then Some (tested.Verdict Fail)
    else if bytes_eq answer (codes "skip") then Some tested.Untestable
    else line_of answer

-- the whole of an answer was taken: the input has ended, or more came than an answer has
abbrev pub IsAnswer : (taken : List ℕ) → (ended : Bool) → Type 0
IsAnswer taken ended = (ended ≡ true) ⊎ (ANSWER_BYTES < length taken)

-- What an answer says of which this was taken, over a connection that failed so often: what the whole of it says, or,
-- where a take failed, what the line says that had come whole by then
abbrev pub Says : (taken : List ℕ) → (ended : Bool) → (count : ℕ) → Option Tested → Type 0
Says taken ended count said = (IsAnswer taken ended × (said ≡ answer_of taken)) ⊎ ((1 ≤ count) × (said ≡ line_of taken))

-- What a host said that was asked over a connection, where so much was put and taken, and that failed so often. The
-- whole question was put, and the answer says what came of the test, or doesn't; or not the whole question was put, and
-- nothing was taken
abbrev pub IsAsked : (question sent taken : List ℕ) → (ended : Bool) → (count : ℕ) → Option Tested → Type 0
IsAsked question sent taken ended count (Some said) = (sent ≡ question) × Says taken ended count (Some said)
IsAsked question sent taken ended count None =
    (IsPrefix sent question × (length sent < length question) × (taken ≡ []))
    ⊎ ((sent ≡ question) × Says taken ended count None)

-- what a host said that was asked over a connection of its own, which was made or not
abbrev pub SaysOver : (question : List ℕ) → Exchange → Option Tested → Type 0
SaysOver question (talked t) said = IsAsked question t.put t.taken t.ended t.count said
SaysOver question unconnected said = said ≡ None
