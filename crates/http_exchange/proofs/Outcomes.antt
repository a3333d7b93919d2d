-- What an exchange tells, and what it is answered by.
use Rattle.std.proofs.Common.{◌≡◌, ℕ, Bool, List, [], ◌∷◌, take, drop, Option, Some, None, Result, Ok, Err, IfOk, OnOk, IfSome, IsErrOf, refl, sym, ap, subst, ◌∙◌, inl, inr, append-nil, arith}
use Rattle.std.proofs.lemmas.List.{take-append-drop}
use Rattle.std.specs.Io.KnownBytes.{append_known}
use Rattle.common_types.specs.Counts.{Rose}
use Rattle.common_types.specs.declared.memory.Memory.{Memory}
use Rattle.http_exchange.specs.Whole.{IsWhole}
use Rattle.link_io.specs.Links.{LinkState, fresh_link}
use Rattle.link_io.specs.Notes.{Note}
use Rattle.link_io.specs.Telling.{add_told}
use Rattle.link_io.specs.declared.sink.PutFault.{PutFault}
use Rattle.link_io.specs.declared.sink.PutFault.TheVariants as put_fault
use Rattle.common_types.specs.Prefix.{IsPrefix}
use Rattle.link_io.specs.Events.{NetworkEvent, returned}
use Rattle.http_exchange.specs.Exchanges.{AnsweredBy, AskedOver, IfAnswered, IsOutcome, talk_state, talked}
use Rattle.http_exchange.specs.Responses.{unput}
use Rattle.http_exchange.specs.declared.connection.Exchanged.{Exchanged}
use Rattle.http_exchange.specs.declared.connection.Exchanged.TheVariants.{Answered, Broken, Failed}
use Rattle.http_exchange.specs.declared.response.NoResponse.{NoResponse}
use Rattle.http_exchange.specs.declared.response.NoResponse.TheVariants as no_response
use Rattle.http_exchange.specs.declared.response.Response.{Response}

-- the taken bytes of what a put keeps
pub taken-kept : (taken before : Option (List ℕ)) → taken ≡ before → taken ≡ append_known before []
taken-kept taken None e = e
taken-kept taken (Some xs) e = e ∙ ap (λ (l : List ℕ). Some l) (sym (append-nil xs))

pub prefix-take : (n : ℕ) (xs : List ℕ) → IsPrefix (take n xs) xs
prefix-take n xs = (drop n xs, sym (take-append-drop n xs))

pub asked-unput : (request sent : List ℕ) (ended : Bool) (f : PutFault) → IsPrefix sent request →
    AskedOver request sent [] ended (Err (unput f))
asked-unput request sent ended put_fault.Failed front = inr (front, refl)
asked-unput request sent ended put_fault.Memory front = inr (front, refl)

-- a link that was fresh, as it is told once it is taken back
pub over-told : (told : Option (List NetworkEvent)) (before after : LinkState) (sent taken : List ℕ) →
    IfSome told (λ _. before ≡ fresh_link) → after.put ≡ append_known before.put sent →
    after.taken ≡ append_known before.taken taken → after.notes ≡ before.notes →
    add_told (returned after) told
    ≡ add_told (returned (talk_state (record { taken = taken; put = sent; ended = after.ended; count = after.count }))) told
over-told None before after sent taken fresh put_is taken_is notes_is = refl
over-told (Some events) before after sent taken fresh put_is taken_is notes_is =
    let put_now : after.put ≡ Some sent = put_is ∙ ap (λ (s : LinkState). append_known s.put sent) fresh in
    let taken_now : after.taken ≡ Some taken = taken_is ∙ ap (λ (s : LinkState). append_known s.taken taken) fresh in
    let notes_now : after.notes ≡ Some [] = notes_is ∙ ap (λ (s : LinkState). s.notes) fresh in
    let one : after ≡ record after { taken = Some taken } =
    ap (λ (o : Option (List ℕ)). let s : LinkState = record after { taken = o } in s) taken_now in
    let two : after ≡ record after { taken = Some taken; put = Some sent } =
    one ∙ ap (λ (o : Option (List ℕ)). let s : LinkState = record after { taken = Some taken; put = o } in s) put_now in
    let three : after ≡ record after { taken = Some taken; put = Some sent; notes = Some [] } =
    two ∙ ap (λ (o : Option (List Note)).
    let s : LinkState = record after { taken = Some taken; put = Some sent; notes = o } in s) notes_now in
    ap (λ (s : LinkState). Some (returned s ∷ events)) three

pub answered-by : (request sent taken : List ℕ) (ended : Bool) (count : ℕ) (answer : Result Response NoResponse)
    (result : Result Exchanged Memory) → AskedOver request sent taken ended answer → IsOutcome answer count result →
    (IsErrOf answer no_response.Failed → Rose 0 count) →
    AnsweredBy request (talked (record { taken = taken; put = sent; ended = ended; count = count })) result
answered-by request sent taken ended count (Ok response) (Ok (Answered given)) asked is rises =
    (is.0, asked.0, subst (λ (r : Response). IsWhole taken r.status r.body) (sym is.1) asked.1)
answered-by request sent taken ended count (Ok response) (Ok Failed) asked is rises = (is, inl asked.0)
answered-by request sent taken ended count (Ok response) (Ok Broken) asked is rises = absurd is
answered-by request sent taken ended count (Ok response) (Err memory) asked is rises = absurd is
answered-by request sent taken ended count (Err no_response.Broken) (Ok (Answered given)) asked is rises = absurd is
answered-by request sent taken ended count (Err no_response.Broken) (Ok Failed) asked is rises = (is, inl asked.0)
answered-by request sent taken ended count (Err no_response.Broken) (Ok Broken) asked is rises = (is, asked.0, asked.1)
answered-by request sent taken ended count (Err no_response.Broken) (Err memory) asked is rises = absurd is
answered-by request sent taken ended count (Err no_response.Failed) (Ok (Answered given)) asked is rises = absurd is
answered-by request sent taken ended count (Err no_response.Failed) (Ok Failed) asked is rises = (is, asked)
answered-by request sent taken ended count (Err no_response.Failed) (Ok Broken) asked is rises =
    let rose = rises refl in absurd (omega (arith, rose, is))
answered-by request sent taken ended count (Err no_response.Failed) (Err memory) asked is rises = absurd is
answered-by request sent taken ended count (Err no_response.Memory) (Ok came) asked is rises = absurd is
answered-by request sent taken ended count (Err no_response.Memory) (Err memory) asked is rises = asked

-- what follows of it where a call succeeded
pub on_ok-weaker : {A E : Type 0} (P Q : Type 0) (result : Result A E) → OnOk result P → (P → Q) → OnOk result Q
on_ok-weaker P Q (Ok a) p f = f p
on_ok-weaker P Q (Err e) p f = tt

-- a response is answered only where one came
pub if_answered : (P : Type 0) (answer : Result Response NoResponse) (count : ℕ) (result : Result Exchanged Memory) →
    IsOutcome answer count result → OnOk answer P → IfOk result (λ came. IfAnswered came P)
if_answered P answer count (Err memory) is p = tt
if_answered P answer count (Ok Failed) is p = tt
if_answered P answer count (Ok Broken) is p = tt
if_answered P (Ok response) count (Ok (Answered given)) is p = p
if_answered P (Err no_response.Memory) count (Ok (Answered given)) is p = absurd is
if_answered P (Err no_response.Broken) count (Ok (Answered given)) is p = absurd is
if_answered P (Err no_response.Failed) count (Ok (Answered given)) is p = absurd is

-- what follows of it where a response is answered
pub if_answered-weaker : (P Q : Type 0) (result : Result Exchanged Memory) → IfOk result (λ came. IfAnswered came P) →
    (P → Q) → IfOk result (λ came. IfAnswered came Q)
if_answered-weaker P Q (Err memory) p f = tt
if_answered-weaker P Q (Ok Failed) p f = tt
if_answered-weaker P Q (Ok Broken) p f = tt
if_answered-weaker P Q (Ok (Answered given)) p f = f p
