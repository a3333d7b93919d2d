-- What was put for one request, as an answer to it is handed on.
use Rattle.std.proofs.Common.{ℕ, ◌≡◌, List, Option, Result, Ok, Err, sym, ◌∙◌}
use Rattle.std.specs.Io.KnownBytes.{append_known}
use Rattle.std.specs.Result.{IsErrAnd}
use Rattle.connection_laws.specs.declared.served.ServeFault.{ServeFault}
use Rattle.http_requests.specs.declared.request.Request.{Request}
use Rattle.common_types.specs.Prefix.{IsPrefix}
use Rattle.farm_http.specs.Bytes.{PutSays}
use Rattle.farm_http.specs.declared.front.Answered.{Answered}
use Rattle.farm_http.proofs.Single.{one_answered}

-- a fault that is handed on came of the same puts
pub put-handed : (Q : ServeFault → Type 0) (all : List ℕ) (before now : Option (List ℕ))
    (r : Result Answered ServeFault)
    → IsErrAnd r Q → (part : List ℕ) × IsPrefix part all × (now ≡ append_known before part) → PutSays all before now r
put-handed Q all before now (Ok d) failed put = absurd failed
put-handed Q all before now (Err other) failed put = put

-- nothing is answered then
pub none-answered : (Q : ServeFault → Type 0) (request : Request) (r : Result Answered ServeFault) → IsErrAnd r Q
    → (d : Answered)
    → r ≡ Ok d → d ≡ one_answered request
none-answered Q request (Ok a) failed d is = absurd failed
none-answered Q request (Err other) failed d is = let bad : ⊥ = cc in absurd bad

abbrev pub as_answer : Answered → Result Answered ServeFault
as_answer a = Ok a

-- and else this request is
pub one-made : (a : Answered) (request : Request) → a.requests ≡ 1 → a.size ≡ request.size → a.closes ≡ request.closes
    → (d : Answered) → as_answer a ≡ Ok d → d ≡ one_answered request
one-made a request one size closes d is =
    let same : a ≡ d = cc in
    sym same ∙ (λ i. record { requests = one i; size = size i; closes = closes i })
