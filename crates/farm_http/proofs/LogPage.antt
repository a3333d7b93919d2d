-- A request for a log page, answered by itself.
use Rattle.std.proofs.Common.{ℕ, ◌≡◌, ◌≤◌, inl, inr, Bool, true, false, if◌then◌else◌, nat_lt, List, [], ◌∷◌, drop, length, Result, Ok, Err, refl, sym, ap, subst, arith}
use Rattle.std.specs.Prelude.{⊤}
use Rattle.connection_laws.specs.Answers.{response_of}
use Rattle.connection_laws.specs.Kinds.{kind_by}
use Rattle.connection_laws.specs.Outcomes.{Step, copied}
use Rattle.connection_laws.specs.Progress.{Progress, IsWithin}
use Rattle.connection_laws.specs.declared.served.ServeFault.{ServeFault}
use Rattle.connection_laws.specs.Moments.{Given}
use Rattle.http_requests.specs.Items.{Item, IsNext, body_of, head_size, item_by, item_of}
use Rattle.http_requests.specs.Next.{IsNextFor, item_in}
use Rattle.http_requests.specs.declared.request.Request.{Request}
use Rattle.http_requests.proofs.Rows.{endpoint_of-holds}
use Rattle.http_requests.specs.Routes.{endpoint_of}
use Rattle.http_words.specs.declared.endpoint.Endpoint.{Endpoint}
use Rattle.http_words.specs.declared.endpoint.Endpoint.TheVariants as endpoint
use Rattle.http_words.specs.declared.fault.Fault.{Fault}
use Rattle.httparse.specs.Grammar.{RequestHead}
use Rattle.common_types.specs.Prefix.{IsPrefix}
use Rattle.common_types.proofs.Prefixes.{IsPrefix-refl, IsPrefix-trans}
use Rattle.turn_lock.specs.Known.{Known}
use Rattle.connection_laws.specs.Owners.{holding_of}
use Rattle.connection_laws.proofs.Owners.{HoldsMore-nothing}
use Rattle.farm_http.specs.Bytes.{PutSays, request_bytes}
use Rattle.farm_http.specs.Callers.{mark_of}
use Rattle.farm_http.specs.Fronts.{FrontSays, Halves}
use Rattle.farm_http.specs.Noting.{TookNote}
use Rattle.farm_http.specs.declared.front.Answered.{Answered}
use Rattle.farm_http.proofs.Gathering.{next-here}
use Rattle.farm_http.proofs.Single.{front-single, one_answered}

-- ---- the number in the path of a log page is 1 or more

-- what is asked for is no log page from before the first entry
abbrev pub IsFromOne : Result Endpoint Fault → Type 0
IsFromOne (Ok (endpoint.Log from)) = 1 ≤ from
IsFromOne (Ok _) = ⊤
IsFromOne (Err f) = ⊤

endpoint-from : (method target : List ℕ) → IsFromOne (endpoint_of method target)
endpoint-from method target =
    endpoint_of-holds IsFromOne method target (record {
      command = λ r allowed. tt;
      totals = tt;
      log = λ from one. one;
      not_found = tt;
      not_allowed = λ methods. tt;
      bad_field = λ name. tt;
    })

either-from : (b : Bool) (x y : Item) → IsFromOne x.asks → IsFromOne y.asks → IsFromOne (if b then x else y).asks
either-from true x y p q = p
either-from false x y p q = q

item_by-from : (head : RequestHead) (rest : List ℕ) (r : Result ℕ Fault) → IsFromOne (item_by head rest r).asks
item_by-from head rest (Err f) = tt
item_by-from head rest (Ok len) = either-from (nat_lt (length rest) len) _ _ tt (endpoint-from head.method head.target)

item_of-from : (head : RequestHead) (rest : List ℕ) → IsFromOne (item_of head rest).asks
unfolding item_of
item_of-from head rest = item_by-from head rest (body_of head)

next-from : (held : List ℕ) (item : Item) → IsNext held item → IsFromOne item.asks
next-from held item (inl x) = subst (λ (i : Item). IsFromOne i.asks) (sym x.item_is)
    (item_of-from x.head (drop (head_size x.head) held))
next-from held item (inr x) = subst (λ (i : Item). IsFromOne i.asks) (sym x.item_is) tt

pub log-from : (complete : Bool) (held : List ℕ) (request : Request) (from : ℕ) → IsNextFor complete held request
    → request.asks ≡ Ok (endpoint.Log from) → 1 ≤ from
log-from complete held request from next asks =
    subst (λ (r : Result Endpoint Fault). IsFromOne r) asks
    (next-from held (item_in held request) (next-here complete held request next))

-- ---- a page of a history that begins with what was seen

pub copied-says : (gives : Given → Type 0) (c : Progress) (complete : Bool) (held : List ℕ) (out : Bool)
    (link : Halves) (old new : Known) (request : Request) (from : ℕ) (w : Bool)
    → IsNextFor complete held request → out ≡ request.interim → IsWithin c (mark_of old c.totals)
    → request.asks ≡ Ok (endpoint.Log from) → IsPrefix old.seen new.seen → holding_of new ≡ holding_of old
    → old.faults ≤ new.faults
    → TookNote link.aside link.later link.before new
    → (result : Result Answered ServeFault) → ((d : Answered) → result ≡ Ok d → d ≡ one_answered request)
    → PutSays (request_bytes request (response_of (record { outcome = copied new.seen from; written = w })))
    link.before link.now result
    → FrontSays gives c complete held out link (record { pass = old; reader = c.totals })
    (record { pass = new; reader = c.totals }) result
copied-says gives c complete held out link old new request from w next shown within asks longer mine more took result
    same put =
    let low = within.faults in
    let step : Step = record { outcome = copied new.seen from; written = w } in
    front-single gives c complete held out link (record { pass = old; reader = c.totals })
    (record { pass = new; reader = c.totals }) request step (response_of step) next shown (
      record {
        asked = ap (λ (a : Result Endpoint Fault). kind_by a (item_in held request).body) asks;
        begins = IsPrefix-trans c.seen old.seen new.seen within.seen longer;
      },
      tt,
    )
    (record {
      within = record {
        seen = IsPrefix-refl new.seen;
        totals = IsPrefix-refl c.totals;
        faults = omega arith;
      };
      holds = HoldsMore-nothing (step ∷ []) (holding_of old) (holding_of new) refl mine;
      counted = refl;
    })
    refl (inr took) result same put
