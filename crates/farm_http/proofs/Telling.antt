-- The answer that tells totals.
use Rattle.std.proofs.Common.{ℕ, ◌≡◌, ◌++◌, ◌∙◌, Bool, List, [], Option, Some, take, drop, codes, ap, refl, sym}
use Rattle.std.proofs.lemmas.List.{take-append-drop}
use Rattle.std.proofs.lemmas.Option.{same_Some}
use Rattle.std.specs.Io.KnownBytes.{append_known}
use Rattle.connection_laws.specs.Answers.{Response, plain}
use Rattle.farm_entry.specs.declared.reply.Totals.{Totals}
use Rattle.farm_wire.specs.Replies.{totals_data}
use Rattle.http_requests.specs.declared.request.Request.{Request}
use Rattle.http_words.specs.declared.status_code.StatusCode.TheVariants as status
use Rattle.common_types.specs.Prefix.{IsPrefix}
use Rattle.serde_json.specs.Written.{compact_text}
use Rattle.farm_http.specs.Bytes.{request_bytes}
use Rattle.farm_http.specs.Told.{told_bytes, totals_response}

-- the answer to a request is the one by how it is put
pub request-told : (request : Request) (totals : Totals)
    → request_bytes request (totals_response totals) ≡ told_bytes request.closes request.withheld totals
unfolding request_bytes told_bytes
request-told request totals = refl

-- a part of bytes was put
pub part-put : (n : ℕ) (all : List ℕ) (before now : Option (List ℕ)) → now ≡ append_known before (take n all)
    → (part : List ℕ) × IsPrefix part all × (now ≡ append_known before part)
part-put n all before now puts = (take n all, (drop n all, sym (take-append-drop n all)), puts)

-- the bytes of an answer that was put where there were none
pub told-made : (request : Request) (totals : Totals) (room bytes all text : List ℕ) (r : Response)
    → Some bytes ≡ append_known (Some room) all → room ≡ [] → all ≡ request_bytes request r → r ≡ plain status.Ok text
    → text ≡ compact_text (totals_data (codes "totals") totals)
    → bytes ≡ told_bytes request.closes request.withheld totals
told-made request totals room bytes all text r put none is says text_is =
    same_Some bytes (room ++ all) put ∙ ap (λ (l : List ℕ). l ++ all) none ∙ is
    ∙ ap (λ (x : Response). request_bytes request x) (says ∙ ap (λ (l : List ℕ). plain status.Ok l) text_is)
    ∙ request-told request totals

-- the answer with the same totals, to a request that is answered alike
pub told-same : (request : Request) (closes withheld : Bool) (totals now : Totals) (bytes : List ℕ)
    → bytes ≡ told_bytes closes withheld totals → closes ≡ request.closes → withheld ≡ request.withheld → totals ≡ now
    → bytes ≡ request_bytes request (totals_response now)
told-same request closes withheld totals now bytes is shut kept same =
    is ∙ ap (λ (b : Bool). told_bytes b withheld totals) shut
    ∙ ap (λ (b : Bool). told_bytes request.closes b totals) kept
    ∙ ap (λ (t : Totals). told_bytes request.closes request.withheld t) same ∙ sym (request-told request now)
