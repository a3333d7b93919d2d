use Rattle.std.proofs.Common.{ℕ, ◌≡◌, ◌∙◌, Bool, false, List, [], ◌∷◌, ap, arith, length, subst, sym}
use Rattle.std.proofs.lemmas.Bool.{eqb-true}
use Rattle.http_requests.specs.Next.{AwaitsHead}
use Rattle.http_requests.proofs.Read.{nothing-awaits}
use Rattle.farm_http.proofs.received.Received.awaits_bytes.Goals as goal

nothing-held : (complete : Bool) (held : List ℕ) → complete ≡ false → length held ≡ 0 → AwaitsHead complete held
nothing-held complete [] open_ none = subst (λ (b : Bool). AwaitsHead b []) (sym open_) nothing-awaits
nothing-held complete (b ∷ held) open_ none = absurd (omega arith)

pub returns : goal.returns
returns c awaits =
    let empty : length c.held.result.now ≡ 0 =
    eqb-true (length c.held.result.now) 0 (sym c.is_empty.ensures ∙ awaits) in
    nothing-held _ _ (sym c.is_complete.ensures ∙ c.if-is_complete.false)
    (ap (λ (l : List ℕ). length l) (sym c.held.ensures) ∙ empty)
