-- Each payload of a file is within its limits.
use Rattle.std.proofs.Common.{◌≡◌, ℕ, List, [], ◌∷◌, All}
use Rattle.std.proofs.lemmas.List.Elements.{All-cons, All-nil}
use Rattle.farm_journal.specs.Gates.{Chain}
use Rattle.farm_journal.specs.Layout.{IsPayload, holds, opens}
use Rattle.farm_journal.proofs.Openings.{holds-opens}

-- each payload of a chain is
chain-fits : (ps : List (List ℕ)) (bytes : List ℕ) → Chain ps bytes → All IsPayload ps
chain-fits [] bytes chain = All-nil IsPayload
chain-fits (p ∷ ps) bytes chain = All-cons IsPayload p ps chain.4.fits (chain-fits ps chain.2 chain.6)

-- so is each payload of what a file opens to
pub opens-fit : (ps : List (List ℕ)) (bytes : List ℕ) → opens bytes ≡ holds ps → All IsPayload ps
opens-fit ps bytes is =
    let held = holds-opens ps bytes is in
    chain-fits ps held.chain.chained held.chain.chain
