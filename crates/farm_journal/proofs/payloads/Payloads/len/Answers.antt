use Rattle.std.proofs.Common.{rules, ◌≡◌, ◌∙◌, ℕ, List, length, sym, ap}
use Rattle.std.specs.Vec.{vec_len}
use Rattle.farm_journal.proofs.Parts.{parts-length}
use Rattle.farm_journal.proofs.payloads.Payloads.len.Goals as goal

pub returns : goal.returns
returns c =
    let inside = c.self.inside in
    let long : vec_len inside.ends ≡ length inside.ends.items = search rules in
    let own : c.len.result ≡ length inside.ends.items = search rules in
    own ∙ sym (parts-length 0 inside.ends.items inside.bytes.items)
    ∙ ap (λ (l : List (List ℕ)). length l) c.self.view_is
