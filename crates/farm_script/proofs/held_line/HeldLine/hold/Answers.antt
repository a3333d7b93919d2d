use Rattle.std.proofs.Common.{◌≡◌, ◌≤◌, ◌+◌, ◌-◌, ap, ◌∙◌, ◌++◌, length, take, min, rules, vec_len, ℕ, List}
use Rattle.farm_script.proofs.Helds.{held-room}
use Rattle.farm_script.specs.Held.{held}
use Rattle.farm_script.proofs.held_line.HeldLine.hold.Goals as goal
use Rattle.farm_wire.specs.declared.limits.TheConstants.{MAX_COMMAND_BYTES}

pub returns-clause-ok : goal.returns-clause-ok
returns-clause-ok c =
    let old = c.self.inside.bytes in
    let more = c.args.bytes.now in
    let limit = MAX_COMMAND_BYTES + 1 in
    let long : vec_len old ≡ length old.items = search rules in
    let short : length old.items ≤ limit = search rules in
    let count : c.min-count.result ≡ min (limit - length old.items) (length more) =
    c.min-count.ensures ∙ ap (λ n. min (limit - n) (length more)) (c.len.ensures ∙ long) in
    c.in_ok-extend_from_slice.ensures.items
    ∙ ap (λ n. old.items ++ take n more) count
    ∙ held-room old.items more short
    ∙ ap (λ (line : List ℕ). held (line ++ more)) c.self.view_is
