use Rattle.std.proofs.Common.{Bool, ◌&&◌, length, nat_lt, true, ◌≡◌, sym, ap, ◌∙◌, arith}
use Rattle.std.proofs.lemmas.Bool.{lt-ltb}
use Rattle.std.specs.Str.{all_ascii_digits}
use Rattle.common_types.proofs.Values.{list_all-digits}
use Rattle.common_types.proofs.decimals.are_digits.Goals as goal

pub returns-then-text-gt0 : goal.returns-then-text-gt0
returns-then-text-gt0 c =
    let text = c.args.text.now in
    let some : nat_lt 0 (length text) ≡ true = lt-ltb 0 (length text) (omega arith) in
    c.all_digits.ensures ∙ list_all-digits text ∙ ap (λ (v : Bool). v && all_ascii_digits text) (sym some)
