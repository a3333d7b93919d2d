use Rattle.std.proofs.Common.{◌∙◌, ℕ, ap, length, min}
use Rattle.kept_farm.proofs.Looked.{page-taken}
use Rattle.kept_farm.proofs.run_page.lines_from.Goals as goal

pub returns : goal.returns
returns g c =
    page-taken c.args.from c.min-first.result c.min.result c.args.items.now
    (c.min-first.ensures ∙ ap (λ (n : ℕ). min n (length c.args.items.now)) c.saturating_sub.ensures) c.min.ensures
