use Rattle.std.proofs.Common.{◌≡◌, Bool, Decides, subst, sym}
use Rattle.farm_laws.proofs.SameEntries.{same_entry-Decides}
use Rattle.journal_follow.proofs.comparing.is_same.Goals as goal

pub returns : goal.returns
returns c =
    let one = c.args.one.now in
    let other = c.args.other.now in
    subst (λ (b : Bool). Decides b (one ≡ other)) (sym c.eq.ensures) (same_entry-Decides one other)
