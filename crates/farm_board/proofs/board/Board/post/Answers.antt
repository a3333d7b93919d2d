use Rattle.std.proofs.Common.{arith, ap, subst, sym, true, ◌∙◌, ◌≡◌, ◌+◌, Bool, List}
use Rattle.farm_entry.specs.declared.entry.Entry.{Entry}
use Rattle.common_types.specs.Prefix.{IsPrefix}
use Rattle.farm_board.specs.Reader.{Reader}
use Rattle.farm_board.specs.Views.{IsStill}
use Rattle.farm_board.proofs.Stills.{IsStill-poster, longer_by_totals}
use Rattle.farm_board.proofs.board.Board.post.Goals as goal

pub invariant_of-pass : goal.invariant_of-pass
invariant_of-pass c =
    let history = c.args.history.now in
    let pass = c.pass.inside in
    let seen = pass.seat.me.0.seen in
    let old = c.pass.invariant in
    let begins : IsPrefix seen history =
    subst (λ (l : List Entry). IsPrefix l history)
    (sym (ap (λ (r : Reader). r.seen) c.pass.view_is)) c.requires.longer in
    let longer =
    longer_by_totals seen history pass.last c.args.totals old.totals_are c.requires.totals c.if-totals-pass.true
    begins in
    let posts : true ≡ pass.posts = sym (ap (λ (r : Reader). r.posts) c.pass.view_is ∙ c.requires.posts) in
    subst (λ (b : Bool). IsStill b c.write.new.seat.me c.args.totals) posts
    (IsStill-poster c.write.new.seat.me
    (pass.seat.me.0.version + 2) history c.args.totals c.write.ensures.me c.requires.legal
    c.requires.totals (omega (arith, old.few, longer)))
