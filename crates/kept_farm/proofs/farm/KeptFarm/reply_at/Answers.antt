use Rattle.std.proofs.Common.{◌≡◌, ℕ, ◌+◌, ◌<◌, List, length, take, slice_get, Option, Some, refl, sym, ap, subst, ◌∙◌, arith}
use Rattle.std.specs.Prelude.{IfOk}
use Rattle.std.proofs.lemmas.Option.{slice_get_read}
use Rattle.farm_entry.specs.History.{opening_in}
use Rattle.farm_entry.specs.declared.entry.Entry.{Entry}
use Rattle.farm_entry.specs.declared.reply.Reply.{Reply}
use Rattle.farm_entry.specs.declared.standing.Standing.{Standing}
use Rattle.kept_farm.specs.Changes.{last_standing}
use Rattle.kept_farm.specs.Replying.{reply_with}
use Rattle.kept_farm.specs.Rows.{row_of}
use Rattle.kept_farm.specs.declared.row.Row.{Row}
use Rattle.kept_farm.proofs.Keeping.{beside-at}
use Rattle.kept_farm.proofs.Replied.{opened-fits, replied}
use Rattle.kept_farm.proofs.farm.KeptFarm.reply_at.Goals as goal

pub reply_with-requires : goal.reply_with-requires
reply_with-requires c =
    let H : List Entry = c.args.self.now in
    let L : List Entry = c.history-history.result.now in
    let k : ℕ = c.args.place in
    let e : Entry = c.index-history-place.result in
    let below : k < length L = omega (arith, c.if-place-history.false) in
    let read : slice_get L k ≡ Some e = slice_get_read L (length L) k e refl below c.index-history-place.is in
    let there : slice_get H k ≡ Some e =
    subst (λ (X : List Entry). slice_get X k ≡ Some e) c.history-history.ensures.history read in
    λ o opens. opened-fits H k e o c.history-history.ensures.legal there
    (ap (λ (x : Entry). opening_in x.what) c.index-history-place.is ∙ opens)

pub returns : goal.returns
returns c =
    let H : List Entry = c.args.self.now in
    let I : List Entry = c.self.inside.ledger in
    let L : List Entry = c.history-history.result.now in
    let k : ℕ = c.args.place in
    let e : Entry = c.index-history-place.result in
    let below : k < length L = omega (arith, c.if-place-history.false) in
    let read : slice_get L k ≡ Some e = slice_get_read L (length L) k e refl below c.index-history-place.is in
    let there : slice_get H k ≡ Some e =
    subst (λ (X : List Entry). slice_get X k ≡ Some e) c.history-history.ensures.history read in
    let inside : k < length I =
    subst (λ (X : List Entry). k < length X) (c.history-history.ensures.history ∙ sym c.self.view_is) below in
    let stood : c.index.result.now.standing ≡ last_standing (take (k + 1) H) =
    ap (λ (r : Row). r.standing)
    (c.index.ensures
    ∙ beside-at row_of I c.self.inside.rows.items k c.index.result.now c.self.invariant.rows inside)
    ∙ ap (λ (X : List Entry). last_standing (take (k + 1) X)) c.self.view_is in
    subst (λ (r : Option Reply). IfOk c.reply_with.result (λ reply. reply ≡ r))
    (ap (λ (x : Entry). reply_with H c.index.result.now.standing x.what) (sym c.index-history-place.is)
    ∙ ap (λ (s : Standing). reply_with H s e.what) stood
    ∙ replied H k e c.history-history.ensures.legal there)
    c.reply_with.ensures
