use Rattle.std.proofs.Common.{◌≡◌, List, ℕ, ◌+◌, ◌<◌, length, take, sym, ap, subst, ◌∙◌, arith}
use Rattle.std.proofs.lemmas.List.{take_at}
use Rattle.farm_entry.specs.declared.entry.Entry.{Entry}
use Rattle.entry_codec.specs.Grammar.{AreSpelled}
use Rattle.entry_codec.specs.LogPage.{front_within}
use Rattle.entry_codec.specs.Spelling.{entry_bytes, spelling}
use Rattle.entry_codec.proofs.ListLaws.{spells_one, writes_one}
use Rattle.entry_codec.proofs.LogPages.{first-fits, front-end, front-next, none-end}
use Rattle.entry_codec.proofs.page.write_front.Goals as goal

-- the spelling with the next entry
longer_is : (c : goal.After-truncate) → c.put_entry.new.out.items ≡ spelling (take (c.loop-entry.entry-index + 1) c.args.entries.now)
longer_is c =
    c.in_ok-put_entry.ensures.bytes
    ∙ writes_one c.args.entries.now c.loop-entry.entry-index c.loop-entry.out.items c.entry-item.result c.loop-entry-test.true
    c.entry-item.is c.loop-entry.invariant.spelled

-- what is left where the last entry is taken back
back_again : (c : goal.After-truncate) → c.truncate.new.self.items ≡ c.loop-entry.out.items
back_again c =
    let out = c.loop-entry.out.items in
    c.truncate.ensures.items
    ∙ ap (λ (l : List ℕ). take c.len-before.result l) c.in_ok-put_entry.ensures.bytes
    ∙ take_at out (entry_bytes c.entry-item.result) c.len-before.result (omega (arith, c.len-before.ensures))

past : (c : goal.After-truncate) → c.args.most < length c.put_entry.new.out.items
past c = omega (arith, c.len.ensures, c.if-len-most.true)

front_is : (c : goal.After-truncate) → front_within c.args.most c.args.entries.now ≡ take c.loop-entry.entry-index c.args.entries.now
front_is c =
    let so_far = c.loop-entry.invariant in
    front-next c.args.most c.args.entries.now c.loop-entry.entry-index c.loop-entry.out.items so_far.spelled so_far.fits
    c.put_entry.new.out.items (longer_is c) (past c)

pub loop-entry-preserved : goal.loop-entry-preserved
loop-entry-preserved c =
    record {
      spelled = c.in_ok-put_entry.ensures.bytes
          ∙ writes_one c.args.entries.now c.loop-entry.entry-index c.loop-entry.out.items c.entry-item.result
          c.loop-entry-test.true c.entry-item.is c.loop-entry.invariant.spelled;
      readable = spells_one c.args.entries.now c.loop-entry.entry-index c.loop-entry.out.items c.entry-item.result
          c.loop-entry-test.true c.entry-item.is c.loop-entry.invariant.readable c.in_ok-put_entry.ensures.spelled;
      fits = omega (arith, c.len.ensures, c.if-len-most.false);
    }

pub returns-then-len-most-clause-spelled : goal.returns-then-len-most-clause-spelled
returns-then-len-most-clause-spelled c =
    back_again c ∙ c.loop-entry.invariant.spelled ∙ ap spelling (sym (front_is c))

pub returns-then-len-most-clause-readable : goal.returns-then-len-most-clause-readable
returns-then-len-most-clause-readable c =
    subst (λ (es : List Entry). AreSpelled es) (sym (front_is c)) c.loop-entry.invariant.readable

pub returns-then-len-most-clause-some : goal.returns-then-len-most-clause-some
returns-then-len-most-clause-some c none =
    absurd (first-fits c.args.most c.entry-item.result c.loop-entry.out.items c.in_ok-put_entry.ensures.spelled
    c.requires.room
    (subst (λ (l : List ℕ). c.args.most < length l) c.in_ok-put_entry.ensures.bytes (past c))
    (sym (back_again c) ∙ none))

pub returns-clause-spelled : goal.returns-clause-spelled
returns-clause-spelled c =
    let so_far = c.loop-entry.invariant in
    so_far.spelled
    ∙ ap spelling (sym (front-end c.args.most c.args.entries.now c.loop-entry.entry-index c.loop-entry.out.items
    so_far.spelled so_far.fits c.loop-entry-test.false))

pub returns-clause-readable : goal.returns-clause-readable
returns-clause-readable c =
    let so_far = c.loop-entry.invariant in
    subst (λ (es : List Entry). AreSpelled es)
    (sym (front-end c.args.most c.args.entries.now c.loop-entry.entry-index c.loop-entry.out.items
    so_far.spelled so_far.fits c.loop-entry-test.false)) so_far.readable

pub returns-clause-some : goal.returns-clause-some
returns-clause-some c =
    let so_far = c.loop-entry.invariant in
    none-end c.args.most c.args.entries.now c.loop-entry.entry-index c.loop-entry.out.items so_far.spelled so_far.fits
    c.loop-entry-test.false
