use Rattle.std.proofs.Common.{◌≡◌, ℕ, ◌+◌, false, List, take, drop, drop-drop, ap, subst, ◌∙◌, arith}
use Rattle.farm_journal.specs.Layout.{is_whole, told_length}
use Rattle.farm_journal.proofs.Scan.{all_behind}
use Rattle.audit_check.specs.Held.{IsPayloadOf}
use Rattle.audit_check.proofs.Records.{telling-more, telling-none, telling-past, telling-shut, telling-torn}
use Rattle.audit_check.proofs.gates.tell_records.Goals as goal

pub loop-gate-init : goal.loop-gate-init
loop-gate-init c = rw c.new-entries.ensures.items (telling-none c.args.bytes.now c.requires)

pub returns-then-bytes-gate-eq0 : goal.returns-then-bytes-gate-eq0
returns-then-bytes-gate-eq0 c =
    let l = c.loop-gate in
    c.told_before.ensures
    ∙ telling-shut c.args.bytes.now l.gate l.unread l.entries.items l.invariant c.loop-gate-test.true
    c.if-bytes-gate-eq0.true

pub returns-in_default : goal.returns-in_default
returns-in_default c =
    let l = c.loop-gate in
    let bytes = c.args.bytes.now in
    telling-torn bytes l.gate l.unread l.entries.items l.invariant c.loop-gate-test.true c.if-bytes-gate-eq0.false
    (subst (λ (b : List ℕ). is_whole b ≡ false) (all_behind bytes (l.gate + 1)) c.in_default.ensures.none)

pub loop-gate-preserved : goal.loop-gate-preserved
loop-gate-preserved c =
    let l = c.loop-gate in
    let bytes = c.args.bytes.now in
    let whole =
    subst (λ (b : List ℕ). IsPayloadOf b c.in-Some.payload.now) (all_behind bytes (l.gate + 1)) c.in-Some.ensures.some in
    let n = told_length (drop (l.gate + 1) bytes) in
    let front : drop 4 (drop (l.gate + 1) bytes) ≡ drop (l.gate + 5) bytes =
    drop-drop 4 (l.gate + 1) bytes ∙ ap (λ (k : ℕ). drop k bytes) (omega arith) in
    telling-more bytes c.in-Some.payload.now l.gate l.entries.items c.read_on.new.entries.items l.unread
    c.in_ok-unread.unread l.invariant c.loop-gate-test.true c.if-bytes-gate-eq0.false whole
    (whole.is ∙ ap (take n) front) c.in_ok-unread.ensures

pub returns : goal.returns
returns c =
    let l = c.loop-gate in
    telling-past c.args.bytes.now l.gate l.unread l.entries.items l.invariant c.loop-gate-test.false
