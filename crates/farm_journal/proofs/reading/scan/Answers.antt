-- What each end of the scan finds, by the lemmas of `Scan`.
use Rattle.std.proofs.Common.{◌≡◌, ◌+◌, ◌-◌, ℕ, true, false, List, [], ◌∷◌, ◌++◌, take, drop, refl, sym, ◌∙◌, ap, subst, arith}
use Rattle.farm_journal.specs.Layout.{is_whole, told_length}
use Rattle.farm_journal.specs.declared.layout.TheConstants.{FIRST_GATE}
use Rattle.farm_journal.proofs.Scan.{SoFar, all_behind, sofar-start, sofar-more, sofar-shut, sofar-torn, sofar-past}
use Rattle.farm_journal.proofs.reading.scan.Goals as goal

pub gates-init : goal.gates-init
gates-init c =
    let none = sofar-start c.args.bytes.now c.requires in
    let told = subst (λ (l : List (List ℕ)). SoFar c.args.bytes.now FIRST_GATE [] l) (sym c.new-past.ensures) none in
    subst (λ (l : List (List ℕ)). SoFar c.args.bytes.now FIRST_GATE l c.new-past.result)
    (sym c.none-payloads.ensures) told

pub returns-then-bytes-at-eq0 : goal.returns-then-bytes-at-eq0
returns-then-bytes-at-eq0 c = (
  c.gates.payloads,
  sofar-shut c.args.bytes.now c.gates.at c.gates.payloads c.gates.past c.gates.invariant c.gates-test.true
      c.if-bytes-at-eq0.true,
  record { payloads = refl; told = c.gates.invariant.in_turn; gate = c.gates.invariant.gate },
)

pub returns-in_default : goal.returns-in_default
returns-in_default c =
    sofar-torn c.args.bytes.now c.gates.at c.gates.payloads c.gates.past c.gates.invariant c.gates-test.true
    c.if-bytes-at-eq0.false
    (subst (λ (l : List ℕ). is_whole l ≡ false) (all_behind c.args.bytes.now (c.gates.at + 1)) c.in_default.ensures)

pub gates-preserved : goal.gates-preserved
gates-preserved c =
    let n : c.gates.at + 5 + c.in-Some.length - (c.gates.at + 5) ≡ c.in-Some.length = omega arith in
    let all = all_behind c.args.bytes.now (c.gates.at + 1) in
    let payload : c.set.new.self ≡ take c.in-Some.length (drop (c.gates.at + 5) c.args.bytes.now) =
    c.in_ok-set.ensures ∙ ap (λ (k : ℕ). take k (drop (c.gates.at + 5) c.args.bytes.now)) n in
    sofar-more c.args.bytes.now c.set.new.self c.gates.at c.in-Some.length c.gates.payloads c.gates.past
    c.push.new.self c.tell.new.self
    c.gates.invariant c.gates-test.true c.if-bytes-at-eq0.false
    (subst (λ (l : List ℕ). is_whole l ≡ true) all c.in-Some.ensures.0)
    (subst (λ (l : List ℕ). c.in-Some.length ≡ told_length l) all c.in-Some.ensures.1) payload
    (c.in_ok-push.ensures ∙ ap (λ (p : List ℕ). c.gates.payloads ++ p ∷ []) (sym c.in_ok-set.ensures)) c.tell.ensures

pub returns : goal.returns
returns c = sofar-past c.args.bytes.now c.gates.at c.gates.payloads c.gates.past c.gates.invariant
    c.gates-test.false
