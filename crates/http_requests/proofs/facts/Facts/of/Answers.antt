use Rattle.std.proofs.Common.{◌≡◌, ◌-◌, length, take, drop, sym, ap, subst, ◌∙◌, rules, arith, length-drop}
use Rattle.std.proofs.lemmas.List.{take_all}
use Rattle.std.specs.List.{All}
use Rattle.httparse.specs.Spans.{IsHeaderWithin}
use Rattle.http_requests.specs.FieldTexts.{field_texts}
use Rattle.http_requests.specs.Facts.{facts_of, joined}
use Rattle.http_requests.specs.declared.facts.Facts.{Facts}
use Rattle.http_requests.proofs.Joins.{all-gathered, facts-within, none-joined, on-first, rest-within}
use Rattle.http_requests.proofs.facts.Facts.of.Goals as goal

pub loop-spans-init : goal.loop-spans-init
loop-spans-init c =
    let all = facts_of (field_texts c.args.fields.now) in
    record {
      facts = ap (λ (f : Facts). joined f all) c.none-facts.ensures ∙ none-joined all;
      within = search rules;
    }

pub loop-spans-preserved : goal.loop-spans-preserved
loop-spans-preserved c =
    let bytes = c.args.fields.now.bytes.now in
    let spans = c.loop-spans.spans.now in
    let some = c.in-len1-up.len_at_least in
    let behind : take (length spans - 1) (drop 1 spans) ≡ drop 1 spans = take_all (length spans - 1) (drop 1 spans) (omega (arith, length-drop 1 spans, some)) in
    record {
      facts = on-first bytes c.loop-spans.facts _ spans _ _
          (field_texts c.args.fields.now) some c.read.ensures behind c.loop-spans.invariant.facts;
      within = subst (All (IsHeaderWithin (length bytes))) (sym behind) (rest-within (length bytes) spans some c.loop-spans.invariant.within);
    }

pub returns-clause-exact : goal.returns-clause-exact
returns-clause-exact c =
    all-gathered c.args.fields.now.bytes.now c.loop-spans.facts c.loop-spans.spans.now (field_texts c.args.fields.now)
    c.in_default.len_below c.loop-spans.invariant.facts

pub returns-clause-bounded : goal.returns-clause-bounded
returns-clause-bounded c =
    let all = field_texts c.args.fields.now in
    let exact = all-gathered c.args.fields.now.bytes.now c.loop-spans.facts c.loop-spans.spans.now all c.in_default.len_below c.loop-spans.invariant.facts in
    facts-within c.loop-spans.facts all exact
