-- Several callers whose asks are answered one after the other, and whose new entries share a record.
use Rattle.std.proofs.Common.{◌≡◌, ℕ, ◌+◌, ◌<◌, List, [], ◌∷◌, ◌++◌, length, map, take, get_or, set, refl, sym, ◌∙◌, ap, subst, arith}
use Rattle.std.proofs.Math.Seq.{map-set_same}
use Rattle.std.proofs.lemmas.Grind.{flat_map-append}
use Rattle.std.proofs.lemmas.List.{append-nil, append_assoc, get_or-map, length-map, take_more, take_more_set}
use Rattle.farm_entry.specs.Decision.{decide}
use Rattle.farm_entry.specs.Playing.{after}
use Rattle.farm_entry.specs.declared.entry.Entry.{Entry}
use Rattle.farm_store.specs.Answering.{AreAnswers, history_after}
use Rattle.farm_store.specs.Together.{AreGiven, IsPartGiven, all_asks}
use Rattle.farm_store.specs.declared.asking.Ask.{Ask}
use Rattle.farm_store.specs.declared.asking.Part.{Part}
use Rattle.farm_store.proofs.Calls.{history_after-grows}

-- asks that follow others are decided at the history that these leave
pub history_after-append : (H : List Entry) (xs ys : List Ask)
    → history_after H (xs ++ ys) ≡ history_after (history_after H xs) ys
history_after-append H [] ys = refl
history_after-append H (x ∷ xs) ys = history_after-append (after H (decide H x.command x.at)) xs ys

-- the asks of one caller more
pub all_asks-push : (parts : List Part) (p : Part) → all_asks (parts ++ p ∷ []) ≡ all_asks parts ++ p.asks.items
all_asks-push parts p =
    flat_map-append (λ (x : Part). x.asks.items) parts (p ∷ [])
    ∙ ap (λ (l : List Ask). all_asks parts ++ l) (append-nil p.asks.items)

-- the asks up to a caller's own
pub all_asks-take_more : (parts : List Part) (k : ℕ) (d : Part) → k < length parts
    → all_asks (take (k + 1) parts) ≡ all_asks (take k parts) ++ (get_or parts k d).asks.items
all_asks-take_more parts k d within =
    ap all_asks (take_more parts k d within) ∙ all_asks-push (take k parts) (get_or parts k d)

-- the history that a caller leaves is decided at the one that the callers before it leave
pub history_after-take_more : (H : List Entry) (parts : List Part) (k : ℕ) (d : Part) → k < length parts
    → history_after H (all_asks (take (k + 1) parts))
    ≡ history_after (history_after H (all_asks (take k parts))) (get_or parts k d).asks.items
history_after-take_more H parts k d within =
    ap (λ (l : List Ask). history_after H l) (all_asks-take_more parts k d within)
    ∙ history_after-append H (all_asks (take k parts)) (get_or parts k d).asks.items

-- one caller more was answered
AreGiven-push : (H K : List Entry) (parts given : List Part) (p q : Part) → K ≡ history_after H (all_asks parts)
    → AreGiven H parts given → IsPartGiven K p q → AreGiven H (parts ++ p ∷ []) (given ++ q ∷ [])
AreGiven-push H K [] [] p q is before now = (subst (λ (l : List Entry). IsPartGiven l p q) is now, tt)
AreGiven-push H K [] (b ∷ given) p q is before now = absurd before
AreGiven-push H K (a ∷ parts) [] p q is before now = absurd before
AreGiven-push H K (a ∷ parts) (b ∷ given) p q is before now = (
  before.0,
  AreGiven-push (history_after H a.asks.items) K parts given p q
      (is ∙ history_after-append H a.asks.items (all_asks parts)) before.1 now,
)

-- the first callers were answered, and all keep their asks
pub record AreFirstGiven (H : List Entry) (parts : List Part) (n : ℕ) (given : List Part) (now : List Entry)
    : Type 0 where
  pub answers : AreGiven H (take n parts) (take n given)
  pub asks : map (λ (x : Part). x.asks) given ≡ map (λ (x : Part). x.asks) parts
  pub history : now ≡ history_after H (all_asks (take n parts))

-- a caller whose asks were not all answered keeps them, too
pub first_given-asks : (H : List Entry) (parts : List Part) (n : ℕ) (given : List Part) (now : List Entry) (q d : Part)
    → AreFirstGiven H parts n given now → q.asks ≡ (get_or given n d).asks
    → map (λ (x : Part). x.asks) (set given n q) ≡ map (λ (x : Part). x.asks) parts
first_given-asks H parts n given now q d first same =
    map-set_same (λ (x : Part). x.asks) given n q d same ∙ first.asks

-- one caller more was answered
pub first_given-more : (H : List Entry) (parts : List Part) (n : ℕ) (given : List Part) (now next : List Entry)
    (q d : Part) → AreFirstGiven H parts n given now → n < length given → q.asks ≡ (get_or given n d).asks
    → IsPartGiven now (get_or given n d) q → next ≡ history_after now (get_or given n d).asks.items
    → AreFirstGiven H parts (n + 1) (set given n q) next
first_given-more H parts n given now next q d before within same one then =
    let long : length given ≡ length parts =
    sym (length-map given (λ (x : Part). x.asks)) ∙ ap length before.asks
    ∙ length-map parts (λ (x : Part). x.asks) in
    let below : n < length parts = omega (arith, within, long) in
    let p = get_or given n d in
    let o = get_or parts n d in
    let own : p.asks ≡ o.asks =
    sym (get_or-map (λ (x : Part). x.asks) given n d p.asks within)
    ∙ ap (λ l. get_or l n p.asks) before.asks
    ∙ get_or-map (λ (x : Part). x.asks) parts n d p.asks below in
    let whole : IsPartGiven now o q = record {
      asks = same ∙ own;
      answers = subst (λ v. AreAnswers now v.items q.answers) own one.answers;
      end = one.end ∙ ap (λ v. length (history_after now v.items)) own;
    } in
    record {
      answers = subst (λ (l : List Part). AreGiven H l (take (n + 1) (set given n q))) (sym (take_more parts n d below))
          (subst (λ (l : List Part). AreGiven H (take n parts ++ o ∷ []) l) (sym (take_more_set given n q within))
          (AreGiven-push H now (take n parts) (take n given) o q before.history before.answers whole));
      asks = first_given-asks H parts n given now q d before same;
      history = then
          ∙ ap (λ v. history_after now v.items) own
          ∙ ap (λ (l : List Entry). history_after l o.asks.items) before.history
          ∙ sym (history_after-take_more H parts n d below);
    }

-- what was added
pub first_given-adds : (H : List Entry) (parts : List Part) (n : ℕ) (given : List Part) (now next : List Entry)
    → AreFirstGiven H parts n given now → (more : List Entry) × (next ≡ now ++ more)
    → (more : List Entry) × (next ≡ H ++ more)
first_given-adds H parts n given now next first adds =
    let grows = history_after-grows H (all_asks (take n parts)) in (
      grows.more ++ adds.0,
      adds.1 ∙ ap (λ (l : List Entry). l ++ adds.0) (first.history ∙ grows.longer)
          ∙ append_assoc H grows.more adds.0,
    )
