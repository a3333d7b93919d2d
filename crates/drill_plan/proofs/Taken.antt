-- The farm takes each open of the plan.
use Rattle.std.proofs.Common.{◌≡◌, ℕ, zero, suc, ◌+◌, ◌<◌, ◌≤◌, ◌==◌, nat_le, false, List, [], ◌∷◌, ◌++◌, length, get_or, Option, Some, None, Result, Ok, Err, refl, sym, ap, subst, ◌∙◌, arith}
use Rattle.std.specs.List.{cons_option}
use Rattle.std.proofs.lemmas.Bool.Decides.{nat_tests}
use Rattle.std.proofs.lemmas.List.{length-append}
use Rattle.farm_types.proofs.FirstIndex.{position-none}
use Rattle.farm_types.specs.declared.key.Key.{Key}
use Rattle.farm_types.specs.declared.moment.Moment.{Moment}
use Rattle.farm_entry.specs.Ask.{opening_of}
use Rattle.farm_entry.specs.Decision.{decide, last_moment, later, moment_used}
use Rattle.farm_entry.specs.History.{has_key, is_closed, is_closing, is_key, key_in, opening_in, openings, place_of_key}
use Rattle.farm_entry.specs.declared.command.Command.TheVariants.{Open}
use Rattle.farm_entry.specs.declared.command.OpenAsk.{OpenAsk}
use Rattle.farm_entry.specs.declared.decision.Decision.TheVariants.{New}
use Rattle.farm_entry.specs.declared.entry.Entry.{Entry}
use Rattle.farm_entry.specs.declared.entry.What.TheVariants.{Opened}
use Rattle.farm_entry.specs.declared.limits.TheConstants.{MAX_ENTRIES, MAX_SEARCHES}
use Rattle.farm_entry.specs.declared.opening.Opening.{Opening}
use Rattle.farm_entry.specs.declared.refusal.OpenFault.{OpenFault}
use Rattle.drill_plan.specs.Plan.{planned_ask}
use Rattle.drill_plan.specs.Start.{AreOpened, IsOpened, IsStart, drill_founding, drill_moment}
use Rattle.drill_plan.proofs.Openings.{asked-for}

-- the same value is well
abbrev well : Opening → Result Opening OpenFault → Opening
well d (Ok o) = o
well d (Err f) = d

-- What an entry of the plan holds.

opened-key : (n : ℕ) (e : Entry) → IsOpened n e → key_in e.what ≡ Some (record { 0 = n })
opened-key n e h =
    let a = asked-for n n in
    let same : h.0 ≡ a.opening = ap (well h.0) (sym h.1 ∙ a.is) in
    ap (λ (x : Entry). key_in x.what) h.2 ∙ ap (λ (o : Opening). Some o.key) same ∙ ap (λ (k : Key). Some k) a.key

opened-is : (n : ℕ) (e : Entry) (h : IsOpened n e) → opening_in e.what ≡ Some h.0
opened-is n e h = ap (λ (x : Entry). opening_in x.what) h.2

opened-at : (n : ℕ) (e : Entry) → IsOpened n e → e.at ≡ drill_moment
opened-at n e h = ap (λ (x : Entry). x.at) h.2

opened-unclosing : (n : ℕ) (e : Entry) → IsOpened n e → is_closing e.what ≡ false
opened-unclosing n e h = ap (λ (x : Entry). is_closing x.what) h.2

has-not : (n s : ℕ) (e : Entry) → IsOpened n e → n < s → has_key (record { 0 = s }) e ≡ false
has-not n s e h below =
    let other : n == s ≡ false = grind (arith, nat_tests) in
    ap (is_key (record { 0 = s })) (opened-key n e h) ∙ other

-- What entries of the plan hold.

none-has : (from s : ℕ) (es : List Entry) → AreOpened from es → from + length es ≤ s → (k : ℕ) (d : Entry) → k < length es
    → has_key (record { 0 = s }) (get_or es k d) ≡ false
none-has from s [] h few k d within = absurd (omega arith)
none-has from s (e ∷ es) h few zero d within = has-not from s e h.0 (omega arith)
none-has from s (e ∷ es) h few (suc k) d within = none-has (from + 1) s es h.1 (omega arith) k d (omega arith)

each-opens : (from : ℕ) (es : List Entry) → AreOpened from es → length (openings es) ≡ length es
each-opens from [] h = refl
each-opens from (e ∷ es) h =
    ap (λ (o : Option Opening). length (cons_option o (openings es))) (opened-is from e h.0)
    ∙ ap suc (each-opens (from + 1) es h.1)

none-closes : (from : ℕ) (es : List Entry) → AreOpened from es → is_closed es ≡ false
none-closes from [] h = refl
none-closes from (e ∷ es) h = rw (opened-unclosing from e h.0) (none-closes (from + 1) es h.1)

all-then : (m : Moment) (from : ℕ) (es : List Entry) → AreOpened from es → m ≡ drill_moment → last_moment m es ≡ drill_moment
all-then m from [] h is = is
all-then m from (e ∷ es) h is = all-then e.at (from + 1) es h.1 (opened-at from e h.0)

moved : (m n : ℕ) (e : Entry) → m ≡ n → IsOpened m e → IsOpened n e
moved m n e same opened = subst (λ (k : ℕ). IsOpened k e) same opened

one-more : (from : ℕ) (es : List Entry) (e : Entry) → AreOpened from es → IsOpened (from + length es) e
    → AreOpened from (es ++ e ∷ [])
one-more from [] e h opened = (moved (from + 0) from e (omega arith) opened, tt)
one-more from (x ∷ es) e h opened =
    (h.0, one-more (from + 1) es e h.1 (moved (from + suc (length es)) (from + 1 + length es) e (omega arith) opened))

nowhere : (s : ℕ) (es : List Entry) → AreOpened 1 es → 1 + length es ≤ s → (k : ℕ) → k < length (drill_founding ∷ es)
    → has_key (record { 0 = s }) (get_or (drill_founding ∷ es) k drill_founding) ≡ false
nowhere s es opened few zero within = refl
nowhere s es opened few (suc k) within = none-has 1 s es opened few k drill_founding (omega arith)

later-same : (last : Moment) → last ≡ drill_moment → later last drill_moment ≡ drill_moment
later-same last is = ap (λ (m : Moment). later m drill_moment) is

moment-same : (H : List Entry) → last_moment drill_moment H ≡ drill_moment → moment_used H drill_moment ≡ drill_moment
moment-same H is = later-same (last_moment drill_moment H) is

-- The decision on an open whose key is new, while there is room and the farm isn't closed.
decided : (H : List Entry) (ask : OpenAsk) (m : Moment) (shaped o : Opening) → opening_of ask 0 ≡ Ok shaped
    → place_of_key H ask.key ≡ None → nat_le MAX_ENTRIES (length H) ≡ false → is_closed H ≡ false
    → nat_le MAX_SEARCHES (length (openings H)) ≡ false → moment_used H m ≡ m
    → opening_of ask (length (openings H) + 1) ≡ Ok o → decide H (Open ask) m ≡ New (record { at = m; what = Opened o })
decided H ask m shaped o shape key entries unclosed searches at is =
    rw (shape, key, entries, unclosed, searches, at, is) refl

record IsTaken (before : ℕ) (H : List Entry) : Type 0 where
  pub entry : Entry
  pub opened : IsOpened (before + 1) entry
  pub taken : decide H (Open (planned_ask (before + 1))) drill_moment ≡ New entry
  pub start : IsStart (before + 1) (H ++ entry ∷ [])

-- the same where the history is spelled out
taken-at : (before : ℕ) (es : List Entry) → AreOpened 1 es → length es ≡ before → before + 1 ≤ MAX_SEARCHES
    → IsTaken before (drill_founding ∷ es)
taken-at before es opened all few =
    let H : List Entry = drill_founding ∷ es in
    let s : ℕ = before + 1 in
    let a = asked-for s 0 in
    let b = asked-for s s in
    let key : Key = record { 0 = s } in
    let count : length (openings H) ≡ before = each-opens 1 es opened ∙ all in
    let none : place_of_key H key ≡ None = position-none (has_key key) H drill_founding (nowhere s es opened (omega arith)) in
    let entries : nat_le MAX_ENTRIES (length H) ≡ false = grind (arith, nat_tests) in
    let searches : nat_le MAX_SEARCHES (length (openings H)) ≡ false = grind (arith, nat_tests) in
    let at : moment_used H drill_moment ≡ drill_moment = moment-same H (all-then drill_moment 1 es opened refl) in
    let is : opening_of (planned_ask s) (length (openings H) + 1) ≡ Ok b.opening =
    ap (λ (n : ℕ). opening_of (planned_ask s) (n + 1)) count ∙ b.is in
    let entry : Entry = record { at = drill_moment; what = Opened b.opening } in
    let made : IsOpened s entry = (b.opening, b.is, refl) in
    record {
      entry = entry;
      opened = made;
      taken = decided H (planned_ask s) drill_moment a.opening b.opening a.is none entries
          (none-closes 1 es opened) searches at is;
      start = record {
        openings = es ++ entry ∷ [];
        opened = one-more 1 es entry opened (moved s (1 + length es) entry (omega arith) made);
        all = omega (arith, length-append es (entry ∷ []));
        is = refl;
      };
    }

pub taken : (H : List Entry) (before : ℕ) → IsStart before H → before + 1 ≤ MAX_SEARCHES
    → (e : Entry) × IsOpened (before + 1) e × (decide H (Open (planned_ask (before + 1))) drill_moment ≡ New e)
    × IsStart (before + 1) (H ++ e ∷ [])
taken H before start few =
    let t = subst (IsTaken before) (sym start.is) (taken-at before start.openings start.opened start.all few) in
    (t.entry, t.opened, t.taken, t.start)
