-- What a drill begins with was added by commands, and reports nothing.
use Rattle.std.proofs.Common.{◌≡◌, ◌<◌, ◌++◌, ◌∷◌, [], ℕ, zero, suc, ◌+◌, false, ◌||◌, Bool, List, length, slice_get, Option, Some, None, refl, sym, ap, subst, ◌∙◌, arith}
use Rattle.std.specs.List.{cons_option}
use Rattle.farm_entry.specs.History.{carried_in, is_closed, is_closing}
use Rattle.farm_entry.specs.Orders.{carried}
use Rattle.farm_entry.specs.declared.entry.Entry.{Entry}
use Rattle.farm_rules.specs.declared.orders.OrderedCommit.{OrderedCommit}
use Rattle.drill_plan.specs.Start.{AreOpened, IsStart, drill_founding}
use Rattle.shared_farm.specs.Rests.{IsByCommands}
use Rattle.farm_drill.specs.Planned.{GoesByPlan, IsPlannedAt, SaysPlan}

opened-unclosed : (from : ℕ) (es : List Entry) → AreOpened from es → is_closed es ≡ false
opened-unclosed from [] opened = refl
opened-unclosed from (e ∷ es) opened =
    ap (λ (b : Bool). b || is_closed es) (ap (λ (x : Entry). is_closing x.what) opened.0.2)
    ∙ opened-unclosed (from + 1) es opened.1

opened-carried : (from : ℕ) (es : List Entry) → AreOpened from es → carried es ≡ []
opened-carried from [] opened = refl
opened-carried from (e ∷ es) opened =
    ap (λ (o : Option OrderedCommit). cons_option o (carried es)) (ap (λ (x : Entry). carried_in x.what) opened.0.2)
    ∙ opened-carried (from + 1) es opened.1

pub start-by_commands : (n : ℕ) (H : List Entry) → IsStart n H → IsByCommands H
start-by_commands n H start = subst IsByCommands (sym start.is) (record {
  unclosed = opened-unclosed 1 start.openings start.opened;
  none_carried = opened-carried 1 start.openings start.opened;
})

-- the entries that open searches, behind any others
opened-planned : (H : List Entry) (from : ℕ) (es : List Entry) (place : ℕ) → AreOpened from es → place < length es
    → (e : Entry) × (slice_get es place ≡ Some e) × SaysPlan H e.what
opened-planned H from [] place opened below = absurd (omega arith)
opened-planned H from (e ∷ es) zero opened below =
    (e, refl, subst (λ (x : Entry). SaysPlan H x.what) (sym opened.0.2) tt)
opened-planned H from (e ∷ es) (suc place) opened below =
    opened-planned H (from + 1) es place opened.1 (omega (arith, below))

start-at : (n : ℕ) (H : List Entry) (openings : List Entry) (place : ℕ) → AreOpened 1 openings
    → place < length (drill_founding ∷ openings)
    → IsPlannedAt (drill_founding ∷ openings) place
start-at n H openings zero opened below = record { entry = drill_founding; there = refl; says = tt }
start-at n H openings (suc place) opened below =
    let found = opened-planned (drill_founding ∷ openings) 1 openings place opened (omega (arith, below)) in
    record { entry = found.0; there = found.1; says = found.2 }

pub start-goes : (n : ℕ) (H : List Entry) → IsStart n H → GoesByPlan H
start-goes n H start =
    subst GoesByPlan (sym start.is) (λ place below. start-at n H start.openings place start.opened below)
