-- The decision on a command whose key stands at a place.
use Rattle.std.proofs.Common.{◌≡◌, ℕ, Bool, List, slice_get, if◌then◌else◌, Option, Some, sym, ap, ◌∙◌}
use Rattle.farm_entry.specs.Decision.{asked_before, asks_for, repeat_or_clash}
use Rattle.farm_entry.specs.declared.decision.Decision.TheVariants.{Refuse, Repeat}
use Rattle.farm_entry.specs.declared.command.Command.{Command}
use Rattle.farm_entry.specs.declared.entry.Entry.{Entry}
use Rattle.farm_entry.specs.declared.refusal.Refusal.TheVariants.{KeyClash}

pub repeats_or_clashes : (H : List Entry) (q : Command) (place : ℕ) (e : Entry) (same b : Bool) → slice_get H place ≡ Some e →
    same ≡ asks_for e.what q → same ≡ b → repeat_or_clash H q place ≡ (if b then Repeat place else Refuse (KeyClash place))
repeats_or_clashes H q place e same b there asks is =
    ap (λ (o : Option Entry). if asked_before o q then Repeat place else Refuse (KeyClash place)) there
    ∙ ap (λ (t : Bool). if t then Repeat place else Refuse (KeyClash place)) (sym asks ∙ is)
