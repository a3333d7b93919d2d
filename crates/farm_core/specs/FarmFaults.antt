-- Why a command is not prepared, and why entries are not admitted.
use Rattle.std.specs.Prelude.{◌≡◌, List, [], ◌∷◌, ◌++◌, ⊤}
use Rattle.farm_types.specs.declared.moment.Moment.{Moment}
use Rattle.farm_entry.specs.Decision.{decide}
use Rattle.farm_entry.specs.Legal.{IsLegal}
use Rattle.farm_entry.specs.declared.decision.Decision.TheVariants.{Refuse}
use Rattle.farm_entry.specs.declared.command.Command.{Command}
use Rattle.farm_entry.specs.declared.entry.Entry.{Entry}
use Rattle.farm_core.specs.declared.farm.AdmitFault.{AdmitFault}
use Rattle.farm_core.specs.declared.farm.AdmitFault.TheVariants as admit
use Rattle.farm_core.specs.declared.prepared.CoreFault.{CoreFault}
use Rattle.farm_core.specs.declared.prepared.CoreFault.TheVariants as core

-- a command is refused where it comes to that refusal; memory may run out at any time
abbrev pub IsRefusedBy : List Entry → Command → Moment → CoreFault → Type 0
IsRefusedBy H q m (core.Refused x) = decide H q m ≡ Refuse x
IsRefusedBy H q m core.Memory = ⊤

-- an entry isn't admitted where it makes no legal history; memory may run out at any time
abbrev pub IsUnfit : List Entry → Entry → AdmitFault → Type 0
IsUnfit H e admit.Illegal = ¬ IsLegal (H ++ e ∷ [])
IsUnfit H e admit.Memory = ⊤

-- entries were added to a history up to one that was not admitted
pub record IsHalted (H entries K : List Entry) (fault : AdmitFault) : Type 0 where
  pub before : List Entry
  pub entry : Entry
  pub behind : List Entry
  pub split : entries ≡ before ++ entry ∷ behind
  pub added : K ≡ H ++ before
  pub legal : IsLegal K
  pub unfit : IsUnfit K entry fault
