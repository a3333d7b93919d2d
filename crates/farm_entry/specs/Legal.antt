-- The histories that a farm can have.
use Rattle.std.specs.Prelude.{◌≡◌, List, [], ◌∷◌, ◌++◌, Option, Some, None, IsTrue, ⊤}
use Rattle.flake_rate.specs.Bar.{bar_denominator, bar_numerator}
use Rattle.flake_rate.specs.Miss.{miss_denominator, miss_numerator}
use Rattle.flake_rate.specs.Rate.{rate_denominator, rate_numerator}
use Rattle.farm_types.specs.declared.moment.Moment.{Moment}
use Rattle.farm_entry.specs.Closing.{may_carry, may_close}
use Rattle.farm_entry.specs.Decision.{decide}
use Rattle.farm_entry.specs.declared.decision.Decision.TheVariants.{New}
use Rattle.farm_entry.specs.declared.command.Command.{Command}
use Rattle.farm_entry.specs.declared.command.Command.TheVariants.{Open, Lease, Report, Skip, Cancel, TakeRevert}
use Rattle.farm_entry.specs.declared.command.OpenAsk.{OpenAsk}
use Rattle.farm_entry.specs.declared.entry.Entry.{Entry}
use Rattle.farm_entry.specs.declared.entry.What.{What}
use Rattle.farm_entry.specs.declared.entry.What.TheVariants.{Founded, Opened, Leased, Reported, Skipped, Cancelled, Ordered, Carried, Closed}
use Rattle.farm_entry.specs.declared.opening.Opening.{Opening}

-- the open that an opening names
abbrev pub ask_of : Opening → OpenAsk
ask_of o = record {
  key = o.key;
  test = o.test;
  base = o.range.base;
  suspects = o.range.suspects;
  calm = o.range.calm;
  rate = (rate_numerator o.rate, rate_denominator o.rate);
  miss = (miss_numerator o.miss, miss_denominator o.miss);
  bar = (bar_numerator o.bar, bar_denominator o.bar);
  width = o.width;
  reruns = o.reruns;
}

-- the command that an entry names, by its kind, key and contents. A founding, a carried order and a closing name none
abbrev pub command_of : What → Option Command
command_of (Founded settings) = None
command_of (Opened o) = Some (Open (ask_of o))
command_of (Leased key worker run search stage position deadline) = Some (Lease key worker)
command_of (Reported run verdict _) = Some (Report run verdict)
command_of (Skipped run _) = Some (Skip run)
command_of (Cancelled key search) = Some (Cancel key search)
command_of (Ordered key agent order commit search day) = Some (TakeRevert key agent)
command_of (Carried commit day) = None
command_of Closed = None

-- an entry that no command adds may come next, at this moment: a carried order, or a closing
abbrev pub IsUnasked : List Entry → Moment → What → Type 0
IsUnasked H m (Carried commit day) = IsTrue (may_carry H m commit day)
IsUnasked H m Closed = IsTrue (may_close H m)
IsUnasked H m _ = ⊥

-- an entry is the one that a command adds to a history at the entry's moment, or one that needs no command
abbrev pub IsAddedBy : List Entry → Entry → Option Command → Type 0
IsAddedBy H e None = IsUnasked H e.at e.what
IsAddedBy H e (Some q) = decide H q e.at ≡ New e

-- an entry may come next: it is what the command that it names adds, or no command adds its kind and it may stand there
abbrev pub IsNext : List Entry → Entry → Type 0
IsNext H e = IsAddedBy H e (command_of e.what)

-- a list of entries may come next, one after the other
abbrev pub AreNext : List Entry → List Entry → Type 0
AreNext H [] = ⊤
AreNext H (e ∷ more) = IsNext H e × AreNext (H ++ e ∷ []) more

-- an entry is a founding
abbrev pub IsFounding : What → Type 0
IsFounding (Founded settings) = ⊤
IsFounding _ = ⊥

-- a history is legal: it begins with a founding, and each further entry may come next
abbrev pub IsLegal : List Entry → Type 0
IsLegal [] = ⊥
IsLegal (e ∷ more) = IsFounding e.what × AreNext (e ∷ []) more
