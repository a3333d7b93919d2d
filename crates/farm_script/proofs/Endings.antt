-- How a run ends that a fault stopped.
use Rattle.std.proofs.Common.{◌≡◌, ◌<◌, ◌≤◌, ℕ, Bool, true, false, List, [], Option, Some, refl, sym, ap, ◌∙◌, ◌-◌, ◌^◌}
use Rattle.std.proofs.Common.{subst, inl, inr, ⊎_elim, arith}
use Rattle.std.proofs.Math.Nat.{eq-or-lt_of_le}
use Rattle.std.proofs.lemmas.Bool.{false≢true}
use Rattle.std.specs.Prelude.{Err, ◌↔◌}
use Rattle.std.specs.Io.KnownBytes.{prepend_known}
use Rattle.std.specs.Option.{ForSome}
use Rattle.common_types.specs.Counts.{Rose}
use Rattle.link_io.specs.Streams.{Streams}
use Rattle.farm_script.specs.Lines.{as_line, counted_lines}
use Rattle.farm_script.specs.Script.{Answered, IsByHeld, Rule}
use Rattle.farm_script.specs.LineFaults.{HasCause}
use Rattle.farm_script.specs.RunEnds.{Seen, Stopped, StoppedByStore, RunEnds}
use Rattle.farm_script.specs.declared.run_end.RunEnd.{RunEnd}
use Rattle.farm_script.proofs.Answering.{stops-before}
use Rattle.farm_script.proofs.SomeLines.{some-from_stops}
use Rattle.farm_script.specs.declared.run_end.RunEnd.TheVariants.{Done, ReadFault, WriteFault, StoreFault, Memory}
use Rattle.farm_script.specs.declared.run_end.RunEnd.TheVariants.{InputLimit}
use Rattle.farm_script.proofs.SoFar.{FailedAt, SoFar, StoppedAt, prepend_known-nil, so_far-end}
use Rattle.link_io.specs.declared.source.TheConstants.{INPUT_LIMIT}

-- a count that rose later rose
rose-later : (first before now : ℕ) → first ≤ before → Rose before now → Rose first now
rose-later first before now low (inl rose) = inl (omega arith)
rose-later first before now low (inr stands) = ⊎_elim
    (λ same. inr (omega arith, stands.1))
    (λ below. inl (omega arith))
    (eq-or-lt_of_le low)

-- an input that gave nothing has ended
pub ended-from : (piece : List ℕ) (before after : Option (List ℕ)) → piece ≡ [] → before ≡ prepend_known piece after
    → ForSome before (λ had. (piece ≡ []) ↔ (had ≡ [])) → ForSome after (λ rest. rest ≡ [])
ended-from piece before after none taken ends rest is =
    let same : before ≡ Some rest =
    taken ∙ ap (λ (p : List ℕ). prepend_known p after) none ∙ ap (λ (o : Option (List ℕ)). prepend_known [] o) is in
    (ends rest same).0 none

-- where answering stopped is where the run stopped
stopped-at : {E : Type 0} (rule : Rule E) (before after : Seen E) (at_end : Bool) (count : ℕ)
    → StoppedAt rule before.streams.left before.history before.streams.written after.streams.left after.history
    after.streams.written (counted_lines at_end) count
    → count ≤ INPUT_LIMIT → (at_end ≡ true → ForSome after.streams.left (λ rest. rest ≡ [])) → Stopped rule before after
stopped-at rule before after at_end count s few ended = (
  s.bytes,
  at_end,
  record { bytes = s.taken; few = subst (λ n. n ≤ INPUT_LIMIT) (sym s.size) few; ended = ended },
  some-from_stops s.stops,
)

-- where the store failed is where it stopped the run
failed-at : {E : Type 0} (rule : Rule E) (before after : Seen E) (at_end : Bool) (count : ℕ)
    → FailedAt rule before.streams.left before.history before.streams.written after.streams.left after.history
    after.pending after.streams.written (counted_lines at_end) count
    → count ≤ INPUT_LIMIT → (at_end ≡ true → ForSome after.streams.left (λ rest. rest ≡ []))
    → StoppedByStore rule before after
failed-at rule before after at_end count f few ended = (
  f.bytes,
  at_end,
  record { bytes = f.taken; few = subst (λ n. n ≤ INPUT_LIMIT) (sym f.size) few; ended = ended },
  f.fails,
)

-- where all lines of an input that ended were answered, the run is done
pub done-ends : {E : Type 0} {mid : List E} {w1 : Option
    (List ℕ)} {line : List ℕ} {count : ℕ} (rule : Rule E) → IsByHeld rule
    → (before after : Streams) (first last : List E)
    → SoFar rule before.left first before.written after.left mid w1 line count → count < INPUT_LIMIT
    → ForSome after.left (λ rest. rest ≡ []) → Answered rule mid w1 (as_line line) last after.written
    → RunEnds rule Done (record { streams = before; history = first; pending = [] })
    (record { streams = after; history = last; pending = [] })
done-ends rule alike before after first last s few ended a = (
  s.bytes,
  record { bytes = s.taken; few = let size = s.size in omega arith; ended = λ _. ended },
  subst (λ n. n < INPUT_LIMIT) (sym s.size) few,
  so_far-end alike s a,
)

-- the end says which fault it was
stopped-ends :
    {E : Type 0} {writes stores stores_now : ℕ} {pending : List E} (rule : Rule E) (stop : RunEnd)
    (before after : Seen E)
    → before.streams.write_faults ≤ writes
    → HasCause (Err stop) writes after.streams.write_faults stores stores_now pending → Stopped rule before after
    → (stop ≡ StoreFault → StoppedByStore rule before after) → RunEnds rule stop before after
stopped-ends rule Done before after low cause stopped failed = absurd cause.stop
stopped-ends rule ReadFault before after low cause stopped failed = absurd cause.stop
stopped-ends rule InputLimit before after low cause stopped failed = absurd cause.stop
stopped-ends rule WriteFault before after low cause stopped failed =
    (rose-later _ _ _ low (cause.write_fault refl), stopped)
stopped-ends rule StoreFault before after low cause stopped failed = failed refl
stopped-ends rule Memory before after low cause stopped failed = stopped

-- a fault stopped the run where it had taken so many bytes
pub stopped-run : {E : Type 0} {writes stores stores_now : ℕ} {pending : List E} (rule : Rule E) (stop : RunEnd)
    (before after : Seen E) (at_end : Bool) (count : ℕ) → before.streams.write_faults ≤ writes
    → HasCause (Err stop) writes after.streams.write_faults stores stores_now pending
    → StoppedAt rule before.streams.left before.history before.streams.written after.streams.left after.history
    after.streams.written (counted_lines at_end) count
    → (stop ≡ StoreFault
    → FailedAt rule before.streams.left before.history before.streams.written after.streams.left after.history
    after.pending after.streams.written (counted_lines at_end) count)
    → count ≤ INPUT_LIMIT → (at_end ≡ true → ForSome after.streams.left (λ rest. rest ≡ []))
    → RunEnds rule stop before after
stopped-run rule stop before after at_end count low cause stops fails few ended =
    stopped-ends rule stop before after low cause (stopped-at rule before after at_end count stops few ended)
    (λ is. failed-at rule before after at_end count (fails is) few ended)

-- a run that stopped before it took anything
pub stopped-at_first : {E : Type 0} (rule : Rule E) (seen : Seen E) → Stopped rule seen seen
stopped-at_first rule seen =
    let none = stops-before rule seen.history seen.streams.written [] in
    let few : 0 ≤ INPUT_LIMIT = omega arith in
    let going : false ≡ true → ForSome seen.streams.left (λ rest. rest ≡ []) = λ e. absurd (false≢true e) in (
      [],
      false,
      record { bytes = prepend_known-nil seen.streams.left; few = few; ended = going },
      some-from_stops none,
    )

-- a count that stayed 0 didn't rise
pub none-rose : ¬ Rose 0 0
none-rose (inl rose) = absurd (omega arith)
none-rose (inr stands) = let last : 0 ≡ 2 ^ 64 - 1 = stands.0 in absurd (omega arith)
