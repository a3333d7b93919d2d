-- A search that can't be opened under one number can't be opened under any, for the same cause.
use Rattle.std.proofs.Common.{◌≡◌, ℕ, List, Result, Ok, Err, sym, ap}
use Rattle.farm_types.specs.declared.moment.Moment.{Moment}
use Rattle.farm_entry.specs.Ask.{and_then, asked_bar, asked_miss, asked_range, asked_rate, asked_reruns, asked_width, opening_of}
use Rattle.farm_entry.specs.Decision.{decide, full_decision, known_decision, moment_used, or_else, own_decision, refuse_opening}
use Rattle.farm_entry.specs.declared.command.Command.TheVariants.{Open}
use Rattle.farm_entry.specs.declared.command.OpenAsk.{OpenAsk}
use Rattle.farm_entry.specs.declared.decision.Decision.TheVariants.{Refuse}
use Rattle.farm_entry.specs.declared.entry.Entry.{Entry}
use Rattle.farm_entry.specs.declared.opening.Opening.{Opening}
use Rattle.farm_entry.specs.declared.refusal.OpenFault.{OpenFault}
use Rattle.farm_entry.specs.declared.refusal.Refusal.TheVariants.{BadOpen}

then-refused : {X : Type 0} (x : Result X OpenFault) (make other : X → Result Opening OpenFault) (f : OpenFault)
    → ((v : X) → make v ≡ Err f → other v ≡ Err f) → and_then x make ≡ Err f → and_then x other ≡ Err f
then-refused (Ok v) make other f on is = on v is
then-refused (Err e) make other f on is = is

made-refused : (a b : Opening) (f : OpenFault) → Ok a ≡ Err f → Ok b ≡ Err f
made-refused a b f is = absurd (cc)

asked-refused : (ask : OpenAsk) (number other : ℕ) (f : OpenFault) → opening_of ask number ≡ Err f
    → opening_of ask other ≡ Err f
asked-refused ask number other f =
    then-refused (asked_range ask) _ _ f (λ range.
    then-refused (asked_rate ask) _ _ f (λ rate.
    then-refused (asked_miss ask rate) _ _ f (λ miss.
    then-refused (asked_bar ask) _ _ f (λ bar.
    then-refused (asked_width ask) _ _ f (λ width.
    then-refused (asked_reruns ask) _ _ f (λ reruns.
    made-refused _ _ f))))))

-- an open that is refused for its shape
pub open-refused : (H : List Entry) (ask : OpenAsk) (number : ℕ) (m : Moment) (f : OpenFault)
    → opening_of ask number ≡ Err f → Refuse (BadOpen f) ≡ decide H (Open ask) m
open-refused H ask number m f is =
    sym (ap (λ (x : Result Opening OpenFault). or_else (refuse_opening x)
    (or_else (known_decision H (Open ask))
    (or_else (full_decision H (Open ask))
    (own_decision H (Open ask) (moment_used H m)))))
    (asked-refused ask number 0 f is))
