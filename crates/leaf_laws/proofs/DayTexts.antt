-- Days and their texts.
use Rattle.std.proofs.Common.{◌≡◌, Result, Ok, sym, ap, ◌∙◌}
use Rattle.jiff.specs.Types.{Date}
use Rattle.jiff.specs.Words.{date_text, epoch_day}
use Rattle.jiff_core.proofs.DateLemmas.{epoch_day_injective, epoch_day_same}
use Rattle.jiff_fmt.specs.Temporal.{DateParts, date_parts, parse_date}
use Rattle.jiff_fmt.proofs.RoundTrip.{parse_date-date_text}

pub one-text : (a b : Date) → epoch_day a ≡ epoch_day b → date_text a ≡ date_text b
one-text a b same =
    let parts = epoch_day_injective a b same in
    let year : a.year ≡ b.year = parts.0 in
    let month : a.month ≡ b.month = parts.1 in
    let day : a.day ≡ b.day = parts.2 in
    rw (year, month, day)

ok-same : {X E : Type 0} (r : Result X E) (a b : X) → r ≡ Ok a → r ≡ Ok b → a ≡ b
ok-same r a b p q = cc

pub one-day : (a b : Date) → date_text a ≡ date_text b → epoch_day a ≡ epoch_day b
one-day a b same =
    let parts : date_parts a ≡ date_parts b =
    ok-same (parse_date (date_text b)) (date_parts a) (date_parts b)
    (ap parse_date (sym same) ∙ parse_date-date_text a) (parse_date-date_text b) in
    epoch_day_same a b (ap (λ (p : DateParts). p.year) parts) (ap (λ (p : DateParts). p.month) parts)
    (ap (λ (p : DateParts). p.day) parts)
