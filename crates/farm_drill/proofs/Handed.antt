-- A run that a command handed out is one of the history's.
use Rattle.std.proofs.Common.{◌≡◌, ◌+◌, ◌++◌, ◌∷◌, [], ℕ, zero, suc, List, take, length, Contains, Option, Some, None, slice_get, refl, sym, ap, ◌∙◌, arith}
use Rattle.std.specs.List.{cons_option}
use Rattle.std.specs.Option.{option_and_then}
use Rattle.std.proofs.lemmas.Option.{none-some}
use Rattle.farm_entry.specs.Answer.{IsAnswer}
use Rattle.farm_entry.specs.History.{all_leases, lease_in, lease_of}
use Rattle.farm_entry.specs.Legal.{IsLegal}
use Rattle.farm_entry.specs.Playing.{after}
use Rattle.farm_entry.specs.Reply.{reply_at, reply_to}
use Rattle.farm_entry.specs.declared.answer.Answer.TheVariants as answer
use Rattle.farm_entry.specs.declared.decision.Decision.{Decision}
use Rattle.farm_entry.specs.declared.decision.Decision.TheVariants.{New, Refuse, Repeat, Show}
use Rattle.farm_entry.specs.declared.entry.Entry.{Entry}
use Rattle.farm_entry.specs.declared.lease.LeasedRun.{LeasedRun}
use Rattle.farm_entry.specs.declared.reply.Reply.{Reply}
use Rattle.farm_core.specs.Outcome.{handed_out}
use Rattle.farm_core.proofs.Handed.{lease-handed_out}
use Rattle.farm_laws.proofs.Numbered.{lease-found}
use Rattle.farm_drill.proofs.Deciding.{Decides}

there-behind : (o : Option LeasedRun) (ls : List LeasedRun) (l : LeasedRun) → Contains ls l
    → Contains (cons_option o ls) l
there-behind None ls l there = there
there-behind (Some x) ls l there = (suc there.0, omega (arith, there.1), there.2)

there-first : (o : Option LeasedRun) (ls : List LeasedRun) (l : LeasedRun) → o ≡ Some l → Contains (cons_option o ls) l
there-first None ls l is = absurd (none-some l is)
there-first (Some x) ls l is = let same : x ≡ l = cc in (0, omega arith, same)

-- what the entry at a place hands out is one of the history's leases
leases-there : (H : List Entry) (place : ℕ) (e : Entry) (l : LeasedRun) → slice_get H place ≡ Some e
    → lease_in e.what ≡ Some l → Contains (all_leases H) l
leases-there [] zero e l there handed = absurd (none-some e there)
leases-there [] (suc place) e l there handed = absurd (none-some e there)
leases-there (x ∷ H) zero e l there handed =
    let same : x ≡ e = cc in
    there-first (lease_in x.what) (all_leases H) l (ap (λ (y : Entry). lease_in y.what) same ∙ handed)
leases-there (x ∷ H) (suc place) e l there handed =
    there-behind (lease_in x.what) (all_leases H) l (leases-there H place e l there handed)

replied-by : (H : List Entry) (place : ℕ) (o : Option Entry) (r : Reply) (l : LeasedRun) → IsLegal H
    → slice_get H place ≡ o → option_and_then (λ (x : Entry). reply_to (take (place + 1) H) x.what) o ≡ Some r
    → handed_out r ≡ Some l → lease_of H l.run ≡ Some l
replied-by H place None r l legal there replied hands = absurd (none-some r replied)
replied-by H place (Some e) r l legal there replied hands =
    lease-found H l legal
    (leases-there H place e l there (lease-handed_out (take (place + 1) H) e.what r replied ∙ hands))

-- the run that the reply of an entry hands out
reply-leased : (H : List Entry) (place : ℕ) (r : Reply) (l : LeasedRun) → IsLegal H → reply_at H place ≡ Some r
    → handed_out r ≡ Some l → lease_of H l.run ≡ Some l
reply-leased H place r l legal replied hands = replied-by H place (slice_get H place) r l legal refl replied hands

-- the run that the answer to a command hands out
pub decided-leased : (H : List Entry) (d : Decision) (r : Reply) (l : LeasedRun) → Decides (after H d) d
    → IsLegal (after H d) → IsAnswer H d (answer.Done r) → handed_out r ≡ Some l → lease_of (after H d) l.run ≡ Some l
decided-leased H (Refuse cause) r l decides legal answers hands = absurd answers
decided-leased H (Repeat place) r l decides legal answers hands = reply-leased H place r l legal answers hands
decided-leased H (Show page) r l decides legal answers hands =
    absurd (none-some l (sym decides ∙ ap handed_out (sym answers) ∙ hands))
decided-leased H (New e) r l decides legal answers hands =
    reply-leased (H ++ e ∷ []) (length H) r l legal answers hands
