-- What the records of a journal tell, read one after the other.
use Rattle.std.proofs.Common.{◌≡◌, ◌≢◌, ℕ, ◌+◌, ◌≤◌, ◌<◌, Bool, false, List, [], ◌∷◌, ◌++◌, length, get_or, take, drop, Option, Some, None, refl, sym, ap, subst, ◌∙◌, append_assoc, arith}
use Rattle.std.specs.Prelude.{◌==◌, if◌then◌else◌}
use Rattle.std.proofs.lemmas.Bool.Decides.{nat_tests}
use Rattle.std.proofs.lemmas.List.{append-nil}
use Rattle.farm_entry.specs.declared.entry.Entry.{Entry}
use Rattle.farm_journal.specs.Layout.{is_whole, told_length, records, records_length, gate_of}
use Rattle.farm_journal.specs.declared.layout.TheConstants.{FIRST_GATE}
use Rattle.farm_journal.proofs.Scan.{SoFar, sofar-more, sofar-past, sofar-shut, sofar-start, sofar-torn}
use Rattle.audit_check.specs.Held.{IsPayloadOf, IsReadOn, told_before, told_by}
use Rattle.audit_check.specs.Told.{Told, broken, entries, entries_of, opening_tells, payloads_tell, records_tell, unborn, with_entries, with_record}

with_entries-none : (t : Told) → with_entries [] t ≡ t
with_entries-none unborn = refl
with_entries-none (broken o) = refl
with_entries-none (entries H) = refl

with_entries-twice : (part more : List Entry) (t : Told) →
    with_entries part (with_entries more t) ≡ with_entries (part ++ more) t
with_entries-twice part more unborn = refl
with_entries-twice part more (broken o) = refl
with_entries-twice part more (entries H) = ap entries (sym (append_assoc part more H))

same_entries : (H K : List Entry) → entries H ≡ entries K → H ≡ K
same_entries H K h = cc

-- what one payload more tells behind others, of which each is made of entries

behind_record : (gate at : ℕ) (read one : Option (List Entry)) (t more : Told) (H : List Entry) →
    with_record gate read t ≡ entries H →
    ((K : List Entry) → t ≡ entries K → more ≡ with_entries K (with_record at one (entries []))) →
    with_record gate read more ≡ with_entries H (with_record at one (entries []))
behind_record gate at None one t more H h k = absurd (cc)
behind_record gate at (Some part) one unborn more H h k = absurd (cc)
behind_record gate at (Some part) one (broken o) more H h k = absurd (cc)
behind_record gate at (Some part) one (entries K) more H h k =
    ap (with_entries part) (k K refl) ∙ with_entries-twice part K (with_record at one (entries []))
    ∙ ap (λ (L : List Entry). with_entries L (with_record at one (entries []))) (same_entries (part ++ K) H h)

payloads_tell-push : (gate : ℕ) (ps : List (List ℕ)) (p : List ℕ) (H : List Entry) → payloads_tell gate ps ≡ entries H →
    payloads_tell gate (ps ++ p ∷ [])
    ≡ with_entries H (with_record (gate + records_length ps) (entries_of p) (entries []))
payloads_tell-push gate [] p H h =
    let none : [] ≡ H = same_entries [] H h in
    let here : gate ≡ gate + 0 = omega arith in
    sym (with_entries-none (with_record gate (entries_of p) (entries [])))
    ∙ ap (λ (L : List Entry). with_entries L (with_record gate (entries_of p) (entries []))) none
    ∙ ap (λ (o : ℕ). with_entries H (with_record o (entries_of p) (entries []))) here
payloads_tell-push gate (q ∷ ps) p H h =
    let next = gate + 5 + length q in
    let at : next + records_length ps ≡ gate + records_length (q ∷ ps) = omega arith in
    behind_record gate (next + records_length ps) (entries_of q) (entries_of p) (payloads_tell next ps)
    (payloads_tell next (ps ++ p ∷ [])) H h (λ K e. payloads_tell-push next ps p K e)
    ∙ ap (λ (o : ℕ). with_entries H (with_record o (entries_of p) (entries []))) at

-- and behind others, of which one isn't

behind_broken : (gate o : ℕ) (read : Option (List Entry)) (t more : Told) → with_record gate read t ≡ broken o →
    ((k : ℕ) → t ≡ broken k → more ≡ broken k) → with_record gate read more ≡ broken o
behind_broken gate o None t more h k = h
behind_broken gate o (Some part) unborn more h k = absurd (cc)
behind_broken gate o (Some part) (broken n) more h k =
    ap (with_entries part) (k n refl) ∙ h
behind_broken gate o (Some part) (entries K) more h k = absurd (cc)

payloads_tell-broken : (gate : ℕ) (ps : List (List ℕ)) (p : List ℕ) (o : ℕ) → payloads_tell gate ps ≡ broken o →
    payloads_tell gate (ps ++ p ∷ []) ≡ broken o
payloads_tell-broken gate [] p o h = absurd (cc)
payloads_tell-broken gate (q ∷ ps) p o h =
    let next = gate + 5 + length q in
    behind_broken gate o (entries_of q) (payloads_tell next ps) (payloads_tell next (ps ++ p ∷ [])) h
    (λ k e. payloads_tell-broken next ps p k e)

-- what was read up to a gate
pub record IsTelling (bytes : List ℕ) (gate : ℕ) (unread : Option ℕ) (read : List Entry) : Type 0 where
  pub payloads : List (List ℕ)
  pub past : List (List ℕ)
  pub so_far : SoFar bytes gate payloads past
  pub tells : payloads_tell FIRST_GATE payloads ≡ told_by unread read

pub telling-none : (bytes : List ℕ) → FIRST_GATE ≤ length bytes → IsTelling bytes FIRST_GATE None []
telling-none bytes long = record { payloads = []; past = []; so_far = sofar-start bytes long; tells = refl }

-- one payload more, whatever was read before
tells-more : (gate : ℕ) (ps : List (List ℕ)) (p : List ℕ) (old new : List Entry) (unread now : Option ℕ) →
    gate ≡ gate_of ps → payloads_tell FIRST_GATE ps ≡ told_by unread old → IsReadOn p gate old new unread now →
    payloads_tell FIRST_GATE (ps ++ p ∷ []) ≡ told_by now new
tells-more gate ps p old new (Some first) now here tells read =
    payloads_tell-broken FIRST_GATE ps p first tells ∙ ap (λ (o : Option ℕ). told_by o new) (sym read)
tells-more gate ps p old new None None here tells read =
    let at = FIRST_GATE + records_length ps in
    payloads_tell-push FIRST_GATE ps p old tells
    ∙ ap (λ (one : Option (List Entry)). with_entries old (with_record at one (entries []))) read.1
    ∙ ap (λ (L : List Entry). entries (old ++ L)) (append-nil read.0)
    ∙ ap entries (sym read.2)
tells-more gate ps p old new None (Some now) here tells read =
    let at = FIRST_GATE + records_length ps in
    payloads_tell-push FIRST_GATE ps p old tells
    ∙ ap (λ (one : Option (List Entry)). with_entries old (with_record at one (entries []))) read.1
    ∙ ap broken (sym (read.0 ∙ here))

pub telling-more : (bytes p : List ℕ) (gate : ℕ) (old new : List Entry) (unread now : Option ℕ) →
    IsTelling bytes gate unread old → gate < length bytes → get_or bytes gate 0 ≢ 0 →
    IsPayloadOf (drop (gate + 1) bytes) p → p ≡ take (told_length (drop (gate + 1) bytes)) (drop (gate + 5) bytes) →
    IsReadOn p gate old new unread now → IsTelling bytes (gate + (5 + length p)) now new
telling-more bytes p gate old new unread now so_far within is_open whole is read =
    let ps = so_far.payloads in
    let n = told_length (drop (gate + 1) bytes) in
    let more = sofar-more bytes p gate n ps so_far.past (ps ++ p ∷ []) (p ∷ so_far.past) so_far.so_far within is_open
    whole.whole refl is refl refl in
    record {
      payloads = ps ++ p ∷ [];
      past = p ∷ so_far.past;
      so_far = subst (λ (k : ℕ). SoFar bytes (gate + (5 + k)) (ps ++ p ∷ []) (p ∷ so_far.past)) (sym whole.long) more;
      tells = tells-more gate ps p old new unread now so_far.so_far.gate so_far.tells read;
    }

-- the ends

first_or_later : (gate : ℕ) (ps : List (List ℕ)) (unread : Option ℕ) (read : List Entry) → gate ≡ gate_of ps →
    payloads_tell FIRST_GATE ps ≡ told_by unread read → told_before gate unread read ≡ records_tell ps
first_or_later gate [] unread read here tells = rw here refl
first_or_later gate (p ∷ ps) unread read here tells =
    let later : (gate == FIRST_GATE) ≡ false = grind (arith, nat_tests, here) in
    ap (λ (b : Bool). if b then broken gate else told_by unread read) later ∙ sym tells

pub telling-shut : (bytes : List ℕ) (gate : ℕ) (unread : Option ℕ) (read : List Entry) →
    IsTelling bytes gate unread read → gate < length bytes → get_or bytes gate 0 ≡ 0 →
    told_before gate unread read ≡ opening_tells (records (length bytes) FIRST_GATE (drop FIRST_GATE bytes))
telling-shut bytes gate unread read so_far within shut =
    first_or_later gate so_far.payloads unread read so_far.so_far.gate so_far.tells
    ∙ ap opening_tells (sym (sofar-shut bytes gate so_far.payloads so_far.past so_far.so_far within shut))

pub telling-torn : (bytes : List ℕ) (gate : ℕ) (unread : Option ℕ) (read : List Entry) →
    IsTelling bytes gate unread read → gate < length bytes → get_or bytes gate 0 ≢ 0 →
    is_whole (drop (gate + 1) bytes) ≡ false →
    broken gate ≡ opening_tells (records (length bytes) FIRST_GATE (drop FIRST_GATE bytes))
telling-torn bytes gate unread read so_far within is_open torn =
    ap opening_tells (sym (sofar-torn bytes gate so_far.payloads so_far.past so_far.so_far within is_open torn))

pub telling-past : (bytes : List ℕ) (gate : ℕ) (unread : Option ℕ) (read : List Entry) →
    IsTelling bytes gate unread read → length bytes ≤ gate →
    broken gate ≡ opening_tells (records (length bytes) FIRST_GATE (drop FIRST_GATE bytes))
telling-past bytes gate unread read so_far past =
    ap opening_tells (sym (sofar-past bytes gate so_far.payloads so_far.past so_far.so_far past))
