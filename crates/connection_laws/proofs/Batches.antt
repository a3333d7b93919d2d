-- The items of a batch, by what one call of the farm with all their commands answered.
use Rattle.std.proofs.Common.{ℕ, zero, suc, ◌≡◌, ◌≤◌, ◌<◌, ◌+◌, ◌-◌, true, List, [], ◌∷◌, ◌++◌, length, map, refl, sym, ap, ◌∙◌, subst, arith, length-append}
use Rattle.farm_entry.specs.Playing.{after}
use Rattle.farm_entry.specs.declared.decision.Decision.{Decision}
use Rattle.farm_entry.specs.declared.decision.Decision.TheVariants.{New, Refuse, Repeat, Show}
use Rattle.farm_entry.specs.declared.entry.Entry.{Entry}
use Rattle.farm_store.specs.Answering.{AreAnswers, history_after}
use Rattle.farm_entry.specs.declared.answer.Answer.{Answer}
use Rattle.farm_store.specs.declared.asking.Ask.{Ask}
use Rattle.farm_store.specs.declared.asking.TheConstants.{MAX_BATCH}
use Rattle.std.specs.List.{range_with_len}
use Rattle.connection_laws.specs.Moments.{Given, at_count}
use Rattle.http_requests.specs.Items.{Item}
use Rattle.common_types.specs.Prefix.{IsPrefix}
use Rattle.common_types.proofs.Prefixes.{IsPrefix-refl, IsPrefix-trans, IsPrefix-length}
use Rattle.common_types.specs.Counts.{Rose}
use Rattle.connection_laws.specs.Batches.{AreAsked, AreAnsweredBy, AreAtOnce, failed_steps, uncalled_steps}
use Rattle.connection_laws.specs.Progress.{Progress, progress_after, decision_on, progress_past, recorded_place, recorded_places, new_place}
use Rattle.connection_laws.proofs.Progress.{after-longer}
use Rattle.connection_laws.specs.Outcomes.{ItemOutcome, answered, failed, failed_too, uncalled, Step}
use Rattle.connection_laws.specs.Steps.{MayComeTo, AreSteps, IsWritten}

-- answered: the items come to what the farm answered
pub answered-steps : (gives : Given → Type 0) (c : Progress) (H : List Entry) (items : List Item) (asks : List Ask)
    (answers : List Answer) (steps : List Step) → AreAsked gives items asks → IsPrefix c.seen H
    → AreAnswers H asks answers
    → AreAnsweredBy H asks answers steps → AreSteps gives c items steps
answered-steps gives c H [] [] [] [] q b r s = tt
answered-steps gives c H [] [] [] (step ∷ steps) q b r s = absurd s
answered-steps gives c H [] [] (a ∷ answers) steps q b r s = absurd r
answered-steps gives c H [] (ask ∷ asks) answers steps q b r s = absurd q
answered-steps gives c H (item ∷ items) [] answers steps q b r s = absurd q
answered-steps gives c H (item ∷ items) (ask ∷ asks) [] steps q b r s = absurd r
answered-steps gives c H (item ∷ items) (ask ∷ asks) (a ∷ answers) [] q b r s = absurd s
answered-steps gives c H (item ∷ items) (ask ∷ asks) (a ∷ answers) (step ∷ steps) q b r s =
    let next = progress_past c (answered H ask a) in
    subst (λ (o : ItemOutcome). (MayComeTo gives c item o × IsWritten o step.written)
    × AreSteps gives (progress_past c o) items steps) (sym s.0) (
      (record { asked = q.0; begins = b; answer = r.0 }, tt),
      answered-steps gives next (after H (decision_on H ask)) items asks answers steps q.1
          (IsPrefix-refl (after H (decision_on H ask))) r.1 s.1,
    )

-- the history after them is within the one that they leave, and nothing else is carried
pub answered-progress_after : (c : Progress) (H : List Entry) (asks : List Ask) (answers : List Answer)
    (steps : List Step)
    → IsPrefix c.seen H → AreAnsweredBy H asks answers steps
    → IsPrefix (progress_after c steps).seen (history_after H asks)
    × ((progress_after c steps).totals ≡ c.totals) × ((progress_after c steps).faults ≡ c.faults)
answered-progress_after c H [] [] [] b s = (b, refl, refl)
answered-progress_after c H [] [] (step ∷ steps) b s = absurd s
answered-progress_after c H [] (a ∷ answers) steps b s = absurd s
answered-progress_after c H (ask ∷ asks) [] steps b s = absurd s
answered-progress_after c H (ask ∷ asks) (a ∷ answers) [] b s = absurd s
answered-progress_after c H (ask ∷ asks) (a ∷ answers) (step ∷ steps) b s =
    let left = after H (decision_on H ask) in
    subst (λ (o : ItemOutcome). IsPrefix (progress_after (progress_past c o) steps).seen (history_after left asks)
    × ((progress_after (progress_past c o) steps).totals ≡ c.totals)
    × ((progress_after (progress_past c o) steps).faults ≡ c.faults)) (sym s.0)
    (answered-progress_after (progress_past c (answered H ask a)) left asks answers steps (IsPrefix-refl left) s.1)

pub history_after-longer : (H : List Entry) (asks : List Ask) → IsPrefix H (history_after H asks)
history_after-longer H [] = IsPrefix-refl H
history_after-longer H (ask ∷ asks) =
    let left = after H (decision_on H ask) in
    IsPrefix-trans H left (history_after left asks) (after-longer H (decision_on H ask))
    (history_after-longer left asks)

no_places : (H : List Entry) (n : ℕ) → length H ≡ length H + n → [] ≡ range_with_len (length H) n
no_places H zero same = refl
no_places H (suc n) same = absurd (omega arith)

one_place : (H : List Entry) (e : Entry) (n : ℕ) (rest : List ℕ) (final : List Entry) → length final ≡ length H + n
    → length (H ++ e ∷ []) ≤ length final
    → ((m : ℕ) → length final ≡ length (H ++ e ∷ []) + m → rest ≡ range_with_len (length (H ++ e ∷ [])) m)
    → length H ∷ rest ≡ range_with_len (length H) n
one_place H e zero rest final same le more = let one = length-append H (e ∷ []) in absurd (omega arith)
one_place H e (suc n) rest final same le more =
    let one : length (H ++ e ∷ []) ≡ length H + 1 = length-append H (e ∷ []) in
    let left : length final ≡ length (H ++ e ∷ []) + n = omega arith in
    ap (λ (l : List ℕ). length H ∷ l)
    (more n left ∙ ap (λ (k : ℕ). range_with_len k n) one)

places_by : (H : List Entry) (d : Decision) (n : ℕ) (rest : List ℕ) (final : List Entry) → length final ≡ length H + n
    → IsPrefix (after H d) final
    → ((m : ℕ) → length final ≡ length (after H d) + m → rest ≡ range_with_len (length (after H d)) m)
    → new_place H d ++ rest ≡ range_with_len (length H) n
places_by H (Refuse cause) n rest final same longer more = more n same
places_by H (Repeat place) n rest final same longer more = more n same
places_by H (Show page) n rest final same longer more = more n same
places_by H (New e) n rest final same longer more =
    one_place H e n rest final same (IsPrefix-length (H ++ e ∷ []) final longer) more

-- the places of what they recorded are those at the end of the history that they leave
pub answered-places : (H : List Entry) (asks : List Ask) (answers : List Answer) (steps : List Step) (n : ℕ)
    → AreAnsweredBy H asks answers steps → length (history_after H asks) ≡ length H + n
    → recorded_places steps ≡ range_with_len (length H) n
answered-places H [] [] [] n s same = no_places H n same
answered-places H [] [] (step ∷ steps) n s same = absurd s
answered-places H [] (a ∷ answers) steps n s same = absurd s
answered-places H (ask ∷ asks) [] steps n s same = absurd s
answered-places H (ask ∷ asks) (a ∷ answers) [] n s same = absurd s
answered-places H (ask ∷ asks) (a ∷ answers) (step ∷ steps) n s same =
    let d = decision_on H ask in
    let left = after H d in
    let final = history_after left asks in
    ap (λ (o : ItemOutcome). recorded_place o ++ recorded_places steps) s.0
    ∙ places_by H d n (recorded_places steps) final same (history_after-longer left asks)
    (λ m more. answered-places left asks answers steps m s.1 more)

-- the disk failed: the items after the first share its counts
failed_too-steps : (gives : Given → Type 0) (c : Progress) (items : List Item) (asks : List Ask)
    → AreAsked gives items asks
    → AreAtOnce items → length asks ≤ c.left
    → AreSteps gives c items (map (λ (more : Ask). record { outcome = failed_too more; written = true }) asks)
failed_too-steps gives c [] [] q o le = tt
failed_too-steps gives c [] (ask ∷ asks) q o le = absurd q
failed_too-steps gives c (item ∷ items) [] q o le = absurd q
failed_too-steps gives c (item ∷ items) (ask ∷ asks) q o le =
    let room : 0 < c.left = omega arith in
    let rest : length asks ≤ c.left - 1 = omega arith in (
      (record { asked = q.0; room = room; at_once = o.0 }, refl),
      failed_too-steps gives (progress_past c (failed_too ask)) items asks q.1 o.1 rest,
    )

pub failed-steps : (gives : Given → Type 0) (c : Progress) (H : List Entry) (before count : ℕ) (item : Item)
    (items : List Item)
    (asks : List Ask) → AreAsked gives (item ∷ items) asks → AreAtOnce items → length asks ≤ MAX_BATCH
    → IsPrefix c.seen H → c.faults ≤ before → Rose before count → gives (at_count before) → gives (at_count count)
    → AreSteps gives c (item ∷ items) (failed_steps H asks before count)
failed-steps gives c H before count item items [] q o le b first rose from to = absurd q
failed-steps gives c H before count item items (ask ∷ asks) q o le b first rose from to = (
  (record { asked = q.0; begins = b; first = first; rose = rose; from_disk = from; to_disk = to }, refl),
  failed_too-steps gives (progress_past c (failed H ask before count)) items asks q.1 o (omega arith),
)

failed_too-progress_after : (c : Progress) (asks : List Ask) → let d = progress_after c
    (map (λ (more : Ask). record { outcome = failed_too more; written = true }) asks) in
    (d.seen ≡ c.seen) × (d.totals ≡ c.totals) × (d.faults ≡ c.faults)
failed_too-progress_after c [] = (refl, refl, refl)
failed_too-progress_after c (ask ∷ asks) = failed_too-progress_after (progress_past c (failed_too ask)) asks

pub failed-progress_after : (c : Progress) (H : List Entry) (before count : ℕ) (ask : Ask) (asks : List Ask)
    → let d = progress_after c (failed_steps H (ask ∷ asks) before count) in
    (d.seen ≡ H) × (d.totals ≡ c.totals) × (d.faults ≡ count)
failed-progress_after c H before count ask asks = failed_too-progress_after
    (progress_past c (failed H ask before count)) asks

-- memory ran out
pub uncalled-steps : (gives : Given → Type 0) (c : Progress) (H : List Entry) (items : List Item) (asks : List Ask)
    → AreAsked gives items asks → IsPrefix c.seen H → AreSteps gives c items (uncalled_steps H asks)
uncalled-steps gives c H [] [] q b = tt
uncalled-steps gives c H [] (ask ∷ asks) q b = absurd q
uncalled-steps gives c H (item ∷ items) [] q b = absurd q
uncalled-steps gives c H (item ∷ items) (ask ∷ asks) q b = (
  (record { asked = q.0; begins = b }, tt),
  uncalled-steps gives (progress_past c (uncalled H ask)) H items asks q.1 (IsPrefix-refl H),
)

pub uncalled-progress_after : (c : Progress) (H : List Entry) (asks : List Ask) → IsPrefix c.seen H
    → let d = progress_after c (uncalled_steps H asks) in
    IsPrefix d.seen H × (d.totals ≡ c.totals) × (d.faults ≡ c.faults)
uncalled-progress_after c H [] b = (b, refl, refl)
uncalled-progress_after c H (ask ∷ asks) b = uncalled-progress_after (progress_past c (uncalled H ask)) H asks
    (IsPrefix-refl H)

failed_too-places : (asks : List Ask)
    → recorded_places (map (λ (more : Ask). record { outcome = failed_too more; written = true }) asks) ≡ []
failed_too-places [] = refl
failed_too-places (ask ∷ asks) = failed_too-places asks

pub failed-places : (H : List Entry) (before count : ℕ) (asks : List Ask)
    → recorded_places (failed_steps H asks before count) ≡ []
failed-places H before count [] = refl
failed-places H before count (ask ∷ asks) = failed_too-places asks

pub uncalled-places : (H : List Entry) (asks : List Ask) → recorded_places (uncalled_steps H asks) ≡ []
uncalled-places H [] = refl
uncalled-places H (ask ∷ asks) = uncalled-places H asks
