-- The evidence of a search as judge reads it, and what judge makes of it.
use Rattle.std.proofs.Common.{◌≡◌, ◌^◌, ◌<◌, ℕ, zero, suc, List, ◌∷◌, ◌++◌, map, length, if◌then◌else◌, Contains, Option, Some, None, Ok, refl, sym, ap, subst, ◌∙◌, Err, arith, add-one, append-nil, append_assoc, length-append, []}
use Rattle.std.specs.Fmt.{decimal}
use Rattle.std.specs.List.{All, range_with_len}
use Rattle.std.specs.Option.{option_map}
use Rattle.std.specs.Prelude.{codes, Result}
use Rattle.std.proofs.lemmas.Option.{none-some, same_Some}
use Rattle.std.proofs.lemmas.List.FromFn.{map-range_with_len_more}
use Rattle.flake_rate.specs.Bar.{bar_denominator, bar_numerator}
use Rattle.flake_rate.specs.Miss.{miss_denominator, miss_numerator}
use Rattle.flake_rate.specs.Rate.{rate_denominator, rate_numerator}
use Rattle.flake_rate.proofs.Values.{bar-in_limits, miss-in_limits, rate-in_limits}
use Rattle.suspect_range.proofs.Legal.{weights_are_priors}
use Rattle.suspect_range.specs.declared.suspect.Suspect.{Suspect}
use Rattle.judge.specs.Answer.{answer, budget_text, fates_text, judged, line_feed, shares_text, standing_text}
use Rattle.judge.specs.Answer.{points_text as judge_points}
use Rattle.judge.specs.Fates.{JudgeProgress, after_all, at_start, standing, standing_by}
use Rattle.judge.specs.declared.standing.JudgeStanding.TheVariants.{Inconclusive}
use Rattle.judge.specs.Form.{Inquiry, inquiry}
use Rattle.judge.specs.Text.{lines}
use Rattle.judge.proofs.RoundTrips.{lines-text_of}
use Rattle.weight_exact.specs.Share.{basis_points, reached}
use Rattle.weight_exact.specs.Weights.{Setup, hypotheses, suspects}
use Rattle.weight_exact.specs.declared.run.Run.{Run}
use Rattle.farm_entry.specs.History.{opening_numbered, openings, runs, went_over}
use Rattle.farm_entry.specs.Legal.{IsLegal}
use Rattle.farm_entry.specs.Pages.{shares_of}
use Rattle.farm_entry.specs.Setup.{setup_of}
use Rattle.farm_entry.specs.declared.entry.Entry.{Entry}
use Rattle.farm_entry.specs.declared.opening.Opening.{Opening}
use Rattle.farm_laws.specs.Openings.{OpenWithin}
use Rattle.farm_laws.proofs.Bounds.{entries-bounded}
use Rattle.farm_laws.proofs.Numbered.{opening-there}
use Rattle.farm_laws.proofs.OpenLimits.{open_within}
use Rattle.search_evidence.specs.Evidence.{evidence_lines, evidence_of, evidence_text}
use Rattle.search_evidence.specs.Written.{evidence_runs}
use Rattle.leaf_laws.specs.Judgements.{evidence_asks, evidence_fates, fate_lines, judged_answer, judged_standing, numbered, points_text}
use Rattle.leaf_laws.proofs.Histories.{evidence-agrees, evidence-at_suspects, length-evidence_runs}
use Rattle.leaf_laws.proofs.JudgedFates.{evidence-fate_lines}
use Rattle.leaf_laws.proofs.Inquiries.{AreAsked, IsAtSuspect, inquiry-read, lines-free}

-- the weights of the suspects
abbrev weights_of : Opening → List ℕ
weights_of o = map (λ (s : Suspect). s.weight) o.range.suspects

-- an opened search has the numbers that judge takes
opening-asked : (o : Opening) → OpenWithin o →
    AreAsked (rate_numerator o.rate) (rate_denominator o.rate) (miss_numerator o.miss) (miss_denominator o.miss)
    (bar_numerator o.bar) (bar_denominator o.bar) o.range.calm (weights_of o)
opening-asked o is = record {
  rate = rate-in_limits o.rate;
  rate_lowest = o.rate.lowest_terms;
  miss = miss-in_limits o.miss;
  miss_lowest = o.miss.lowest_terms;
  bar = bar-in_limits o.bar;
  told = is.miss;
  priors = weights_are_priors o.range.base o.range.suspects o.range.calm (weights_of o) is.range refl;
}

suspects-weights : (o : Opening) → suspects (setup_of o) ≡ length (weights_of o)
suspects-weights o = omega (arith, length-append (weights_of o) (o.range.calm ∷ []))

few-runs : (H : List Entry) (o : Opening) → IsLegal H → length (evidence_runs H o) < 2 ^ 32
few-runs H o legal = omega (arith, length-evidence_runs H o, entries-bounded H legal)

-- the runs are at suspects, as judge counts them
at-weights : (H : List Entry) (o : Opening) → IsLegal H → Contains (openings H) o →
    All (IsAtSuspect (length (weights_of o))) (evidence_runs H o)
at-weights H o legal there =
    subst (λ (n : ℕ). All (IsAtSuspect n) (evidence_runs H o)) (suspects-weights o)
    (evidence-at_suspects H o legal there)

pub evidence-asks : (H : List Entry) (o : Opening) → IsLegal H → Contains (openings H) o →
    inquiry (lines (evidence_of H o)) ≡ Ok (evidence_asks H o)
evidence-asks H o legal there =
    let asked = opening-asked o (open_within H o legal there) in
    let at = at-weights H o legal there in
    let few = few-runs H o legal in
    ap inquiry (lines-text_of (evidence_lines H o) (lines-free _ _ _ _ _ _ _ _ (evidence_runs H o) asked at few))
    ∙ inquiry-read _ _ _ _ _ _ _ _ (evidence_runs H o) asked at few

-- What judge makes of it.

pub evidence-counted : (H : List Entry) (o : Opening) → IsLegal H → Contains (openings H) o →
    (after_all (setup_of o) at_start (evidence_asks H o).runs).counted ≡ runs H o.search
evidence-counted H o legal there = (evidence-agrees H o legal there).counted

pub evidence-over : (H : List Entry) (o : Opening) → IsLegal H → Contains (openings H) o →
    (after_all (setup_of o) at_start (evidence_asks H o).runs).over ≡ went_over H o.search
evidence-over H o legal there = (evidence-agrees H o legal there).over

pub evidence-standing : (H : List Entry) (o : Opening) → IsLegal H → Contains (openings H) o →
    standing (setup_of o) (after_all (setup_of o) at_start (evidence_asks H o).runs) ≡ judged_standing H o
evidence-standing H o legal there =
    let come = evidence-agrees H o legal there in
    λ i. if come.over i then Inconclusive
    else standing_by (hypotheses (setup_of o)) (reached (setup_of o) (come.counted i))

-- the shares of a page in judge's words

regrouped : (p q r s : List ℕ) → p ++ ((q ++ r) ++ s) ≡ ((p ++ q) ++ r) ++ s
regrouped p q r s = simp append_assoc

points-push : (xs : List ℕ) (x : ℕ) → points_text (xs ++ x ∷ []) ≡ points_text xs ++ codes " " ++ decimal x
points-push [] x = append-nil (codes " " ++ decimal x)
points-push (y ∷ xs) x =
    ap (λ (t : List ℕ). (codes " " ++ decimal y) ++ t) (points-push xs x)
    ∙ regrouped (codes " " ++ decimal y) (points_text xs) (codes " ") (decimal x)

shares-push : (point : ℕ → ℕ) (n : ℕ) →
    map point (range_with_len 1 (suc n)) ≡ map point (range_with_len 1 n) ++ point (suc n) ∷ []
shares-push point n =
    ap (λ (m : ℕ). map point (range_with_len 1 m)) (sym (add-one n))
    ∙ map-range_with_len_more point 1 n (suc n) (omega arith)

points-same : (s : Setup) (counted : List Run) (n : ℕ) →
    judge_points s counted n ≡ points_text (map (basis_points s counted) (range_with_len 1 n))
points-same s counted zero = refl
points-same s counted (suc n) =
    let point : ℕ → ℕ = basis_points s counted in
    ap (λ (t : List ℕ). (t ++ codes " ") ++ decimal (point (suc n))) (points-same s counted n)
    ∙ sym (points-push (map point (range_with_len 1 n)) (point (suc n)))
    ∙ ap points_text (sym (shares-push point n))

shares-same : (H : List Entry) (o : Opening) (counted : List Run) → counted ≡ runs H o.search →
    shares_text (setup_of o) counted ≡ codes "shares" ++ points_text (shares_of H o) ++ line_feed
shares-same H o counted is =
    ap (shares_text (setup_of o)) is
    ∙ ap (λ (t : List ℕ). (codes "shares" ++ t) ++ line_feed)
    (points-same (setup_of o) (runs H o.search) (hypotheses (setup_of o)))

-- the answer

abbrev answer_of : Result Inquiry ℕ → Result (List ℕ) ℕ
answer_of (Ok q) = Ok (answer q)
answer_of (Err l) = Err l

answer-same : (budget fates fates' shares shares' stands stands' : List ℕ) → fates ≡ fates' → shares ≡ shares' →
    stands ≡ stands' → (budget ++ fates) ++ (shares ++ stands) ≡ ((budget ++ fates') ++ shares') ++ stands'
answer-same budget fates fates' shares shares' stands stands' a b c =
    (λ i. (budget ++ a i) ++ (b i ++ c i)) ∙ sym (append_assoc (budget ++ fates') shares' stands')

pub evidence-judged : (H : List Entry) (o : Opening) → IsLegal H → Contains (openings H) o →
    judged (evidence_of H o) ≡ Ok (judged_answer H o)
evidence-judged H o legal there =
    let p : JudgeProgress = after_all (setup_of o) at_start (evidence_asks H o).runs in
    ap answer_of (evidence-asks H o legal there)
    ∙ ap Ok (answer-same (budget_text (setup_of o))
    (fates_text (setup_of o) at_start (numbered 1 (evidence_runs H o))) (fate_lines 1 (evidence_fates H o))
    (shares_text (setup_of o) p.counted) (codes "shares" ++ points_text (shares_of H o) ++ line_feed)
    (standing_text (standing (setup_of o) p)) (standing_text (judged_standing H o))
    (evidence-fate_lines H o legal there)
    (shares-same H o p.counted (evidence-counted H o legal there))
    (ap standing_text (evidence-standing H o legal there)))

-- the same of the text by the number of a search

text-by : (H : List Entry) (search : ℕ) (text : List ℕ) → IsLegal H → (found : Option Opening) →
    opening_numbered H search ≡ found → option_map (evidence_of H) found ≡ Some text →
    (o : Opening) × (opening_numbered H search ≡ Some o) × (judged text ≡ Ok (judged_answer H o))
text-by H search text legal None is h = absurd (none-some text h)
text-by H search text legal (Some o) is h =
    let same : evidence_of H o ≡ text = same_Some (evidence_of H o) text h in (
      o,
      is,
      subst (λ (t : List ℕ). judged t ≡ Ok (judged_answer H o)) same
          (evidence-judged H o legal (opening-there H search o is).0),
    )

pub text-judged : (H : List Entry) (search : ℕ) (text : List ℕ) → IsLegal H → evidence_text H search ≡ Some text →
    (o : Opening) × (opening_numbered H search ≡ Some o) × (judged text ≡ Ok (judged_answer H o))
text-judged H search text legal h = text-by H search text legal (opening_numbered H search) refl h
