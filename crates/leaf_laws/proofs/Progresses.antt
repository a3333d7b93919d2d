-- How far judge comes with runs that are numbered in order, and what one more run changes.
use Rattle.std.proofs.Common.{◌≡◌, ◌+◌, ◌<◌, ◌==◌, ℕ, suc, Bool, true, false, not, ◌&&◌, List, ◌∷◌, ◌++◌, length, nat_le, nat_lt, cond, if◌then◌else◌, Option, Some, None, refl, ap, ◌∙◌, arith, length-append, [], ◌||◌}
use Rattle.std.specs.Option.{is_none}
use Rattle.std.proofs.lemmas.Bool.Decides.{nat_tests}
use Rattle.judge.specs.Fates.{JudgeProgress, fate, after, after_all, after_fate, at_start, is_searching, standing, standing_by}
use Rattle.judge.specs.declared.fate.JudgeFate.{JudgeFate}
use Rattle.judge.specs.declared.fate.JudgeFate.TheVariants.{Counted, Late, Over, Repeat}
use Rattle.judge.specs.declared.run_line.RunLine.{RunLine}
use Rattle.judge.specs.declared.standing.JudgeStanding.TheVariants.{Inconclusive, Named, NoCulprit}
use Rattle.weight_exact.specs.Budget.{run_budget}
use Rattle.weight_exact.specs.Load.{load}
use Rattle.weight_exact.specs.Share.{reached}
use Rattle.weight_exact.specs.Weights.{Setup, hypotheses}
use Rattle.weight_exact.specs.declared.run.Run.{Run}
use Rattle.leaf_laws.specs.Judgements.{numbered, with_number}

-- how far judge comes with these runs, numbered from 1
abbrev pub progress_of : Setup → List Run → JudgeProgress
progress_of s told = after_all s at_start (numbered 1 told)

-- One more run.

after_all-append : (s : Setup) (p : JudgeProgress) (xs ys : List RunLine) →
    after_all s p (xs ++ ys) ≡ after_all s (after_all s p xs) ys
after_all-append s p [] ys = refl
after_all-append s p (x ∷ xs) ys = after_all-append s (after s p x) xs ys

pub numbered-append : (k : ℕ) (told : List Run) (r : Run) →
    numbered k (told ++ r ∷ []) ≡ numbered k told ++ with_number (k + length told) r ∷ []
numbered-append k [] r = let same : k ≡ k + 0 = omega arith in ap (λ (n : ℕ). with_number n r ∷ []) same
numbered-append k (x ∷ told) r =
    let same : k + 1 + length told ≡ k + suc (length told) = omega arith in
    ap (λ (xs : List RunLine). with_number k x ∷ xs) (numbered-append (k + 1) told r)
    ∙ ap (λ (n : ℕ). with_number k x ∷ (numbered (k + 1) told ++ with_number n r ∷ [])) same

progress-more : (s : Setup) (told : List Run) (r : Run) →
    progress_of s (told ++ r ∷ []) ≡ after s (progress_of s told) (with_number (1 + length told) r)
progress-more s told r =
    ap (after_all s at_start) (numbered-append 1 told r)
    ∙ after_all-append s at_start (numbered 1 told) (with_number (1 + length told) r ∷ [])

-- the runs that count with one more: it counts where the search goes on and it keeps within the budget
abbrev pub counted_with : (goes past : Bool) → List Run → Run → List Run
counted_with goes past counted r = if goes && not past then counted ++ r ∷ [] else counted

-- what a line that is no repeat changes
record IsAfter (goes past : Bool) (p : JudgeProgress) (line : RunLine) (new : JudgeProgress) : Type 0 where
  counted : new.counted ≡ counted_with goes past p.counted line.run
  over : new.over ≡ (p.over || (goes && past))
  greatest : new.greatest ≡ line.number

or-none : (b : Bool) → b ≡ (b || false)
or-none true = refl
or-none false = refl

or-one : (b : Bool) → true ≡ (b || true)
or-one true = refl
or-one false = refl

after_by : (seen goes past : Bool) (p : JudgeProgress) (line : RunLine) → seen ≡ false →
    IsAfter goes past p line (after_fate (cond seen Repeat (cond (not goes) Late (cond past Over Counted))) p line)
after_by true goes past p line new = absurd cc
after_by false false past p line new = record { counted = refl; over = or-none p.over; greatest = refl }
after_by false true true p line new = record { counted = refl; over = or-one p.over; greatest = refl }
after_by false true false p line new = record { counted = refl; over = or-none p.over; greatest = refl }

new-number : (number greatest : ℕ) → greatest < number → nat_le number greatest ≡ false
new-number number greatest above = grind (arith, nat_tests)

-- whether judge goes on
named-goes : (i : ℕ) (b : Bool) → is_searching (if b then NoCulprit else Named i) ≡ false
named-goes i true = refl
named-goes i false = refl

bar-goes : (all : ℕ) (bar : Option ℕ) → is_searching (standing_by all bar) ≡ is_none bar
bar-goes all None = refl
bar-goes all (Some i) = named-goes i (i == all)

standing-goes : (all : ℕ) (over : Bool) (bar : Option ℕ) →
    is_searching (if over then Inconclusive else standing_by all bar) ≡ (not over && is_none bar)
standing-goes all true bar = refl
standing-goes all false bar = bar-goes all bar

-- whether a search goes on, by whether a run went over the budget and by the runs that count
abbrev pub goes_on : Setup → List Run → Bool → Bool
goes_on s runs over = not over && is_none (reached s runs)

-- whether one run more takes the load past the budget
abbrev pub is_past : Setup → List Run → Run → Bool
is_past s runs r = nat_lt (run_budget s) (load s.factors (runs ++ r ∷ []))

after-fresh : (s : Setup) (p : JudgeProgress) (line : RunLine) → p.greatest < line.number →
    IsAfter (is_searching (standing s p)) (is_past s p.counted line.run) p line (after s p line)
after-fresh s p line above =
    after_by (nat_le line.number p.greatest) (is_searching (standing s p)) (is_past s p.counted line.run) p line
    (new-number line.number p.greatest above)

-- With these runs judge has come so far: these count, whether one went over the budget, and the last has the greatest
-- number.
pub record HasCome (s : Setup) (told runs : List Run) (went : Bool) : Type 0 where
  pub counted : (progress_of s told).counted ≡ runs
  pub over : (progress_of s told).over ≡ went
  pub greatest : (progress_of s told).greatest ≡ length told

pub come-none : (s : Setup) → HasCome s [] [] false
come-none s = record { counted = refl; over = refl; greatest = refl }

pub come-more : (s : Setup) (told runs : List Run) (went : Bool) (r : Run) → HasCome s told runs went →
    HasCome s (told ++ r ∷ []) (counted_with (goes_on s runs went) (is_past s runs r) runs r)
    (went || (goes_on s runs went && is_past s runs r))
come-more s told runs went r come =
    let p = progress_of s told in
    let line = with_number (1 + length told) r in
    let done = after-fresh s p line (omega (arith, come.greatest)) in
    let goes : is_searching (standing s p) ≡ goes_on s runs went =
    standing-goes (hypotheses s) p.over (reached s p.counted)
    ∙ (λ i. goes_on s (come.counted i) (come.over i)) in
    record {
      counted = ap (λ (q : JudgeProgress). q.counted) (progress-more s told r) ∙ done.counted
          ∙ (λ i. counted_with (goes i) (is_past s (come.counted i) r) (come.counted i) r);
      over = ap (λ (q : JudgeProgress). q.over) (progress-more s told r) ∙ done.over
          ∙ (λ i. come.over i || (goes i && is_past s (come.counted i) r));
      greatest = ap (λ (q : JudgeProgress). q.greatest) (progress-more s told r) ∙ done.greatest
          ∙ omega (arith, length-append told (r ∷ []));
    }

-- The fate of one run more.

-- by whether the search goes on, and whether the run takes it past its budget
abbrev pub fate_by : (goes past : Bool) → JudgeFate
fate_by goes past = if not goes then Late else (if past then Over else Counted)

pub come-fate : (s : Setup) (told runs : List Run) (went : Bool) (r : Run) → HasCome s told runs went →
    fate s (progress_of s told) (with_number (1 + length told) r) ≡ fate_by (goes_on s runs went) (is_past s runs r)
come-fate s told runs went r come =
    let p = progress_of s told in
    let line = with_number (1 + length told) r in
    let new : nat_le line.number p.greatest ≡ false =
    new-number line.number p.greatest (omega (arith, come.greatest)) in
    let goes : is_searching (standing s p) ≡ goes_on s runs went =
    standing-goes (hypotheses s) p.over (reached s p.counted)
    ∙ (λ i. goes_on s (come.counted i) (come.over i)) in
    (λ i. if new i then Repeat else fate_by (goes i) (is_past s (come.counted i) r))

-- what judge says of each run line
abbrev pub fates_by : Setup → JudgeProgress → List RunLine → List JudgeFate
fates_by s p [] = []
fates_by s p (line ∷ lines) = fate s p line ∷ fates_by s (after s p line) lines

fates_by-append : (s : Setup) (p : JudgeProgress) (lines : List RunLine) (line : RunLine) →
    fates_by s p (lines ++ line ∷ []) ≡ fates_by s p lines ++ fate s (after_all s p lines) line ∷ []
fates_by-append s p [] line = refl
fates_by-append s p (x ∷ lines) line =
    ap (λ (fates : List JudgeFate). fate s p x ∷ fates) (fates_by-append s (after s p x) lines line)

pub fates-more : (s : Setup) (told : List Run) (r : Run) →
    fates_by s at_start (numbered 1 (told ++ r ∷ []))
    ≡ fates_by s at_start (numbered 1 told)
    ++ fate s (progress_of s told) (with_number (1 + length told) r) ∷ []
fates-more s told r =
    ap (fates_by s at_start) (numbered-append 1 told r)
    ∙ fates_by-append s at_start (numbered 1 told) (with_number (1 + length told) r)
