-- Search lines by their first numbers: which are outside the form, and what one in it goes on with.
use Rattle.std.proofs.Common.{◌≡◌, ℕ, ◌^◌, ◌≤◌, ◌/◌, Bool, true, false, ◌&&◌, cond, List, [], ◌∷◌, Option, Some, None, refl, ap, ◌∙◌, arith}
use Rattle.std.proofs.lemmas.Bool.{and_left, and_right, and_from, lt-ltb, ltb-true, false_from_ne_true}
use Rattle.std.proofs.lemmas.Bool.Decides.{nat_tests}
use Rattle.flake_rate.specs.Divisor.{gcd}
use Rattle.flake_rate.specs.Limits.{IsRate, IsBar, IsTold}
use Rattle.weight_exact.specs.Factors.{factors}
use Rattle.weight_exact.specs.Weights.{Setup, setup}
use Rattle.flake_rate.specs.Tests.{is_rate, is_bar, is_told}
use Rattle.weight_exact.specs.Limits.{is_calm, are_weights}
use Rattle.judge.specs.Form.{search_of}
use Rattle.judge.specs.Words.{ReadsNumber, LacksNumber}
use Rattle.judge.proofs.Numbers.{formed, following, formed-reads, formed-lacks, formed_none, formed_same}

-- the test of the numbers before the weights
abbrev pub are_terms : (c d a b t u calm : ℕ) → Bool
are_terms c d a b t u calm = ((is_rate a b && is_bar t u) && is_calm calm) && is_told c d (a / gcd a b) (b / gcd a b)

-- what follows terms within their limits, the flake rate and the miss rate in lowest terms
abbrev pub weights_on : (a b c d t u calm : ℕ) → List ℕ → Option Setup
weights_on a b c d t u calm ws = cond (are_weights ws) (Some (setup ws calm (factors a b c d) t u)) None

pub no_calm_in : (c d a b t u calm : ℕ) → is_calm calm ≡ false → are_terms c d a b t u calm ≡ false
no_calm_in c d a b t u calm fails = and_left _ _ (and_right _ _ fails)

pub not_told_in : (c d a b t u calm : ℕ) → is_told c d (a / gcd a b) (b / gcd a b) ≡ false
    → are_terms c d a b t u calm ≡ false
not_told_in c d a b t u calm fails = and_right _ _ fails

not_terms : (c d a b t u calm : ℕ) (ws : List ℕ) → are_terms c d a b t u calm ≡ false
    → search_of c d (a ∷ b ∷ t ∷ u ∷ calm ∷ ws) ≡ None
not_terms c d a b t u calm ws fails =
    ap (λ x. cond x (Some (setup ws calm (factors (a / gcd a b) (b / gcd a b) c d) t u)) None)
    (and_left _ (are_weights ws) fails)

-- the numbers up to here are outside their limits, whatever follows
pub no_rate : (c d a b : ℕ) (ns : List ℕ) → is_rate a b ≡ false → search_of c d (a ∷ b ∷ ns) ≡ None
no_rate c d a b [] fails = refl
no_rate c d a b (t ∷ []) fails = refl
no_rate c d a b (t ∷ u ∷ []) fails = refl
no_rate c d a b (t ∷ u ∷ calm ∷ ws) fails = not_terms c d a b t u calm ws
    (and_left _ _ (and_left _ _ (and_left _ _ fails)))

no_rate_above : (c d a : ℕ) (ns : List ℕ) → 2 ^ 32 ≤ a → search_of c d (a ∷ ns) ≡ None
no_rate_above c d a [] large = refl
no_rate_above c d a (b ∷ ns) large = no_rate c d a b ns (grind (arith, nat_tests))

pub no_bar : (c d a b t u : ℕ) (ns : List ℕ) → is_bar t u ≡ false → search_of c d (a ∷ b ∷ t ∷ u ∷ ns) ≡ None
no_bar c d a b t u [] fails = refl
no_bar c d a b t u (calm ∷ ws) fails = not_terms c d a b t u calm ws (and_left _ _ (and_left _ _ (and_right _ _ fails)))

no_bar_above : (c d a b t : ℕ) (ns : List ℕ) → 2 ^ 32 ≤ t → search_of c d (a ∷ b ∷ t ∷ ns) ≡ None
no_bar_above c d a b t [] large = refl
no_bar_above c d a b t (u ∷ ns) large = no_bar c d a b t u ns (grind (arith, nat_tests))

pub no_calm : (c d a b t u calm : ℕ) (ws : List ℕ) → is_calm calm ≡ false
    → search_of c d (a ∷ b ∷ t ∷ u ∷ calm ∷ ws) ≡ None
no_calm c d a b t u calm ws fails = not_terms c d a b t u calm ws (and_left _ _ (and_right _ _ fails))

-- the form of what follows terms within their limits
pub terms_hold : (c d a b t u calm : ℕ) (ws : List ℕ) → are_terms c d a b t u calm ≡ true
    → search_of c d (a ∷ b ∷ t ∷ u ∷ calm ∷ ws) ≡ weights_on (a / gcd a b) (b / gcd a b) c d t u calm ws
terms_hold c d a b t u calm ws all =
    ap (λ x. cond (x && are_weights ws) (Some (setup ws calm (factors (a / gcd a b) (b / gcd a b) c d) t u)) None) all

pub are_terms-true : (c d a b t u calm : ℕ) → IsRate a b → IsBar t u → is_calm calm ≡ true
    → IsTold c d (a / gcd a b) (b / gcd a b) → are_terms c d a b t u calm ≡ true
are_terms-true c d a b t u calm rate bar calm_holds told =
    let rate_holds : is_rate a b ≡ true = grind (arith, nat_tests) in
    let bar_holds : is_bar t u ≡ true = grind (arith, nat_tests) in
    and_from _ _ (and_from _ _ (and_from _ _ rate_holds bar_holds) calm_holds) (lt-ltb _ _ told)

-- the terms that are left to read, after each number
module _ (c d : ℕ) where
  abbrev after_a : ℕ → List ℕ → Option Setup
  after_a a = following (search_of c d) a

  abbrev after_b : (a b : ℕ) → List ℕ → Option Setup
  after_b a b = following (after_a a) b

  abbrev after_t : (a b t : ℕ) → List ℕ → Option Setup
  after_t a b t = following (after_b a b) t

  abbrev after_u : (a b t u : ℕ) → List ℕ → Option Setup
  after_u a b t u = following (after_t a b t) u

  abbrev after_calm : (a b t u calm : ℕ) → List ℕ → Option Setup
  after_calm a b t u calm = following (after_u a b t u) calm

  pub lacks_a : {l0 : List (List ℕ)} → LacksNumber l0 → formed (search_of c d) l0 ≡ None
  lacks_a r = formed-lacks (search_of c d) (record { empty = refl; large = no_rate_above c d }) r

  reads_a : {l0 l1 : List (List ℕ)} {a : ℕ} → ReadsNumber l0 a l1 → formed (search_of c d) l0 ≡ formed (after_a a) l1
  reads_a ra = formed-reads (search_of c d) ra

  pub lacks_b : {l0 l1 : List (List ℕ)} {a : ℕ} → ReadsNumber l0 a l1 → LacksNumber l1
      → formed (search_of c d) l0 ≡ None
  lacks_b {a = a} ra r =
      reads_a ra ∙ formed-lacks (after_a a)
      (record { empty = refl; large = λ b ns large. no_rate c d a b ns (grind (arith, nat_tests)) }) r

  reads_b : {l0 l1 l2 : List (List ℕ)} {a b : ℕ} → ReadsNumber l0 a l1 → ReadsNumber l1 b l2
      → formed (search_of c d) l0 ≡ formed (after_b a b) l2
  reads_b {a = a} ra rb = reads_a ra ∙ formed-reads (after_a a) rb

  pub lacks_t : {l0 l1 l2 : List (List ℕ)} {a b : ℕ} → ReadsNumber l0 a l1 → ReadsNumber l1 b l2 → LacksNumber l2
      → formed (search_of c d) l0 ≡ None
  lacks_t {a = a} {b = b} ra rb r =
      reads_b ra rb ∙ formed-lacks (after_b a b) (record { empty = refl; large = no_bar_above c d a b }) r

  reads_t : {l0 l1 l2 l3 : List (List ℕ)} {a b t : ℕ} → ReadsNumber l0 a l1 → ReadsNumber l1 b l2
      → ReadsNumber l2 t l3 → formed (search_of c d) l0 ≡ formed (after_t a b t) l3
  reads_t {a = a} {b = b} ra rb rt = reads_b ra rb ∙ formed-reads (after_b a b) rt

  pub lacks_u : {l0 l1 l2 l3 : List (List ℕ)} {a b t : ℕ} → ReadsNumber l0 a l1 → ReadsNumber l1 b l2
      → ReadsNumber l2 t l3 → LacksNumber l3 → formed (search_of c d) l0 ≡ None
  lacks_u {a = a} {b = b} {t = t} ra rb rt r =
      reads_t ra rb rt ∙ formed-lacks (after_t a b t)
      (record { empty = refl; large = λ u ns large. no_bar c d a b t u ns (grind (arith, nat_tests)) }) r

  reads_u : {l0 l1 l2 l3 l4 : List (List ℕ)} {a b t u : ℕ} → ReadsNumber l0 a l1 → ReadsNumber l1 b l2
      → ReadsNumber l2 t l3 → ReadsNumber l3 u l4 → formed (search_of c d) l0 ≡ formed (after_u a b t u) l4
  reads_u {a = a} {b = b} {t = t} ra rb rt ru = reads_t ra rb rt ∙ formed-reads (after_t a b t) ru

  pub lacks_calm : {l0 l1 l2 l3 l4 : List (List ℕ)} {a b t u : ℕ} → ReadsNumber l0 a l1 → ReadsNumber l1 b l2
      → ReadsNumber l2 t l3 → ReadsNumber l3 u l4 → LacksNumber l4 → formed (search_of c d) l0 ≡ None
  lacks_calm {a = a} {b = b} {t = t} {u = u} ra rb rt ru r =
      reads_u ra rb rt ru ∙ formed-lacks (after_u a b t u)
      (record { empty = refl; large = λ calm ns large. no_calm c d a b t u calm ns (grind (arith, nat_tests)) }) r

  pub reads_calm : {l0 l1 l2 l3 l4 l5 : List (List ℕ)} {a b t u calm : ℕ} → ReadsNumber l0 a l1 → ReadsNumber l1 b l2
      → ReadsNumber l2 t l3 → ReadsNumber l3 u l4 → ReadsNumber l4 calm l5
      → formed (search_of c d) l0 ≡ formed (after_calm a b t u calm) l5
  reads_calm {a = a} {b = b} {t = t} {u = u} ra rb rt ru rcalm = reads_u ra rb rt ru
      ∙ formed-reads (after_u a b t u) rcalm

  pub outside_rate : {l0 l1 l2 : List (List ℕ)} {a b : ℕ} → ReadsNumber l0 a l1 → ReadsNumber l1 b l2
      → is_rate a b ≡ false → formed (search_of c d) l0 ≡ None
  outside_rate {l2 = l2} {a = a} {b = b} ra rb fails =
      reads_b ra rb ∙ formed_none (after_b a b) l2 (λ ns. no_rate c d a b ns fails)

  pub outside_bar : {l0 l1 l2 l3 l4 : List (List ℕ)} {a b t u : ℕ} → ReadsNumber l0 a l1 → ReadsNumber l1 b l2
      → ReadsNumber l2 t l3 → ReadsNumber l3 u l4 → is_bar t u ≡ false → formed (search_of c d) l0 ≡ None
  outside_bar {l4 = l4} {a = a} {b = b} {t = t} {u = u} ra rb rt ru fails =
      reads_u ra rb rt ru ∙ formed_none (after_u a b t u) l4 (λ ns. no_bar c d a b t u ns fails)

  module _ {l0 l1 l2 l3 l4 l5 : List (List ℕ)} {a b t u calm : ℕ} (ra : ReadsNumber l0 a l1)
      (rb : ReadsNumber l1 b l2) (rt : ReadsNumber l2 t l3) (ru : ReadsNumber l3 u l4)
      (rcalm : ReadsNumber l4 calm l5) where
    pub outside_terms : are_terms c d a b t u calm ≡ false → formed (search_of c d) l0 ≡ None
    outside_terms fails =
        reads_calm ra rb rt ru rcalm ∙ formed_none (after_calm a b t u calm) l5
        (λ ns. not_terms c d a b t u calm ns fails)

    pub inside_terms : are_terms c d a b t u calm ≡ true → formed (search_of c d) l0 ≡ formed
        (weights_on (a / gcd a b) (b / gcd a b) c d t u calm) l5
    inside_terms all =
        reads_calm ra rb rt ru rcalm
        ∙ formed_same (after_calm a b t u calm) (weights_on (a / gcd a b) (b / gcd a b) c d t u calm) l5
        (λ ns. terms_hold c d a b t u calm ns all)

pub is_rate-false : (a b : ℕ) → ¬ (IsRate a b) → is_rate a b ≡ false
is_rate-false a b outside = grind (arith, nat_tests)

pub is_bar-false : (t u : ℕ) → ¬ (IsBar t u) → is_bar t u ≡ false
is_bar-false t u outside = grind (arith, nat_tests)

-- numbers that are equal to those given
pub formed_weights_same : {a b t u a' b' t' u' : ℕ} (c d calm : ℕ) (l : List (List ℕ)) → a' ≡ a → b' ≡ b → t' ≡ t
    → u' ≡ u → formed (weights_on a b c d t u calm) l ≡ formed (weights_on a' b' c d t' u' calm) l
formed_weights_same c d calm l ea eb et eu = rw (ea, eb, et, eu) refl

-- a miss rate that does not fit, by equal numbers
pub is_told-false : (c d a b : ℕ) → ¬ (IsTold c d a b) → is_told c d a b ≡ false
is_told-false c d a b not_fit = false_from_ne_true _ (λ told. not_fit (ltb-true _ _ told))
