-- How those gather who share a record.
use Rattle.std.proofs.Common.{◌≡◌, ◌≤◌, ℕ, List, [], ◌∷◌, ◌++◌, ◌+◌, length, sym, ap, ◌∙◌, subst, append_assoc, append-nil, length-append, arith}
use Rattle.std.proofs.lemmas.List.Sums.{sum_by-append}
use Rattle.atomic_table.specs.Seated.{TableId}
use Rattle.farm_store.specs.Together.{all_asks}
use Rattle.farm_store.specs.declared.asking.Ask.{Ask}
use Rattle.farm_store.specs.declared.asking.Part.{Part}
use Rattle.farm_store.specs.Sizes.{command_size, asks_size}
use Rattle.farm_store.specs.declared.asking.TheConstants.{MAX_BATCH_BYTES, MAX_RECORD_BYTES}
use Rattle.farm_store.proofs.Together.{all_asks-push}
use Rattle.farm_board.specs.Jobs.{Jobs}
use Rattle.shared_farm.specs.Rounds.{AreHelped, IsHelped}
use Rattle.shared_farm.specs.declared.errand.Helped.{Helped}

module _ {K O : Type 0} (lock : TableId) (jobs : Jobs K) where
  -- one errand more was taken over
  AreHelped-push : (parts : List Part) (group : List (Helped K O)) (part : Part) (helped : Helped K O)
      → AreHelped lock jobs parts group → IsHelped lock jobs part helped
      → AreHelped lock jobs (parts ++ part ∷ []) (group ++ helped ∷ [])
  AreHelped-push [] [] part helped all one = (one, tt)
  AreHelped-push [] (h ∷ group) part helped all one = absurd all
  AreHelped-push (p ∷ parts) [] part helped all one = absurd all
  AreHelped-push (p ∷ parts) (h ∷ group) part helped all one = (
    all.0,
    AreHelped-push parts group part helped all.1 one,
  )

  -- the parts so far: those at the beginning, and one for each errand that was taken over
  pub record IsGathering (own parts : List Part) (group : List (Helped K O)) (bytes : ℕ) : Type 0 where
    pub others : List Part
    pub together : parts ≡ own ++ others
    pub helped : AreHelped lock jobs others group
    pub counted : bytes ≡ asks_size (all_asks parts)
    pub fits : bytes ≤ MAX_RECORD_BYTES

  pub gathering-first : (own : List Part) (group : List (Helped K O)) (bytes : ℕ) → group ≡ []
      → bytes ≡ asks_size (all_asks own) → bytes ≤ MAX_BATCH_BYTES → IsGathering own own group bytes
  gathering-first own group bytes none counted fits = record {
    others = [];
    together = sym (append-nil own);
    helped = subst (λ (l : List (Helped K O)). AreHelped lock jobs [] l) (sym none) tt;
    counted = counted;
    fits = omega (arith, fits);
  }

  pub gathering-push : (own parts : List Part) (group : List (Helped K O)) (bytes : ℕ) (part : Part)
      (helped : Helped K O)
      → IsGathering own parts group bytes → IsHelped lock jobs part helped
      → bytes + asks_size part.asks.items ≤ MAX_RECORD_BYTES
      → IsGathering own (parts ++ part ∷ []) (group ++ helped ∷ []) (bytes + asks_size part.asks.items)
  gathering-push own parts group bytes part helped so_far one fits =
      let more : asks_size (all_asks (parts ++ part ∷ [])) ≡ asks_size (all_asks parts) + asks_size part.asks.items =
      ap (λ (l : List Ask). asks_size l) (all_asks-push parts part)
      ∙ sum_by-append (λ (ask : Ask). command_size ask.command) (all_asks parts) part.asks.items in
      let counted = so_far.counted in
      record {
        others = so_far.others ++ part ∷ [];
        together = ap (λ (l : List Part). l ++ part ∷ []) so_far.together ∙ append_assoc own so_far.others (part ∷ []);
        helped = AreHelped-push so_far.others group part helped so_far.helped one;
        counted = omega (arith, more, counted);
        fits = fits;
      }

pub length-pushed : {A : Type 0} (old new : List A) (x : A) → new ≡ old ++ x ∷ [] → length new ≡ length old + 1
length-pushed old new x is = subst (λ l. length l ≡ length old + 1) (sym is) (length-append old (x ∷ []))
