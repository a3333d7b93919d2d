-- What contracts see of an inbox.
use Rattle.std.specs.Prelude.{ℕ, refl}
use Rattle.std.specs.Ordering.{nat_cmp}
use Rattle.std.specs.FinMap.{FinMap, code}
use Rattle.std.specs.Coded.{Coded, code_by, coded×, coded_ℕ}

-- the places of keys, how many more keys it takes without memory, the places of runs' reports, and the number below
-- which a run's report is put without memory
pub record InboxView : Type 0 where
  pub keys : FinMap nat_cmp ℕ
  pub room : ℕ
  pub runs : FinMap nat_cmp ℕ
  pub run_bound : ℕ

-- it is stored as the tuple of its fields
abbrev pub inbox_code : Coded InboxView
inbox_code =
    code_by (FinMap nat_cmp ℕ × (ℕ × (FinMap nat_cmp ℕ × ℕ)))
    (coded× (code coded_ℕ coded_ℕ) (coded× coded_ℕ (coded× (code coded_ℕ coded_ℕ) coded_ℕ)))
    (λ b. (b.keys, (b.room, (b.runs, b.run_bound))))
    (λ p. record { keys = p.0; room = p.1.0; runs = p.1.1.0; run_bound = p.1.1.1 }) (λ _. refl)
