-- The active searches.
use Rattle.std.specs.Prelude.{ℕ, ◌≡◌, true, false, refl, List}
use Rattle.std.specs.Coded.{Coded, code_by, coded×, coded_ℕ, coded_list}
use Rattle.search_books.specs.Order.{has}
use Rattle.search_books.specs.Rings.{Order}

-- those never leased by number, the others by their last lease, the number that is opened next, and how many more can
-- be opened without memory
pub record Active : Type 0 where
  pub never : List ℕ
  pub leased : List ℕ
  pub count : ℕ
  pub room : ℕ

abbrev pub active_code : Coded Active
active_code =
    code_by (List ℕ × (List ℕ × (ℕ × ℕ)))
    (coded× (coded_list coded_ℕ) (coded× (coded_list coded_ℕ) (coded× coded_ℕ coded_ℕ)))
    (λ a. (a.never, (a.leased, (a.count, a.room))))
    (λ p. record { never = p.0; leased = p.1.0; count = p.1.1.0; room = p.1.1.1 }) (λ _. refl)

-- the same numbers are known to both lists, and none is in both
pub record IsActive (never leased : Order) : Type 0 where
  pub same_count : never.count ≡ leased.count
  pub apart : (s : ℕ) → has s never.order ≡ true → has s leased.order ≡ false
