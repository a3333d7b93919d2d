-- A ring of links: from 0 through the numbers in order, and back to 0.
use Rattle.std.specs.Prelude.{ℕ, zero, suc, ◌≡◌, ◌≢◌, ◌<◌, true, false, cond, nat_eq, refl, List, [], ◌∷◌, length, get_or}
use Rattle.std.specs.Coded.{Coded, code_by, coded×, coded_ℕ, coded_list}
use Rattle.search_books.specs.Order.{has, IsOnce}
use Rattle.search_books.specs.declared.links.Link.{Link}

-- a list of numbers, how many numbers there are with 0, and how many more can be added without memory
pub record Order : Type 0 where
  pub order : List ℕ
  pub count : ℕ
  pub room : ℕ

abbrev pub order_code : Coded Order
order_code =
    code_by (List ℕ × (ℕ × ℕ)) (coded× (coded_list coded_ℕ) (coded× coded_ℕ coded_ℕ))
    (λ o. (o.order, (o.count, o.room)))
    (λ p. record { order = p.0; count = p.1.0; room = p.1.1 }) (λ _. refl)

abbrev pub blank : Link
blank = record { after = 0; before = 0 }

abbrev pub after_of : List Link → ℕ → ℕ
after_of links i = (get_or links i blank).after

abbrev pub before_of : List Link → ℕ → ℕ
before_of links i = (get_or links i blank).before

-- the links lead from a through xs to 0 and back
abbrev pub IsPath : (ℕ → ℕ) → (ℕ → ℕ) → ℕ → List ℕ → Type 0
IsPath after before a [] = (after a ≡ 0) × (before 0 ≡ a)
IsPath after before a (x ∷ xs) = (after a ≡ x) × (before x ≡ a) × IsPath after before x xs

-- what the links lead through, in at most so many steps
abbrev pub walk : (ℕ → ℕ) → ℕ → ℕ → List ℕ
walk after zero at = []
walk after (suc n) at = cond (nat_eq at 0) [] (at ∷ walk after n (after at))

abbrev pub order_of : List Link → List ℕ
order_of links = walk (after_of links) (length links) (after_of links 0)

-- no link leads out
pub record IsLow (links : List Link) : Type 0 where
  pub after : (i : ℕ) → i < length links → after_of links i < length links
  pub before : (i : ℕ) → i < length links → before_of links i < length links

-- the links of a list, where what is not in it leads to itself
pub record IsRing (links : List Link) (xs : List ℕ) : Type 0 where
  pub some : 0 < length links
  pub path : IsPath (after_of links) (before_of links) 0 xs
  pub once : IsOnce (0 ∷ xs)
  pub within : (x : ℕ) → has x xs ≡ true → x < length links
  pub out : (x : ℕ) → has x xs ≡ false → x ≢ 0 → x < length links → after_of links x ≡ x
  pub out_before : (x : ℕ) → has x xs ≡ false → x ≢ 0 → x < length links → before_of links x ≡ x
  pub low : IsLow links
