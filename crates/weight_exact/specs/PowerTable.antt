-- The powers of one number.
use Rattle.std.specs.Prelude.{◌≡◌, ℕ, ◌^◌, ◌<◌, ◌≤◌, List, length, slice_index}

-- what a table of powers serves: the powers of a base, to exponents up to a limit
pub record PowersOfBase : Type 0 where
  pub base : ℕ
  pub limit : ℕ

-- a list has the powers of a base from exponent 0 on
abbrev pub AreFirstPowers : ℕ → List ℕ → Type 0
AreFirstPowers base powers = (e : ℕ) → e < length powers → slice_index powers e ≡ base ^ e

-- what the powers of a table are: the first, 1 to 128 of them, and all that fit 128 bits where the base is at least 2
pub record ServesPowers (base limit : ℕ) (powers : List ℕ) : Type 0 where
  pub some : 0 < length powers
  pub few : length powers ≤ 128
  pub are_powers : AreFirstPowers base powers
  pub all : 2 ≤ base → (e : ℕ) → e ≤ limit → base ^ e < 2 ^ 128 → e < length powers
