-- Numbers that are no settings.
use Rattle.std.proofs.Common.{◌≡◌, ◌&&◌, ℕ, ℤ, Bool, true, false, Option, Some, None, List, ◌≤◌, ◌^◌, pos, take, drop, arith, refl, sym, ap, ◌∙◌, ⊎_elim, subst, T, zero, suc}
use Rattle.std.proofs.lemmas.Bool.{and_parts, cases_Bool}
use Rattle.std.specs.Prelude.{codes, int_le, is_none, neg_ℤ, if◌then◌else◌}
use Rattle.std.specs.Str.{bytes_eq}
use Rattle.std.proofs.Math.Dec.{leb→le}
use Rattle.std.proofs.lemmas.Option.{same_Some}
use Rattle.common_types.specs.Decimals.{number}
use Rattle.std.specs.Option.{option_map, option_or}
use Rattle.farm_entry.specs.Limits.{IsZone}
use Rattle.farm_entry.specs.Settings.{daily_fault, lease_fault, settings_fault, zone_fault}
use Rattle.farm_entry.specs.declared.settings.SettingsFault.{SettingsFault}
use Rattle.farm_entry.specs.declared.settings.SettingsFault.TheVariants.{Zone}
use Rattle.farm_types.specs.declared.zone.TheConstants.{ZONE_MAX_MINUTES, ZONE_MIN_MINUTES}
use Rattle.finder_words.specs.Words.{Asked, settings_asked, zone_named}

-- a fault at the end is a fault of all
last-fault : (a b : Option SettingsFault) (f : SettingsFault) → is_none (option_or a (option_or b (Some f))) ≡ false
last-fault None None f = refl
last-fault None (Some g) f = refl
last-fault (Some g) b f = refl

-- a test that holds
told : (test : Bool) → test ≡ true → T test
told test h = subst T (sym h) tt

-- a zone that passes both tests is one
zone-within : (z : ℤ) → (int_le ZONE_MIN_MINUTES z && int_le z ZONE_MAX_MINUTES) ≡ true → IsZone z
zone-within z within =
    let both = and_parts _ _ within in
    (record { le = told _ both.0 }, record { le = told _ both.1 })

-- a zone that is none has a fault
zone-fault : (z : ℤ) → ¬ IsZone z → zone_fault z ≡ Some (Zone z)
zone-fault z far = ⊎_elim
    (λ (within : (int_le ZONE_MIN_MINUTES z && int_le z ZONE_MAX_MINUTES) ≡ true). absurd (far (zone-within z within)))
    (λ (beyond : (int_le ZONE_MIN_MINUTES z && int_le z ZONE_MAX_MINUTES) ≡ false). rw beyond refl)
    (cases_Bool (int_le ZONE_MIN_MINUTES z && int_le z ZONE_MAX_MINUTES))

-- minutes west of UTC that pass any zone
pub west-far : (m : ℕ) → 2 ^ 31 ≤ m → ¬ IsZone (neg_ℤ (pos m))
west-far zero large within = absurd (omega (arith, large))
west-far (suc n) large (least, most) =
    let low : n ≤ 719 = leb→le n 719 least.le in
    absurd (omega (arith, large, low))

-- so is a word that writes them
pub named-far : (word : List ℕ) → bytes_eq (take 5 word) (codes "east:") ≡ false
    → bytes_eq (take 5 word) (codes "west:") ≡ true → ((m : ℕ) → number (drop 5 word) ≡ Some m → 2 ^ 31 ≤ m)
    → (zone : ℤ) → zone_named word ≡ Some zone → ¬ IsZone zone
named-far word east west far zone is =
    let named : zone_named word ≡ option_map (λ (m : ℕ). neg_ℤ (pos m)) (number (drop 5 word)) = rw (east, west) refl in
    by_number (number (drop 5 word)) far (sym named ∙ is)
  where
    by_number : {z : ℤ} (n : Option ℕ) → ((m : ℕ) → n ≡ Some m → 2 ^ 31 ≤ m)
        → option_map (λ (m : ℕ). neg_ℤ (pos m)) n ≡ Some z → ¬ IsZone z
    by_number None far none = absurd (cc)
    by_number {z} (Some m) far some = subst (λ (y : ℤ). ¬ IsZone y) (same_Some (neg_ℤ (pos m)) z some) (west-far m (far m refl))

-- nothing is asked for in a zone that is none
pub settings-no_zone : (ask : ℕ → ℕ → ℤ → Asked) (l d : Option ℕ) (z : Option ℤ)
    → ((zone : ℤ) → z ≡ Some zone → ¬ IsZone zone) → settings_asked ask l d z ≡ None
settings-no_zone ask None d z far = refl
settings-no_zone ask (Some l) None z far = refl
settings-no_zone ask (Some l) (Some d) None far = refl
settings-no_zone ask (Some l) (Some d) (Some z) far =
    let fault : is_none (settings_fault l d z) ≡ false =
    ap (λ (f : Option SettingsFault). is_none (option_or (lease_fault l) (option_or (daily_fault d) f))) (zone-fault z (far z refl))
    ∙ last-fault (lease_fault l) (daily_fault d) (Zone z) in
    ap (λ (b : Bool). if b then Some (ask l d z) else None) fault
