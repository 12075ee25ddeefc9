-- The lengths that valid settings give. Assumes nothing.
use Prim.Native.Nat.{ℕ, ◌*◌, ◌/◌, ◌≤◌}
use mathlib.Core.Path.{◌≡◌, refl}
use mathlib.Core.Bool.{true}
use native.Mathlib.Nat.{mul-le-mul}
use native.Mathlib.Omega.{arith}
use lib.Dec.{lit≤}
use Rattle.laws.proofs.Tests.{all_three, by_three}
use Rattle.settings.specs.Lengths.{VectorLength}
use Rattle.settings.specs.Valid.{valid_length, valid_features, valid_modes, valid_settings, vector_bytes, array_bytes}
use Rattle.settings.specs.declared.Settings.{Settings}

-- what valid settings say of each part
pub valid_parts : (s : Settings) → valid_settings s ≡ true
    → (valid_length s.vl ≡ true) × (valid_features s.features.0 ≡ true) × (valid_modes s.features.0 s.modes.0 ≡ true)
unfolding valid_settings
valid_parts s = all_three (valid_length s.vl) (valid_features s.features.0) (valid_modes s.features.0 s.modes.0)

-- what holds of the three lengths holds of every valid one
by_length : (vl : ℕ) → valid_length vl ≡ true → (P : ℕ → Type 0) → P 128 → P 256 → P 512 → P vl
by_length vl = by_three vl 128 256 512

-- 512 bits are the most
pub length_at_most : (vl : ℕ) → valid_length vl ≡ true → vl / 8 ≤ 64
length_at_most vl l = by_length vl l (λ n. n / 8 ≤ 64) (lit≤ tt) (lit≤ tt) (lit≤ tt)

module _ (s : Settings) (v : valid_settings s ≡ true) where
  by_vl : (P : ℕ → Type 0) → P 128 → P 256 → P 512 → P s.vl
  by_vl = by_length s.vl (valid_parts s v).0

  eighth : VectorLength (s.vl / 8)
  eighth =
      by_vl (λ vl. VectorLength (vl / 8))
      (record { whole = refl; least = lit≤ tt; most = lit≤ tt })
      (record { whole = refl; least = lit≤ tt; most = lit≤ tt })
      (record { whole = refl; least = lit≤ tt; most = lit≤ tt })

  pub vector_length : VectorLength (vector_bytes s)
  unfolding vector_bytes
  vector_length = eighth

  pub array_length : VectorLength (array_bytes s)
  unfolding array_bytes
  array_length = eighth

  pub vector_at_most : vector_bytes s ≤ 64
  unfolding vector_bytes
  vector_at_most = length_at_most s.vl (valid_parts s v).0

  -- the bytes are VL
  pub vector_bits : 8 * vector_bytes s ≡ s.vl
  unfolding vector_bytes
  vector_bits = by_vl (λ vl. 8 * (vl / 8) ≡ vl) refl refl refl

-- a vector of ZA is as long as a Z register
pub same_length : (s : Settings) → array_bytes s ≡ vector_bytes s
unfolding vector_bytes array_bytes
same_length s = refl

-- ZA has at most 64 times 64 bytes
pub array_at_most : (s : Settings) → valid_settings s ≡ true → (x : ℕ) → x ≡ array_bytes s → x * x ≤ 4096
array_at_most s v x e =
    let b : x ≤ 64 = omega (arith, e, same_length s, vector_at_most s v) in
    mul-le-mul b b
