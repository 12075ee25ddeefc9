-- The lanes that there are, and where those lie that are chosen. Assumes nothing.
use mathlib.Core.Path.{◌≡◌, refl}
use mathlib.Core.Logic.{◌⊎◌, inl, inr, ⊎_elim}
use mathlib.Core.Bool.{Bool, true, false, cond}
use Prim.Native.Nat.{ℕ, ◌+◌, ◌-◌, ◌*◌, ◌/◌, ◌<◌, ◌≤◌}
use native.Mathlib.Nat.{mul-le-mul_left, mul-le-mul_right}
use native.Mathlib.Omega.{arith}
use Rattle.laws.proofs.Tests.{one_of_three}
use Rattle.elements.specs.Lanes.{IsLane, IsWidth, Choice, each, segment_start, chosen, chosen_at, Reaches}

-- what holds of each lane holds of any
pub by_lane : (P : ℕ → Type 0) → P 8 → P 16 → P 32 → (n : ℕ) → IsLane n → P n
by_lane P = one_of_three P 8 16 32

-- a lane that has neither 8 nor 16 bits
pub last_lane : (n : ℕ) → IsLane n → (n ≡ 8 → ⊥) → (n ≡ 16 → ⊥) → n ≡ 32
last_lane = by_lane (λ n. (n ≡ 8 → ⊥) → (n ≡ 16 → ⊥) → n ≡ 32) (λ f g. absurd (f refl)) (λ f g. absurd (g refl)) (λ f g. refl)

-- a lane of 16 or 32 bits that has not 16
pub wider-lane : {lane : ℕ} → (lane ≡ 16) ⊎ (lane ≡ 32) → (lane ≡ 16 → ⊥) → lane ≡ 32
wider-lane (inl e) n = absurd (n e)
wider-lane (inr e) n = e

-- what holds of each width holds of any
pub by_width : (P : ℕ → Type 0) → P 8 → P 16 → P 32 → P 64 → (n : ℕ) → IsWidth n → P n
by_width P a b c d n w = ⊎_elim (by_lane P a b c n) (λ (e : n ≡ 64). rw e d) w

-- a width that no lane has
pub last_width : (n : ℕ) → IsWidth n → (n ≡ 8 → ⊥) → (n ≡ 16 → ⊥) → (n ≡ 32 → ⊥) → n ≡ 64
last_width =
    by_width (λ n. (n ≡ 8 → ⊥) → (n ≡ 16 → ⊥) → (n ≡ 32 → ⊥) → n ≡ 64)
    (λ f g h. absurd (f refl))
    (λ f g h. absurd (g refl))
    (λ f g h. absurd (h refl))
    (λ f g h. refl)

-- ---- every lane that is chosen lies in its register

module _ (lane : ℕ) (l : IsLane lane) where
  start_rises : (segmented : Bool) (e d : ℕ) → e ≤ d → cond segmented (segment_start lane e) e ≤ cond segmented (segment_start lane d) d
  start_rises true e d h = by_lane (λ n. segment_start n e ≤ segment_start n d) (omega arith) (omega arith) (omega arith) lane l
  start_rises false e d h = h

  -- what goes into a later element lies no earlier
  chosen_rises : (c : Choice) (e d : ℕ) → e ≤ d → chosen lane c e ≤ chosen lane c d
  chosen_rises c e d h = omega (arith, mul-le-mul_left c.by (start_rises c.segmented e d h))

  pub chosen_inside : (c : Choice) (n w : ℕ) → Reaches lane c n w → (e : ℕ) → e < n → chosen_at lane c e + lane / 8 ≤ w
  chosen_inside c n w r e h = omega (arith, mul-le-mul_right (lane / 8) (chosen_rises c e (n - 1) (omega arith)))

-- ---- lanes at even steps

-- those from lane `from` on are those from its byte on
pub chosen-from : (lane by from e : ℕ) → chosen_at lane (each by from) e ≡ from * (lane / 8) + chosen_at lane (each by 0) e
chosen-from lane by from e = omega arith

-- so many bytes from one to the next
pub chosen_step : (lane by e j : ℕ) → chosen_at lane (each by 0) (e + j) ≡ chosen_at lane (each by 0) e + j * (by * (lane / 8))
chosen_step lane by e j = omega arith
