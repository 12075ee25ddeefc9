-- What the widths of a step are. Assumes nothing.
use Rattle.std.proofs.Common.{◌≡◌, ℕ, zero, suc, ◌+◌, ◌-◌, ◌*◌, ◌^◌, ◌<◌, ◌≤◌, ◌⊎◌, refl, inl, inr, lt_of_lt_of_le, arith, pow_mono}
use Rattle.elements.specs.Lanes.{IsLane}
use Rattle.elements.proofs.Lanes.{by_lane}
pub use Rattle.elements.proofs.Lanes.{by_width, last_width}
use Rattle.lanes.specs.Widths.{IsWidth, Widths}

-- ---- a lane

pub lane_range : (lane : ℕ) → IsLane lane → (8 ≤ lane) × (lane ≤ 32)
lane_range = by_lane (λ n. (8 ≤ n) × (n ≤ 32)) (omega arith, omega arith) (omega arith, omega arith) (omega arith, omega arith)

pub lane_lt : (lane : ℕ) → IsLane lane → (x : ℕ) → x < 2 ^ lane → x < 2 ^ 32
lane_lt lane l x h = lt_of_lt_of_le h (pow_mono (lane_range lane l).1)

pub top_le : (lane : ℕ) → IsLane lane → 2 ^ (lane - 1) ≤ 2 ^ 31
top_le lane l = let h : lane - 1 ≤ 31 = omega (arith, (lane_range lane l).1) in pow_mono h

-- ---- any width

pub width_range : (n : ℕ) → IsWidth n → (zero < n) × (n ≤ 64)
width_range = by_width (λ n. (zero < n) × (n ≤ 64)) (omega arith, omega arith) (omega arith, omega arith) (omega arith, omega arith) (omega arith, omega arith)

-- 2 to n is twice the least number of n bits whose top bit is set
pub two-halves : (n : ℕ) → zero < n → 2 ^ n ≡ 2 ^ (n - 1) + 2 ^ (n - 1)
two-halves zero h = absurd (omega arith)
two-halves (suc n) h = let e : suc n - 1 ≡ n = omega arith in rw e (omega arith)

-- ---- a lane and its accumulator

-- the accumulator of twice a lane's bits
pub doubled : (lane : ℕ) → IsLane lane → Widths lane (2 * lane)
doubled =
    by_lane (λ n. Widths n (2 * n))
    (inl refl, (inl (inr (inl refl)), omega arith))
    (inr (inl refl), (inl (inr (inr refl)), omega arith))
    (inr (inr refl), (inr refl, omega arith))

-- and of four times, which has at most 64
pub quadrupled : {lane : ℕ} → (lane ≡ 8) ⊎ (lane ≡ 16) → Widths lane (4 * lane)
quadrupled (inl e) = rw e (inl refl, (inl (inr (inr refl)), omega arith))
quadrupled (inr e) = rw e (inr (inl refl), (inr refl, omega arith))
