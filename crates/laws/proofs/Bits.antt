-- Bits of numbers. Assumes nothing.
use Prim.Native.Nat.{ℕ, zero, suc, ◌+◌, ◌*◌, ◌/◌, ◌%◌, ◌<◌}
use native.Mathlib.Nat.{div-add-mod'}
use native.Mathlib.Omega.{arith}
use mathlib.Core.Path.{◌≡◌, refl, ap, ap₂, ◌∙◌}
use lib.Arith.{bin_ind, digits_div, digits_mod}
use lib.Bits.{bit_xor, differ, xor_step, xor_zero_l, xor_self}

-- what holds of 0 and of 1 holds of any bit
pub one_bit : (P : ℕ → Type 0) → P 0 → P 1 → (x : ℕ) → x < 2 → P x
one_bit P a b zero h = a
one_bit P a b (suc zero) h = b
one_bit P a b (suc (suc x)) h = absurd (omega arith)

-- what holds of the four pairs of bits holds of any two bits
pub two_bits : (P : ℕ → ℕ → Type 0) → P 0 0 → P 0 1 → P 1 0 → P 1 1 → (x y : ℕ) → x < 2 → y < 2 → P x y
two_bits P a b c d x y hx hy = one_bit (λ u. P u y) (one_bit (P 0) a b y hy) (one_bit (P 1) c d y hy) x hx

-- two bits: to flip one by the other twice changes nothing
differ_twice : (a b : ℕ) → a < 2 → b < 2 → (differ a b < 2) × (differ (differ a b) b ≡ a)
differ_twice = two_bits (λ a b. (differ a b < 2) × (differ (differ a b) b ≡ a)) (omega arith, refl) (omega arith, refl) (omega arith, refl) (omega arith, refl)

-- to flip the same bits twice changes nothing
pub xor_twice : (w m : ℕ) → bit_xor (bit_xor w m) m ≡ w
xor_twice = bin_ind (λ (w : ℕ). (m : ℕ) → bit_xor (bit_xor w m) m ≡ w) (λ m. ap (λ (x : ℕ). bit_xor x m) (xor_zero_l m) ∙ xor_self m) step
  where
    step : (w : ℕ) → ((m : ℕ) → bit_xor (bit_xor (w / 2) m) m ≡ w / 2) → (m : ℕ) → bit_xor (bit_xor w m) m ≡ w
    step w half m =
        let d = differ_twice (w % 2) (m % 2) (omega arith) (omega arith) in
        let low = differ (w % 2) (m % 2) in
        let high = bit_xor (w / 2) (m / 2) in
        ap (λ (x : ℕ). bit_xor x m) (xor_step w m)
        ∙ xor_step (high * 2 + low) m
        ∙ ap₂ (λ (h l : ℕ). bit_xor h (m / 2) * 2 + differ l (m % 2)) (digits_div high d.0) (digits_mod high d.0)
        ∙ ap₂ (λ (h l : ℕ). h * 2 + l) (half (m / 2)) d.1
        ∙ div-add-mod' w 2
