-- The low bits of an integer, for any number of bits. Assumes nothing.
use Rattle.std.proofs.Common.{◌≡◌, ℕ, zero, suc, ◌+◌, ◌-◌, ◌*◌, ◌/◌, ◌%◌, ◌^◌, ◌<◌, ◌≤◌, ℤ, pos, negsuc, ◌-ℤ◌, sym, refl, ap, ◌∙◌, mod-lt, arith, pow_pos, pow-add, le-ltb, lt-ltb}
use native.Mathlib.Nat.{mod-add-mod, add-mul-mod_self_right}
use lib.Pow as Pow
use lib.Pow.{ones_sub-lt, mod-pow-add, mod-mod-pow}
use Rattle.laws.proofs.Modulo.{comp_is, cancel}
use Rattle.laws.proofs.Tests.{by_lt}
use Rattle.lanes.specs.Lane.{low}

-- a - b by the order of a and b
pub minus_lt : (a b : ℕ) → a < b → pos a -ℤ pos b ≡ negsuc (b - suc a)
minus_lt a zero h = absurd (omega arith)
minus_lt a (suc b) h = simp (lt-ltb a (suc b) h)

pub minus_ge : (a b : ℕ) → b ≤ a → pos a -ℤ pos b ≡ pos (a - b)
minus_ge a zero h = ap pos (omega arith)
minus_ge a (suc b) h = simp (le-ltb a (suc b) h)

pub low_lt : (n : ℕ) (z : ℤ) → low n z < 2 ^ n
unfolding low
low_lt n (pos k) = mod-lt k (pow_pos n)
low_lt n (negsuc k) = omega (arith, pow_pos n)

pub low-pos : (n k : ℕ) → low n (pos k) ≡ k % 2 ^ n
unfolding low
low-pos n k = refl

-- the low bits of a - b and b give a, modulo 2 to n
pub low_sub_is : (n a b : ℕ) → (low n (pos a -ℤ pos b) + b) % 2 ^ n ≡ a % 2 ^ n
unfolding low
low_sub_is n a b = by_lt a b
    (λ h.
    let e : ((2 ^ n - 1) - (b - suc a) % 2 ^ n) + b ≡ a + ((b - suc a) / 2 ^ n + 1) * 2 ^ n =
    omega (arith, comp_is (2 ^ n) (b - suc a) (pow_pos n), mod-lt (b - suc a) (pow_pos n)) in
    ap (λ (z : ℤ). (low n z + b) % 2 ^ n) (minus_lt a b h) ∙ ap (λ (k : ℕ). k % 2 ^ n) e ∙ add-mul-mod_self_right a ((b - suc a) / 2 ^ n + 1) (2 ^ n))
    (λ h. let e : a - b + b ≡ a = omega arith in
    ap (λ (z : ℤ). (low n z + b) % 2 ^ n) (minus_ge a b h) ∙ mod-add-mod (a - b) (2 ^ n) b ∙ ap (λ (k : ℕ). k % 2 ^ n) e)

-- and no other number of n bits does
pub low_sub : (n a b r : ℕ) → r < 2 ^ n → (r + b) % 2 ^ n ≡ a % 2 ^ n → low n (pos a -ℤ pos b) ≡ r
low_sub n a b r h e = cancel (2 ^ n) _ r b (low_lt n (pos a -ℤ pos b)) h (low_sub_is n a b ∙ sym e)

-- the low w bits of the low bits are those of the integer
low_add : (j w : ℕ) (z : ℤ) → low (j + w) z % 2 ^ w ≡ low w z
unfolding low
low_add j w (pos k) = mod-mod-pow k j w
low_add j w (negsuc k) =
    let q : ℕ = k / 2 ^ w % 2 ^ j in
    let d : ℕ = (2 ^ j - 1) - q in
    let s : d + q + 1 ≡ 2 ^ j = omega (arith, mod-lt (k / 2 ^ w) (pow_pos j)) in
    let e : (2 ^ (j + w) - 1) - k % 2 ^ (j + w) ≡ d * 2 ^ w + ((2 ^ w - 1) - k % 2 ^ w) =
    omega (arith, mod-pow-add k j w, pow-add 2 j w, mod-lt k (pow_pos w), ap (λ (n : ℕ). n * 2 ^ w) s) in
    ap (λ (n : ℕ). n % 2 ^ w) e ∙ Pow.low d w (ones_sub-lt w (k % 2 ^ w))

pub low-low : (w n : ℕ) (z : ℤ) → w ≤ n → low n z % 2 ^ w ≡ low w z
low-low w n z h =
    let e : n ≡ n - w + w = omega arith in
    ap (λ (m : ℕ). low m z % 2 ^ w) e ∙ low_add (n - w) w z
