-- The ones of old XOR new that are ones in the new word are the bits that rise, and those that are ones in the old word fall. Assumes nothing.
use mathlib.Core.Path.{◌≡◌, refl, ap, ◌∙◌}
use Prim.Native.Nat.{ℕ, zero, suc, ◌+◌, ◌*◌, ◌/◌, ◌%◌, ◌^◌, ◌<◌, min}
use native.Mathlib.Nat.{pow-suc}
use native.Mathlib.Omega.{arith}
use lib.Arith.{digits_div, digits_mod, lt-one}
use lib.Bits.{bit_and, bit_xor, differ, and_step, xor_step}
use lib.Count.{ones, ones_step}
use lib.Dec.{lit<}
use Rattle.laws.proofs.Bits.{two_bits}
use Rattle.bits.specs.Bits.{over_bits, rose, fell}
use Rattle.bits.proofs.Bits.{two_lt}

-- the ones of an operation that goes bit by bit
ones_over : (op f : ℕ → ℕ → ℕ) → op 0 0 ≡ 0 → ((a b : ℕ) → op a b ≡ op (a / 2) (b / 2) * 2 + f (a % 2) (b % 2))
    → ((x y : ℕ) → x < 2 → y < 2 → f x y < 2) → (k a b : ℕ) → a < 2 ^ k → b < 2 ^ k → ones (op a b) ≡ over_bits f k a b
unfolding over_bits ones
ones_over op f z step small zero a b ha hb = rw (lt-one ha, lt-one hb, z)
ones_over op f z step small (suc k) a b ha hb =
    let u : 2 ^ suc k ≡ 2 ^ k * 2 = pow-suc 2 k in
    let sm = small (a % 2) (b % 2) (two_lt a) (two_lt b) in
    rw (
      ones_step (op a b),
      step a b,
      digits_mod (op (a / 2) (b / 2)) sm,
      digits_div (op (a / 2) (b / 2)) sm,
      ones_over op f z step small k (a / 2) (b / 2) (omega arith) (omega arith),
    )

differ_lt : (x y : ℕ) → x < 2 → y < 2 → differ x y < 2
differ_lt = two_bits (λ x y. differ x y < 2) (lit< tt) (lit< tt) (lit< tt) (lit< tt)

-- bit by bit, where c is one of a and b: it differs, and it is 1 in c
ones_of_lem : (a b c : ℕ) → bit_and (bit_xor a b) c ≡ bit_and (bit_xor (a / 2) (b / 2)) (c / 2) * 2 + min (differ (a % 2) (b % 2)) (c % 2)
ones_of_lem a b c =
    let high : ℕ = bit_xor (a / 2) (b / 2) in
    let one : differ (a % 2) (b % 2) < 2 = differ_lt (a % 2) (b % 2) (two_lt a) (two_lt b) in
    and_step (bit_xor a b) c ∙ rw (xor_step a b, digits_div high one, digits_mod high one)

new_ones : (a b : ℕ) → bit_and (bit_xor a b) b ≡ bit_and (bit_xor (a / 2) (b / 2)) (b / 2) * 2 + rose (a % 2) (b % 2)
new_ones a b =
    ones_of_lem a b b
    ∙ ap (λ (l : ℕ). bit_and (bit_xor (a / 2) (b / 2)) (b / 2) * 2 + l)
    (two_bits (λ x y. min (differ x y) y ≡ rose x y) refl refl refl refl (a % 2) (b % 2) (two_lt a) (two_lt b))

old_ones : (a b : ℕ) → bit_and (bit_xor a b) a ≡ bit_and (bit_xor (a / 2) (b / 2)) (a / 2) * 2 + fell (a % 2) (b % 2)
old_ones a b =
    ones_of_lem a b a
    ∙ ap (λ (l : ℕ). bit_and (bit_xor (a / 2) (b / 2)) (a / 2) * 2 + l)
    (two_bits (λ x y. min (differ x y) x ≡ fell x y) refl refl refl refl (a % 2) (b % 2) (two_lt a) (two_lt b))

pub ones_new : (k a b : ℕ) → a < 2 ^ k → b < 2 ^ k → ones (bit_and (bit_xor a b) b) ≡ over_bits rose k a b
ones_new = ones_over (λ a b. bit_and (bit_xor a b) b) rose refl new_ones (two_bits (λ x y. rose x y < 2) (lit< tt) (lit< tt) (lit< tt) (lit< tt))

pub ones_old : (k a b : ℕ) → a < 2 ^ k → b < 2 ^ k → ones (bit_and (bit_xor a b) a) ≡ over_bits fell k a b
ones_old = ones_over (λ a b. bit_and (bit_xor a b) a) fell refl old_ones (two_bits (λ x y. fell x y < 2) (lit< tt) (lit< tt) (lit< tt) (lit< tt))
