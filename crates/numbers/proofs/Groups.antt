-- The byte at the front of a number, by cases. Assumes nothing.
use Prim.Native.Nat.{ℕ, suc, ◌-◌, ◌≤◌, ◌<◌}
use mathlib.Core.Path.{◌≡◌, refl}
use mathlib.Core.Logic.{◌≢◌}
use mathlib.Core.Bool.{Bool, true, false, ◌&&◌}
use mathlib.Core.List.{List, ◌∷◌}
use native.Mathlib.Omega.{arith}
use lib.Dec.{eqb, ltb}
use borrow.Author.Tests.{lt-ltb, le-ltb, eq-eqb, ne_eqb, ltb-true, ltb-false, eqb-true}
use Rattle.laws.proofs.Tests.{both, failed}
use Rattle.numbers.specs.Numbers.{got, wrong, group_then, greatest_byte, numeral}

-- ---- the greatest byte

pub fits_fifth : (k b : ℕ) → k ≡ 4 → b ≤ 15 → ltb (greatest_byte k) b ≡ false
fits_fifth k b e h = simp (eq-eqb k 4 e) (le-ltb _ b (omega arith))

pub fits_other : (k b : ℕ) → k ≢ 4 → b < 256 → ltb (greatest_byte k) b ≡ false
fits_other k b n h = simp (ne_eqb k 4 n) (le-ltb _ b (omega arith))

pub fifth_small : (k b : ℕ) → k ≡ 4 → ltb (greatest_byte k) b ≡ false → b ≤ 15
fifth_small k b e f = omega (arith, ltb-false _ b (simp (eq-eqb k 4 e) at f))

pub other_small : (k b : ℕ) → k ≢ 4 → ltb (greatest_byte k) b ≡ false → b < 256
other_small k b n f = omega (arith, ltb-false 255 b (simp (ne_eqb k 4 n) at f))

-- no group follows a fifth byte
pub fifth_last : (k b : ℕ) → ltb (greatest_byte k) b ≡ false → 128 ≤ b → k ≢ 4
fifth_last k b f h e = omega (arith, fifth_small k b e f)

-- ---- the number that the byte begins

pub fifth_great : (k b : ℕ) (s : List ℕ) → k ≡ 4 → 15 < b → numeral k (b ∷ s) ≡ wrong
unfolding numeral
fifth_great k b s e h = simp (eq-eqb k 4 e, lt-ltb 15 b h)

-- no last of several groups is zero
not_zero : (k b : ℕ) → (b ≡ 0 → k ≡ 0) → (eqb b 0 && ltb 0 k) ≡ false
not_zero k b h = failed _ (λ e. let p = both (eqb b 0) (ltb 0 k) e in omega (arith, h (eqb-true b 0 p.0), ltb-true 0 k p.1))

pub zero_last : (k b : ℕ) (s : List ℕ) → ltb (greatest_byte k) b ≡ false → b ≡ 0 → 0 < k → numeral k (b ∷ s) ≡ wrong
unfolding numeral
zero_last k b s f e h = simp (f, lt-ltb b 128 (omega arith), eq-eqb b 0 e, lt-ltb 0 k h)

pub last_group : (k b : ℕ) (s : List ℕ) → ltb (greatest_byte k) b ≡ false → b < 128 → (b ≡ 0 → k ≡ 0) → numeral k (b ∷ s) ≡ got b 1
unfolding numeral
last_group k b s f h z = simp (f, lt-ltb b 128 h, not_zero k b z)

pub group_follows : (k b : ℕ) (s : List ℕ) → ltb (greatest_byte k) b ≡ false → 128 ≤ b → numeral k (b ∷ s) ≡ group_then (b - 128) (numeral (suc k) s)
unfolding numeral
group_follows k b s f h = simp (f, le-ltb b 128 h)

-- whatever stands after the byte, it makes the number wrong, or is its last group, or one that another follows
pub data Front (k b : ℕ) : Type 0 where
  faulty : ((s : List ℕ) → numeral k (b ∷ s) ≡ wrong) → Front k b
  ends : ltb (greatest_byte k) b ≡ false → b < 128 → (b ≡ 0 → k ≡ 0) → Front k b
  goes_on : ltb (greatest_byte k) b ≡ false → 128 ≤ b → Front k b

first_or_some : (k b : ℕ) → (eqb b 0 && ltb 0 k) ≡ false → b ≡ 0 → k ≡ 0
first_or_some k b h e = let g : ltb 0 k ≡ false = simp (eq-eqb b 0 e) at h in omega (arith, ltb-false 0 k g)

pub front : (k b : ℕ) → Front k b
unfolding numeral
front k b = go (ltb (greatest_byte k) b) (ltb b 128) (eqb b 0 && ltb 0 k) refl refl refl
  where
    go : (x y z : Bool) → ltb (greatest_byte k) b ≡ x → ltb b 128 ≡ y → (eqb b 0 && ltb 0 k) ≡ z → Front k b
    go true y z p q r = faulty (λ s. simp p)
    go false true true p q r = faulty (λ s. simp (p, q, r))
    go false true false p q r = ends p (ltb-true b 128 q) (first_or_some k b r)
    go false false z p q r = goes_on p (ltb-false b 128 q)
