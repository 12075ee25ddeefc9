-- The fields of a described word are in range: of each row, from the text of its layout. Assumes nothing.
use Prim.Native.Nat.{ℕ, zero, suc, ◌+◌, ◌*◌, ◌^◌, ◌<◌, ◌≤◌}
use native.Mathlib.Omega.{arith}
use mathlib.Core.Path.{◌≡◌, refl, subst}
use mathlib.Core.Logic.{◌⊎◌, inl, inr}
use mathlib.Core.Bool.{false}
use lib.Dec.{eqb}
use borrow.Author.Tests.{eqb-false}
use Rattle.laws.proofs.Bits.{one_bit}
use Rattle.laws.proofs.Tests.{cond-holds}
use Rattle.layouts.specs.Layout.{value}
use Rattle.words.specs.Rows.{row_a, row_b, row_d2}
use Rattle.words.specs.Says.{As, describe}
use Rattle.words.specs.Ranges.{Ranges, OfFamily}
use Rattle.words.specs.declared.Family.{Family}
use Rattle.words.specs.declared.Fields.{Fields}
use Rattle.words.proofs.Table.{◌then◌, said_each}

-- the numbers that each family has, within what a register and its elements allow
abbrev Bounded : Fields → Type 0
Bounded f = (f.part < 2) × (f.index * f.lane < 128) × (f.destination < 32) × (f.first + f.group ≤ 32) × (f.second + f.group ≤ 32)

ranges : {f : Fields} → (f.lane ≡ 8) ⊎ ((f.lane ≡ 16) ⊎ (f.lane ≡ 32)) → Bounded f → OfFamily f.family f → Ranges f
ranges lane b of_family =
    record { lane = lane; part = b.0; index = b.1; destination = b.2; first = b.3; second = b.4; of_family = of_family }

-- what holds of 0, 1 and 2 holds of any size of B that is not reserved
pub by_size : (P : ℕ → Type 0) → P 0 → P 1 → P 2 → (s : ℕ) → s < 4 → eqb s 3 ≡ false → P s
by_size P a b c zero h e = a
by_size P a b c (suc zero) h e = b
by_size P a b c (suc (suc zero)) h e = c
by_size P a b c (suc (suc (suc zero))) h e = absurd (eqb-false 3 3 e refl)
by_size P a b c (suc (suc (suc (suc s)))) h e = absurd (omega arith)

b_lane : (s : ℕ) → s < 4 → eqb s 3 ≡ false → (8 * 2 ^ s ≡ 8) ⊎ ((8 * 2 ^ s ≡ 16) ⊎ (8 * 2 ^ s ≡ 32))
b_lane = by_size (λ s. (8 * 2 ^ s ≡ 8) ⊎ ((8 * 2 ^ s ≡ 16) ⊎ (8 * 2 ^ s ≡ 32))) (inl refl) (inr (inl refl)) (inr (inr refl))

d_lane : (z : ℕ) → z < 2 → (8 + 8 * z ≡ 8) ⊎ (8 + 8 * z ≡ 16)
d_lane = one_bit (λ z. (8 + 8 * z ≡ 8) ⊎ (8 + 8 * z ≡ 16)) (inl refl) (inr refl)

wider : {n : ℕ} → (n ≡ 8) ⊎ (n ≡ 16) → (n ≡ 8) ⊎ ((n ≡ 16) ⊎ (n ≡ 32))
wider (inl e) = inl e
wider (inr e) = inr (inl e)

-- the fields of a described word are in range, row by row
pub in_range : (w : ℕ) (f : Fields) → describe w ≡ As f → Ranges f
in_range w f =
    let d = d_lane (value row_d2 w "z") (omega arith) in
    said_each Ranges w f
    ((λ _ _. cond-holds Ranges (eqb (value row_a w "s") 0b01) _ _ (λ _. ranges (inr (inl refl)) (omega arith) refl) (λ _. ranges (inr (inr refl)) (omega arith) refl))
    then (λ _ o. ranges (b_lane (value row_b w "s") (omega arith) o) (omega arith) refl)
    then (λ _ _. ranges (inr (inl refl)) (omega arith) (refl, inl refl))
    then (λ _ _. ranges (inr (inr refl)) (omega arith) (refl, inr refl))
    then (λ _ _. ranges (wider d) (omega arith) (inl refl, d, omega arith, omega arith, omega arith))
    then (λ _ _. ranges (wider d) (omega arith) (inr refl, d, omega arith, omega arith, omega arith))
    then (λ _ _. ranges (inr (inl refl)) (omega arith) (inl refl, refl, omega arith, omega arith, omega arith))
    then (λ _ _. ranges (inr (inl refl)) (omega arith) (inr refl, refl, omega arith, omega arith, omega arith))
    then tt)

-- what the ranges say of the family, where it is known
pub in_family : (f : Fields) → Ranges f → (family : Family) → f.family ≡ family → OfFamily family f
in_family f g family e = subst (λ (x : Family). OfFamily x f) e g.of_family
