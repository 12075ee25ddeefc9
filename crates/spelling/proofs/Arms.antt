-- What holds of each number of a list or below one. Assumes nothing.
use Prim.Native.Nat.{ℕ, zero, suc, ◌<◌, ◌≤◌}
use native.Mathlib.Omega.{arith}
use mathlib.Core.Path.{◌≡◌, refl}
use mathlib.Core.List.{List, [], ◌∷◌}
use lib.ListN.{length, get_or, take}
use Rattle.laws.specs.Lists.{Each}
use Rattle.laws.proofs.Tests.{by_lt}

-- ---- numbers below another

abbrev pub below : ℕ → List ℕ
below zero = []
below (suc n) = n ∷ below n

pub each_below : (P : ℕ → Type 0) (n : ℕ) → Each P (below n) → (k : ℕ) → k < n → P k
each_below P zero e k h = absurd (omega arith)
each_below P (suc n) e k h =
    by_lt k n (λ (l : k < n). each_below P n e.1 k l) (λ (l : n ≤ k). let q : k ≡ n = omega arith in rw q e.0)

-- ---- numbers of a list

-- what the first n have
pub each_front : (P : ℕ → Type 0) → P 0 → (n : ℕ) (vs : List ℕ) → Each P (take n vs) → (i : ℕ) → i < n → P (get_or vs i 0)
each_front P z n [] e i h = z
each_front P z zero (v ∷ vs) e i h = absurd (omega arith)
each_front P z (suc n) (v ∷ vs) e zero h = e.0
each_front P z (suc n) (v ∷ vs) e (suc i) h = each_front P z n vs e.1 i (omega arith)

-- what all have
pub each_all : (P : ℕ → Type 0) → P 0 → (vs : List ℕ) → Each P vs → (i : ℕ) → P (get_or vs i 0)
each_all P z [] e i = z
each_all P z (v ∷ vs) e zero = e.0
each_all P z (v ∷ vs) e (suc i) = each_all P z vs e.1 i

-- past its end a list has zeros
pub past_end : (vs : List ℕ) (i : ℕ) → length vs ≤ i → get_or vs i 0 ≡ 0
past_end [] i h = refl
past_end (v ∷ vs) zero h = absurd (omega arith)
past_end (v ∷ vs) (suc i) h = past_end vs i (omega arith)
