-- What the definition of percent means. Assumes nothing.
use Prim.Native.Nat.{ℕ, zero, suc, ◌+◌, ◌*◌, ◌/◌, ◌≤◌, ◌<◌}
use mathlib.Core.Path.{◌≡◌, sym, ◌∙◌}
use native.Mathlib.Nat.{le-div_iff_mul-le, div-lt_iff_lt-mul, div-le_of_le-mul}
use native.Mathlib.Omega.{arith}
use borrow.Author.Tests.{ne_eqb}
use Rattle.rate.specs.Rate.{percent_of}

-- any two answers that percent's promise allows are equal
pub percent_unique : (t w r q : ℕ) → r ≡ percent_of t w → q ≡ percent_of t w → r ≡ q
percent_unique t w r q e g = e ∙ sym g

-- where something is written, percent is the quotient
quotient : (t w : ℕ) → 0 < w → percent_of t w ≡ 100 * t / w
quotient t w h = rw (ne_eqb w 0 (λ (e : w ≡ 0). omega arith))

-- percent is rounded down: so many hundredths of what was written are at most what toggled, and one hundredth more is above it
pub rounded_down : (t w : ℕ) → 0 < w → (percent_of t w * w ≤ 100 * t) × (100 * t < (percent_of t w + 1) * w)
rounded_down t w h = rw (quotient t w h) ((le-div_iff_mul-le h).0 (omega arith), (div-lt_iff_lt-mul h).0 (omega arith))

-- where no more toggled than was written, percent is at most 100
pub at_most_100 : (t w : ℕ) → t ≤ w → percent_of t w ≤ 100
at_most_100 t zero h = omega arith
at_most_100 t (suc w) h =
    rw (quotient t (suc w) (omega arith)) (div-le_of_le-mul (suc w) {m = 100 * t} {n = 100} (omega arith))
