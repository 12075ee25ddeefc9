-- The vectors first + r·stride + i of ZA: they are there, no two are one, and each is known by its number. Assumes nothing.
use Prim.Native.Nat.{ℕ, ◌+◌, ◌-◌, ◌*◌, ◌/◌, ◌%◌, ◌≤◌, ◌<◌}
use native.Mathlib.Nat.{mod-lt, div-add-mod', div-lt_iff_lt-mul}
use native.Mathlib.Omega.{arith}
use mathlib.Core.Path.{◌≡◌, sym, ap, ap₂, ◌∙◌}
use lib.Arith.{digits_div, digits_mod, digits_lt}
use Rattle.machine.specs.Loop.{Grid, place}

module _ {w group stride k first : ℕ} (g : Grid w group stride k first) where
  -- r and i of vector first + r·stride + i
  pub row_of : (r i : ℕ) → i < k → (first + r * stride + i) / stride ≡ r
  row_of r i h =
      let e : first + r * stride + i ≡ r * stride + (first + i) = omega arith in
      ap (λ (v : ℕ). v / stride) e ∙ digits_div r (omega (arith, g.fits))

  pub within_row : (r i : ℕ) → i < k → (first + r * stride + i) % stride ≡ first + i
  within_row r i h =
      let e : first + r * stride + i ≡ r * stride + (first + i) = omega arith in
      ap (λ (v : ℕ). v % stride) e ∙ digits_mod r (omega (arith, g.fits))

  -- it is one of the w vectors
  pub row_lt : (r i : ℕ) → r < group → i < k → first + r * stride + i < w
  row_lt r i hr hi =
      let e : r * stride + (first + i) < group * stride = digits_lt hr (omega (arith, g.fits)) in
      omega (arith, g.rows)

  -- no two are one
  pub rows_distinct : (r i r' i' : ℕ) → i < k → i' < k → first + r * stride + i ≡ first + r' * stride + i' → (r ≡ r') × (i ≡ i')
  rows_distinct r i r' i' h h' e =
      let a : first + i ≡ first + i' = sym (within_row r i h) ∙ ap (λ (v : ℕ). v % stride) e ∙ within_row r' i' h' in
      (sym (row_of r i h) ∙ ap (λ (v : ℕ). v / stride) e ∙ row_of r' i' h', omega arith)

  -- ---- the same by the number q of a vector, r·k + i

  pub i_lt : (q : ℕ) → q % k < k
  i_lt q = mod-lt q g.some

  pub r_lt : (q : ℕ) → q < group * k → q / k < group
  r_lt q h = (div-lt_iff_lt-mul g.some).1 h

  pub place_lt : (q : ℕ) → q < group * k → place first stride k q < w
  unfolding place
  place_lt q h = row_lt (q / k) (q % k) (r_lt q h) (i_lt q)

  pub place_distinct : (p q : ℕ) → p < group * k → q < group * k → place first stride k p ≡ place first stride k q → p ≡ q
  unfolding place
  place_distinct p q hp hq e =
      let d = rows_distinct (p / k) (p % k) (q / k) (q % k) (i_lt p) (i_lt q) e in
      sym (div-add-mod' p k) ∙ ap₂ (λ (r i : ℕ). r * k + i) d.0 d.1 ∙ div-add-mod' q k

  -- the number of a vector
  unfoldable pub which : ℕ → ℕ
  which v = v / stride * k + (v % stride - first)

  unfoldable pub Written : ℕ → Type 0
  Written v = (first ≤ v % stride) × (v % stride < first + k)

  -- the vectors that are written are those with an r and an i
  pub row_written : (r i : ℕ) → i < k → Written (first + r * stride + i)
  unfolding Written
  row_written r i h = let e = within_row r i h in (omega (arith, e), omega (arith, e))

  pub by_row : (v : ℕ) → v < w → Written v → (v / stride < group) × (v % stride - first < k) × (first + v / stride * stride + (v % stride - first) ≡ v)
  unfolding Written
  by_row v h y =
      let s : 0 < stride = omega (arith, g.some, g.fits) in
      let l : v < group * stride = omega (arith, g.rows) in
      ((div-lt_iff_lt-mul s).1 l, omega (arith, y.0, y.1), omega (arith, y.0, div-add-mod' v stride))

  pub which_row : (v : ℕ) → Written v → (which v / k ≡ v / stride) × (which v % k ≡ v % stride - first)
  unfolding which Written
  which_row v y =
      let h : v % stride - first < k = omega (arith, y.0, y.1) in
      (digits_div (v / stride) h, digits_mod (v / stride) h)

  pub which_lt : (v : ℕ) → v < w → Written v → which v < group * k
  unfolding which
  which_lt v h y = let b = by_row v h y in digits_lt b.0 b.1

  pub place-which : (v : ℕ) → v < w → Written v → place first stride k (which v) ≡ v
  unfolding place
  place-which v h y =
      let r = which_row v y in
      ap₂ (λ (a b : ℕ). first + a * stride + b) r.0 r.1 ∙ (by_row v h y).2
