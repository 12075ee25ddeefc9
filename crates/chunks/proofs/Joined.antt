-- Numbers joined of elements, and the elements of a number, for any width. Assumes nothing.
use mathlib.Core.Path.{◌≡◌, refl, ap, ◌∙◌}
use mathlib.Core.List.{List}
use Prim.Native.Nat.{ℕ, zero, suc, ◌+◌, ◌-◌, ◌*◌, ◌/◌, ◌%◌, ◌^◌, ◌<◌}
use native.Mathlib.Nat.{add_comm, suc-mul, zero-mul, le_refl}
use native.Mathlib.Omega.{arith}
use lib.Arith.{digits_div, digits_mod}
use Rattle.elements.specs.Elements.{element_at}
use Rattle.elements.proofs.Elements.{Bytes, element_at_add, element_at_lt}
use Rattle.elements.proofs.Vectors.{within}
use Rattle.chunks.specs.Chunk.{joined}

pub joined_cong : (f g : ℕ → ℕ) (w n : ℕ) → ((j : ℕ) → j < n → f j ≡ g j) → joined f w n ≡ joined g w n
unfolding joined
joined_cong f g w zero h = refl
joined_cong f g w (suc n) h = rw (joined_cong f g w n (λ j q. h j (omega arith)), h n (le_refl (suc n)))

-- n elements of w bytes are one of n·w bytes
pub elements-joined : (w n at : ℕ) (s : List ℕ) → element_at (n * w) at s ≡ joined (λ j. element_at w (at + j * w) s) w n
unfolding joined element_at
elements-joined w zero at s = rw zero-mul
elements-joined w (suc n) at s = rw (suc-mul, element_at_add (n * w) w at s, elements-joined w n at s)

-- the w bytes of a number after its first a
middle : (a w rest at : ℕ) (s : List ℕ) → Bytes s → element_at (a + (w + rest)) at s / 256 ^ a % 256 ^ w ≡ element_at w (at + a) s
middle a w rest at s by =
    let low = element_at_lt a at s by in
    let own = element_at_lt w (at + a) s by in
    rw (
      element_at_add a (w + rest) at s,
      add_comm (element_at a at s),
      digits_div (element_at (w + rest) (at + a) s) low,
      element_at_add w rest (at + a) s,
      add_comm (element_at w (at + a) s),
    )
    (digits_mod _ own)

-- element j of a number of n·w bytes
pub element_of_lem : (w n j at : ℕ) (s : List ℕ) → Bytes s → j < n → element_at (n * w) at s / 256 ^ (j * w) % 256 ^ w ≡ element_at w (at + j * w) s
element_of_lem w n j at s by h =
    let rest : ℕ = n * w - (j * w + w) in
    let cut : n * w ≡ j * w + (w + rest) = omega (arith, within j n w h) in
    ap (λ (k : ℕ). element_at k at s / 256 ^ (j * w) % 256 ^ w) cut ∙ middle (j * w) w rest at s by
