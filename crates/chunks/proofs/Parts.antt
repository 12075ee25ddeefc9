-- A chunk of one or two elements, from the elements. Assumes nothing.
use mathlib.Core.Path.{◌≡◌, refl}
use mathlib.Core.Logic.{◌⊎◌, inl, inr, ⊎_elim}
use mathlib.Core.Bool.{Bool, false}
use mathlib.Core.List.{List}
use Prim.Native.Nat.{ℕ, ◌+◌, ◌*◌, ◌/◌, ◌%◌, ◌^◌, ◌<◌}
use native.Mathlib.Omega.{arith}
use Rattle.elements.specs.Elements.{element_at}
use Rattle.lanes.specs.Lane.{step}
use Rattle.lanes.proofs.Widths.{doubled, quadrupled}
use Rattle.chunks.specs.Chunk.{joined, part_step, chunk, OfChunk, OfArray, OfV}

-- what `lanes::element` ensures, where the code has worked out the places by itself
abbrev Element : ℕ → ℕ → Bool → Bool → List ℕ → ℕ → ℕ → ℕ → ℕ → Type 0
Element lane wide u s z old x y r = r ≡ step false lane wide u s old (element_at (lane / 8) x z) (element_at (lane / 8) y z)

pub part_is : (lane wide : ℕ) (u s : Bool) (old : ℕ) (z : List ℕ) (x dx y dy j o px py r : ℕ)
    → o ≡ old / 256 ^ (j * (wide / 8)) % 256 ^ (wide / 8) → px ≡ x + j * dx → py ≡ y + j * dy
    → Element lane wide u s z o px py r → r ≡ part_step lane wide u s old z x dx y dy j
unfolding part_step step
part_is lane wide u s old z x dx y dy j o px py r eo ex ey er = rw (← eo, ← ex, ← ey) er

module _ (lane wide : ℕ) (u s : Bool) (old : ℕ) (z : List ℕ) (x dx y dy : ℕ) (small : old < 2 ^ 64) where
  pub one_is : (a : ℕ) → wide ≡ 64 → Element lane wide u s z old x y a → a ≡ chunk lane wide u s old z x dx y dy
  unfolding chunk joined
  one_is a w ea = rw w (rw (← part_is lane 64 u s old z x dx y dy 0 old x y a (omega arith) (omega arith) (omega arith) (rw w at ea)) (omega arith))

  pub two_is : (a b : ℕ) → wide ≡ 32 → Element lane wide u s z (old % 4294967296) x y a → Element lane wide u s z (old / 4294967296) (x + dx) (y + dy) b
      → a + b * 4294967296 ≡ chunk lane wide u s old z x dx y dy
  unfolding chunk joined
  two_is a b w ea eb =
      rw w
      (rw (
        ← part_is lane 32 u s old z x dx y dy 0 _ x y a (omega arith) (omega arith) (omega arith) (rw w at ea),
        ← part_is lane 32 u s old z x dx y dy 1 _ (x + dx) (y + dy) b (omega arith) (omega arith) (omega arith) (rw w at eb),
      )
      (omega arith))

-- an element that has not 64 bits has 32
pub one_of_two : (wide : ℕ) → (wide ≡ 32) ⊎ (wide ≡ 64) → (wide ≡ 64 → ⊥) → wide ≡ 32
one_of_two wide (inl e) n = e
one_of_two wide (inr e) n = absurd (n e)

-- ---- the lanes of words that write ZA

-- what holds of each pair of widths holds of any
pub by_array : (P : ℕ → ℕ → Type 0) → P 8 32 → P 16 64 → P 16 32 → (lane wide : ℕ) → OfArray lane wide → P lane wide
by_array P a b c lane wide o =
    ⊎_elim (λ (h : (lane ≡ 8) × (wide ≡ 32)). rw (h.0, h.1) a)
    (⊎_elim (λ (h : (lane ≡ 16) × (wide ≡ 64)). rw (h.0, h.1) b) (λ (h : (lane ≡ 16) × (wide ≡ 32)). rw (h.0, h.1) c))
    o

pub array_chunk : (lane wide : ℕ) → OfArray lane wide → OfChunk lane wide
array_chunk = by_array OfChunk (quadrupled (inl refl), inl refl) (quadrupled (inr refl), inr refl) (doubled 16 (inr (inl refl)), inl refl)

-- ---- the lanes of words that write a V register

pub v_chunk : (lane wide : ℕ) → OfV lane wide → OfChunk lane wide
v_chunk lane wide (inl (l, w)) = rw (l, w) (doubled 16 (inr (inl refl)), inl refl)
v_chunk lane wide (inr (l, w)) = rw (l, w) (doubled 32 (inr (inr refl)), inr refl)
