-- A new vector: its elements, where they are read, how long it is, and that it is made of its registers' bytes alone. Assumes nothing.
use Rattle.std.proofs.Common.{◌≡◌, ℕ, ◌+◌, ◌*◌, ◌/◌, ◌%◌, ◌^◌, ◌<◌, ◌≤◌, List, length, take, drop, ◌∙◌, mod-eq_of_lt, arith}
use Rattle.elements.specs.Lanes.{chosen_at}
use Rattle.elements.specs.Elements.{element_at, element_of}
use Rattle.elements.proofs.Elements.{Bytes, pow256, element_at-take, element_at-drop}
use Rattle.elements.proofs.Lanes.{chosen_inside}
use Rattle.elements.proofs.Vectors.{within, length-vector, vector_cong, vector-element, Bytes-vector}
use Rattle.lanes.specs.Lane.{step}
use Rattle.lanes.specs.Widths.{IsWidth}
use Rattle.lanes.proofs.Laws.{step_lt}
use Rattle.lanes.proofs.Widths.{by_width}
use Rattle.lanes.specs.Recipe.{Recipe}
use Rattle.lanes.specs.Element.{new_element, new_bytes, Inside, ElementThere, RegistersThere}

-- ---- elements of a width

-- 2 to a width, by its bytes
pub power : (wide : ℕ) → IsWidth wide → 256 ^ (wide / 8) ≡ 2 ^ wide
power = by_width (λ n. 256 ^ (n / 8) ≡ 2 ^ n) (pow256 1) (pow256 2) (pow256 4) (pow256 8)

-- so many bytes are whole elements, and each of them ends within
pub whole_elements : (wide : ℕ) → IsWidth wide → (bytes : ℕ) → bytes % 8 ≡ 0 → 8 * bytes / wide * (wide / 8) ≡ bytes
whole_elements wide w bytes h =
    by_width (λ n. 8 * bytes / n * (n / 8) ≡ bytes) (omega arith) (omega arith) (omega arith) (omega arith) wide w

pub element_ends : (wide : ℕ) → IsWidth wide → (bytes : ℕ) → bytes % 8 ≡ 0 → (e : ℕ) → e < 8 * bytes / wide → e * (wide / 8) + wide / 8 ≤ bytes
element_ends wide w bytes h e l = omega (arith, within e (8 * bytes / wide) (wide / 8) l, whole_elements wide w bytes h)

-- ---- the new elements

-- an element by its places, where the vector stands in `old` from byte `at` on and the sources in z from bytes n and m on
pub new_element-at : (r : Recipe) (old : List ℕ) (at : ℕ) (z : List ℕ) (n m e : ℕ)
    → new_element r (drop at old) (drop n z) (drop m z) e
    ≡ step r.saturating r.lane r.wide r.unsigned r.subtract
    (element_at (r.wide / 8) (at + e * (r.wide / 8)) old)
    (element_at (r.lane / 8) (n + chosen_at r.lane r.first e) z)
    (element_at (r.lane / 8) (m + chosen_at r.lane r.second e) z)
unfolding new_element
new_element-at r old at z n m e =
    rw (
      element_at-drop (r.wide / 8) (e * (r.wide / 8)) at old,
      element_at-drop (r.lane / 8) (chosen_at r.lane r.first e) n z,
      element_at-drop (r.lane / 8) (chosen_at r.lane r.second e) m z,
    )

-- what goes into each of them is there
pub there : {r : Recipe} {bytes : ℕ} {z : List ℕ} {at n m : ℕ} → RegistersThere r bytes z at n m → (e : ℕ) → e < 8 * bytes / r.wide → ElementThere r z at n m e
there {r} {bytes} g e h =
    let i = g.inside in
    record {
      old = omega (arith, element_ends r.wide i.widths.1.0 bytes i.whole e h, g.old);
      first = omega (arith, chosen_inside r.lane i.widths.0 r.first (8 * bytes / r.wide) bytes i.first e h, g.first);
      second = omega (arith, chosen_inside r.lane i.widths.0 r.second (8 * bytes / r.wide) bytes i.second e h, g.second);
    }

module _ (r : Recipe) (bytes : ℕ) (old first second : List ℕ) where
  pub Bytes-new_bytes : Bytes (new_bytes r bytes old first second)
  unfolding new_bytes
  Bytes-new_bytes = Bytes-vector (new_element r old first second) (r.wide / 8) (8 * bytes / r.wide)

  module _ (w : IsWidth r.wide) where
    pub length_new : bytes % 8 ≡ 0 → length (new_bytes r bytes old first second) ≡ bytes
    unfolding new_bytes
    length_new h = length-vector (new_element r old first second) (r.wide / 8) (8 * bytes / r.wide) ∙ whole_elements r.wide w bytes h

    -- nothing of an element is lost in its bytes
    pub element-new_bytes : (e : ℕ) → e < 8 * bytes / r.wide → element_of r.wide (new_bytes r bytes old first second) e ≡ new_element r old first second e
    unfolding new_bytes new_element
    element-new_bytes e h =
        vector-element (new_element r old first second) (r.wide / 8) (8 * bytes / r.wide) e h
        ∙ mod-eq_of_lt (rw (power r.wide w) (step_lt r.saturating _ _ r.unsigned r.subtract _ _ _))

  -- what lies beyond the registers does not count
  pub new_bytes_within : (w : ℕ) → Inside r bytes w → new_bytes r bytes (take w old) (take w first) (take w second) ≡ new_bytes r bytes old first second
  unfolding new_bytes new_element
  new_bytes_within w g =
      let k : ℕ = r.wide / 8 in
      let l : ℕ = r.lane / 8 in
      let n : ℕ = 8 * bytes / r.wide in
      vector_cong (new_element r (take w old) (take w first) (take w second)) (new_element r old first second) k n
      (λ e h.
      rw (
        element_at-take k (e * k) w old (omega (arith, element_ends r.wide g.widths.1.0 bytes g.whole e h, g.room)),
        element_at-take l (chosen_at r.lane r.first e) w first (chosen_inside r.lane g.widths.0 r.first n w g.first e h),
        element_at-take l (chosen_at r.lane r.second e) w second (chosen_inside r.lane g.widths.0 r.second n w g.second e h),
      ))
