-- The chunks of a stepped vector are its eight bytes, one after the other. Assumes nothing.
use mathlib.Core.Path.{◌≡◌, refl, sym, ap, ◌∙◌}
use mathlib.Core.Bool.{Bool, false}
use mathlib.Core.List.{List}
use Prim.Native.Nat.{ℕ, ◌+◌, ◌-◌, ◌*◌, ◌/◌, ◌%◌, ◌^◌, ◌≤◌, ◌<◌}
use native.Mathlib.Nat.{add-mul, mul_assoc}
use native.Mathlib.Omega.{arith}
use lib.Dec.{lit<}
use lib.ListN.{length, drop}
use Rattle.elements.specs.Lanes.{IsLane, each, chosen_at}
use Rattle.elements.specs.Elements.{element_at}
use Rattle.elements.proofs.Elements.{Bytes}
use Rattle.elements.proofs.Lanes.{chosen_inside, chosen-from, chosen_step}
use Rattle.elements.proofs.Vectors.{vector_cong}
use Rattle.lanes.specs.Lane.{step}
use Rattle.lanes.specs.Widths.{IsWidth}
use Rattle.lanes.proofs.Widths.{by_width}
use Rattle.lanes.specs.Recipe.{Recipe, recipe}
use Rattle.lanes.specs.Element.{new_element, new_bytes}
use Rattle.lanes.proofs.Built.{new_element-at, element-new_bytes}
use Rattle.chunks.specs.Chunk.{evenly, even_bytes, Reach, part_step, chunk, Apart}
use Rattle.chunks.proofs.Joined.{joined_cong, elements-joined, element_of_lem}

-- ---- a recipe of even steps, read from its first lanes on

module _ (lane wide : ℕ) (u s : Bool) (sx i sy j : ℕ) (old : List ℕ) (at : ℕ) (z : List ℕ) (n m : ℕ) where
  -- it takes lanes i and j first
  abbrev pub evenly_from : Recipe
  evenly_from = recipe false u s lane wide (each sx i) (each sy j)

  even_element : (x y e : ℕ) → x ≡ n + i * (lane / 8) → y ≡ m + j * (lane / 8)
      → new_element (evenly lane wide u s sx sy) (drop at old) (drop x z) (drop y z) e ≡ new_element evenly_from (drop at old) (drop n z) (drop m z) e
  even_element x y e ex ey =
      let fx : x + chosen_at lane (each sx 0) e ≡ n + chosen_at lane (each sx i) e = omega (arith, chosen-from lane sx i e) in
      let fy : y + chosen_at lane (each sy 0) e ≡ m + chosen_at lane (each sy j) e = omega (arith, chosen-from lane sy j e) in
      rw (new_element-at (evenly lane wide u s sx sy) old at z x y e, new_element-at evenly_from old at z n m e, fx, fy)

  pub even_bytes_lem : (x y bytes : ℕ) → x ≡ n + i * (lane / 8) → y ≡ m + j * (lane / 8)
      → even_bytes lane wide u s old at z x sx y sy bytes ≡ new_bytes evenly_from bytes (drop at old) (drop n z) (drop m z)
  unfolding new_bytes
  even_bytes_lem x y bytes ex ey = vector_cong _ _ (wide / 8) (8 * bytes / wide) (λ e h. even_element x y e ex ey)

-- ---- its chunks

-- elements of `wide` bits fill eight bytes
eight : (wide : ℕ) → IsWidth wide → 64 / wide * (wide / 8) ≡ 8
eight = by_width (λ n. 64 / n * (n / 8) ≡ 8) refl refl refl refl

-- those of chunk c are among those of a vector that has it
among : (wide : ℕ) → IsWidth wide → (c j bytes : ℕ) → 8 * c + 8 ≤ bytes → j < 64 / wide → c * (64 / wide) + j < 8 * bytes / wide
among wide iw c j bytes h =
    by_width (λ n. j < 64 / n → c * (64 / n) + j < 8 * bytes / n) (λ q. omega arith) (λ q. omega arith) (λ q. omega arith) (λ q. omega arith) wide iw

-- where the lanes of the elements of so many bytes are there, so are those of each chunk
pub chunk_reach : (lane wide : ℕ) → IsLane lane → IsWidth wide → (z : List ℕ) (x sx dx bytes c px : ℕ) → dx ≡ sx * (lane / 8)
    → px ≡ x + chosen_at lane (each sx 0) (c * (64 / wide)) → 8 * c + 8 ≤ bytes → Reach lane (8 * bytes / wide) z x sx → Apart lane (64 / wide) z px dx
chunk_reach lane wide l iw z x sx dx bytes c px ed ep h r =
    let last : 64 / wide - 1 < 64 / wide = by_width (λ n. 64 / n - 1 < 64 / n) (lit< tt) (lit< tt) (lit< tt) (lit< tt) wide iw in
    let inside = chosen_inside lane l (each sx 0) (8 * bytes / wide) (length z - x) (omega arith) _ (among wide iw c (64 / wide - 1) bytes h last) in
    rw ed (omega (arith, inside, chosen_step lane sx (c * (64 / wide)) (64 / wide - 1)))

-- sx lanes are dx bytes, and sy are dy
module _ (lane wide : ℕ) (iw : IsWidth wide) (u s : Bool) (old : List ℕ) (at : ℕ) (z : List ℕ) (x sx dx y sy dy : ℕ) (edx : dx ≡ sx * (lane / 8))
    (edy : dy ≡ sy * (lane / 8)) (by : Bytes old) where
  abbrev R : Recipe
  R = evenly lane wide u s sx sy

  abbrev w : ℕ
  w = wide / 8

  abbrev per : ℕ
  per = 64 / wide

  -- element c·per + j begins j·w bytes after chunk c
  place : (c j : ℕ) → (c * (64 / wide) + j) * (wide / 8) ≡ 8 * c + j * (wide / 8)
  place c j = rw (add-mul, mul_assoc, eight wide iw) (omega arith)

  -- what goes into it
  part : (c j before px py : ℕ) → j < 64 / wide → before ≡ element_at 8 (at + 8 * c) old → px ≡ x + chosen_at lane (each sx 0) (c * (64 / wide))
      → py ≡ y + chosen_at lane (each sy 0) (c * (64 / wide))
      → part_step lane wide u s before z px dx py dy j ≡ new_element (evenly lane wide u s sx sy) (drop at old) (drop x z) (drop y z) (c * (64 / wide) + j)
  unfolding part_step step
  part c j before px py h eb ex ey =
      let p = place c j in
      let q : at + (c * per + j) * w ≡ at + 8 * c + j * w = omega arith in
      let own : before / 256 ^ (j * w) % 256 ^ w ≡ element_at w (at + (c * per + j) * w) old =
      rw (q, eb) (rw (eight wide iw) at (element_of_lem w per j (at + 8 * c) old by h)) in
      let fx : px + j * dx ≡ x + chosen_at lane (each sx 0) (c * per + j) = rw (ex, edx) (omega (arith, chosen_step lane sx (c * per) j)) in
      let fy : py + j * dy ≡ y + chosen_at lane (each sy 0) (c * per + j) = rw (ey, edy) (omega (arith, chosen_step lane sy (c * per) j)) in
      rw (new_element-at R old at z x y (c * per + j), own, fx, fy)

  -- chunk c of the vector
  pub chunk-at : (c bytes before px py : ℕ) → 8 * c + 8 ≤ bytes → before ≡ element_at 8 (at + 8 * c) old → px ≡ x + chosen_at lane (each sx 0) (c * (64 / wide))
      → py ≡ y + chosen_at lane (each sy 0) (c * (64 / wide))
      → chunk lane wide u s before z px dx py dy ≡ element_at 8 (8 * c) (even_bytes lane wide u s old at z x sx y sy bytes)
  unfolding chunk
  chunk-at c bytes before px py h eb ex ey =
      let New : List ℕ = even_bytes lane wide u s old at z x sx y sy bytes in
      let all : (j : ℕ) → j < per → part_step lane wide u s before z px dx py dy j ≡ element_at w (8 * c + j * w) New =
      λ j q.
      part c j before px py q eb ex ey
      ∙ sym (ap (λ (k : ℕ). element_at w k New) (sym (place c j))
      ∙ element-new_bytes R bytes (drop at old) (drop x z) (drop y z) iw (c * per + j) (among wide iw c j bytes h q)) in
      joined_cong (part_step lane wide u s before z px dx py dy) (λ j. element_at w (8 * c + j * w) New) w per all
      ∙ sym (elements-joined w per (8 * c) New)
      ∙ ap (λ (k : ℕ). element_at k (8 * c) New) (eight wide iw)
