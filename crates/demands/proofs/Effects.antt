-- What a step leaves in Z and in ZA: each written element, everything else, lengths, bytes and the bits that change. Assumes nothing.
use Prim.Native.Nat.{ℕ, ◌+◌, ◌-◌, ◌*◌, ◌/◌, ◌%◌, ◌≤◌, ◌<◌}
use native.Mathlib.Omega.{arith}
use mathlib.Core.Path.{◌≡◌, refl, sym, ap, ◌∙◌}
use mathlib.Core.Logic.{◌⊎◌, inl, inr, ◌≢◌}
use mathlib.Core.Bool.{true, cond}
use mathlib.Core.List.{List, ◌++◌}
use lib.Dec.{eqb}
use lib.ListN.{length, get_or, take, drop, take-append-drop}
use lib.Seq.{take_at, drop_at, length-take-le, get_or-take, get_or-drop}
use lib.Bits.{differ}
use borrow.Author.Tests.{eq-eqb, ne_eqb}
use Rattle.laws.proofs.Tests.{failed}
use Rattle.settings.specs.Lengths.{VectorLength}
use Rattle.settings.specs.Valid.{vector_bytes, array_bytes}
use Rattle.settings.specs.declared.Settings.{Settings}
use Rattle.words.specs.Ranges.{Ranges}
use Rattle.words.specs.declared.Fields.{Fields}
use Rattle.elements.specs.Elements.{zeros, element_of, splice}
use Rattle.elements.specs.Files.{vector_at}
use Rattle.elements.proofs.Elements.{Bytes, element_at-take, Bytes_append, Bytes-splice, get_d-zeros, Bytes-zeros}
use Rattle.elements.proofs.Files.{next, room, length-vector_at, length-splice, splice_before, splice_after}
use Rattle.elements.proofs.Files.{vector_at-renewed, length-replaced, Bytes-replaced}
use Rattle.bits.specs.Bits.{over_bytes, toggled}
use Rattle.bits.proofs.Bits.{Unmoved, differ_unmoved, differ_once, bytes_append, bytes-splice, bytes_splice_le, toggled_differs}
use Rattle.bits.proofs.Files.{bytes_replaced_le}
use Rattle.recipes.specs.Recipe.{recipe_of, new_length, per_source}
use Rattle.lanes.specs.Element.{new_element, new_bytes}
use Rattle.lanes.proofs.Built.{element_ends, element-new_bytes, Bytes-new_bytes}
use Rattle.recipes.proofs.Inside.{new_length_lem, widths, length-new_bytes}
use Rattle.machine.specs.Step.{register, new_register, z_after, stride, first_vector, writes_vector, new_vector, za_after}
use Rattle.machine.specs.Loop.{place, becomes, IntoZa}
use Rattle.machine.proofs.Grid.{row_of, within_row, row_lt, by_row, place_distinct}
use Rattle.machine.proofs.Array.{grid, tested, passes, placed, array_is}
use Rattle.machine.proofs.Registers.{long-x, long_register, register_is}
use Rattle.demands.specs.Execution.{za_vector, Among}

-- ---- Z

-- byte i of a register is byte i from its start on in Z
pub byte_of : (w d : ℕ) (z : List ℕ) (i : ℕ) → i < w → get_or (vector_at w d z) i 0 ≡ get_or z (d * w + i) 0
unfolding vector_at
byte_of w d z i h = get_or-take w (drop (d * w) z) i 0 h ∙ get_or-drop (d * w) z i 0

module _ (s : Settings) (v : VectorLength (vector_bytes s)) (f : Fields) (g : Ranges f) (z : List ℕ) (z_long : length z ≡ 32 * vector_bytes s) where
  abbrev w : ℕ
  w = vector_bytes s

  abbrev n : ℕ
  n = new_length f.family w

  abbrev x : List ℕ
  x = new_bytes (recipe_of f.family f 0) n (register s z f.destination) (register s z f.first) (register s z f.second)

  abbrev at : ℕ
  at = f.destination * w

  long : length (new_register s f z) ≡ w
  long = long_register s v f g z z_long

  fit : at + length (new_register s f z) ≤ length z
  fit = omega (arith, long, next f.destination w, room f.destination 32 w z z_long g.destination)

  pub z-length : length (z_after s f z) ≡ length z
  z-length = rw (← register_is s v f g z z_long) (length-splice at (new_register s f z) z fit)

  renewed_bytes : Bytes (new_register s f z)
  unfolding new_register
  renewed_bytes = Bytes_append x (zeros (w - n)) (Bytes-new_bytes (recipe_of f.family f 0) n _ _ _) (Bytes-zeros (w - n))

  pub z_bytes : Bytes z → Bytes (z_after s f z)
  z_bytes b = rw (← register_is s v f g z z_long) (Bytes-splice at (new_register s f z) z renewed_bytes b)

  pub z_few : toggled z (z_after s f z) ≤ 8 * vector_bytes s
  z_few =
      rw (← register_is s v f g z z_long)
      (omega (
        arith,
        long,
        toggled_differs z (splice at (new_register s f z) z),
        bytes_splice_le differ differ_once differ_unmoved at (new_register s f z) z fit,
      ))

  -- the bytes outside the register
  pub z_elsewhere : (i : ℕ) → (i < f.destination * vector_bytes s) ⊎ (f.destination * vector_bytes s + vector_bytes s ≤ i) → get_or (z_after s f z) i 0 ≡ get_or z i 0
  z_elsewhere i (inl h) = rw (← register_is s v f g z z_long) (splice_before at (new_register s f z) z fit i h)
  z_elsewhere i (inr h) = rw (← register_is s v f g z z_long) (splice_after at (new_register s f z) z fit i (omega (arith, long)))

  -- register by register: the destination is new, and every other as it was
  each_z : (r : ℕ) → r < 32 → register s (z_after s f z) r ≡ cond (eqb r f.destination) (new_register s f z) (register s z r)
  unfolding z_after
  each_z r h =
      vector_at-renewed (λ r. eqb r f.destination) (λ r. new_register s f z) w 32 z z_long (λ r h e. long_register s v f g z z_long) r h

  pub z_new : register s (z_after s f z) f.destination ≡ new_register s f z
  z_new = each_z f.destination g.destination ∙ rw (eq-eqb f.destination f.destination refl)

  pub z_same : (r : ℕ) → r < 32 → f.destination ≢ r → register s (z_after s f z) r ≡ register s z r
  z_same r h apart = each_z r h ∙ rw (ne_eqb r f.destination (λ e. apart (sym e)))

  -- the bytes that its elements fill, and those above them
  long_elements : length x ≡ n
  long_elements = long-x s v f g z z_long

  pub z_low : take (new_length f.family (vector_bytes s)) (register s (z_after s f z) f.destination)
      ≡ new_bytes (recipe_of f.family f 0) (new_length f.family (vector_bytes s)) (register s z f.destination) (register s z f.first) (register s z f.second)
  unfolding new_register
  z_low = ap (take n) z_new ∙ take_at x (zeros (w - n)) n long_elements

  z_high : drop n (register s (z_after s f z) f.destination) ≡ zeros (w - n)
  unfolding new_register
  z_high = ap (drop n) z_new ∙ drop_at x (zeros (w - n)) n long_elements

  pub z_above : (i : ℕ) → new_length f.family (vector_bytes s) ≤ i → i < vector_bytes s → get_or (z_after s f z) (f.destination * vector_bytes s + i) 0 ≡ 0
  z_above i l h =
      let j : ℕ = i - n in
      let e : n + j ≡ i = omega arith in
      sym (byte_of w f.destination (z_after s f z) i h)
      ∙ ap (λ (k : ℕ). get_or (register s (z_after s f z) f.destination) k 0) (sym e)
      ∙ sym (get_or-drop n (register s (z_after s f z) f.destination) j 0)
      ∙ ap (λ (u : List ℕ). get_or u j 0) z_high
      ∙ get_d-zeros (w - n) j

  -- the count of a test: of the bytes that the elements fill, and of those above them, which become zeros
  pub z_counts : (t : ℕ → ℕ → ℕ) → Unmoved t
      → over_bytes t z (z_after s f z)
      ≡ over_bytes t (take (new_length f.family (vector_bytes s)) (register s z f.destination))
      (take (new_length f.family (vector_bytes s)) (register s (z_after s f z) f.destination))
      + over_bytes t (drop (new_length f.family (vector_bytes s)) (register s z f.destination)) (zeros (vector_bytes s - new_length f.family (vector_bytes s)))
  unfolding new_register vector_at
  z_counts t same =
      let old : List ℕ = register s z f.destination in
      let short : length (take n old) ≡ length x =
      length-take-le n old (omega (arith, length-vector_at w f.destination z (room f.destination 32 w z z_long g.destination), (new_length_lem f.family w v).1))
      ∙ sym long_elements in
      ap (over_bytes t z) (sym (register_is s v f g z z_long))
      ∙ bytes-splice t same at (new_register s f z) z fit
      ∙ ap (λ (k : ℕ). over_bytes t (take k (drop at z)) (new_register s f z)) long
      ∙ ap (λ (u : List ℕ). over_bytes t u (new_register s f z)) (sym (take-append-drop n old))
      ∙ bytes_append t (take n old) x (drop n old) (zeros (w - n)) short
      ∙ ap (λ (u : List ℕ). over_bytes t (take n old) u + over_bytes t (drop n old) (zeros (w - n))) (sym z_low)

  -- an element of the destination
  pub z_element : (e : ℕ) → e < 8 * new_length f.family (vector_bytes s) / (recipe_of f.family f 0).wide
      → element_of (recipe_of f.family f 0).wide (register s (z_after s f z) f.destination) e
      ≡ new_element (recipe_of f.family f 0) (register s z f.destination) (register s z f.first) (register s z f.second) e
  unfolding new_register
  z_element e h =
      let b : ℕ = (recipe_of f.family f 0).wide in
      let rest : List ℕ = zeros (w - n) in
      ap (λ (l : List ℕ). element_of b l e) z_new
      ∙ sym (element_at-take (b / 8) (e * (b / 8)) n (x ++ rest) (element_ends b (widths f g 0).1.0 n (new_length_lem f.family w v).0 e h))
      ∙ ap (λ (l : List ℕ). element_of b l e) (take_at x rest n long_elements)
      ∙ element-new_bytes (recipe_of f.family f 0) n _ _ _ (widths f g 0).1.0 e h

-- ---- ZA

module _ (s : Settings) (v : VectorLength (array_bytes s)) (f : Fields) (g : Ranges f) (into : IntoZa f) where
  -- the vectors that are written, by r and i
  pub among : (u : ℕ) → u < array_bytes s → writes_vector s f u ≡ true → Among (per_source f.family) s f u
  among u h e =
      let b = by_row (grid s v f g into) u h (tested s v f g into u e) in
      record { r = u / stride s f; i = u % stride s f - first_vector s f; r_below = b.0; i_below = b.1; is = sym b.2 }

module _ (s : Settings) (v : VectorLength (array_bytes s)) (f : Fields) (g : Ranges f) (into : IntoZa f) (z za : List ℕ)
    (long : length za ≡ array_bytes s * array_bytes s) where
  abbrev k : ℕ
  k = per_source f.family

  abbrev at_za : ℕ → ℕ
  at_za = place (first_vector s f) (stride s f) k

  abbrev new_za : ℕ → List ℕ
  new_za = becomes f (array_bytes s) (first_vector s f) (stride s f) k z za

  pub za-length : length (za_after s f z za) ≡ length za
  za-length =
      rw (← array_is s v f g into z za long)
      (length-replaced at_za new_za (array_bytes s) (array_bytes s) za (f.group * k) (placed s v f g into z za long))

  pub za_bytes : Bytes za → Bytes (za_after s f z za)
  unfolding becomes
  za_bytes b =
      rw (← array_is s v f g into z za long)
      (Bytes-replaced at_za new_za (array_bytes s) (array_bytes s) za (f.group * k) (λ q h. Bytes-new_bytes _ (array_bytes s) _ _ _) b)

  pub za_few : toggled za (za_after s f z za) ≤ f.group * per_source f.family * (8 * array_bytes s)
  za_few =
      rw (toggled_differs za (za_after s f z za), ← array_is s v f g into z za long)
      (bytes_replaced_le differ differ_unmoved at_za new_za (array_bytes s) (array_bytes s) za differ_once (f.group * k)
      (placed s v f g into z za long) (place_distinct (grid s v f g into)))

  -- vector by vector
  pub each-za : (u : ℕ) → u < array_bytes s
      → za_vector s (za_after s f z za) u
      ≡ cond (writes_vector s f u) (new_vector s f z (u / stride s f) (u % stride s f - first_vector s f) (za_vector s za u)) (za_vector s za u)
  unfolding za_after new_vector
  each-za u h =
      vector_at-renewed (writes_vector s f) (λ u. new_vector s f z (u / stride s f) (u % stride s f - first_vector s f) (za_vector s za u))
      (array_bytes s) (array_bytes s) za long
      (λ u q e. length-new_bytes f g _ (array_bytes s) _ _ _ (omega (arith, v.whole))) u h

  pub za_elsewhere : (u : ℕ) → u < array_bytes s → (Among (per_source f.family) s f u → ⊥) → za_vector s (za_after s f z za) u ≡ za_vector s za u
  za_elsewhere u h out = each-za u h ∙ rw (failed (writes_vector s f u) (λ e. out (among s v f g into u h e)))

  za_vector_lem : (r i : ℕ) → r < f.group → i < per_source f.family
      → za_vector s (za_after s f z za) (first_vector s f + r * stride s f + i)
      ≡ new_vector s f z r i (za_vector s za (first_vector s f + r * stride s f + i))
  za_vector_lem r i hr hi =
      let u : ℕ = first_vector s f + r * stride s f + i in
      let a : u / stride s f ≡ r = row_of (grid s v f g into) r i hi in
      let b : u % stride s f - first_vector s f ≡ i = omega (arith, within_row (grid s v f g into) r i hi) in
      each-za u (row_lt (grid s v f g into) r i hr hi) ∙ rw (passes s v f g into r i hr hi, a, b)

  pub za_element : (r i : ℕ) → r < f.group → i < per_source f.family → (e : ℕ) → e < 8 * array_bytes s / (recipe_of f.family f i).wide
      → element_of (recipe_of f.family f i).wide (za_vector s (za_after s f z za) (first_vector s f + r * stride s f + i)) e
      ≡ new_element (recipe_of f.family f i) (za_vector s za (first_vector s f + r * stride s f + i)) (register s z (f.first + r)) (register s z (f.second + r)) e
  unfolding new_vector
  za_element r i hr hi e h =
      ap (λ (l : List ℕ). element_of (recipe_of f.family f i).wide l e) (za_vector_lem r i hr hi)
      ∙ element-new_bytes (recipe_of f.family f i) (array_bytes s) _ _ _ (widths f g i).1.0 e h
