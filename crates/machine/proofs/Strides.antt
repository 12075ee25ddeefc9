-- What `chunks` writes, of lanes at even steps, is what the recipes of A, B, D and E say. Assumes nothing.
use Prim.Native.Nat.{ℕ, ◌+◌, ◌-◌, ◌*◌, ◌/◌, ◌%◌, ◌≤◌, ◌<◌}
use native.Mathlib.Nat.{mul-div_cancel}
use native.Mathlib.Omega.{arith}
use mathlib.Core.Path.{◌≡◌, refl, sym, ap, ◌∙◌, subst}
use mathlib.Core.Logic.{inl, inr, ⊎_elim}
use mathlib.Core.List.{List}
use lib.Dec.{lit≤}
use lib.ListN.{length, drop}
use Rattle.elements.specs.Lanes.{IsLane, each, Reaches}
use Rattle.elements.proofs.Lanes.{by_lane, chosen-from}
use Rattle.elements.proofs.Files.{next, room}
use Rattle.words.specs.Ranges.{Ranges}
use Rattle.words.specs.declared.Family.{Family}
use Rattle.words.specs.declared.Family.TheVariants.{ByElement, Vector, LongLong, Long}
use Rattle.words.specs.declared.Fields.{Fields}
use Rattle.words.proofs.Ranges.{in_family}
use Rattle.lanes.proofs.Widths.{lane_range, width_range}
use Rattle.bits.specs.Replace.{Replaced}
use Rattle.bits.specs.declared.Toggles.{Toggles}
use Rattle.chunks.specs.Chunk.{even_bytes, Reach, OfArray}
use Rattle.chunks.proofs.Parts.{array_chunk}
use Rattle.chunks.proofs.Strides.{even_bytes_lem}
use Rattle.recipes.specs.Recipe.{wrapping, recipe_of, new_length, per_source}
use Rattle.lanes.specs.Element.{new_bytes, Inside}
use Rattle.recipes.proofs.Inside.{half_in, index_in, inside}
use Rattle.machine.specs.Loop.{made, RegisterRenewed, IntoZa, Sources, Places}
use Rattle.machine.proofs.Renewal.{source_lt, first_source, register_there, renewal, whole_vector}

-- the lanes that lie in a register are there, from lane number `from` on
reach : {f : Fields} {w : ℕ} {z : List ℕ} → Sources f w z → (x from by n y : ℕ) → x < 32 → y ≡ x * w + from * (f.lane / 8)
    → Reaches f.lane (each by from) n w → Reach f.lane n z y by
reach {f} p x from by n y h e r = omega (arith, register_there p x h, chosen-from f.lane by from (n - 1))

-- ---- A and B

-- a half has 8 bytes
half_bytes : {lane : ℕ} → IsLane lane → (part : ℕ) → part * 8 ≡ part * (64 / lane) * (lane / 8)
half_bytes {lane} l part = by_lane (λ n. part * 8 ≡ part * (64 / n) * (n / 8)) (omega arith) (omega arith) (omega arith) lane l

module _ {f : Fields} {w : ℕ} {z : List ℕ} (p : Sources f w z) where
  -- where the code reads, and that it is there
  abbrev At : ℕ
  At = f.destination * w

  -- the lanes of half Q of register x
  abbrev Half : ℕ → ℕ
  Half x = x * w + f.part * 8

  abbrev Index : ℕ
  Index = f.second * w + f.index * (f.lane / 8)

  at_half : (x : ℕ) → Half x ≡ x * w + f.part * (64 / f.lane) * (f.lane / 8)
  at_half x = ap (λ (n : ℕ). x * w + n) (half_bytes p.ranges.lane f.part)

  -- the new bytes, where the second source is read from byte y on in steps of `by`
  abbrev New : ℕ → ℕ → List ℕ
  New y by = even_bytes f.lane (2 * f.lane) f.unsigned f.subtract z At z (Half f.first) 1 y by 16

  abbrev Same : ℕ → ℕ → Family → Type 0
  Same y by family = New y by ≡ new_bytes (recipe_of family f 0) (new_length family w) (drop At z) (drop (f.first * w) z) (drop (f.second * w) z)

  v_renewal : (family : Family) → f.family ≡ family → (y by : ℕ) → Same y by family
      → (z' : List ℕ) (t : Toggles) → Replaced At t (New y by) z z' → RegisterRenewed f w t z z'
  v_renewal family e y by same z' t =
      renewal p 0 (first_source p) (new_length f.family w) refl f.destination f.first f.second z _ z' t (subst (Same y by) (sym e) same)

  pub by_element_lem : f.family ≡ ByElement → (z' : List ℕ) (t : Toggles) → Replaced At t (New Index 0) z z' → RegisterRenewed f w t z z'
  by_element_lem e =
      v_renewal ByElement e Index 0
      (even_bytes_lem f.lane (2 * f.lane) f.unsigned f.subtract 1 _ 0 f.index z At z (f.first * w) (f.second * w) _ Index 16 (at_half f.first) refl)

  pub by_pairs : f.family ≡ Vector → (z' : List ℕ) (t : Toggles) → Replaced At t (New (Half f.second) 1) z z' → RegisterRenewed f w t z z'
  by_pairs e =
      v_renewal Vector e (Half f.second) 1
      (even_bytes_lem f.lane (2 * f.lane) f.unsigned f.subtract 1 _ 1 _ z At z (f.first * w) (f.second * w) _ _ 16 (at_half f.first) (at_half f.second))

-- ---- D and E

-- the lanes, and the elements of k lanes, as a word has them
array_lanes : (f : Fields) → Ranges f → IntoZa f → (k : ℕ) → k ≡ per_source f.family → OfArray f.lane (k * f.lane)
array_lanes f g (inl e) k ek =
    rw (ek ∙ ap per_source e)
    (⊎_elim (λ (q : f.lane ≡ 8). rw q (inl (refl, refl))) (λ (q : f.lane ≡ 16). rw q (inr (inl (refl, refl)))) (in_family f g LongLong e).1)
array_lanes f g (inr e) k ek = rw (ek ∙ ap per_source e, (in_family f g Long e).1) (inr (inr (refl, refl)))

-- the recipe, by the k that the code was told
by-k : (f : Fields) → IntoZa f → (k : ℕ) → k ≡ per_source f.family → (i : ℕ) → recipe_of f.family f i ≡ wrapping f k (each k i) (each k i)
by-k f (inl e) k ek i = rw (ek ∙ ap per_source e, e)
by-k f (inr e) k ek i = rw (ek ∙ ap per_source e, e)

module _ {f : Fields} {w : ℕ} {z za : List ℕ} (p : Places f w z za) (k : ℕ) (ek : k ≡ per_source f.family) where
  pub of_array : OfArray f.lane (k * f.lane)
  of_array = array_lanes f p.sources.ranges p.into k ek

  -- an element has the bits of k lanes, and at most 64
  steps : k * f.lane / f.lane ≡ k
  steps = mul-div_cancel k (omega (arith, lane_range f.lane p.sources.ranges.lane))

  module _ (r i : ℕ) (hr : r < f.group) (hi : i < k) where
    abbrev From : ℕ → ℕ
    From x = (x + r) * w + i * (f.lane / 8)

    found : i < per_source f.family
    found = subst (λ (n : ℕ). i < n) ek hi

    module _ (v : ℕ) where
      pub array_renewal : (za' : List ℕ) (t : Toggles)
          → Replaced (v * w) t (even_bytes f.lane (k * f.lane) f.unsigned f.subtract za (v * w) z (From f.first) (k * f.lane / f.lane) (From f.second) (k * f.lane / f.lane) w) za za'
          → Replaced (v * w) t (made f i w w v za (f.first + r) (f.second + r) z) za za'
      array_renewal za' t =
          renewal p.sources i found w (whole_vector p) v (f.first + r) (f.second + r) za _ za' t
          (rw (by-k f p.into k ek i, steps)
          (even_bytes_lem f.lane (k * f.lane) f.unsigned f.subtract k i k i za (v * w) z ((f.first + r) * w) ((f.second + r) * w) _ _ w refl refl))
