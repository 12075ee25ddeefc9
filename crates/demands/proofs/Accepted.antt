-- The step of an accepted word, under each statement of specs/Execution.antt. Assumes nothing.
use Prim.Native.Nat.{ℕ, ◌+◌, ◌-◌, ◌*◌, ◌/◌, ◌%◌, ◌<◌}
use native.Mathlib.Nat.{add-zero, zero-add, zero-mul, mul_comm, mul_assoc, mod-lt}
use native.Mathlib.Omega.{arith}
use mathlib.Core.Path.{◌≡◌, refl, sym, ap, ◌∙◌}
use mathlib.Core.Logic.{inl, inr}
use mathlib.Core.List.{List}
use lib.ListN.{length, length-drop}
use lib.Seq.{take_all}
use Rattle.settings.specs.Lengths.{VectorLength}
use Rattle.settings.specs.Valid.{vector_bytes, array_bytes}
use Rattle.settings.specs.declared.Settings.{Settings}
use Rattle.settings.proofs.Lengths.{vector_length, array_length, vector_bits, same_length}
use Rattle.words.specs.Ranges.{Ranges}
use Rattle.words.specs.declared.Family.{Family}
use Rattle.words.specs.declared.Family.TheVariants.{ByElement, Vector, Saturating, LongLong, Long}
use Rattle.words.specs.declared.Fields.{Fields}
use Rattle.elements.specs.Elements.{zeros, element_of}
use Rattle.elements.proofs.Files.{room, length-vector_at}
use Rattle.lanes.specs.Lane.{step}
use Rattle.bits.specs.Bits.{over_bytes, rose, fell}
use Rattle.bits.proofs.Bits.{Unmoved, rose_unmoved, fell_unmoved, bytes_same, rises_same, falls_same, rises-zeros, falls-zeros}
use Rattle.recipes.specs.Recipe.{recipe_of, new_length, per_source}
use Rattle.lanes.specs.Element.{new_element}
use Rattle.recipes.proofs.Inside.{in_half}
use Rattle.machine.specs.Step.{register, z_after, stride, selected, first_vector, za_after}
use Rattle.machine.specs.Execute.{stepped}
use Rattle.machine.specs.Loop.{IntoV, IntoZa}
use Rattle.machine.proofs.Renewal.{v_length}
use Rattle.machine.proofs.Stepping.{v_into_z, stepped_z, stepped_za, written_z, written_za}
use Rattle.machine.proofs.Grid.{rows_distinct, row_lt}
use Rattle.machine.proofs.Array.{grid, first_multiple, passes}
use Rattle.demands.specs.Execution.{vl_of, Accepted, KeepsIfRefused, SameLengths, StillBytes, CountsEach, AtMostWritten}
use Rattle.demands.specs.Execution.{ElementsA, ElementsB, ElementsC, ElementsZa}
use Rattle.demands.specs.Execution.{low_part, upper_part, ClearsAbove, CountsCleared, SameAt128, ElsewhereZ}
use Rattle.demands.specs.Execution.{za_vector, Among, First, Distinct, Exact}
use Rattle.demands.proofs.Effects.{z-length, z_bytes, z_few, z_elsewhere, z_low, z_above, z_counts, z_element}
use Rattle.demands.proofs.Effects.{za-length, za_bytes, za_few, among, za_elsewhere, za_element}
use Rattle.demands.proofs.Outcomes.{accepted_ranges, by_step, stepped_number}

-- ---- an accepted word

module _ (s : Settings) (w : ℕ) (f : Fields) (z za : List ℕ) (a : Accepted s w f z za) where
  v : VectorLength (vector_bytes s)
  v = vector_length s a.valid

  v_za : VectorLength (array_bytes s)
  v_za = array_length s a.valid

  g : Ranges f
  g = accepted_ranges s w z za f a

  array_bits : 8 * array_bytes s ≡ vl_of s
  array_bits = ap (λ (n : ℕ). 8 * n) (same_length s) ∙ vector_bits s a.valid

  -- ---- of every step

  pub step_accepts : KeepsIfRefused z za (stepped s f z za)
  step_accepts n = absurd (n (stepped_number s f z za))

  pub step_lengths : SameLengths z za (stepped s f z za)
  step_lengths = by_step s f z za (SameLengths z za) (λ _. (z-length s v f g z a.z_exact, refl)) (λ i. (refl, za-length s v_za f g i z za a.za_exact))

  pub step_bytes : StillBytes z za (stepped s f z za)
  step_bytes =
      by_step s f z za (StillBytes z za)
      (λ _ b c. (z_bytes s v f g z a.z_exact b, c))
      (λ i b c. (b, za_bytes s v_za f g i z za a.za_exact c))

  pub step_each : CountsEach z za (stepped s f z za)
  step_each = by_step s f z za (CountsEach z za) (λ _. (refl, refl)) (λ _. (refl, refl))

  pub step_few : AtMostWritten z za (stepped s f z za)
  step_few =
      by_step s f z za (AtMostWritten z za)
      (λ i. rw (rises_same za, falls_same za, written_z s f i) (omega (arith, vector_bits s a.valid, z_few s v f g z a.z_exact)))
      (λ i.
      let k : ℕ = per_source f.family in
      let e : f.group * k * (8 * array_bytes s) ≡ vl_of s * f.group * k =
      rw array_bits (mul_comm (f.group * k) (vl_of s) ∙ sym (mul_assoc (vl_of s) f.group k)) in
      rw (rises_same z, falls_same z, written_za s f i) (omega (arith, za_few s v_za f g i z za a.za_exact)))

  -- ---- the elements that are new, by the family's recipe

  in_z : (family : Family) → f.family ≡ family → (e : ℕ) → e < 8 * new_length family (vector_bytes s) / (recipe_of family f 0).wide
      → element_of (recipe_of family f 0).wide (register s (z_after s f z) f.destination) e
      ≡ new_element (recipe_of family f 0) (register s z f.destination) (register s z f.first) (register s z f.second) e
  in_z family q = rw (← q) (z_element s v f g z a.z_exact)

  in-za : (family : Family) → f.family ≡ family → IntoZa f → (r i : ℕ) → r < f.group → i < per_source family
      → (e : ℕ) → e < 8 * array_bytes s / (recipe_of family f i).wide
      → element_of (recipe_of family f i).wide (za_vector s (za_after s f z za) (first_vector s f + r * stride s f + i)) e
      ≡ new_element (recipe_of family f i) (za_vector s za (first_vector s f + r * stride s f + i)) (register s z (f.first + r)) (register s z (f.second + r)) e
  in-za family q into = rw (← q) (za_element s v_za f g into z za a.za_exact)

  -- element e of half Q, in the order of the statement
  of_half : (e : ℕ) → 1 * e + f.part * (64 / f.lane) ≡ f.part * (64 / f.lane) + e
  of_half e = omega arith

  pub elements_a : f.family ≡ ByElement → ElementsA s f z za (stepped_z s f z za)
  unfolding new_element step
  elements_a q e h = in_z ByElement q e (rw (← in_half g.lane) h) ∙ rw (of_half e, zero-mul e, zero-add f.index)

  pub elements_b : f.family ≡ Vector → ElementsB s f z za (stepped_z s f z za)
  unfolding new_element step
  elements_b q e h = in_z Vector q e (rw (← in_half g.lane) h) ∙ rw (of_half e)

  pub elements_c : f.family ≡ Saturating → ElementsC s f z za (stepped_z s f z za)
  unfolding new_element step
  elements_c q e h = in_z Saturating q e (rw (vector_bits s a.valid) h)

  pub elements_d : f.family ≡ LongLong → ElementsZa 4 s f z za (stepped_za s f z za)
  unfolding new_element step
  elements_d q r i e hr hi h = in-za LongLong q (inl q) r i hr hi e (rw array_bits h)

  pub elements_e : f.family ≡ Long → ElementsZa 2 s f z za (stepped_za s f z za)
  unfolding new_element step
  elements_e q r i e hr hi h = in-za Long q (inr q) r i hr hi e (rw array_bits h)

  -- ---- the upper part of a V write

  module _ (i : IntoV f) where
    sixteen : new_length f.family (vector_bytes s) ≡ 16
    sixteen = v_length f (vector_bytes s) i

    pub clears_above : ClearsAbove s f z za (stepped_z s f z za)
    clears_above = rw (← sixteen) (z_above s v f g z a.z_exact)

    -- the count of a test, of which ZA has none
    in_parts : (t : ℕ → ℕ → ℕ) → Unmoved t
        → over_bytes t z (z_after s f z) + over_bytes t za za
        ≡ over_bytes t (low_part s f.destination z) (low_part s f.destination (z_after s f z))
        + over_bytes t (upper_part s f.destination z) (zeros (vector_bytes s - 16))
    in_parts t same = rw (bytes_same t same za, add-zero, ← sixteen) (z_counts s v f g z a.z_exact t same)

    pub counts_cleared : CountsCleared s f z za (stepped_z s f z za)
    counts_cleared =
        let upper : List ℕ = upper_part s f.destination z in
        let long : length upper ≡ vector_bytes s - 16 =
        rw (length-drop, length-vector_at (vector_bytes s) f.destination z (room f.destination 32 (vector_bytes s) z a.z_exact g.destination)) in (
          omega (arith, in_parts rose rose_unmoved, rises-zeros upper (vector_bytes s - 16)),
          omega (arith, in_parts fell fell_unmoved, falls-zeros upper (vector_bytes s - 16) long),
        )

    pub same_at_128 : SameAt128 s f z za (stepped_z s f z za)
    same_at_128 e =
        let w : ℕ = vector_bytes s in
        let all : w ≡ 16 = omega (arith, vector_bits s a.valid) in
        let now : List ℕ = register s (z_after s f z) f.destination in
        let long : length now ≡ w =
        length-vector_at w f.destination (z_after s f z)
        (room f.destination 32 w (z_after s f z) (z-length s v f g z a.z_exact ∙ a.z_exact) g.destination) in (
          sym (take_all 16 now (omega arith)) ∙ rw (← sixteen) (z_low s v f g z a.z_exact),
          written_z s f (v_into_z f i) ∙ e,
        )

  -- ---- what is not new

  pub out_z : ElsewhereZ s f z za (stepped_z s f z za)
  out_z = (refl, z_elsewhere s v f g z a.z_exact)

  pub out-za : (family : Family) → f.family ≡ family → IntoZa f → (u : ℕ) → u < array_bytes s → (Among (per_source family) s f u → ⊥)
      → za_vector s (za_after s f z za) u ≡ za_vector s za u
  out-za family q into = rw (← q) (za_elsewhere s v_za f g into z za a.za_exact)

  -- ---- the vectors of ZA that the word writes

  stride_in_bits : stride s f ≡ vl_of s / 8 / f.group
  unfolding stride array_bytes
  stride_in_bits = refl

  pub first : IntoZa f → First (per_source f.family) s f
  unfolding first_vector selected
  first into =
      let x : ℕ = selected s f in
      let rows = grid s v_za f g into in
      let l : x % per_source f.family < per_source f.family = mod-lt x rows.some in
      record {
        stride_is = stride_in_bits;
        multiple = first_multiple s v_za f g into;
        rounded_down = omega arith;
        by_less = omega arith;
        fits = rows.fits;
      }

  pub distinct : IntoZa f → Distinct (per_source f.family) s f
  distinct into = rows_distinct (grid s v_za f g into)

  pub exact : IntoZa f → Exact (per_source f.family) s f
  exact into =
      record {
        there = row_lt (grid s v_za f g into);
        exactly = λ u h. (
          among s v_za f g into u h,
          λ m. rw m.is (passes s v_za f g into m.r m.i m.r_below m.i_below),
        );
      }
