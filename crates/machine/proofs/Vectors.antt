-- The turns of the loop over a word's vectors of ZA. Assumes nothing.
use Prim.Native.Nat.{ℕ, suc, ◌+◌, ◌*◌, ◌/◌, ◌%◌, ◌≤◌, ◌<◌}
use native.Mathlib.Nat.{add-mul, one-mul, mul-le-mul_right}
use native.Mathlib.Numerals.{add-one}
use native.Mathlib.Omega.{arith}
use mathlib.Core.Path.{◌≡◌, sym, ap, ap₂, ◌∙◌}
use mathlib.Core.Logic.{◌⊎◌, inl, inr}
use mathlib.Core.List.{List}
use Rattle.words.specs.declared.Fields.{Fields}
use Rattle.elements.specs.Elements.{splice}
use Rattle.elements.specs.Files.{vector_at, replaced}
use Rattle.elements.proofs.Files.{Placed, replaced_out}
use Rattle.bits.specs.Bits.{over_bytes, rose, fell, rises, falls}
use Rattle.bits.specs.Replace.{Replaced}
use Rattle.bits.specs.declared.Toggles.{Toggles}
use Rattle.bits.proofs.Bits.{Unmoved, rose_unmoved, fell_unmoved}
use Rattle.bits.proofs.Files.{bytes-replaced}
use Rattle.recipes.specs.Recipe.{recipe_of, per_source}
use Rattle.lanes.specs.Element.{new_bytes}
use Rattle.recipes.proofs.Inside.{length-new_bytes}
use Rattle.machine.specs.Loop.{made, Grid, place, becomes, Places}
use Rattle.machine.proofs.Grid.{place_distinct}
use Rattle.machine.proofs.Array.{group_numbers, two_or_four_vectors, placed_to}

module _ {f : Fields} {w : ℕ} {z za₀ : List ℕ} (p : Places f w z za₀) {stride k first : ℕ} (g : Grid w f.group stride k first) where
  -- 16 vectors at most
  pub few_vectors : k ≡ per_source f.family → f.group * k ≤ 16
  few_vectors e = by (group_numbers f p.sources.ranges p.into) (two_or_four_vectors f p.into k e)
    where
      by : (f.group ≡ 2) ⊎ (f.group ≡ 4) → (k ≡ 2) ⊎ (k ≡ 4) → f.group * k ≤ 16
      by (inl a) (inl b) = rw (a, b) (omega arith)
      by (inl a) (inr b) = rw (a, b) (omega arith)
      by (inr a) (inl b) = rw (a, b) (omega arith)
      by (inr a) (inr b) = rw (a, b) (omega arith)

  abbrev at : ℕ → ℕ
  at = place first stride k

  abbrev new : ℕ → List ℕ
  new = becomes f w first stride k z za₀

  so_far : (n : ℕ) → n ≤ f.group * k → Placed at new w w n za₀
  so_far = placed_to f p.sources.ranges p.sources.width g z za₀ p.za_long

  -- vector q is as it was until its turn
  not_yet : (q : ℕ) → q < f.group * k → vector_at w (at q) (replaced at new w q za₀) ≡ vector_at w (at q) za₀
  not_yet q h =
      replaced_out at new w w za₀ q (at q) (so_far q (omega arith))
      (λ j l e. let d = place_distinct g j q (omega arith) h e in omega arith)

  pub record Turned (q : ℕ) (d : Toggles) (za za' : List ℕ) : Type 0 where
    pub after : za' ≡ replaced at new w (q + 1) za₀
    pub rise : rises za₀ za + d.rises ≡ rises za₀ za'
    pub fall : falls za₀ za + d.falls ≡ falls za₀ za'
    pub few : d.rises + d.falls ≤ 8 * w

  turn_at : (q : ℕ) (d : Toggles) (za za' : List ℕ) → q < f.group * k → za ≡ replaced at new w q za₀
      → Replaced (at q * w) d (made f (q % k) w w (at q) za (f.first + q / k) (f.second + q / k) z) za za'
      → Turned q d za za'
  unfolding becomes replaced
  turn_at q d za za' h e r =
      let old : vector_at w (at q) za ≡ vector_at w (at q) za₀ = ap (vector_at w (at q)) e ∙ not_yet q h in
      let here : za' ≡ splice (at q * w) (new q) (replaced at new w q za₀) =
      r.after
      ∙ ap (λ (o : List ℕ). splice (at q * w) (new_bytes (recipe_of f.family f (q % k)) w o (vector_at w (f.first + q / k) z) (vector_at w (f.second + q / k) z)) za) old
      ∙ ap (λ (s : List ℕ). splice (at q * w) (new q) s) e in
      let counts : (t : ℕ → ℕ → ℕ) → Unmoved t → over_bytes t za₀ za + over_bytes t za za' ≡ over_bytes t za₀ za' =
      λ t same.
      ap₂ ◌+◌ (ap (over_bytes t za₀) e) (ap₂ (over_bytes t) e here)
      ∙ sym (ap (over_bytes t za₀) here ∙ bytes-replaced t same at new w w za₀ q (so_far (suc q) h) (λ i j hi hj. place_distinct g i j (omega arith) (omega arith))) in
      record {
        after = here ∙ ap (λ (n : ℕ). replaced at new w n za₀) (sym (add-one q));
        rise = ap (λ (b : Toggles). rises za₀ za + b.rises) r.bits ∙ counts rose rose_unmoved;
        fall = ap (λ (b : Toggles). falls za₀ za + b.falls) r.bits ∙ counts fell fell_unmoved;
        few = omega (arith, r.few, length-new_bytes f p.sources.ranges (q % k) w (vector_at w (at q) za) (vector_at w (f.first + q / k) z) (vector_at w (f.second + q / k) z) (omega (arith, p.sources.width.whole)));
      }

  -- of the r and i that the code has
  pub turn : (q : ℕ) (d : Toggles) (r i : ℕ) (za za' : List ℕ) → q < f.group * k → za ≡ replaced at new w q za₀ → r ≡ q / k → i ≡ q % k
      → Replaced ((first + r * stride + i) * w) d (made f i w w (first + r * stride + i) za (f.first + r) (f.second + r) z) za za'
      → Turned q d za za'
  unfolding place
  turn q d r i za za' h e er ei = rw (er, ei) (turn_at q d za za' h e)

-- a count so far, and that it stays small
pub count_next : (w q n t d : ℕ) → w ≤ 256 → n ≤ 16 → q < n → t ≤ q * (8 * w) → d ≤ 8 * w → (t + d ≤ (q + 1) * (8 * w)) × (t + d ≤ 32768)
count_next w q n t d hw hn hq ht hd =
    let a : t + d ≤ (q + 1) * (8 * w) = omega (arith, add-mul q 1 (8 * w), one-mul (8 * w)) in
    let b : (q + 1) * (8 * w) ≤ 16 * (8 * w) = mul-le-mul_right (8 * w) (omega arith) in
    (a, omega arith)
