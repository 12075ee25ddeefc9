-- A vector that becomes new in its place; C's is built aside, and what is above a V register cleared. Assumes nothing.
use Prim.Native.Nat.{ℕ, ◌+◌, ◌-◌, ◌*◌, ◌%◌, ◌≤◌, ◌<◌}
use native.Mathlib.Nat.{mul-le-mul}
use native.Mathlib.Omega.{arith}
use mathlib.Core.Path.{◌≡◌, refl, sym, ap, ◌∙◌, subst}
use mathlib.Core.Logic.{◌≢◌, ◌⊎◌, inl, inr}
use mathlib.Core.List.{List, ◌++◌, append-nil}
use lib.Dec.{lit<}
use lib.ListN.{length, drop}
use Rattle.settings.specs.Lengths.{VectorLength}
use Rattle.words.specs.Ranges.{Ranges, OfFamily}
use Rattle.words.specs.declared.Family.{Family}
use Rattle.words.specs.declared.Family.TheVariants.{ByElement, Vector, Saturating, LongLong, Long}
use Rattle.words.specs.declared.Fields.{Fields}
use Rattle.words.proofs.Ranges.{in_family}
use Rattle.elements.specs.Files.{vector_at}
use Rattle.elements.proofs.Vectors.{within}
use Rattle.elements.specs.Elements.{zeros}
use Rattle.elements.proofs.Elements.{length-zeros}
use Rattle.elements.proofs.Files.{next, room, length-splice}
use Rattle.bits.specs.Replace.{Replaced}
use Rattle.bits.proofs.Put.{behind}
use Rattle.bits.specs.declared.Toggles.{Toggles}
use Rattle.lanes.specs.Recipe.{Recipe}
use Rattle.recipes.specs.Recipe.{recipe_of, new_length, per_source, OfC}
use Rattle.lanes.specs.Element.{new_bytes, Inside, RegistersThere}
use Rattle.recipes.proofs.Inside.{new_length_lem, length-new_bytes, inside}
use Rattle.lanes.proofs.Built.{new_bytes_within}
use Rattle.machine.specs.Loop.{made, RegisterRenewed, RegisterWritten, IntoV, IntoZa, Sources, Places}

two_or_four : {n : ℕ} → (n ≡ 2) ⊎ (n ≡ 4) → 0 < n
two_or_four (inl e) = omega arith
two_or_four (inr e) = omega arith

pub two : {n : ℕ} → (n ≡ 2) ⊎ (n ≡ 4) → n ≢ 4 → n ≡ 2
two (inl e) h = e
two (inr e) h = absurd (h e)

some_source : (family : Family) → 0 < per_source family
some_source ByElement = lit< tt
some_source Vector = lit< tt
some_source Saturating = lit< tt
some_source LongLong = lit< tt
some_source Long = lit< tt

-- a source is one register or more
some_group : (f : Fields) (family : Family) → OfFamily family f → 0 < f.group
some_group f ByElement o = omega arith
some_group f Vector o = omega arith
some_group f Saturating o = omega (arith, o.0)
some_group f LongLong o = two_or_four o.0
some_group f Long o = two_or_four o.0

-- a V register has 16 bytes
pub v_length : (f : Fields) (w : ℕ) → IntoV f → new_length f.family w ≡ 16
v_length f w (inl e) = ap (λ (x : Family). new_length x w) e
v_length f w (inr e) = ap (λ (x : Family). new_length x w) e

-- C's new bytes are the whole register
pub whole_register : (f : Fields) (w : ℕ) → f.family ≡ Saturating → new_length f.family w ≡ w
whole_register f w c = ap (λ (x : Family). new_length x w) c

-- so each register that it names is one of the 32
pub source_lt : (f : Fields) → Ranges f → (f.first < 32) × (f.second < 32)
source_lt f g = let h = some_group f f.family g.of_family in (omega (arith, g.first), omega (arith, g.second))

-- a word's fields and Z as the code has them
module _ {f : Fields} {w : ℕ} {z : List ℕ} (p : Sources f w z) where
  pub first_source : 0 < per_source f.family
  first_source = some_source f.family

  -- register x of Z is there
  pub register_there : (x : ℕ) → x < 32 → x * w + w ≤ length z
  register_there x h = omega (arith, next x w, room x 32 w z p.z_long h)

  -- n bytes of vector v of the file `a` become new: they are made of the registers alone
  pub renewal : (i : ℕ) → i < per_source f.family → (n : ℕ) → new_length f.family w ≡ n → (v x y : ℕ) (a new a' : List ℕ) (t : Toggles)
      → new ≡ new_bytes (recipe_of f.family f i) n (drop (v * w) a) (drop (x * w) z) (drop (y * w) z)
      → Replaced (v * w) t new a a' → Replaced (v * w) t (made f i n w v a x y z) a a'
  unfolding vector_at
  renewal i hi n en v x y a new a' t e =
      let r : Recipe = recipe_of f.family f i in
      let g : Inside r n w = subst (λ (m : ℕ). Inside r m w) en (inside f p.ranges w p.width i hi) in
      subst (λ (u : List ℕ). Replaced (v * w) t u a a') (e ∙ sym (new_bytes_within r n (drop (v * w) a) (drop (x * w) z) (drop (y * w) z) w g))

  -- the new bytes of a word of A, B or C
  abbrev renewed_bytes : List ℕ
  renewed_bytes = made f 0 (new_length f.family w) w f.destination z f.first f.second z

  long_new : length renewed_bytes ≡ new_length f.family w
  long_new = length-new_bytes f p.ranges 0 (new_length f.family w) _ _ _ (new_length_lem f.family w p.width).0

  -- A and B clear what is above the V register
  module _ (i : IntoV f) {t : Toggles} {z' : List ℕ} (r : RegisterRenewed f w t z z') where
    sixteen : length renewed_bytes ≡ 16
    sixteen = long_new ∙ v_length f w i

    fit : f.destination * w + length renewed_bytes ≤ length z
    fit = omega (arith, sixteen, p.width.least, register_there f.destination p.ranges.destination)

    module _ {c : Toggles} {z'' : List ℕ} (q : Replaced (f.destination * w + 16) c (zeros (w - 16)) z' z'') where
      pub counts_small : (t.rises + c.rises ≤ 4096) × (t.falls + c.falls ≤ 4096)
      counts_small = (
        omega (arith, r.few, q.few, sixteen, length-zeros (w - 16), p.width.most, p.width.least),
        omega (arith, r.few, q.few, sixteen, length-zeros (w - 16), p.width.most, p.width.least),
      )

      pub all_written : (v : Toggles) → (v.rises ≡ t.rises + c.rises) × (v.falls ≡ t.falls + c.falls) → RegisterWritten f w v z z''
      all_written v e =
          let at : ℕ = f.destination * w in
          let above : Replaced (at + length renewed_bytes) c (zeros (w - new_length f.family w)) z' z'' = rw (sixteen, v_length f w i) q in
          behind at t c v renewed_bytes (zeros (w - new_length f.family w)) z z' z''
          (omega (arith, long_new, length-zeros (w - new_length f.family w), (new_length_lem f.family w p.width).1, register_there f.destination p.ranges.destination)) r above e

  -- where the new bytes are the whole register there is nothing above them to clear: in C, and in A and B where registers have 16 bytes
  pub none_above : new_length f.family w ≡ w → {t : Toggles} {z' : List ℕ} → RegisterRenewed f w t z z' → RegisterWritten f w t z z'
  none_above whole {t} {z'} r =
      let none : w - new_length f.family w ≡ 0 = omega (arith, whole) in
      let same : renewed_bytes ++ zeros (w - new_length f.family w) ≡ renewed_bytes = ap (λ (n : ℕ). renewed_bytes ++ zeros n) none ∙ append-nil renewed_bytes in
      subst (λ (u : List ℕ). Replaced (f.destination * w) t u z z') (sym same) r

  -- C builds the new register aside, in room for it
  module _ (c : f.family ≡ Saturating) (bytes : ℕ) (eb : bytes ≡ w) where
    of_c : OfC f.lane
    of_c = (in_family f p.ranges Saturating c).1

    module _ (out : List ℕ) (long : length out ≡ bytes) where
      -- what the loop built is put into its place
      pub step_renewal : (z' : List ℕ) (t : Toggles)
          → out ≡ new_bytes (recipe_of f.family f 0) bytes (drop (f.destination * w) z) (drop (f.first * w) z) (drop (f.second * w) z)
          → Replaced (f.destination * w) t out z z'
          → RegisterRenewed f w t z z'
      step_renewal z' t e =
          renewal 0 first_source (new_length f.family w) refl f.destination f.first f.second z out z' t
          (e ∙ ap (λ (n : ℕ). new_bytes (recipe_of f.family f 0) n (drop (f.destination * w) z) (drop (f.first * w) z) (drop (f.second * w) z)) (eb ∙ sym (whole_register f w c)))

-- D and E write whole vectors
pub whole_vector : {f : Fields} {w : ℕ} {z za : List ℕ} → Places f w z za → new_length f.family w ≡ w
whole_vector {f} {w} p = by p.into
  where
    by : IntoZa f → new_length f.family w ≡ w
    by (inl e) = ap (λ (x : Family). new_length x w) e
    by (inr e) = ap (λ (x : Family). new_length x w) e
