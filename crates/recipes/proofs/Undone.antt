-- A new vector is undone by the opposite recipe on the same sources, except where products saturate. Assumes nothing.
use Prim.Native.Nat.{ℕ, ◌*◌, ◌/◌, ◌%◌, ◌^◌, ◌≤◌, ◌<◌}
use native.Mathlib.Omega.{arith}
use mathlib.Core.Path.{◌≡◌, refl, sym, ap, ◌∙◌}
use mathlib.Core.Bool.{Bool, false, not}
use mathlib.Core.List.{List, ◌++◌}
use lib.ListN.{length, take}
use lib.Seq.{take_all, take_at, length-take-le}
use Rattle.words.specs.Partner.{turned, is_c}
use Rattle.words.specs.declared.Family.{Family}
use Rattle.words.specs.declared.Family.TheVariants.{ByElement, Vector, Saturating, LongLong, Long}
use Rattle.words.specs.declared.Fields.{Fields}
use Rattle.elements.specs.Lanes.{chosen}
use Rattle.elements.specs.Elements.{element_of}
use Rattle.elements.proofs.Elements.{Bytes, Bytes-take, element_at_lt, element_at-take}
use Rattle.elements.proofs.Vectors.{vector_known}
use Rattle.lanes.specs.Lane.{step}
use Rattle.lanes.specs.Widths.{IsWidth}
use Rattle.lanes.proofs.Laws.{undo_step}
use Rattle.lanes.specs.Recipe.{Recipe, recipe}
use Rattle.recipes.specs.Recipe.{recipe_of}
use Rattle.lanes.specs.Element.{new_element, new_bytes}
use Rattle.lanes.proofs.Built.{power, whole_elements, element_ends, length_new, element-new_bytes}

-- only products of C saturate
pub saturates_c : (family : Family) (f : Fields) (i : ℕ) → (recipe_of family f i).saturating ≡ is_c family
saturates_c ByElement f i = refl
saturates_c Vector f i = refl
saturates_c Saturating f i = refl
saturates_c LongLong f i = refl
saturates_c Long f i = refl

-- what r adds is subtracted, and what it subtracts is added
abbrev pub opposite : Recipe → Recipe
opposite r = recipe r.saturating r.unsigned (not r.subtract) r.lane r.wide r.first r.second

-- it is the recipe of the partner's fields
pub recipe-turned : (family : Family) (f : Fields) (i : ℕ) → recipe_of family (turned f) i ≡ opposite (recipe_of family f i)
unfolding turned
recipe-turned ByElement f i = refl
recipe-turned Vector f i = refl
recipe-turned Saturating f i = refl
recipe-turned LongLong f i = refl
recipe-turned Long f i = refl

undo-lane : (saturating : Bool) (lane wide : ℕ) (unsigned subtract : Bool) (a x y : ℕ) → saturating ≡ false → a < 2 ^ wide
    → step saturating lane wide unsigned (not subtract) (step saturating lane wide unsigned subtract a x y) x y ≡ a
unfolding step
undo-lane saturating lane wide unsigned subtract a x y e h = rw e (undo_step lane wide unsigned subtract a x y h)

module _ (r : Recipe) (wide : IsWidth r.wide) (wraps : r.saturating ≡ false) (bytes : ℕ) (whole : bytes % 8 ≡ 0) (old first second : List ℕ) (b : Bytes old)
    (room : bytes ≤ length old) (x : List ℕ) (made : take bytes x ≡ new_bytes r bytes old first second) where
  abbrev k : ℕ
  k = r.wide / 8

  undone : (e : ℕ) → e < 8 * bytes / r.wide → element_of r.wide (take bytes old) e ≡ new_element (opposite r) x first second e
  unfolding new_element
  undone e h =
      let was : ℕ = element_of r.wide old e in
      let ends = element_ends r.wide wide bytes whole e h in
      let now : element_of r.wide x e ≡ new_element r old first second e =
      sym (element_at-take k (e * k) bytes x ends)
      ∙ ap (λ (l : List ℕ). element_of r.wide l e) made
      ∙ element-new_bytes r bytes old first second wide e h in
      let small : was < 2 ^ r.wide = rw (← power r.wide wide) (element_at_lt k (e * k) old b) in
      let p : ℕ = element_of r.lane first (chosen r.lane r.first e) in
      let q : ℕ = element_of r.lane second (chosen r.lane r.second e) in
      element_at-take k (e * k) bytes old ends
      ∙ sym (undo-lane r.saturating r.lane r.wide r.unsigned r.subtract was p q wraps small)
      ∙ ap (λ (a : ℕ). step r.saturating r.lane r.wide r.unsigned (not r.subtract) a p q) (sym now)

  -- the bytes that were there
  pub undo-new_bytes : new_bytes (opposite r) bytes x first second ≡ take bytes old
  unfolding new_bytes
  undo-new_bytes =
      vector_known (new_element (opposite r) x first second) k (8 * bytes / r.wide) (take bytes old) (Bytes-take bytes old b)
      (length-take-le bytes old room ∙ sym (whole_elements r.wide wide bytes whole)) undone

-- the same of a vector whose first bytes are new, whatever is above them; `q` is the opposite recipe, and `now`, `first'` and `second'` are what it finds
pub undo_vector : (r q : Recipe) (bytes : ℕ) (old first second above now first' second' : List ℕ) → q ≡ opposite r → IsWidth r.wide → r.saturating ≡ false
    → bytes % 8 ≡ 0 → Bytes old → bytes ≤ length old → now ≡ new_bytes r bytes old first second ++ above → first' ≡ first → second' ≡ second
    → new_bytes q bytes now first' second' ≡ take bytes old
undo_vector r q bytes old first second above now first' second' eq wide wraps whole b room en ef es =
    let x : List ℕ = new_bytes r bytes old first second in
    rw (eq, en, ef, es)
    (undo-new_bytes r wide wraps bytes whole old first second b room (x ++ above) (take_at x above bytes (length_new r bytes old first second wide whole)))

-- and of a vector that is new altogether
pub undo_whole : (r q : Recipe) (bytes : ℕ) (old first second now : List ℕ) → q ≡ opposite r → IsWidth r.wide → r.saturating ≡ false → bytes % 8 ≡ 0
    → Bytes old → length old ≡ bytes → now ≡ new_bytes r bytes old first second → new_bytes q bytes now first second ≡ old
undo_whole r q bytes old first second now eq wide wraps whole b long en =
    let x : List ℕ = new_bytes r bytes old first second in
    rw (eq, en)
    (undo-new_bytes r wide wraps bytes whole old first second b (omega arith) x (take_all bytes x (omega (arith, length_new r bytes old first second wide whole)))
    ∙ take_all bytes old (omega arith))
