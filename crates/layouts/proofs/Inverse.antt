-- Taking a word apart and putting it together undo one another: two laws, proved once for every layout. Assumes nothing.
use Prim.Native.Nat.{ℕ, ◌+◌, ◌*◌, ◌%◌, ◌^◌, ◌<◌}
use native.Mathlib.Nat.{mod-one, mod-eq_of_lt, add-mul, mul_assoc, add_assoc}
use native.Mathlib.Omega.{arith}
use mathlib.Core.Path.{◌≡◌, refl, sym, ap, ap₂, ◌∙◌}
use mathlib.Core.List.{List, [], ◌∷◌}
use mathlib.Core.Bool.{true}
use lib.Dec.{eqb}
use lib.Pow.{mod-pow-add, pow-add, high, low}
use lib.Arith.{digits_lt}
use borrow.Author.Tests.{eqb-true, eq-eqb}
use Rattle.laws.proofs.Tests.{both}
use Rattle.layouts.specs.Layout.{Layout, bits, field, size, part, matches, parts, build}

-- the values are those of the word
abbrev pub Agrees : Layout → List ℕ → ℕ → Type 0
Agrees [] vs w = Unit {0}
Agrees (bits k x ∷ l) vs w = Agrees l vs w
Agrees (field k a ∷ l) [] w = ⊥
Agrees (field k a ∷ l) (v ∷ vs) w = (v ≡ part w (size l) k) × Agrees l vs w

-- the values are as many as the fields, and each is within its field; so is each fixed number
abbrev pub Fit : Layout → List ℕ → Type 0
Fit [] [] = Unit {0}
Fit [] (v ∷ vs) = ⊥
Fit (bits k x ∷ l) vs = (x < 2 ^ k) × Fit l vs
Fit (field k a ∷ l) [] = ⊥
Fit (field k a ∷ l) (v ∷ vs) = (v < 2 ^ k) × Fit l vs

-- a word that has the layout is the word of its values
pub build_agrees : (l : Layout) (vs : List ℕ) (w : ℕ) → matches l w ≡ true → Agrees l vs w → build l vs ≡ w % 2 ^ size l
build_agrees [] vs w h g = sym (mod-one w)
build_agrees (bits k x ∷ l) vs w h g =
    let r = both (matches l w) (eqb (part w (size l) k) x) h in
    ap₂ (λ (a b : ℕ). a * 2 ^ size l + b) (sym (eqb-true _ _ r.1)) (build_agrees l vs w r.0 g)
    ∙ sym (mod-pow-add w k (size l))
build_agrees (field k a ∷ l) [] w h g = absurd g
build_agrees (field k a ∷ l) (v ∷ vs) w h g =
    ap₂ (λ (a b : ℕ). a * 2 ^ size l + b) g.0 (build_agrees l vs w h g.1)
    ∙ sym (mod-pow-add w k (size l))

agrees-parts : (l : Layout) (w : ℕ) → Agrees l (parts l w) w
agrees-parts [] w = tt
agrees-parts (bits k x ∷ l) w = agrees-parts l w
agrees-parts (field k a ∷ l) w = (refl, agrees-parts l w)

-- the first law
pub build-parts : (l : Layout) (w : ℕ) → w < 2 ^ size l → matches l w ≡ true → build l (parts l w) ≡ w
build-parts l w h m = build_agrees l (parts l w) w m (agrees-parts l w) ∙ mod-eq_of_lt h

-- the word of values that fit has no more bits than the layout
build_fits : (l : Layout) (vs : List ℕ) → Fit l vs → build l vs < 2 ^ size l
build_fits [] [] f = omega arith
build_fits [] (v ∷ vs) f = absurd f
build_fits (bits k x ∷ l) vs f = rw (pow-add 2 k (size l)) (digits_lt f.0 (build_fits l vs f.1))
build_fits (field k a ∷ l) [] f = absurd f
build_fits (field k a ∷ l) (v ∷ vs) f = rw (pow-add 2 k (size l)) (digits_lt f.0 (build_fits l vs f.1))

-- the bits that a head value puts above the rest
pub above : (y v k s r : ℕ) → y * 2 ^ (k + s) + (v * 2 ^ s + r) ≡ (y * 2 ^ k + v) * 2 ^ s + r
above y v k s r = simp (pow-add, add-mul, mul_assoc, add_assoc)

pub head-part : (y v k s r : ℕ) → v < 2 ^ k → r < 2 ^ s → part ((y * 2 ^ k + v) * 2 ^ s + r) s k ≡ v
head-part y v k s r hv hr = ap (λ (x : ℕ). x % 2 ^ k) (high (y * 2 ^ k + v) s hr) ∙ low y k hv

-- the second law, whatever stands above the layout's bits
pub parts-build : (l : Layout) (vs : List ℕ) (y : ℕ) → Fit l vs → (parts l (y * 2 ^ size l + build l vs) ≡ vs) × (matches l (y * 2 ^ size l + build l vs) ≡ true)
parts-build [] [] y f = (refl, refl)
parts-build [] (v ∷ vs) y f = absurd f
parts-build (bits k x ∷ l) vs y f =
    let r = parts-build l vs (y * 2 ^ k + x) f.1 in
    let e = head-part y x k (size l) (build l vs) f.0 (build_fits l vs f.1) in
    rw (above y x k (size l) (build l vs)) (r.0, rw r.1 (eq-eqb _ _ e))
parts-build (field k a ∷ l) [] y f = absurd f
parts-build (field k a ∷ l) (v ∷ vs) y f =
    let r = parts-build l vs (y * 2 ^ k + v) f.1 in
    let e = head-part y v k (size l) (build l vs) f.0 (build_fits l vs f.1) in
    rw (above y v k (size l) (build l vs)) (ap₂ (λ (a : ℕ) (b : List ℕ). a ∷ b) e r.0, r.1)
