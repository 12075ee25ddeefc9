-- Two layouts that fix some bit differently have no word in common, and a word with another top byte than a layout's does not have it. Whether they do
-- is computed from the layouts. Assumes nothing.
use Prim.Native.Nat.{ℕ, zero, suc, ◌+◌, ◌-◌, ◌/◌, ◌%◌, ◌^◌, ◌<◌, ◌≤◌}
use native.Mathlib.Omega.{arith}
use mathlib.Core.Path.{◌≡◌, refl, sym, ap, ◌∙◌}
use mathlib.Core.Logic.{◌≢◌}
use mathlib.Core.List.{List, [], ◌∷◌}
use mathlib.Core.Bool.{Bool, true, false, not, ◌&&◌, ◌||◌, cond}
use lib.Dec.{eqb, leb, ltb}
use lib.Pow.{shr-shr, shr_mod, field as shr-of-mod, mod-mod-pow}
use borrow.Author.Tests.{eqb-true, eqb-false, leb-true, ltb-true, not-true}
use Rattle.laws.proofs.Tests.{both, either, never_both, failed, cond-holds}
use Rattle.layouts.specs.Layout.{Layout, bits, field, size, part, matches}

-- what the layout fixes at bit p: 0 or 1, or 2 where it fixes nothing
abbrev pub fixed_at : Layout → ℕ → ℕ
fixed_at [] p = 2
fixed_at (bits k x ∷ l) p = cond (leb (size l) p) (cond (ltb p (size l + k)) (x / 2 ^ (p - size l) % 2) 2) (fixed_at l p)
fixed_at (field k a ∷ l) p = cond (leb (size l) p) 2 (fixed_at l p)

-- bit j of the k bits above bit s is bit s + j
bit_of_part : (w s k j : ℕ) → j < k → w / 2 ^ s % 2 ^ k / 2 ^ j % 2 ≡ w / 2 ^ (s + j) % 2
bit_of_part w s k j h =
    let b = k - suc j in
    let e : k ≡ b + 1 + j = omega arith in
    ap (λ (n : ℕ). w / 2 ^ s % 2 ^ n / 2 ^ j % 2) e
    ∙ ap (λ (n : ℕ). n % 2) (shr-of-mod (w / 2 ^ s) (b + 1) j)
    ∙ mod-mod-pow (w / 2 ^ s / 2 ^ j) b 1
    ∙ ap (λ (n : ℕ). n % 2) (shr-shr w s j)

-- a word that has the layout has each bit that the layout fixes
fixed_bit : (l : Layout) (w p : ℕ) → matches l w ≡ true → fixed_at l p < 2 → w / 2 ^ p % 2 ≡ fixed_at l p
fixed_bit [] w p h = λ (f : 2 < 2). absurd (omega arith)
fixed_bit (bits k x ∷ l) w p h =
    let r = both (matches l w) (eqb (part w (size l) k) x) h in
    let e : part w (size l) k ≡ x = eqb-true _ _ r.1 in
    let P : ℕ → Type 0 = λ (n : ℕ). n < 2 → w / 2 ^ p % 2 ≡ n in
    cond-holds P (leb (size l) p) _ _
    (λ (a : leb (size l) p ≡ true). cond-holds P (ltb p (size l + k)) (x / 2 ^ (p - size l) % 2) 2
    (λ (b : ltb p (size l + k) ≡ true) _.
    let i : size l ≤ p = leb-true _ _ a in
    let j : p < size l + k = ltb-true _ _ b in
    let q : size l + (p - size l) ≡ p = omega arith in
    sym (ap (λ (n : ℕ). n / 2 ^ (p - size l) % 2) (sym e) ∙ bit_of_part w (size l) k (p - size l) (omega arith) ∙ ap (λ (n : ℕ). w / 2 ^ n % 2) q))
    (λ _ (f : 2 < 2). absurd (omega arith)))
    (λ _. fixed_bit l w p r.0)
fixed_bit (field k a ∷ l) w p h =
    cond-holds (λ (n : ℕ). n < 2 → w / 2 ^ p % 2 ≡ n) (leb (size l) p) 2 (fixed_at l p) (λ _ (f : 2 < 2). absurd (omega arith)) (λ _. fixed_bit l w p h)

-- both numbers are fixed bits, and they differ
abbrev pub differs : ℕ → ℕ → Bool
differs a b = ltb a 2 && ltb b 2 && not (eqb a b)

-- whether two layouts fix a bit below bit n differently
abbrev pub apart : Layout → Layout → ℕ → Bool
apart l m zero = false
apart l m (suc n) = differs (fixed_at l n) (fixed_at m n) || apart l m n

-- two layouts that are apart have no word in common
pub no_word_in_both : (l m : Layout) (n w : ℕ) → apart l m n ≡ true → matches l w ≡ true → matches m w ≡ true → ⊥
no_word_in_both l m zero w e p q = never_both true refl (sym e)
no_word_in_both l m (suc n) w e p q = either (differs (fixed_at l n) (fixed_at m n)) (apart l m n) e
    (λ d.
    let a = both _ _ d in
    let b = both _ _ a.0 in
    eqb-false _ _ (not-true _ a.1) (sym (fixed_bit l w n p (ltb-true _ _ b.0)) ∙ fixed_bit m w n q (ltb-true _ _ b.1)))
    (λ d. no_word_in_both l m n w d p q)

-- each layout of the list is apart from l in its 32 bits
abbrev pub apart_from : Layout → List Layout → Bool
apart_from l [] = true
apart_from l (m ∷ ms) = apart l m 32 && apart_from l ms

-- each two layouts of the list are apart
abbrev pub all_apart : List Layout → Bool
all_apart [] = true
all_apart (l ∷ ls) = apart_from l ls && all_apart ls

-- ---- the top byte

-- whether a layout is of 32 bits and begins with at least eight fixed ones
abbrev pub fixes_top : Layout → Bool
fixes_top [] = false
fixes_top (bits k x ∷ l) = leb 8 k && eqb (k + size l) 32
fixes_top (field k a ∷ l) = false

-- the first eight of them
abbrev pub top_of : Layout → ℕ
top_of [] = 0
top_of (bits k x ∷ l) = x / 2 ^ (k - 8)
top_of (field k a ∷ l) = 0

-- a word with another top byte does not have the layout
pub other_top : (l : Layout) (w : ℕ) → fixes_top l ≡ true → w < 2 ^ 32 → w / 2 ^ 24 ≢ top_of l → matches l w ≡ false
other_top [] w f h n = absurd (never_both false f refl)
other_top (bits k x ∷ l) w f h n =
    let b = both (leb 8 k) (eqb (k + size l) 32) f in
    let g : 8 ≤ k = leb-true _ _ b.0 in
    let s : k + size l ≡ 32 = eqb-true _ _ b.1 in
    let q : size l + (k - 8) ≡ 24 = omega arith in
    let i : w < 2 ^ (k + size l) = rw s h in
    failed (matches (bits k x ∷ l) w)
    (λ m. n
    (sym (ap (λ (p : ℕ). w / 2 ^ p) q) ∙ sym (shr-shr w (size l) (k - 8))
    ∙ ap (λ (y : ℕ). y / 2 ^ (k - 8))
    (sym (shr_mod k (size l) i) ∙ eqb-true _ _ (both (matches l w) (eqb (part w (size l) k) x) m).1)))
other_top (field k a ∷ l) w f h n = absurd (never_both false f refl)
