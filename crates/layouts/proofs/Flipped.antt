-- What flipping the bits of a letter does to what a layout reads off a word: the fixed bits stay, and so does every other letter. Assumes nothing.
use Prim.Native.Nat.{ℕ, ◌+◌, ◌*◌, ◌/◌, ◌%◌, ◌^◌, ◌<◌}
use Prim.Native.Char.{Char, code}
use native.Mathlib.Omega.{arith}
use mathlib.Core.Path.{◌≡◌, refl, sym, ap, ap₂, ◌∙◌}
use mathlib.Core.Logic.{◌≢◌}
use mathlib.Core.List.{List, [], ◌∷◌}
use mathlib.Core.Bool.{Bool, ◌&&◌, cond}
use lib.Arith.{digits_lt}
use lib.Dec.{eqb}
use lib.Bits.{bit_xor, xor_shr, xor_mod, xor_zero_r}
use lib.Pow.{pow_pos, pow-add, shl-shr, ones_lt}
use borrow.Author.Tests.{eqb-true, ne_eqb}
use Rattle.laws.proofs.Tests.{cond-holds, cond_then}
use Rattle.layouts.specs.Layout.{Layout, Segment, bits, field, width, size, part, matches, places, join, value, of_letter, mask_of, flip}
use Rattle.layouts.proofs.Inverse.{above, head-part}

part_flip : (w m p k : ℕ) → part (bit_xor w m) p k ≡ bit_xor (part w p k) (part m p k)
part_flip w m p k = ap (λ (x : ℕ). x % 2 ^ k) (xor_shr w m p) ∙ xor_mod (w / 2 ^ p) (m / 2 ^ p) k

part_kept : (w m p k : ℕ) → part m p k ≡ 0 → part (bit_xor w m) p k ≡ part w p k
part_kept w m p k e = part_flip w m p k ∙ ap (bit_xor (part w p k)) e ∙ xor_zero_r (part w p k)

-- ---- the bits of a letter, below any others

abbrev below : ℕ → Layout → ℕ → ℕ
below y l a = y * 2 ^ size l + mask_of l a

none_above : (l : Layout) (a : ℕ) → mask_of l a ≡ below 0 l a
none_above l a = omega arith

of_letter_fits : (a : ℕ) (g : Segment) → of_letter a g < 2 ^ width g
of_letter_fits a (bits k x) = pow_pos k
of_letter_fits a (field k b) = cond-holds (λ (n : ℕ). n < 2 ^ k) (eqb a b) _ _ (λ _. ones_lt k) (λ _. pow_pos k)

mask_fits : (l : Layout) (a : ℕ) → mask_of l a < 2 ^ size l
mask_fits [] a = omega arith
mask_fits (g ∷ l) a = rw (pow-add 2 (width g) (size l)) (digits_lt (of_letter_fits a g) (mask_fits l a))

module _ (y : ℕ) (g : Segment) (l : Layout) (a : ℕ) where
  mask_tail : below y (g ∷ l) a ≡ below (y * 2 ^ width g + of_letter a g) l a
  mask_tail = above y (of_letter a g) (width g) (size l) (mask_of l a)

  mask_head : part (below y (g ∷ l) a) (size l) (width g) ≡ of_letter a g
  mask_head =
      ap (λ (m : ℕ). part m (size l) (width g)) mask_tail
      ∙ head-part y (of_letter a g) (width g) (size l) (mask_of l a) (of_letter_fits a g) (mask_fits l a)

-- ---- what stays

matches-below : (l : Layout) (a w y : ℕ) → matches l (bit_xor w (below y l a)) ≡ matches l w
matches-below [] a w y = refl
matches-below (bits k x ∷ l) a w y =
    ap₂ (λ (t : Bool) (n : ℕ). t && eqb n x)
    (ap (λ (m : ℕ). matches l (bit_xor w m)) (mask_tail y (bits k x) l a) ∙ matches-below l a w (y * 2 ^ k + 0))
    (part_kept w (below y (bits k x ∷ l) a) (size l) k (mask_head y (bits k x) l a))
matches-below (field k b ∷ l) a w y =
    ap (λ (m : ℕ). matches l (bit_xor w m)) (mask_tail y (field k b) l a) ∙ matches-below l a w (y * 2 ^ k + of_letter a (field k b))

-- whether a word has the layout does not depend on the bits of a letter
pub matches_flipped : (l : Layout) (a : Char) (w : ℕ) → matches l (flip l a w) ≡ matches l w
matches_flipped l a w = ap (λ (m : ℕ). matches l (bit_xor w m)) (none_above l (code a)) ∙ matches-below l (code a) w 0

not_of : (a c k : ℕ) → a ≢ c → of_letter a (field k c) ≡ 0
not_of a c k n = rw (ne_eqb a c n)

places-below : (l : Layout) (a b w y : ℕ) → a ≢ b → places l b (bit_xor w (below y l a)) ≡ places l b w
places-below [] a b w y n = refl
places-below (bits k x ∷ l) a b w y n =
    ap (λ (m : ℕ). places l b (bit_xor w m)) (mask_tail y (bits k x) l a) ∙ places-below l a b w (y * 2 ^ k + 0) n
places-below (field k c ∷ l) a b w y n =
    let m = below y (field k c ∷ l) a in
    ap (λ (ps : List (ℕ × ℕ)). cond (eqb b c) ((k, part (bit_xor w m) (size l) k) ∷ ps) ps)
    (ap (λ (m : ℕ). places l b (bit_xor w m)) (mask_tail y (field k c) l a) ∙ places-below l a b w (y * 2 ^ k + of_letter a (field k c)) n)
    ∙ cond_then (eqb b c) _ _ _
    (λ e. ap (λ (v : ℕ). (k, v) ∷ places l b w)
    (part_kept w m (size l) k (mask_head y (field k c) l a ∙ not_of a c k (λ (q : a ≡ c). n (q ∙ sym (eqb-true b c e))))))

-- every other letter keeps its value
pub others_kept : (l : Layout) (a b : Char) (w : ℕ) → code a ≢ code b → value l (flip l a w) b ≡ value l w b
others_kept l a b w n = ap (λ (m : ℕ). value l (bit_xor w m) b) (none_above l (code a)) ∙ ap join (places-below l (code a) (code b) w 0 n)

alone : (p : ℕ) → part (2 ^ p) p 1 ≡ 1
alone p = let e : 2 ^ p ≡ 1 * 2 ^ p = omega arith in ap (λ (n : ℕ). n / 2 ^ p % 2) e ∙ ap (λ (n : ℕ). n % 2) (shl-shr 1 p)

-- a letter that stands at bit p alone has the other value
pub one_flipped : (l : Layout) (a : Char) (p w : ℕ) → ((w : ℕ) → value l w a ≡ part w p 1) → mask_of l (code a) ≡ 2 ^ p
    → value l (flip l a w) a ≡ bit_xor (value l w a) 1
one_flipped l a p w h e =
    h (flip l a w) ∙ part_flip w (mask_of l (code a)) p 1 ∙ ap₂ bit_xor (sym (h w)) (ap (λ (m : ℕ). part m p 1) e ∙ alone p)
