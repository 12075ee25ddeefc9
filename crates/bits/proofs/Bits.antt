-- Counts over the bits of two lists of bytes, for any test of two bits: equal lists, turned lists, parts, splices, sums and bounds. Assumes nothing.
use mathlib.Core.Path.{◌≡◌, refl, sym, ap₂, ◌∙◌}
use mathlib.Core.List.{List, [], ◌∷◌, ◌++◌}
use Prim.Native.Nat.{ℕ, zero, suc, ◌+◌, ◌-◌, ◌*◌, ◌/◌, ◌%◌, ◌^◌, ◌≤◌, ◌<◌}
use native.Mathlib.Nat.{zero-add, suc-add, add_assoc, mod-lt}
use native.Mathlib.Numerals.{add-one, one-add}
use native.Mathlib.Omega.{arith}
use lib.ListN.{length, get_or, set, take, drop, length-take, length-drop, take-append-drop}
use lib.Seq.{drop-drop, length-take-le}
use lib.Pow.{shr-shr, field, mod-mod-pow}
use lib.Bits.{differ}
use lib.Dec.{lit<}
use Rattle.laws.proofs.Bits.{one_bit, two_bits}
use Rattle.elements.specs.Elements.{zeros, splice}
use Rattle.elements.proofs.Elements.{length-zeros}
use Rattle.elements.proofs.Files.{length-splice, take-splice, part-splice, drop-splice}
use Rattle.bits.specs.Bits.{over_bits, over_bytes, rose, fell, rises, falls, toggled, ones_of, zeros_of}

pub two_lt : (x : ℕ) → x % 2 < 2
two_lt x = mod-lt x (lit< tt)

-- ---- what a test of two bits may have

-- equal bits are not counted
abbrev pub Unmoved : (ℕ → ℕ → ℕ) → Type 0
Unmoved f = (x : ℕ) → x < 2 → f x x ≡ 0

-- each pair of bits counts at most once
abbrev pub Once : (ℕ → ℕ → ℕ) → Type 0
Once f = (x y : ℕ) → x < 2 → y < 2 → f x y ≤ 1

pub differ_unmoved : Unmoved differ
differ_unmoved = one_bit (λ x. differ x x ≡ 0) refl refl

pub rose_unmoved : Unmoved rose
rose_unmoved = one_bit (λ x. rose x x ≡ 0) refl refl

pub fell_unmoved : Unmoved fell
fell_unmoved = one_bit (λ x. fell x x ≡ 0) refl refl

pub differ_once : Once differ
differ_once = two_bits (λ x y. differ x y ≤ 1) (omega arith) (omega arith) (omega arith) (omega arith)

pub rose_once : Once rose
rose_once = two_bits (λ x y. rose x y ≤ 1) (omega arith) (omega arith) (omega arith) (omega arith)

pub fell_once : Once fell
fell_once = two_bits (λ x y. fell x y ≤ 1) (omega arith) (omega arith) (omega arith) (omega arith)

-- ---- any test

module _ (f : ℕ → ℕ → ℕ) where
  pub bits_split : (j k a b : ℕ) → over_bits f (j + k) a b ≡ over_bits f j a b + over_bits f k (a / 2 ^ j) (b / 2 ^ j)
  unfolding over_bits
  bits_split zero k a b = rw (zero-add k, zero-add (over_bits f k (a / 2 ^ 0) (b / 2 ^ 0))) (ap₂ (over_bits f k) (omega arith) (omega arith))
  bits_split (suc j) k a b =
      rw (suc-add, bits_split j k (a / 2) (b / 2), shr-shr a 1 j, shr-shr b 1 j, one-add) (sym (add_assoc _ _ _))

  pub bits_mod : (k a b : ℕ) → over_bits f k (a % 2 ^ k) (b % 2 ^ k) ≡ over_bits f k a b
  unfolding over_bits
  bits_mod zero a b = refl
  bits_mod (suc k) a b =
      rw (← add-one k, mod-mod-pow a k 1, mod-mod-pow b k 1, field a k 1, field b k 1, bits_mod k (a / 2) (b / 2))

  -- lists that are laid one after the other
  pub bytes_append : (s t u v : List ℕ) → length s ≡ length t → over_bytes f (s ++ u) (t ++ v) ≡ over_bytes f s t + over_bytes f u v
  unfolding over_bytes
  bytes_append [] [] u v e = sym (zero-add _)
  bytes_append [] (b ∷ t) u v e = absurd (omega arith)
  bytes_append (a ∷ s) [] u v e = absurd (omega arith)
  bytes_append (a ∷ s) (b ∷ t) u v e = rw (bytes_append s t u v (omega arith)) (sym (add_assoc _ _ _))

  bytes_cut : (at : ℕ) (s t : List ℕ) → length s ≡ length t
      → over_bytes f s t ≡ over_bytes f (take at s) (take at t) + over_bytes f (drop at s) (drop at t)
  bytes_cut at s t long =
      ap₂ (over_bytes f) (sym (take-append-drop at s)) (sym (take-append-drop at t))
      ∙ bytes_append (take at s) (take at t) (drop at s) (drop at t) (rw (length-take at s, length-take at t, long))

  -- three parts: before `at`, the w bytes from there, and after them
  bytes_parts : (at w : ℕ) (s t : List ℕ) → length s ≡ length t
      → over_bytes f s t
      ≡ over_bytes f (take at s) (take at t) + (over_bytes f (take w (drop at s)) (take w (drop at t)) + over_bytes f (drop (at + w) s) (drop (at + w) t))
  bytes_parts at w s t long =
      bytes_cut at s t long
      ∙ rw (bytes_cut w (drop at s) (drop at t) (rw (length-drop at s, length-drop at t, long)), drop-drop w at s, drop-drop w at t)

  -- one byte changes, at a place where the two lists agreed so far
  pub bytes-set : (s t : List ℕ) (i y : ℕ) → length s ≡ length t → i < length t → over_bits f 8 (get_or s i 0) (get_or t i 0) ≡ 0
      → over_bytes f s (set t i y) ≡ over_bytes f s t + over_bits f 8 (get_or s i 0) y
  unfolding over_bytes
  bytes-set s [] i y e h z = absurd (omega arith)
  bytes-set [] (b ∷ t) i y e h z = absurd (omega arith)
  bytes-set (a ∷ s) (b ∷ t) zero y e h z = rw z (omega arith)
  bytes-set (a ∷ s) (b ∷ t) (suc i) y e h z = rw (bytes-set s t i y (omega arith) (omega arith) z) (sym (add_assoc _ _ _))

-- ---- a test that does not count equal bits

module _ (f : ℕ → ℕ → ℕ) (same : Unmoved f) where
  pub bits_same : (k a : ℕ) → over_bits f k a a ≡ 0
  unfolding over_bits
  bits_same zero a = refl
  bits_same (suc k) a = rw (same (a % 2) (two_lt a), bits_same k (a / 2))

  pub bytes_same : (s : List ℕ) → over_bytes f s s ≡ 0
  unfolding over_bytes
  bytes_same [] = refl
  bytes_same (x ∷ s) = rw (bits_same 8 x, bytes_same s)

  -- a splice changes the bits of its own bytes
  pub bytes-splice : (at : ℕ) (x s : List ℕ) → at + length x ≤ length s
      → over_bytes f s (splice at x s) ≡ over_bytes f (take (length x) (drop at s)) x
  bytes-splice at x s fit =
      bytes_parts f at (length x) s (splice at x s) (sym (length-splice at x s fit))
      ∙ rw (take-splice at x s fit, part-splice at x s fit, drop-splice at x s fit, bytes_same (take at s), bytes_same (drop (at + length x) s)) (omega arith)

  -- where two files agree in the bytes that are replaced in one of them, the counts add up
  pub bytes_splice_add : (at : ℕ) (x s cur : List ℕ) → length cur ≡ length s → at + length x ≤ length s
      → take (length x) (drop at cur) ≡ take (length x) (drop at s)
      → over_bytes f s (splice at x cur) ≡ over_bytes f s cur + over_bytes f cur (splice at x cur)
  bytes_splice_add at x s cur long fit agree =
      let room : at + length x ≤ length cur = omega arith in
      let before : ℕ = over_bytes f (take at s) (take at cur) in
      let own : ℕ = over_bytes f (take (length x) (drop at s)) x in
      let after : ℕ = over_bytes f (drop (at + length x) s) (drop (at + length x) cur) in
      let new : over_bytes f s (splice at x cur) ≡ before + (own + after) =
      bytes_parts f at (length x) s (splice at x cur) (sym long ∙ sym (length-splice at x cur room))
      ∙ rw (take-splice at x cur room, part-splice at x cur room, drop-splice at x cur room) in
      let old : over_bytes f s cur ≡ before + (0 + after) =
      bytes_parts f at (length x) s cur (sym long) ∙ rw (agree, bytes_same (take (length x) (drop at s))) in
      let changed : over_bytes f cur (splice at x cur) ≡ own = bytes-splice at x cur room ∙ rw agree in
      omega arith

-- ---- a test that counts each pair of bits at most once

module _ (f : ℕ → ℕ → ℕ) (once : Once f) where
  pub bits_le : (k a b : ℕ) → over_bits f k a b ≤ k
  unfolding over_bits
  bits_le zero a b = omega arith
  bits_le (suc k) a b = omega (arith, once (a % 2) (b % 2) (two_lt a) (two_lt b), bits_le k (a / 2) (b / 2))

  pub bytes_le : (s t : List ℕ) → over_bytes f s t ≤ 8 * length s
  unfolding over_bytes
  bytes_le [] t = omega arith
  bytes_le (x ∷ s) [] = omega arith
  bytes_le (x ∷ s) (y ∷ t) = omega (arith, bits_le 8 x y, bytes_le s t)

  pub bytes_splice_le : Unmoved f → (at : ℕ) (x s : List ℕ) → at + length x ≤ length s → over_bytes f s (splice at x s) ≤ 8 * length x
  bytes_splice_le same at x s fit =
      let part : List ℕ = take (length x) (drop at s) in
      let l : length part ≡ length x = length-take-le (length x) (drop at s) (rw length-drop (omega arith)) in
      rw (bytes-splice f same at x s fit) (rw l at (bytes_le part x))

-- ---- the two lists turned

module _ (f g : ℕ → ℕ → ℕ) (turned : (x y : ℕ) → x < 2 → y < 2 → f x y ≡ g y x) where
  bits_turned : (k a b : ℕ) → over_bits f k a b ≡ over_bits g k b a
  unfolding over_bits
  bits_turned zero a b = refl
  bits_turned (suc k) a b = rw (turned (a % 2) (b % 2) (two_lt a) (two_lt b), bits_turned k (a / 2) (b / 2))

  pub bytes_turned : (s t : List ℕ) → over_bytes f s t ≡ over_bytes g t s
  unfolding over_bytes
  bytes_turned [] [] = refl
  bytes_turned [] (b ∷ t) = refl
  bytes_turned (a ∷ s) [] = refl
  bytes_turned (a ∷ s) (b ∷ t) = rw (bits_turned 8 a b, bytes_turned s t)

-- ---- two tests and their sum

module _ (f g h : ℕ → ℕ → ℕ) (sum : (x y : ℕ) → x < 2 → y < 2 → f x y + g x y ≡ h x y) where
  bits_sum : (k a b : ℕ) → over_bits f k a b + over_bits g k a b ≡ over_bits h k a b
  unfolding over_bits
  bits_sum zero a b = refl
  bits_sum (suc k) a b = omega (arith, sum (a % 2) (b % 2) (two_lt a) (two_lt b), bits_sum k (a / 2) (b / 2))

  bytes_sum : (s t : List ℕ) → over_bytes f s t + over_bytes g s t ≡ over_bytes h s t
  unfolding over_bytes
  bytes_sum [] t = refl
  bytes_sum (x ∷ s) [] = refl
  bytes_sum (x ∷ s) (y ∷ t) = omega (arith, bits_sum 8 x y, bytes_sum s t)

-- ---- a test of which another says no less

module _ (f g : ℕ → ℕ → ℕ) (less : (x y : ℕ) → x < 2 → y < 2 → f x y ≤ g x y) where
  bits_less : (k a b : ℕ) → over_bits f k a b ≤ over_bits g k a b
  unfolding over_bits
  bits_less zero a b = omega arith
  bits_less (suc k) a b = omega (arith, less (a % 2) (b % 2) (two_lt a) (two_lt b), bits_less k (a / 2) (b / 2))

  bytes_less : (s t : List ℕ) → over_bytes f s t ≤ over_bytes g s t
  unfolding over_bytes
  bytes_less [] t = omega arith
  bytes_less (x ∷ s) [] = omega arith
  bytes_less (x ∷ s) (y ∷ t) = omega (arith, bits_less 8 x y, bytes_less s t)

-- ---- a test of the first bit alone

module _ (c : ℕ → ℕ) where
  bits_first : (k a b d : ℕ) → over_bits (λ x y. c x) k a b ≡ over_bits (λ x y. c x) k a d
  unfolding over_bits
  bits_first zero a b d = refl
  bits_first (suc k) a b d = rw (bits_first k (a / 2) (b / 2) (d / 2))

  bytes_first : (s t : List ℕ) → length s ≡ length t → over_bytes (λ x y. c x) s t ≡ over_bytes (λ x y. c x) s s
  unfolding over_bytes
  bytes_first [] t e = refl
  bytes_first (x ∷ s) [] e = absurd (omega arith)
  bytes_first (x ∷ s) (y ∷ t) e = rw (bits_first 8 x y x, bytes_first s t (omega arith))

-- ---- a test that does not count a bit that is 0 afterwards

module _ (f : ℕ → ℕ → ℕ) (never : (x : ℕ) → x < 2 → f x 0 ≡ 0) where
  pub bits_zeros : (k a : ℕ) → over_bits f k a 0 ≡ 0
  unfolding over_bits
  bits_zeros zero a = refl
  bits_zeros (suc k) a = rw (never (a % 2) (two_lt a), bits_zeros k (a / 2))

  bytes-zeros : (s : List ℕ) (n : ℕ) → over_bytes f s (zeros n) ≡ 0
  unfolding over_bytes
  bytes-zeros [] n = refl
  bytes-zeros (x ∷ s) zero = refl
  bytes-zeros (x ∷ s) (suc n) = rw (bits_zeros 8 x, bytes-zeros s n)

-- ---- rises and falls

-- nothing rises to 0
pub rose_never : (x : ℕ) → x < 2 → rose x 0 ≡ 0
rose_never = one_bit (λ x. rose x 0 ≡ 0) refl refl

-- the bits that differ are those that rise and those that fall
pub toggled_differs : (s t : List ℕ) → toggled s t ≡ over_bytes differ s t
toggled_differs = bytes_sum rose fell differ (two_bits (λ x y. rose x y + fell x y ≡ differ x y) refl refl refl refl)

-- what rises one way falls the other way
pub rises_turned : (s t : List ℕ) → rises s t ≡ falls t s
rises_turned = bytes_turned rose fell (two_bits (λ x y. rose x y ≡ fell y x) refl refl refl refl)

pub rises_same : (s : List ℕ) → rises s s ≡ 0
rises_same = bytes_same rose rose_unmoved

pub falls_same : (s : List ℕ) → falls s s ≡ 0
falls_same = bytes_same fell fell_unmoved

-- ---- ones and zeros

eights : (s : List ℕ) → over_bytes (λ x y. 1) s s ≡ 8 * length s
unfolding over_bytes over_bits
eights [] = refl
eights (x ∷ s) = omega (arith, eights s)

pub bits_are : (s : List ℕ) → ones_of s + zeros_of s ≡ 8 * length s
bits_are s = bytes_sum (λ x y. x) (λ x y. 1 - x) (λ x y. 1) (two_bits (λ x y. x + (1 - x) ≡ 1) refl refl refl refl) s s ∙ eights s

-- the ones of the second list and what falls are the ones of the first and what rises
pub balance : (s t : List ℕ) → length s ≡ length t → ones_of t + falls s t ≡ ones_of s + rises s t
balance s t e =
    let after : over_bytes (λ x y. y) s t ≡ ones_of t = bytes_turned (λ x y. y) (λ x y. x) (λ x y hx hy. refl) s t ∙ bytes_first (λ x. x) t s (sym e) in
    let before : over_bytes (λ x y. x) s t ≡ ones_of s = bytes_first (λ x. x) s t e in
    let one = bytes_sum (λ x y. y) fell (λ x y. x + rose x y) (two_bits (λ x y. y + fell x y ≡ x + rose x y) refl refl refl refl) s t in
    let other = bytes_sum (λ x y. x) rose (λ x y. x + rose x y) (λ x y hx hy. refl) s t in
    omega arith

-- a bit that rises was 0, and one that falls was 1
pub rises_le : (s t : List ℕ) → length s ≡ length t → rises s t ≤ zeros_of s
rises_le s t e =
    rw (← bytes_first (λ x. 1 - x) s t e)
    (bytes_less rose (λ x y. 1 - x) (two_bits (λ x y. rose x y ≤ 1 - x) (omega arith) (omega arith) (omega arith) (omega arith)) s t)

pub falls_le : (s t : List ℕ) → length s ≡ length t → falls s t ≤ ones_of s
falls_le s t e =
    rw (← bytes_first (λ x. x) s t e)
    (bytes_less fell (λ x y. x) (two_bits (λ x y. fell x y ≤ x) (omega arith) (omega arith) (omega arith) (omega arith)) s t)

-- bytes that are cleared: none of their bits rises, and each 1 of them falls
pub rises-zeros : (s : List ℕ) (n : ℕ) → rises s (zeros n) ≡ 0
rises-zeros = bytes-zeros rose rose_never

pub falls-zeros : (s : List ℕ) (n : ℕ) → length s ≡ n → falls s (zeros n) ≡ ones_of s
falls-zeros s n e =
    let no_ones : ones_of (zeros n) ≡ 0 =
    bytes_turned (λ x y. x) (λ x y. y) (λ x y hx hy. refl) (zeros n) (zeros n) ∙ bytes-zeros (λ x y. y) (λ x h. refl) (zeros n) n in
    omega (arith, no_ones, rises-zeros s n, balance s (zeros n) (e ∙ sym (length-zeros n)))
