-- Elements in a list of bytes, for any width: their bounds, their bytes, and what is read after a write. Assumes nothing.
use mathlib.Core.Path.{◌≡◌, refl, sym, ap, ◌∙◌}
use mathlib.Core.List.{List, [], ◌∷◌, ◌++◌}
use mathlib.Core.Logic.{⊎_elim}
use Prim.Native.Nat.{ℕ, zero, suc, ◌+◌, ◌*◌, ◌/◌, ◌%◌, ◌^◌, ◌≤◌, ◌<◌}
use native.Mathlib.Nat.{add-zero, zero-add, add-suc, add_assoc, mul_assoc, mul_comm, mul-suc, add-mul, zero-mul, pow-suc, one-le-pow, mul-le-mul_right, eq-or-lt_of_le, le_refl, mod-one, mod-lt, div-div-eq-div-mul}
use native.Mathlib.Numerals.{add-one}
use native.Mathlib.Omega.{arith}
use lib.ListN.{length, get_or, set, take, drop, length-set, length-replicate}
use lib.Seq.{get_or-set_same, get_or-set_other, get_or-take, get_or-drop}
use lib.Pow.{pow-add}
use lib.Arith.{mod-mul}
use lib.Dec.{lit<}
pub use Rattle.elements.specs.Elements.{Bytes}
use Rattle.std.specs.Int.{sum_through, byte_worth}
use Rattle.elements.specs.Elements.{zeros, element_at, put_at, low_bytes, splice}

-- ---- numbers of k bytes

pub pow256 : (k : ℕ) → 256 ^ k ≡ 2 ^ (8 * k)
pow256 zero = refl
pow256 (suc k) = rw (pow-suc, pow256 k, mul-suc 8 k, pow-add)

pub pow256_pos : (k : ℕ) → 0 < 256 ^ k
pow256_pos k = one-le-pow k 256 (lit< tt)

-- ---- bytes of lists made of lists

pub Bytes_append : (s t : List ℕ) → Bytes s → Bytes t → Bytes (s ++ t)
Bytes_append [] t p q i = q i
Bytes_append (x ∷ s) t p q zero = p 0
Bytes_append (x ∷ s) t p q (suc i) = Bytes_append s t (λ j. p (suc j)) q i

pub Bytes-take : (n : ℕ) (s : List ℕ) → Bytes s → Bytes (take n s)
Bytes-take zero s p i = lit< tt
Bytes-take (suc n) [] p i = p i
Bytes-take (suc n) (x ∷ s) p zero = p 0
Bytes-take (suc n) (x ∷ s) p (suc i) = Bytes-take n s (λ j. p (suc j)) i

pub Bytes-drop : (n : ℕ) (s : List ℕ) → Bytes s → Bytes (drop n s)
Bytes-drop n s p i = rw get_or-drop (p (n + i))

pub Bytes-splice : (at : ℕ) (x s : List ℕ) → Bytes x → Bytes s → Bytes (splice at x s)
Bytes-splice at x s p q =
    Bytes_append (take at s ++ x) (drop (at + length x) s) (Bytes_append (take at s) x (Bytes-take at s q) p) (Bytes-drop (at + length x) s q)

pub Bytes-low_bytes : (k v : ℕ) → Bytes (low_bytes k v)
unfolding low_bytes
Bytes-low_bytes zero v i = lit< tt
Bytes-low_bytes (suc k) v i = Bytes_append (low_bytes k v) (v / 256 ^ k % 256 ∷ []) (Bytes-low_bytes k v) last i
  where
    last : Bytes (v / 256 ^ k % 256 ∷ [])
    last zero = mod-lt (v / 256 ^ k) (lit< tt)
    last (suc i) = lit< tt

-- ---- zeros

pub length-zeros : (n : ℕ) → length (zeros n) ≡ n
length-zeros n = length-replicate n 0

pub get_d-zeros : (n i : ℕ) → get_or (zeros n) i 0 ≡ 0
get_d-zeros zero i = refl
get_d-zeros (suc n) zero = refl
get_d-zeros (suc n) (suc i) = get_d-zeros n i

pub Bytes-zeros : (n : ℕ) → Bytes (zeros n)
Bytes-zeros n i = rw get_d-zeros (lit< tt)

pub element_at-zeros : (k at n : ℕ) → element_at k at (zeros n) ≡ 0
unfolding element_at
element_at-zeros zero at n = refl
element_at-zeros (suc k) at n = rw (element_at-zeros k at n, get_d-zeros, zero-mul)

-- ---- an element

-- an element of j + k bytes is one of j bytes and one of k bytes
pub element_at_add : (j k at : ℕ) (s : List ℕ) → element_at (j + k) at s ≡ element_at j at s + element_at k (at + j) s * 256 ^ j
unfolding element_at
element_at_add j zero at s = rw (add-zero, zero-mul, add-zero)
element_at_add j (suc k) at s =
    let g : ℕ = get_or s (at + j + k) 0 in
    let p : g * (256 ^ j * 256 ^ k) ≡ g * 256 ^ k * 256 ^ j = simp (mul_assoc, mul_comm (256 ^ j) (256 ^ k)) in
    rw (add-suc, element_at_add j k at s, pow-add, add-mul, ← add_assoc at j k) (omega arith)

pub element_at_lt : (k at : ℕ) (s : List ℕ) → Bytes s → element_at k at s < 256 ^ k
unfolding element_at
element_at_lt zero at s b = lit< tt
element_at_lt (suc k) at s b =
    let h = b (at + k) in
    let g : ℕ = get_or s (at + k) 0 in
    rw pow-suc (omega (arith, element_at_lt k at s b, mul-le-mul_right {m = g} {n = 255} (256 ^ k) (omega arith)))

-- two places hold the same number where they hold the same bytes
pub element_at_same : (k a b : ℕ) (s t : List ℕ) → ((i : ℕ) → i < k → get_or s (a + i) 0 ≡ get_or t (b + i) 0) → element_at k a s ≡ element_at k b t
unfolding element_at
element_at_same zero a b s t h = refl
element_at_same (suc k) a b s t h = rw (element_at_same k a b s t (λ i q. h i (omega arith)), h k (le_refl (suc k)))

pub element_at-drop : (k at d : ℕ) (s : List ℕ) → element_at k at (drop d s) ≡ element_at k (d + at) s
element_at-drop k at d s = element_at_same k at (d + at) (drop d s) s (λ i q. rw (get_or-drop, add_assoc))

pub element_at-take : (k at w : ℕ) (s : List ℕ) → at + k ≤ w → element_at k at (take w s) ≡ element_at k at s
element_at-take k at w s h = element_at_same k at at (take w s) s (λ i q. get_or-take w s (at + i) 0 (omega arith))

-- the library reads the first k + 1 bytes of a list so
pub sum_element : (k : ℕ) (s : List ℕ) → sum_through (λ i. byte_worth i (get_or s i 0)) k ≡ element_at (suc k) 0 s
unfolding element_at
sum_element zero s = omega arith
sum_element (suc k) s = rw (sum_element k s, zero-add (suc k)) refl

-- and those from `at` on, where they were copied
pub copied_element : (k at : ℕ) (s : List ℕ) → element_at k 0 (take k (drop at s)) ≡ element_at k at s
copied_element k at s = element_at-take k 0 k (drop at s) (omega arith) ∙ element_at-drop k 0 at s ∙ ap (λ (n : ℕ). element_at k n s) (add-zero at)

-- the digits of v are v
element_at_digits : (k at v : ℕ) (s : List ℕ) → ((i : ℕ) → i < k → get_or s (at + i) 0 ≡ v / 256 ^ i % 256) → element_at k at s ≡ v % 256 ^ k
unfolding element_at
element_at_digits zero at v s h = sym (mod-one v)
element_at_digits (suc k) at v s h =
    let p = mod-mul v {m = 256} {c = 256 ^ k} (lit< tt) (pow256_pos k) in
    rw (element_at_digits k at v s (λ i q. h i (omega arith)), h k (le_refl (suc k)), pow-suc, mul_comm (256 ^ k) 256) (omega arith)

-- ---- a write

-- what is left of v after one byte more
pub rest_turn : (v i : ℕ) → v / 2 ^ (8 * i) / 256 ≡ v / 2 ^ (8 * (i + 1))
rest_turn v i = rw (← pow256 i, ← pow256 (i + 1), add-one, pow-suc, div-div-eq-div-mul)

-- j + k bytes are written as j bytes and then k bytes
pub put_add : (j k at v : ℕ) (s : List ℕ) → put_at (j + k) at v s ≡ put_at k (at + j) (v / 256 ^ j) (put_at j at v s)
unfolding put_at
put_add j zero at v s = rw add-zero
put_add j (suc k) at v s = rw (add-suc, put_add j k at v s, add_assoc, pow-add, div-div-eq-div-mul)

module _ (at v : ℕ) (s : List ℕ) where
  pub length_put : (k : ℕ) → length (put_at k at v s) ≡ length s
  unfolding put_at
  length_put zero = refl
  length_put (suc k) = simp (length-set, length_put k)

  -- a turn of the loop that writes: one byte more
  pub put_turn : (i : ℕ) → set (put_at i at v s) (at + i) (v / 2 ^ (8 * i) % 256) ≡ put_at (i + 1) at v s
  unfolding put_at
  put_turn i = rw (← pow256 i, add-one) refl

  -- each byte: before, after, and in the place that is written
  put_before : (k i : ℕ) → i < at → get_or (put_at k at v s) i 0 ≡ get_or s i 0
  unfolding put_at
  put_before zero i h = refl
  put_before (suc k) i h = get_or-set_other (put_at k at v s) (at + k) i (v / 256 ^ k % 256) 0 (λ (e : i ≡ at + k). omega arith) ∙ put_before k i h

  pub put_after : (k i : ℕ) → at + k ≤ i → get_or (put_at k at v s) i 0 ≡ get_or s i 0
  unfolding put_at
  put_after zero i h = refl
  put_after (suc k) i h = get_or-set_other (put_at k at v s) (at + k) i (v / 256 ^ k % 256) 0 (λ (e : i ≡ at + k). omega arith) ∙ put_after k i (omega arith)

  put_in : (k i : ℕ) → at + k ≤ length s → i < k → get_or (put_at k at v s) (at + i) 0 ≡ v / 256 ^ i % 256
  unfolding put_at
  put_in (suc k) i r h =
      ⊎_elim
      (λ (q : i ≡ k). rw q (get_or-set_same (put_at k at v s) (at + k) (v / 256 ^ k % 256) 0 (rw (length_put k) (omega arith))))
      (λ (q : i < k). get_or-set_other (put_at k at v s) (at + k) (at + i) (v / 256 ^ k % 256) 0 (λ (e : at + i ≡ at + k). omega arith) ∙ put_in k i (omega arith) q)
      (eq-or-lt_of_le (omega arith))
  put_in zero i r h = absurd (omega arith)

  -- read after write: the same place, and a place before or after
  pub element_at_put : (k : ℕ) → at + k ≤ length s → element_at k at (put_at k at v s) ≡ v % 256 ^ k
  element_at_put k r = element_at_digits k at v (put_at k at v s) (λ i q. put_in k i r q)

  pub element_at_put_before : (k j b : ℕ) → b + j ≤ at → element_at j b (put_at k at v s) ≡ element_at j b s
  element_at_put_before k j b h = element_at_same j b b (put_at k at v s) s (λ i q. put_before k (b + i) (omega arith))

  pub element_at_put_after : (k j b : ℕ) → at + k ≤ b → element_at j b (put_at k at v s) ≡ element_at j b s
  element_at_put_after k j b h = element_at_same j b b (put_at k at v s) s (λ i q. put_after k (b + i) (omega arith))
