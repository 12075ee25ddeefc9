-- Vectors: a list that is laid of elements, and what a loop leaves that puts element after element. Assumes nothing.
use mathlib.Core.Path.{◌≡◌, refl, sym, ap, ◌∙◌}
use mathlib.Core.List.{List, ◌++◌, append_assoc, append-nil}
use mathlib.Core.Logic.{⊎_elim}
use Prim.Native.Nat.{ℕ, zero, suc, ◌+◌, ◌*◌, ◌/◌, ◌%◌, ◌^◌, ◌≤◌, ◌<◌}
use native.Mathlib.Nat.{add-zero, zero-add, add_assoc, add_comm, zero-mul, suc-mul, mul_comm, pow-suc, mul-le-mul_right, le_refl, eq-or-lt_of_le, mod-lt, mod-eq_of_lt}
use native.Mathlib.Numerals.{add-one}
use native.Mathlib.Omega.{arith}
use lib.ListN.{length, get_or, take, drop, length-append, length-drop, take-append-drop, drop_of_length-le}
use lib.Seq.{set_at, set-get_or, drop-cons, drop-drop, length-take-le}
use lib.Arith.{digits_div, digits_mod, mod-mul}
use lib.Dec.{lit<}
use Rattle.elements.specs.Elements.{element_at, element, put_at, low_bytes, vector, splice}
use Rattle.elements.proofs.Elements.{Bytes, Bytes_append, Bytes-low_bytes, pow256_pos, element_at_lt, length_put, put_after, element_at_put, element_at_put_before}

-- each of count elements ends within them
pub within : (e count k : ℕ) → e < count → e * k + k ≤ count * k
within e count k h = rw (← suc-mul e k) (mul-le-mul_right k h)

-- ---- a vector

length-low_bytes : (k v : ℕ) → length (low_bytes k v) ≡ k
unfolding low_bytes
length-low_bytes zero v = refl
length-low_bytes (suc k) v = rw (length-append, length-low_bytes k v) (omega arith)

pub length-vector : (f : ℕ → ℕ) (k n : ℕ) → length (vector f k n) ≡ n * k
unfolding vector
length-vector f k zero = sym (zero-mul k)
length-vector f k (suc n) = rw (length-append, length-vector f k n, length-low_bytes, suc-mul)

pub vector_cong : (f g : ℕ → ℕ) (k n : ℕ) → ((e : ℕ) → e < n → f e ≡ g e) → vector f k n ≡ vector g k n
unfolding vector
vector_cong f g k zero h = refl
vector_cong f g k (suc n) h = rw (vector_cong f g k n (λ e q. h e (omega arith)), h n (le_refl (suc n)))

pub Bytes-vector : (f : ℕ → ℕ) (k n : ℕ) → Bytes (vector f k n)
unfolding vector
Bytes-vector f k zero i = lit< tt
Bytes-vector f k (suc n) i = Bytes_append (vector f k n) (low_bytes k (f n)) (Bytes-vector f k n) (Bytes-low_bytes k (f n)) i

-- ---- elements written one after the other

-- s with the elements f 0 .. f (n - 1), of k bytes each, written one after the other from `base`
unfoldable pub put_each : (ℕ → ℕ) → ℕ → ℕ → ℕ → List ℕ → List ℕ
unfolding put_at
put_each f k base zero s = s
put_each f k base (suc n) s = put_at k (base + n * k) (f n) (put_each f k base n s)

-- a loop's turn: one element more
pub put_each_turn : (f : ℕ → ℕ) (k base e at new : ℕ) (s out out' : List ℕ) → at ≡ base + e * k → new ≡ f e → out ≡ put_each f k base e s
    → out' ≡ put_at k at new out → out' ≡ put_each f k base (e + 1) s
unfolding put_each
put_each_turn f k base e at new s out out' ea en eo ep = rw (add-one, ← eo, ← en, ← ea) ep

module _ (f : ℕ → ℕ) (k base : ℕ) (s : List ℕ) where
  abbrev W : ℕ → List ℕ
  W n = put_each f k base n s

  pub length-put_each : (n : ℕ) → length (put_each f k base n s) ≡ length s
  unfolding put_each
  length-put_each zero = refl
  length-put_each (suc n) = length_put _ _ _ k ∙ length-put_each n

  pub put_each_after : (n i : ℕ) → base + n * k ≤ i → get_or (put_each f k base n s) i 0 ≡ get_or s i 0
  unfolding put_each
  put_each_after zero i h = refl
  put_each_after (suc n) i h =
      let q = suc-mul n k in
      put_after (base + n * k) (f n) (W n) k i (omega arith) ∙ put_each_after n i (omega arith)

  -- element e of what is written is f e
  put_each_element : (n e : ℕ) → e < n → base + n * k ≤ length s → element_at k (base + e * k) (put_each f k base n s) ≡ f e % 256 ^ k
  unfolding put_each
  put_each_element zero e h r = absurd (omega arith)
  put_each_element (suc n) e h r =
      let q = suc-mul n k in
      ⊎_elim
      (λ (p : e ≡ n). rw p (element_at_put (base + n * k) (f n) (W n) k (rw (length-put_each n) (omega arith))))
      (λ (p : e < n). element_at_put_before (base + n * k) (f n) (W n) k k (base + e * k) (omega (arith, within e n k p)) ∙ put_each_element n e p (omega arith))
      (eq-or-lt_of_le (omega arith))

put_append : (k v : ℕ) (p u : List ℕ) (at : ℕ) → length p ≡ at → k ≤ length u → put_at k at v (p ++ u) ≡ p ++ low_bytes k v ++ drop k u
unfolding put_at low_bytes
put_append zero v p u at e h = rw append-nil
put_append (suc k) v p u at e h =
    rw (put_append k v p u at e (omega arith), drop-cons u k 0)
    (set_at (p ++ low_bytes k v) (get_or u k 0) (drop (suc k) u) (v / 256 ^ k % 256) (at + k)
    (rw (length-append, length-low_bytes, e))
    ∙ simp (append_assoc))

-- to write the elements is to splice their vector
pub put_each-splice : (f : ℕ → ℕ) (k base n : ℕ) (s : List ℕ) → base + n * k ≤ length s → put_each f k base n s ≡ splice base (vector f k n) s
unfolding put_each vector
put_each-splice f k base zero s h = rw (append-nil, add-zero) (sym (take-append-drop base s))
put_each-splice f k base (suc n) s h =
    let q = suc-mul n k in
    let r : base + n * k ≤ length s = omega arith in
    let l = length-take-le base s (omega arith) in
    rw (put_each-splice f k base n s r)
    (put_append k (f n) (take base s ++ vector f k n) (drop (base + length (vector f k n)) s) (base + n * k)
    (rw (length-append, l, length-vector))
    (rw (length-drop, length-vector) (omega arith))
    ∙ rw (drop-drop, length-append, length-low_bytes, length-vector) (simp (append_assoc, add_assoc)))

-- in a buffer of exactly their bytes, what is left is the vector
put_each-vector : (f : ℕ → ℕ) (k n : ℕ) (s : List ℕ) → length s ≡ n * k → put_each f k 0 n s ≡ vector f k n
put_each-vector f k n s long =
    put_each-splice f k 0 n s (omega arith)
    ∙ rw (drop_of_length-le s {i = 0 + length (vector f k n)} (rw length-vector (omega arith))) (append-nil _)

-- a loop's end
pub put_each_end : (f : ℕ → ℕ) (k e n : ℕ) (s out : List ℕ) → e ≤ n → n ≤ e → length s ≡ n * k → out ≡ put_each f k 0 e s → out ≡ vector f k n
put_each_end f k e n s out h l long eo =
    let q : e ≡ n = omega arith in
    eo ∙ rw q (put_each-vector f k n s long)

pub vector-element : (f : ℕ → ℕ) (k n e : ℕ) → e < n → element k (vector f k n) e ≡ f e % 256 ^ k
vector-element f k n e h =
    let l = length-vector f k n in
    rw (put_each-vector f k n (vector f k n) l, zero-add) at (put_each_element f k 0 (vector f k n) n e h (omega arith))

-- ---- a list is known by its elements

-- an element that is put where it stands changes nothing
put_self : (k at v : ℕ) (s : List ℕ) → Bytes s → v % 256 ^ k ≡ element_at k at s → put_at k at v s ≡ s
unfolding put_at element_at
put_self zero at v s b e = refl
put_self (suc k) at v s b e =
    let g : ℕ = get_or s (at + k) 0 in
    let q : ℕ = v / 256 ^ k % 256 in
    let rl : v % 256 ^ k < 256 ^ k = mod-lt v (pow256_pos k) in
    let ll = element_at_lt k at s b in
    let both : q * 256 ^ k + v % 256 ^ k ≡ g * 256 ^ k + element_at k at s =
    sym (mod-mul v {m = 256} {c = 256 ^ k} (lit< tt) (pow256_pos k)) ∙ rw (mul_comm 256 (256 ^ k), ← pow-suc 256 k) (e ∙ add_comm _ _) in
    let low : v % 256 ^ k ≡ element_at k at s = sym (digits_mod q rl) ∙ ap (λ (x : ℕ). x % 256 ^ k) both ∙ digits_mod g ll in
    let high : q ≡ g = sym (digits_div q rl) ∙ ap (λ (x : ℕ). x / 256 ^ k) both ∙ digits_div g ll in
    rw (put_self k at v s b low, high) (set-get_or s (at + k) 0)

module _ (f : ℕ → ℕ) (k n : ℕ) (s : List ℕ) (by : Bytes s) (long : length s ≡ n * k) (all : (e : ℕ) → e < n → element k s e ≡ f e) where
  unmoved : (j : ℕ) → j ≤ n → put_each f k 0 j s ≡ s
  unfolding put_each
  unmoved zero h = refl
  unmoved (suc j) h =
      let a = all j h in
      let small : f j < 256 ^ k = rw (← a) (element_at_lt k (j * k) s by) in
      rw (unmoved j (omega arith), zero-add) (put_self k (j * k) (f j) s by (mod-eq_of_lt small ∙ sym a))

  -- a list whose elements are f 0 .. f (n - 1) is their vector
  pub vector_known : vector f k n ≡ s
  vector_known = sym (put_each-vector f k n s long) ∙ unmoved n (le_refl n)

-- the vector of a list's own elements is the list
pub vector_own : (k n : ℕ) (s : List ℕ) → Bytes s → length s ≡ n * k → vector (element k s) k n ≡ s
vector_own k n s by long = vector_known (element k s) k n s by long (λ e h. refl)
