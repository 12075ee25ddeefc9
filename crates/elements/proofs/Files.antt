-- Register files: vectors in a file, splices, and that one vector after the other is what `renewed` says of all at once. Assumes nothing.
use mathlib.Core.Path.{◌≡◌, refl, sym, ap, ◌∙◌}
use mathlib.Core.Bool.{Bool, true, false, cond}
use mathlib.Core.List.{List, ◌++◌, append_assoc}
use mathlib.Core.Logic.{◌≢◌, ⊎_elim}
use Prim.Native.Nat.{ℕ, zero, suc, ◌+◌, ◌-◌, ◌*◌, ◌≤◌, ◌<◌}
use native.Mathlib.Nat.{add_assoc, add-mul, one-mul, zero-mul, suc-mul, le_refl, eq-or-lt_of_le}
use native.Mathlib.Decide.{dec_le}
use native.Mathlib.Omega.{arith}
use lib.ListN.{length, get_or, take, drop, length-append, length-take, length-drop}
use lib.Seq.{take_all, take-add, take_at, drop_at, drop-drop, take-append-le, drop-append-le, length-take-le, get_or-take, get_or-drop, ext_get_or}
use Rattle.laws.proofs.Tests.{cond-holds, cond_then, never_both}
use Rattle.elements.specs.Elements.{splice}
use Rattle.elements.specs.Files.{vector_at, laid, renewed, replaced}
use Rattle.elements.proofs.Elements.{Bytes, Bytes-take, Bytes-drop, Bytes-splice}
use Rattle.elements.proofs.Vectors.{within}

-- vector v ends where the next one begins
pub next : (v w : ℕ) → (v + 1) * w ≡ v * w + w
next v w = rw (add-mul, one-mul)

-- each vector of a file is in it
pub room : (v n w : ℕ) (s : List ℕ) → length s ≡ n * w → v < n → (v + 1) * w ≤ length s
room v n w s long h = rw (next, long) (within v n w h)

-- ---- a splice and its three parts

module _ (at : ℕ) (x s : List ℕ) (fit : at + length x ≤ length s) where
  front : length (take at s) ≡ at
  front = length-take-le at s (omega arith)

  front_two : length (take at s ++ x) ≡ at + length x
  front_two = rw (length-append, front)

  pub length-splice : length (splice at x s) ≡ length s
  length-splice = rw (length-append, front_two, length-drop) (omega arith)

  pub take-splice : take at (splice at x s) ≡ take at s
  take-splice = rw append_assoc (take_at (take at s) (x ++ drop (at + length x) s) at front)

  pub drop-splice : drop (at + length x) (splice at x s) ≡ drop (at + length x) s
  drop-splice = drop_at (take at s ++ x) (drop (at + length x) s) (at + length x) front_two

  pub part-splice : take (length x) (drop at (splice at x s)) ≡ x
  part-splice =
      rw (append_assoc, drop_at (take at s) (x ++ drop (at + length x) s) at front)
      (take_at x (drop (at + length x) s) (length x) refl)

  -- byte by byte
  pub splice_before : (i : ℕ) → i < at → get_or (splice at x s) i 0 ≡ get_or s i 0
  splice_before i h = sym (get_or-take at (splice at x s) i 0 h) ∙ rw take-splice (get_or-take at s i 0 h)

  pub splice_after : (i : ℕ) → at + length x ≤ i → get_or (splice at x s) i 0 ≡ get_or s i 0
  splice_after i h =
      let j : ℕ = i - (at + length x) in
      let e : i ≡ at + length x + j = omega arith in
      rw e (sym (get_or-drop (at + length x) (splice at x s) j 0) ∙ rw drop-splice (get_or-drop (at + length x) s j 0))

-- two lists of one length have the same part where they have the same bytes
part_same : (a w : ℕ) (s t : List ℕ) → length s ≡ length t → ((i : ℕ) → i < w → get_or s (a + i) 0 ≡ get_or t (a + i) 0)
    → take w (drop a s) ≡ take w (drop a t)
part_same a w s t long h =
    ext_get_or 0 (take w (drop a s)) (take w (drop a t)) (rw (length-take w (drop a s), length-take w (drop a t), length-drop a s, length-drop a t, long))
    (λ i q.
    let p : i < w = omega (arith, length-take w (drop a s)) in
    get_or-take w (drop a s) i 0 p ∙ get_or-drop a s i 0 ∙ h i p ∙ sym (get_or-drop a t i 0) ∙ sym (get_or-take w (drop a t) i 0 p))

-- two splices, one right behind the other, are one
pub splice_behind : (at : ℕ) (x y s : List ℕ) → at + length x ≤ length s → splice (at + length x) y (splice at x s) ≡ splice at (x ++ y) s
splice_behind at x y s fit =
    let t : List ℕ = splice at x s in
    let rest : drop (at + length x + length y) t ≡ drop (at + length x + length y) s =
    sym (drop-drop (length y) (at + length x) t) ∙ ap (drop (length y)) (drop-splice at x s fit) ∙ drop-drop (length y) (at + length x) s in
    let start : take (at + length x) t ≡ take at s ++ x = take_at (take at s ++ x) (drop (at + length x) s) (at + length x) (front_two at x s fit) in
    rw (start, rest, length-append, add_assoc) (simp append_assoc)

-- ---- a vector of a file

pub length-vector_at : (w v : ℕ) (s : List ℕ) → (v + 1) * w ≤ length s → length (vector_at w v s) ≡ w
unfolding vector_at
length-vector_at w v s h = length-take-le w (drop (v * w) s) (rw length-drop (omega (arith, next v w)))

pub Bytes-vector_at : (w v : ℕ) (s : List ℕ) → Bytes s → Bytes (vector_at w v s)
unfolding vector_at
Bytes-vector_at w v s b = Bytes-take w (drop (v * w) s) (Bytes-drop (v * w) s b)

module _ (w v : ℕ) (x s : List ℕ) (long : length x ≡ w) (fit : (v + 1) * w ≤ length s) where
  fits : v * w + length x ≤ length s
  fits = omega (arith, next v w)

  vector_at-splice_same : vector_at w v (splice (v * w) x s) ≡ x
  unfolding vector_at
  vector_at-splice_same = ap (λ (k : ℕ). take k (drop (v * w) (splice (v * w) x s))) (sym long) ∙ part-splice (v * w) x s fits

  vector_at_splice_other : (u : ℕ) → u ≢ v → vector_at w u (splice (v * w) x s) ≡ vector_at w u s
  unfolding vector_at
  vector_at_splice_other u apart = part_same (u * w) w (splice (v * w) x s) s (length-splice (v * w) x s fits) (side (dec_le u v))
    where
      side : Dec (u ≤ v) → (i : ℕ) → i < w → get_or (splice (v * w) x s) (u * w + i) 0 ≡ get_or s (u * w + i) 0
      side (yes h) i q =
          ⊎_elim
          (λ (e : u ≡ v). absurd (apart e))
          (λ (l : u < v). splice_before (v * w) x s fits (u * w + i) (omega (arith, within u v w l)))
          (eq-or-lt_of_le h)
      side (no h) i q = splice_after (v * w) x s fits (u * w + i) (omega (arith, within v u w (omega arith)))

-- ---- lists one after the other

laid_cong : (f g : ℕ → List ℕ) (n : ℕ) → ((v : ℕ) → v < n → f v ≡ g v) → laid f n ≡ laid g n
unfolding laid
laid_cong f g zero h = refl
laid_cong f g (suc n) h = rw (laid_cong f g n (λ v q. h v (omega arith)), h n (le_refl (suc n)))

module _ (f : ℕ → List ℕ) (w : ℕ) where
  length-laid : (n : ℕ) → ((v : ℕ) → v < n → length (f v) ≡ w) → length (laid f n) ≡ n * w
  unfolding laid
  length-laid zero h = sym (zero-mul w)
  length-laid (suc n) h = rw (length-append, length-laid n (λ v q. h v (omega arith)), h n (le_refl (suc n)), suc-mul)

  vector_at-laid : (n v : ℕ) → v < n → ((u : ℕ) → u < n → length (f u) ≡ w) → vector_at w v (laid f n) ≡ f v
  unfolding laid vector_at
  vector_at-laid zero v h wide = absurd (omega arith)
  vector_at-laid (suc n) v h wide =
      let l = length-laid n (λ u q. wide u (omega arith)) in
      ⊎_elim
      (λ (e : v ≡ n). rw (e, drop_at (laid f n) (f n) (n * w) l) (take_all w (f n) (rw (wide n (le_refl (suc n))) (le_refl w))))
      (λ (q : v < n).
      rw (drop-append-le (v * w) (laid f n) (f n) (omega (arith, within v n w q)))
      (take-append-le w (drop (v * w) (laid f n)) (f n) (rw (length-drop, l) (omega (arith, within v n w q)))
      ∙ vector_at-laid n v q (λ u p. wide u (omega arith))))
      (eq-or-lt_of_le (omega arith))

-- the first vectors of a file are its first bytes
laid-take : (w n : ℕ) (s : List ℕ) → laid (λ v. vector_at w v s) n ≡ take (n * w) s
unfolding laid vector_at
laid-take w zero s = rw zero-mul
laid-take w (suc n) s = rw (laid-take w n s, suc-mul) (sym (take-add (n * w) w s))

-- a file is its vectors one after the other
laid-vector_at : (w n : ℕ) (s : List ℕ) → length s ≡ n * w → laid (λ v. vector_at w v s) n ≡ s
laid-vector_at w n s long = laid-take w n s ∙ take_all (n * w) s (omega arith)

-- ---- a file in which some vectors are new

module _ (writes : ℕ → Bool) (new : ℕ → List ℕ) (w n : ℕ) (s : List ℕ) where
  abbrev Now : ℕ → List ℕ
  Now v = cond (writes v) (new v) (vector_at w v s)

  module _ (long : length s ≡ n * w) (wide : (v : ℕ) → v < n → writes v ≡ true → length (new v) ≡ w) where
    now_wide : (v : ℕ) → v < n → length (Now v) ≡ w
    now_wide v h = cond-holds (λ (l : List ℕ). length l ≡ w) (writes v) (new v) (vector_at w v s) (wide v h) (λ q. length-vector_at w v s (room v n w s long h))

    pub vector_at-renewed : (v : ℕ) → v < n → vector_at w v (renewed writes new w n s) ≡ cond (writes v) (new v) (vector_at w v s)
    unfolding renewed
    vector_at-renewed v h = vector_at-laid Now w n v h now_wide

-- only what is written counts
pub renewed_cong : (writes : ℕ → Bool) (new new' : ℕ → List ℕ) (w n : ℕ) (s : List ℕ) → ((v : ℕ) → v < n → writes v ≡ true → new v ≡ new' v)
    → renewed writes new w n s ≡ renewed writes new' w n s
unfolding renewed
renewed_cong writes new new' w n s h =
    laid_cong (λ v. cond (writes v) (new v) (vector_at w v s)) (λ v. cond (writes v) (new' v) (vector_at w v s)) n (λ v l. cond_then (writes v) (new v) (new' v) (vector_at w v s) (h v l))

-- what was written is undone by writing what was there
pub renewed_undone : (writes : ℕ → Bool) (new again : ℕ → List ℕ) (w n : ℕ) (s : List ℕ) → length s ≡ n * w
    → ((v : ℕ) → v < n → writes v ≡ true → length (new v) ≡ w) → ((v : ℕ) → v < n → writes v ≡ true → again v ≡ vector_at w v s)
    → renewed writes again w n (renewed writes new w n s) ≡ s
unfolding renewed
renewed_undone writes new again w n s long wide h =
    laid_cong (λ v. cond (writes v) (again v) (vector_at w v (renewed writes new w n s))) (λ v. vector_at w v s) n
    (λ v l. cond-holds (λ (x : List ℕ). x ≡ vector_at w v s) (writes v) (again v) _ (h v l) (λ q. vector_at-renewed writes new w n s long wide v l ∙ rw q))
    ∙ laid-vector_at w n s long

-- ---- one vector after the other

-- what is asked of the vectors that are replaced: they are in the file and of its width
pub record Placed (place : ℕ → ℕ) (new : ℕ → List ℕ) (w n count : ℕ) (s : List ℕ) : Type 0 where
  pub long : length s ≡ n * w
  pub inside : (q : ℕ) → q < count → place q < n
  pub wide : (q : ℕ) → q < count → length (new q) ≡ w

-- and no two have one place
abbrev pub Distinct : (ℕ → ℕ) → ℕ → Type 0
Distinct place count = (p q : ℕ) → p < count → q < count → place p ≡ place q → p ≡ q

module _ (place : ℕ → ℕ) (new : ℕ → List ℕ) (w n : ℕ) (s : List ℕ) where
  abbrev R : ℕ → List ℕ
  R count = replaced place new w count s

  -- the first of them are placed too
  pub fewer : (count : ℕ) → Placed place new w n (suc count) s → Placed place new w n count s
  fewer count P = record {
    long = P.long;
    inside = λ q h. P.inside q (omega arith);
    wide = λ q h. P.wide q (omega arith);
  }

  -- the last of them is in the file
  pub fit_in : (count : ℕ) → Placed place new w n (suc count) s → place count * w + length (new count) ≤ length s
  fit_in count P =
      let last : count < suc count = le_refl (suc count) in
      rw (P.wide count last, P.long) (within (place count) n w (P.inside count last))

  pub length-replaced : (count : ℕ) → Placed place new w n count s → length (replaced place new w count s) ≡ length s
  unfolding replaced
  length-replaced zero P = refl
  length-replaced (suc count) P =
      let l = length-replaced count (fewer count P) in
      length-splice (place count * w) (new count) (R count) (rw l (fit_in count P)) ∙ l

  pub Bytes-replaced : (count : ℕ) → ((q : ℕ) → q < count → Bytes (new q)) → Bytes s → Bytes (replaced place new w count s)
  unfolding replaced
  Bytes-replaced zero h b i = b i
  Bytes-replaced (suc count) h b i =
      Bytes-splice (place count * w) (new count) (R count) (h count (le_refl (suc count))) (Bytes-replaced count (λ q p. h q (omega arith)) b) i

  -- the last of them is in the file as it then is, too
  next_room : (count : ℕ) → Placed place new w n (suc count) s → (place count + 1) * w ≤ length (replaced place new w count s)
  next_room count P =
      omega (arith, next (place count) w, fit_in count P, P.wide count (le_refl (suc count)), length-replaced count (fewer count P))

  -- a vector that none of them replaces is as it was
  pub replaced_out : (count v : ℕ) → Placed place new w n count s → ((q : ℕ) → q < count → place q ≢ v)
      → vector_at w v (replaced place new w count s) ≡ vector_at w v s
  unfolding replaced
  replaced_out zero v P out = refl
  replaced_out (suc count) v P out =
      vector_at_splice_other w (place count) (new count) (R count) (P.wide count (le_refl (suc count))) (next_room count P) v
      (λ e. out count (le_refl (suc count)) (sym e))
      ∙ replaced_out count v (fewer count P) (λ q h. out q (omega arith))

  -- the one that is replaced p-th is new
  replaced_in : (count p : ℕ) → Placed place new w n count s → Distinct place count → p < count
      → vector_at w (place p) (replaced place new w count s) ≡ new p
  unfolding replaced
  replaced_in zero p P apart h = absurd (omega arith)
  replaced_in (suc count) p P apart h =
      let wide = P.wide count (le_refl (suc count)) in
      ⊎_elim
      (λ (e : p ≡ count). rw e (vector_at-splice_same w (place count) (new count) (R count) wide (next_room count P)))
      (λ (l : p < count).
      vector_at_splice_other w (place count) (new count) (R count) wide (next_room count P) (place p)
      (λ (e : place p ≡ place count). let same = apart p count h (le_refl (suc count)) e in omega arith)
      ∙ replaced_in count p (fewer count P) (λ a b ha hb e. apart a b (omega arith) (omega arith) e) l)
      (eq-or-lt_of_le (omega arith))

-- ---- one after the other is all at once

-- `writes` names the places, and `which` says for each of them which vector is put there
pub record Names (place which : ℕ → ℕ) (writes : ℕ → Bool) (n count : ℕ) : Type 0 where
  pub named : (v : ℕ) → v < n → writes v ≡ true → (which v < count) × (place (which v) ≡ v)
  pub all : (q : ℕ) → q < count → writes (place q) ≡ true

module _ (place which : ℕ → ℕ) (new : ℕ → List ℕ) (writes : ℕ → Bool) (w n count : ℕ) (s : List ℕ) (P : Placed place new w n count s)
    (apart : Distinct place count) (N : Names place which writes n count) where
  each : (v : ℕ) → v < n → (b : Bool) → writes v ≡ b → vector_at w v (replaced place new w count s) ≡ cond b (new (which v)) (vector_at w v s)
  each v h true e =
      let k = N.named v h e in
      ap (λ (u : ℕ). vector_at w u (replaced place new w count s)) (sym k.1) ∙ replaced_in place new w n s count (which v) P apart k.0
  each v h false e =
      replaced_out place new w n s count v P
      (λ q p (i : place q ≡ v). never_both (writes v) (ap writes (sym i) ∙ N.all q p) e)

  pub replaced-renewed : replaced place new w count s ≡ renewed writes (λ v. new (which v)) w n s
  unfolding renewed
  replaced-renewed =
      sym (laid-vector_at w n (replaced place new w count s) (length-replaced place new w n s count P ∙ P.long))
      ∙ laid_cong (λ v. vector_at w v (replaced place new w count s)) (λ v. cond (writes v) (new (which v)) (vector_at w v s)) n
      (λ v h. each v h (writes v) refl)
