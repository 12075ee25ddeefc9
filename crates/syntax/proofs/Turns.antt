-- One turn of each loop. Assumes nothing.
use Prim.Native.Nat.{ℕ, ◌+◌, ◌-◌, ◌/◌, ◌%◌, ◌<◌, ◌≤◌}
use native.Mathlib.Nat.{add-zero}
use native.Mathlib.Numerals.{add-one}
use native.Mathlib.Omega.{arith}
use mathlib.Core.Path.{◌≡◌, refl, sym, ap, ap₂, ◌∙◌}
use mathlib.Core.Bool.{true, false, cond}
use mathlib.Core.List.{List, [], ◌∷◌, ◌++◌, append_assoc, append-nil}
use lib.ListN.{length, get_or, set, take, drop, length-set, drop_of_length-le}
use lib.Seq.{take-suc, get_or-drop, drop-cons, drop-drop, set_split, append_snoc}
use borrow.Author.Tests.{eq-eqb, ne_eqb}
use Rattle.pieces.specs.Pieces.{decimal, Wrote}
use Rattle.pieces.proofs.Pieces.{and_then, nothing, said as wrote_so}
use Rattle.syntax.specs.Syntax.{is_number, value_in, says, fill, TwoDigits}
use Rattle.syntax.specs.Scan.{says_of, is_letter, value_of, passes_of, after, fits_of, fits_first, fits, noted_of, noted, taken}
use Rattle.syntax.proofs.Laws.{by_test, letter_byte, number_letter, no_letter, one_figure, two_figures}

-- ---- a row is written

fill_append : (vs a b : List ℕ) → fill vs (a ++ b) ≡ fill vs a ++ fill vs b
unfolding fill
fill_append vs [] b = refl
fill_append vs (c ∷ a) b = rw (fill_append vs a b, append_assoc)

fill_one : (vs : List ℕ) (c : ℕ) → fill vs (c ∷ []) ≡ says vs c
unfolding fill
fill_one vs c = append-nil (says vs c)

fill_more : (vs row : List ℕ) (i : ℕ) → i < length row → fill vs (take i row) ++ says vs (get_or row i 0) ≡ fill vs (take (i + 1) row)
fill_more vs row i h = rw (add-one, take-suc row i 0 h, fill_append, fill_one)

pub one_more : (vs row start : List ℕ) (i : ℕ) {before after : List ℕ} → i < length row → before ≡ start ++ fill vs (take i row)
    → after ≡ before ++ says vs (get_or row i 0) → after ≡ start ++ fill vs (take (i + 1) row)
one_more vs row start i h x y =
    y ∙ ap (λ (t : List ℕ). t ++ says vs (get_or row i 0)) x ∙ append_assoc start _ _ ∙ ap (λ (t : List ℕ). start ++ t) (fill_more vs row i h)

pub nothing_yet : (vs start : List ℕ) → start ≡ start ++ fill vs []
unfolding fill
nothing_yet vs start = sym (append-nil start)

-- ---- the same into room that is lent

pub wrote_none : (vs row out : List ℕ) → Wrote (fill vs (take 0 row)) 0 out out 0
unfolding fill
wrote_none vs row out = nothing 0 out (omega arith)

pub wrote_more : (vs row : List ℕ) (i : ℕ) {r q : ℕ} {out₀ out₁ out₂ : List ℕ} → i < length row → Wrote (fill vs (take i row)) 0 out₀ out₁ r
    → Wrote (says vs (get_or row i 0)) r out₁ out₂ q → Wrote (fill vs (take (i + 1) row)) 0 out₀ out₂ q
wrote_more vs row i h x y = wrote_so (fill_more vs row i h) (and_then x y)

one_byte : (out : List ℕ) (at b : ℕ) → at < length out → Wrote (b ∷ []) at out (set out at b) (at + 1)
one_byte out at b h = record { ends = refl; fits = omega arith; bytes = set_split out at b h ∙ ap (λ (n : ℕ). take at out ++ b ∷ drop n out) (sym (add-one at)) ∙ sym (append_snoc (take at out) b (drop (at + 1) out)) }

two_bytes : (out : List ℕ) (at a b : ℕ) → at + 2 ≤ length out → Wrote ((a ∷ []) ++ (b ∷ [])) at out (set (set out at a) (at + 1) b) (at + 2)
two_bytes out at a b h =
    let l = length-set out at a in
    let e : at + 1 + 1 ≡ at + 2 = omega arith in
    rw e at (and_then (one_byte out at a (omega arith)) (one_byte (set out at a) (at + 1) b (omega (arith, l))))

-- ---- what a byte of a row says, by the value of a letter or the byte itself

abbrev ValueIn : List ℕ → ℕ → ℕ → Type 0
ValueIn vs c v = v ≡ cond (is_letter c) (value_in vs c) c

number_in : (vs : List ℕ) (c v : ℕ) → ValueIn vs c v → is_number c ≡ true → v ≡ value_in vs c
number_in vs c v e n = e ∙ rw (number_letter c n)

pub number_small : (vs : List ℕ) (c v : ℕ) → TwoDigits vs → ValueIn vs c v → is_number c ≡ true → v < 100
number_small vs c v s e n = omega (arith, number_in vs c v e n, s c n)

pub says_of_lem : (vs : List ℕ) (c v : ℕ) → ValueIn vs c v → says_of c v ≡ says vs c
says_of_lem vs c v e =
    by_test (is_number c)
    (λ n. rw n (ap decimal (number_in vs c v e n)))
    (λ n. by_test (is_letter c) (λ m. rw (e, m, n, letter_byte c m n)) (λ m. rw (e, m, n, (no_letter c m).1)))

-- ---- a byte of a row is written

pub says_one : (c v : ℕ) → is_number c ≡ true → v < 10 → (48 + v) ∷ [] ≡ says_of c v
says_one c v n l = one_figure v l ∙ rw n

pub says_two : (c v : ℕ) → is_number c ≡ true → 10 ≤ v → v < 100 → ((48 + v / 10) ∷ []) ++ ((48 + v % 10) ∷ []) ≡ says_of c v
says_two c v n l s = two_figures v l s ∙ rw n

-- one byte behind another
pub both_said : (start : List ℕ) (x y : ℕ) {said once twice : List ℕ} → once ≡ start ++ x ∷ [] → twice ≡ once ++ y ∷ []
    → (x ∷ []) ++ (y ∷ []) ≡ said → twice ≡ start ++ said
both_said start x y p q e =
    q ∙ ap (λ (t : List ℕ). t ++ y ∷ []) p ∙ append_assoc start (x ∷ []) (y ∷ []) ∙ ap (λ (t : List ℕ). start ++ t) e

-- the same into room that is lent
pub wrote_byte : (c v at : ℕ) (out : List ℕ) → at + 2 ≤ length out → is_number c ≡ false → Wrote (says_of c v) at out (set out at v) (at + 1)
wrote_byte c v at out h n = wrote_so (rw n) (one_byte out at v (omega arith))

pub wrote_one : (c v at : ℕ) (out : List ℕ) → at + 2 ≤ length out → is_number c ≡ true → v < 10
    → Wrote (says_of c v) at out (set out at (48 + v)) (at + 1)
wrote_one c v at out h n l = wrote_so (says_one c v n l) (one_byte out at (48 + v) (omega arith))

pub wrote_two : (c v at : ℕ) (out : List ℕ) → at + 2 ≤ length out → is_number c ≡ true → 10 ≤ v → v < 100
    → Wrote (says_of c v) at out (set (set out at (48 + v / 10)) (at + 1) (48 + v % 10)) (at + 2)
wrote_two c v at out h n l s = wrote_so (says_two c v n l s) (two_bytes out at _ _ h)

-- ---- a row is compared, and its values are taken

pub ends : (row text vs : List ℕ) (i at : ℕ) → length row ≤ i → (fits (drop i row) (drop at text) ≡ true) × (taken (drop i row) (drop at text) vs ≡ vs)
unfolding fits taken
ends row text vs i at h = rw (drop_of_length-le row {i = i} h) (refl, refl)

first-at : (text : List ℕ) (at a : ℕ) → a ≡ get_or text at 0 → get_or (drop at text) 0 0 ≡ a
first-at text at a e = rw (get_or-drop at text 0 0, add-zero) (sym e)

second_at : (text : List ℕ) (at b : ℕ) → b ≡ get_or text (at + 1) 0 → get_or (drop at text) 1 0 ≡ b
second_at text at b e = get_or-drop at text 1 0 ∙ sym e

stops : (row text : List ℕ) (i at a : ℕ) → i < length row → a ≡ get_or text at 0 → fits_of (get_or row i 0) a ≡ false
    → fits (drop i row) (drop at text) ≡ false
unfolding fits
stops row text i at a h x f = rw (drop-cons row i 0 h, first-at text at a x, f)

fits_goes : (row : List ℕ) (i : ℕ) (t : List ℕ) → i < length row → fits_first (get_or row i 0) t ≡ true
    → fits (drop i row) t ≡ fits (drop (i + 1) row) (after (get_or row i 0) t)
unfolding fits
fits_goes row i t h e = rw (add-one, drop-cons row i 0 h, e)

taken_goes : (row : List ℕ) (i : ℕ) (t vs : List ℕ) → i < length row
    → taken (drop i row) t vs ≡ taken (drop (i + 1) row) (after (get_or row i 0) t) (noted (get_or row i 0) t vs)
unfolding taken
taken_goes row i t vs h = rw (add-one, drop-cons row i 0 h)

goes_on : (row text vs us : List ℕ) (i at a b n : ℕ) → i < length row → a ≡ get_or text at 0 → b ≡ get_or text (at + 1) 0 → fits_of (get_or row i 0) a ≡ true
    → us ≡ noted_of (get_or row i 0) a b vs → n ≡ passes_of (get_or row i 0) a b
    → (fits (drop i row) (drop at text) ≡ fits (drop (i + 1) row) (drop (at + n) text))
    × (taken (drop i row) (drop at text) vs ≡ taken (drop (i + 1) row) (drop (at + n) text) us)
goes_on row text vs us i at a b n h x y f q p =
    let c = get_or row i 0 in
    let first = first-at text at a x in
    let second = second_at text at b y in
    let on : after c (drop at text) ≡ drop (at + n) text =
    ap₂ (λ (x y : ℕ). drop (passes_of c x y) (drop at text)) first second ∙ ap (λ (k : ℕ). drop k (drop at text)) (sym p) ∙ drop-drop n at text in
    let kept : noted c (drop at text) vs ≡ us = ap₂ (λ (x y : ℕ). noted_of c x y vs) first second ∙ sym q in (
      fits_goes row i (drop at text) h (ap (fits_of c) first ∙ f) ∙ ap (fits (drop (i + 1) row)) on,
      taken_goes row i (drop at text) vs h ∙ ap₂ (λ (t u : List ℕ). taken (drop (i + 1) row) t u) on kept,
    )

-- a byte that is no letter says itself
pub other_byte : (row text : List ℕ) (i at a : ℕ) → i < length row → a ≡ get_or text at 0 → is_letter (get_or row i 0) ≡ false → (a ≡ get_or row i 0 → ⊥)
    → fits (drop i row) (drop at text) ≡ false
other_byte row text i at a h x m n = stops row text i at a h x (rw (m, ne_eqb a (get_or row i 0) n))

pub same_byte : (row text vs : List ℕ) (i at a : ℕ) → i < length row → a ≡ get_or text at 0 → is_letter (get_or row i 0) ≡ false → a ≡ get_or row i 0
    → (fits (drop i row) (drop at text) ≡ fits (drop (i + 1) row) (drop (at + 1) text))
    × (taken (drop i row) (drop at text) vs ≡ taken (drop (i + 1) row) (drop (at + 1) text) vs)
unfolding passes_of
same_byte row text vs i at a h x m e =
    goes_on row text vs vs i at a (get_or text (at + 1) 0) 1 h x refl (rw (m, eq-eqb a (get_or row i 0) e)) (rw m) (rw (no_letter (get_or row i 0) m).0)

pub letter-taken : (row text vs us : List ℕ) (i at a b v n : ℕ) → i < length row → a ≡ get_or text at 0 → b ≡ get_or text (at + 1) 0
    → is_letter (get_or row i 0) ≡ true → v ≡ value_of (get_or row i 0) a b → us ≡ set vs (get_or row i 0 - 65) v → n ≡ passes_of (get_or row i 0) a b
    → (fits (drop i row) (drop at text) ≡ fits (drop (i + 1) row) (drop (at + n) text))
    × (taken (drop i row) (drop at text) vs ≡ taken (drop (i + 1) row) (drop (at + n) text) us)
letter-taken row text vs us i at a b v n h x y m w q p = goes_on row text vs us i at a b n h x y (rw m) (q ∙ rw (m, w)) p
