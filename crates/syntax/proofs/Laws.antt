-- The laws of syntaxes, once for every row that passes its tests: a value is read back from a text of the row, and rows that are apart have no text in
-- common. Assumes nothing.
use Prim.Native.Nat.{ℕ, suc, ◌+◌, ◌-◌, ◌/◌, ◌%◌, ◌<◌, ◌≤◌}
use native.Mathlib.Omega.{arith}
use mathlib.Core.Path.{◌≡◌, refl, sym, ap, ◌∙◌}
use mathlib.Core.Bool.{Bool, true, false, not, ◌&&◌, ◌||◌, cond}
use mathlib.Core.List.{List, [], ◌∷◌, ◌++◌, append_assoc}
use lib.Dec.{eqb, leb}
use lib.ListN.{length, get_or, set, drop, length-set}
use lib.Seq.{get_or-set_same, get_or-set_other}
use borrow.Author.Tests.{lt-ltb, le-leb, leb-true, eqb-true, eqb-false, eq-eqb, ne_eqb, not-true}
use Rattle.laws.proofs.Tests.{both, either, never_both, by_lt}
use Rattle.pieces.specs.Pieces.{glyph_of, decimal}
use Rattle.pieces.proofs.Digits.{decimal_one, decimal_more, by_tens}
use Rattle.syntax.specs.Syntax.{is_number, is_byte, value_in, fill, TwoDigits}
use Rattle.syntax.specs.Scan.{is_digit, is_letter, number_of, passes_of, value_first, after, fits_first, fits, taken, ends_number, ends_first, clear, among}

-- ---- tests

same_both : (b : Bool) (x : ℕ) → cond b x x ≡ x
same_both true x = refl
same_both false x = refl

pub by_test : {P : Type 0} (b : Bool) → (b ≡ true → P) → (b ≡ false → P) → P
by_test true k l = k refl
by_test false k l = l refl

pub number_range : (c : ℕ) → is_number c ≡ true → (65 ≤ c) × (c ≤ 82)
number_range c e = let b = both (leb 65 c) (leb c 82) e in (leb-true _ _ b.0, leb-true _ _ b.1)

pub byte_range : (c : ℕ) → is_byte c ≡ true → (83 ≤ c) × (c ≤ 90)
byte_range c e = let b = both (leb 83 c) (leb c 90) e in (leb-true _ _ b.0, leb-true _ _ b.1)

pub letter_range : (c : ℕ) → is_letter c ≡ true → (65 ≤ c) × (c ≤ 90)
letter_range c e = let b = both (leb 65 c) (leb c 90) e in (leb-true _ _ b.0, leb-true _ _ b.1)

-- a letter is a number's or a byte's, and no other byte is
pub letter_byte : (c : ℕ) → is_letter c ≡ true → is_number c ≡ false → is_byte c ≡ true
letter_byte c m n =
    let r = letter_range c m in
    by_lt 82 c
    (λ (h : 82 < c). let g : 83 ≤ c = omega arith in rw (le-leb 83 c g, le-leb c 90 r.1))
    (λ (h : c ≤ 82).
    let k : is_number c ≡ true = rw (le-leb 65 c r.0, le-leb c 82 h) in
    absurd (never_both (is_number c) k n))

pub number_letter : (c : ℕ) → is_number c ≡ true → is_letter c ≡ true
number_letter c n =
    let r = number_range c n in
    let g : c ≤ 90 = omega arith in
    rw (le-leb 65 c r.0, le-leb c 90 g)

byte_letter : (c : ℕ) → is_byte c ≡ true → is_letter c ≡ true
byte_letter c b =
    let r = byte_range c b in
    let g : 65 ≤ c = omega arith in
    rw (le-leb 65 c g, le-leb c 90 r.1)

pub no_letter : (c : ℕ) → is_letter c ≡ false → (is_number c ≡ false) × (is_byte c ≡ false)
no_letter c m = (
  by_test (is_number c) (λ n. absurd (never_both (is_letter c) (number_letter c n) m)) (λ n. n),
  by_test (is_byte c) (λ b. absurd (never_both (is_letter c) (byte_letter c b) m)) (λ b. b),
)

-- ---- digits

glyph_is : (d : ℕ) → d < 10 → glyph_of d ≡ 48 + d
glyph_is d h = rw (lt-ltb d 10 h)

figure_is : (d : ℕ) → d < 10 → is_digit (48 + d) ≡ true
figure_is d h =
    let low : 48 ≤ 48 + d = omega arith in
    let high : 48 + d ≤ 57 = omega arith in
    rw (le-leb 48 (48 + d) low, le-leb (48 + d) 57 high)

glyph_digit : (d : ℕ) → d < 10 → is_digit (glyph_of d) ≡ true
glyph_digit d h = rw (glyph_is d h) (figure_is d h)

-- the digits of a number below 100
pub one_figure : (n : ℕ) → n < 10 → (48 + n) ∷ [] ≡ decimal n
one_figure n h = rw (decimal_one n h, glyph_is n h)

pub two_figures : (n : ℕ) → 10 ≤ n → n < 100 → ((48 + n / 10) ∷ []) ++ ((48 + n % 10) ∷ []) ≡ decimal n
two_figures n l h =
    let a : n / 10 < 10 = omega arith in
    let b : n % 10 < 10 = omega arith in
    rw (decimal_more n l, decimal_one (n / 10) a, glyph_is (n / 10) a, glyph_is (n % 10) b)

-- a number that no digit follows is read back from its digits, and passed
abbrev NumberFirst : ℕ → ℕ → List ℕ → Type 0
NumberFirst c x t =
    (number_of (get_or (decimal x ++ t) 0 0) (get_or (decimal x ++ t) 1 0) ≡ x)
    × (drop (passes_of c (get_or (decimal x ++ t) 0 0) (get_or (decimal x ++ t) 1 0)) (decimal x ++ t) ≡ t)

number_first_is : (c x : ℕ) (t : List ℕ) → is_number c ≡ true → x < 100 → is_digit (get_or t 0 0) ≡ false → NumberFirst c x t
unfolding number_of passes_of
number_first_is c x t n h e =
    by_lt x 10
    (λ (l : x < 10). rw (← one_figure x l, n, figure_is x l, e) (omega arith, refl))
    (λ (l : 10 ≤ x).
    let a : x / 10 < 10 = omega arith in
    let b : x % 10 < 10 = omega arith in
    rw (← two_figures x l h, n, figure_is (x / 10) a, figure_is (x % 10) b) (omega arith, refl))

-- ---- rows

-- the three tests of `ends_number`
ends_are : (c : ℕ) → ends_number c ≡ true → (is_number c ≡ false) × (is_byte c ≡ false) × (is_digit c ≡ false)
ends_are c e =
    let a = both (not (is_number c) && not (is_byte c)) (not (is_digit c)) e in
    let b = both (not (is_number c)) (not (is_byte c)) a.0 in
    (not-true _ b.0, not-true _ b.1, not-true _ a.1)

-- no digit stands first in a text whose row begins with no digit
no_digits : (vs row : List ℕ) → ends_first row ≡ true → is_digit (get_or (fill vs row) 0 0) ≡ false
unfolding fill
no_digits vs [] h = refl
no_digits vs (c ∷ row) h = let p = ends_are c h in rw (p.0, p.1) p.2

-- the tests of a row's first byte and of the rest
clear_first : (c : ℕ) (row : List ℕ) → clear (c ∷ row) ≡ true → is_number c ≡ true → ends_first row ≡ true
unfolding clear
clear_first c row h n =
    either (not (is_number c)) (ends_first row) (both (not (is_number c) || ends_first row) (clear row) h).0
    (λ m. absurd (never_both (is_number c) n (not-true _ m)))
    (λ p. p)

clear_rest : (c : ℕ) (row : List ℕ) → clear (c ∷ row) ≡ true → clear row ≡ true
unfolding clear
clear_rest c row h = (both (not (is_number c) || ends_first row) (clear row) h).1

-- after what the first byte of a row says, the text of the rest stands
pub after_first : (vs : List ℕ) → TwoDigits vs → (c : ℕ) (row : List ℕ) → clear (c ∷ row) ≡ true → after c (fill vs (c ∷ row)) ≡ fill vs row
unfolding fill passes_of
after_first vs s c row h =
    by_test (is_number c)
    (λ n. rw n (rw n at (number_first_is c (value_in vs c) (fill vs row) n (s c n) (no_digits vs row (clear_first c row h n))).1))
    (λ n. rw n)

-- a letter's value stands first in a text whose row begins with the letter
value_first_lem : (us : List ℕ) → TwoDigits us → (c : ℕ) (row : List ℕ) → clear (c ∷ row) ≡ true → is_letter c ≡ true
    → value_first c (fill us (c ∷ row)) ≡ value_in us c
unfolding fill
value_first_lem us s c row h m =
    by_test (is_number c)
    (λ n. rw n (number_first_is c (value_in us c) (fill us row) n (s c n) (no_digits us row (clear_first c row h n))).0)
    (λ n. rw (n, letter_byte c m n))

-- a value that is noted, and the others
noted_here : (vs : List ℕ) (c x : ℕ) → length vs ≡ 26 → is_letter c ≡ true → value_in (set vs (c - 65) x) c ≡ x
noted_here vs c x l m = let r = letter_range c m in get_or-set_same vs (c - 65) x 0 (omega arith)

noted_there : (vs : List ℕ) (c a x : ℕ) → is_letter c ≡ true → is_letter a ≡ true → (c ≡ a → ⊥) → value_in (set vs (c - 65) x) a ≡ value_in vs a
noted_there vs c a x m n d =
    let r = letter_range c m in
    let q = letter_range a n in
    get_or-set_other vs (c - 65) (a - 65) x 0 (λ e. d (omega arith))

-- a letter's value is taken from a text of a row
pub taken-fill : (us : List ℕ) → TwoDigits us → (a : ℕ) → is_letter a ≡ true → (row : List ℕ) → clear row ≡ true → (vs : List ℕ) → length vs ≡ 26
    → value_in (taken row (fill us row) vs) a ≡ cond (among a row) (value_in us a) (value_in vs a)
unfolding taken among
taken-fill us s a m [] h vs l = refl
taken-fill us s a m (c ∷ row) h vs l =
    let x = value_first c (fill us (c ∷ row)) in
    by_test (is_letter c)
    (λ n.
    let ih = taken-fill us s a m row (clear_rest c row h) (set vs (c - 65) x) (length-set vs (c - 65) x ∙ l) in
    by_test (eqb c a)
    (λ e. let q : c ≡ a = eqb-true c a e in
    let v : value_in (set vs (c - 65) x) a ≡ value_in us a =
    ap (value_in (set vs (c - 65) x)) (sym q) ∙ noted_here vs c x l n ∙ value_first_lem us s c row h n ∙ ap (value_in us) q in
    rw (n, e, after_first us s c row h) (ih ∙ rw v (same_both (among a row) (value_in us a))))
    (λ e. rw (n, e, after_first us s c row h) (ih ∙ rw (noted_there vs c a x n m (eqb-false c a e)))))
    (λ n.
    let d : eqb c a ≡ false = ne_eqb c a (λ (q : c ≡ a). never_both (is_letter a) m (ap is_letter (sym q) ∙ n)) in
    rw (n, d, after_first us s c row h) (taken-fill us s a m row (clear_rest c row h) vs l))

-- a text of the row fits it
fits_first_lem : (vs : List ℕ) (c : ℕ) (row : List ℕ) → fits_first c (fill vs (c ∷ row)) ≡ true
unfolding fill
fits_first_lem vs c row =
    by_test (is_letter c)
    (λ m. rw m)
    (λ m. let p = no_letter c m in rw (m, p.0, p.1) (eq-eqb c c refl))

pub fits-fill : (vs : List ℕ) → TwoDigits vs → (row : List ℕ) → clear row ≡ true → fits row (fill vs row) ≡ true
unfolding fits
fits-fill vs s [] h = refl
fits-fill vs s (c ∷ row) h = rw (fits_first_lem vs c row, after_first vs s c row h) (fits-fill vs s row (clear_rest c row h))

-- ---- rows that are apart

-- bytes that say themselves, and differ
abbrev pub differ : ℕ → ℕ → Bool
differ c d = not (is_byte c) && not (is_byte d) && not (eqb c d)

-- two rows go alike, number by number and byte by byte, up to two bytes that differ, or a number and a byte that is no digit
unfoldable pub apart : List ℕ → List ℕ → Bool
apart [] q = false
apart (c ∷ p) [] = false
apart (c ∷ p) (d ∷ q) = cond (is_number c) (cond (is_number d) (apart p q) (ends_number d)) (cond (is_number d) (ends_number c) (differ c d || apart p q))

-- a number's text begins with a digit
first_digit : (x : ℕ) (t : List ℕ) → is_digit (get_or (decimal x ++ t) 0 0) ≡ true
first_digit x =
    by_tens (λ (n : ℕ). (t : List ℕ) → is_digit (get_or (decimal n ++ t) 0 0) ≡ true)
    (λ (n : ℕ) (h : n < 10) (t : List ℕ). rw (decimal_one n h) (glyph_digit n h))
    (λ (n : ℕ) (h : 10 ≤ n) (k : (t : List ℕ) → is_digit (get_or (decimal (n / 10) ++ t) 0 0) ≡ true) (t : List ℕ).
    rw (decimal_more n h, append_assoc) (k (glyph_of (n % 10) ∷ t)))
    (suc x) x (omega arith)

number_first : (vs : List ℕ) (c : ℕ) (p : List ℕ) → is_number c ≡ true → is_digit (get_or (fill vs (c ∷ p)) 0 0) ≡ true
unfolding fill
number_first vs c p n = rw n (first_digit (value_in vs c) (fill vs p))

-- where two rows begin with numbers, or with bytes, texts that are equal go on equal
same_after : (c d : ℕ) (t : List ℕ) → is_number c ≡ is_number d → after c t ≡ after d t
unfolding passes_of
same_after c d t k = rw k

tails : (vs us : List ℕ) → TwoDigits vs → TwoDigits us → (c d : ℕ) (p q : List ℕ) → clear (c ∷ p) ≡ true → clear (d ∷ q) ≡ true
    → is_number c ≡ is_number d → fill vs (c ∷ p) ≡ fill us (d ∷ q) → fill vs p ≡ fill us q
tails vs us s r c d p q hp hq k e = sym (after_first vs s c p hp) ∙ ap (after c) e ∙ same_after c d (fill us (d ∷ q)) k ∙ after_first us r d q hq

head_is : (vs : List ℕ) (c : ℕ) (p : List ℕ) → is_number c ≡ false → is_byte c ≡ false → get_or (fill vs (c ∷ p)) 0 0 ≡ c
unfolding fill
head_is vs c p n b = rw (n, b)

heads : (vs us : List ℕ) (c d : ℕ) (p q : List ℕ) → is_number c ≡ false → is_number d ≡ false → differ c d ≡ true
    → fill vs (c ∷ p) ≡ fill us (d ∷ q) → ⊥
heads vs us c d p q n m f e =
    let a = both (not (is_byte c) && not (is_byte d)) (not (eqb c d)) f in
    let b = both (not (is_byte c)) (not (is_byte d)) a.0 in
    eqb-false c d (not-true _ a.1)
    (sym (head_is vs c p n (not-true _ b.0)) ∙ ap (λ (t : List ℕ). get_or t 0 0) e ∙ head_is us d q m (not-true _ b.1))

-- a number and a byte that is no digit
number_and_byte : (vs us : List ℕ) (c d : ℕ) (p q : List ℕ) → is_number c ≡ true → ends_number d ≡ true → fill vs (c ∷ p) ≡ fill us (d ∷ q) → ⊥
number_and_byte vs us c d p q n h e =
    let a = ends_are d h in
    never_both (is_digit d)
    (ap is_digit (sym (head_is us d q a.0 a.1) ∙ ap (λ (t : List ℕ). get_or t 0 0) (sym e)) ∙ number_first vs c p n)
    a.2

-- rows that are apart have no text in common
pub no_text_in_both : (vs us : List ℕ) → TwoDigits vs → TwoDigits us → (p q : List ℕ) → clear p ≡ true → clear q ≡ true → apart p q ≡ true → fill vs p ≡ fill us q → ⊥
unfolding apart
no_text_in_both vs us s r [] q hp hq a e = never_both false a refl
no_text_in_both vs us s r (c ∷ p) [] hp hq a e = never_both false a refl
no_text_in_both vs us s r (c ∷ p) (d ∷ q) hp hq a e =
    by_test (is_number c)
    (λ n. by_test (is_number d)
    (λ m. no_text_in_both vs us s r p q (clear_rest c p hp) (clear_rest d q hq) (rw (n, m) at a) (tails vs us s r c d p q hp hq (n ∙ sym m) e))
    (λ m. number_and_byte vs us c d p q n (rw m (rw (n, m) at a)) e))
    (λ n. by_test (is_number d)
    (λ m. number_and_byte us vs d c q p m (rw n (rw (n, m) at a)) (sym e))
    (λ m. either (differ c d) (apart p q) (rw (n, m) at a)
    (λ f. heads vs us c d p q n m f e)
    (λ f. no_text_in_both vs us s r p q (clear_rest c p hp) (clear_rest d q hq) f (tails vs us s r c d p q hp hq (n ∙ sym m) e))))
