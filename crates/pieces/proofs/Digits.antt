-- What `digits`, `decimal` and `hex8` mean: their digits read back as the number, decimals have no zero in front, and their lengths. Assumes nothing.
use Prim.Native.Nat.{ℕ, zero, suc, ◌+◌, ◌-◌, ◌*◌, ◌/◌, ◌%◌, ◌^◌, ◌≤◌, ◌<◌}
use native.Mathlib.Nat.{div-add-mod', mod-lt, mod-eq_of_lt, div-lt_iff_lt-mul, pow-zero, pow-suc}
use native.Mathlib.Omega.{arith}
use mathlib.Core.Path.{◌≡◌, refl, sym, ap, ◌∙◌}
use mathlib.Core.Logic.{◌≢◌}
use mathlib.Core.Bool.{cond}
use mathlib.Core.List.{List, [], ◌∷◌, ◌++◌}
use lib.Dec.{ltb}
use lib.ListN.{length, get_or, set, drop, length-append, get_or-append}
use lib.Seq.{append_snoc}
use borrow.Author.Tests.{lt-ltb, le-ltb}
use Rattle.std.specs.Fmt as std
use Rattle.std.specs.Str.{IsAscii}
use Rattle.std.proofs.lemmas.Fmt.{AppendsLastDigit, decimal_from_appends, length-decimal-le_succ}
use Rattle.std.proofs.lemmas.Str.{IsAscii-append}
use Rattle.std.proofs.lemmas.Str.Ascii.{IsAscii-nil}
use Rattle.laws.proofs.Tests.{by_lt}
use Rattle.pieces.specs.Pieces.{glyph_of, digits, decimal_up_to, decimal, hex8}

-- ---- to read digits

-- the value of a digit's byte
abbrev pub digit_of : ℕ → ℕ
digit_of c = cond (ltb c 64) (c - 48) (c - 55)

-- the number that digits in base b say after the digits of v
abbrev pub read_on : ℕ → ℕ → List ℕ → ℕ
read_on b v [] = v
read_on b v (c ∷ s) = read_on b (v * b + digit_of c) s

abbrev pub value_of : ℕ → List ℕ → ℕ
value_of b s = read_on b 0 s

read_last : (b v c : ℕ) (s : List ℕ) → read_on b v (s ++ c ∷ []) ≡ read_on b v s * b + digit_of c
read_last b v c [] = refl
read_last b v c (x ∷ s) = read_last b (v * b + digit_of x) c s

digit_of_glyph : (d : ℕ) → d < 16 → digit_of (glyph_of d) ≡ d
digit_of_glyph d h = by_lt d 10 low high
  where
    low : d < 10 → digit_of (glyph_of d) ≡ d
    low l = let t : 48 + d < 64 = omega arith in rw (lt-ltb d 10 l, lt-ltb (48 + d) 64 t) (omega arith)

    high : 10 ≤ d → digit_of (glyph_of d) ≡ d
    high l = let t : 64 ≤ 55 + d = omega arith in rw (le-ltb d 10 l, le-ltb (55 + d) 64 t) (omega arith)

-- ---- the last k digits

pub length_digits : (b k n : ℕ) → length (digits b k n) ≡ k
unfolding digits
length_digits b zero n = refl
length_digits b (suc k) n = rw (length-append, length_digits b k (n / b)) (omega arith)

one_less : (b k n : ℕ) → 0 < b → n < b ^ suc k → n / b < b ^ k
one_less b k n some h = (div-lt_iff_lt-mul some).1 (rw (pow-suc b k) at h)

-- they read back as a number that has no more
value-digits : (b k n : ℕ) → 1 < b → b ≤ 16 → n < b ^ k → value_of b (digits b k n) ≡ n
unfolding digits
value-digits b zero n l h f = omega (arith, pow-zero b)
value-digits b (suc k) n l h f =
    let some : 0 < b = omega arith in
    let high = value-digits b k (n / b) l h (one_less b k n some f) in
    let low = digit_of_glyph (n % b) (omega (arith, mod-lt n some)) in
    rw (read_last b 0 (glyph_of (n % b)) (digits b k (n / b)), high, low) (div-add-mod' n b)

-- one of them is put in its place, behind those that are left
put_first : (j c : ℕ) (out : List ℕ) → j < length out → drop j (set out j c) ≡ c ∷ drop (suc j) out
put_first j c [] h = absurd (omega arith)
put_first zero c (x ∷ out) h = refl
put_first (suc j) c (x ∷ out) h = put_first j c out (omega arith)

pub one_placed : (b p n c : ℕ) (out : List ℕ) → 0 < p → p ≤ length out → c ≡ glyph_of (n % b)
    → digits b (p - 1) (n / b) ++ drop (p - 1) (set out (p - 1) c) ≡ digits b p n ++ drop p out
unfolding digits
one_placed b zero n c out some inside e = absurd (omega arith)
one_placed b (suc j) n c out some inside e =
    let less : suc j - 1 ≡ j = omega arith in
    rw less
    (ap (λ (s : List ℕ). digits b j (n / b) ++ s) (put_first j c out (omega arith) ∙ ap (λ (x : ℕ). x ∷ drop (suc j) out) e)
    ∙ sym (append_snoc (digits b j (n / b)) (glyph_of (n % b)) (drop (suc j) out)))

-- they are text
pub ascii_glyph : (d : ℕ) → d < 16 → glyph_of d < 128
ascii_glyph d h = by_lt d 10 (λ (l : d < 10). rw (lt-ltb d 10 l) (omega arith)) (λ (l : 10 ≤ d). rw (le-ltb d 10 l) (omega arith))

small_one : {c : ℕ} → c < 128 → IsAscii (c ∷ [])
small_one h zero = h
small_one h (suc i) = omega arith

pub ascii-digits : (b k n : ℕ) → 0 < b → b ≤ 16 → IsAscii (digits b k n)
unfolding digits
ascii-digits b zero n some few = IsAscii-nil
ascii-digits b (suc k) n some few =
    IsAscii-append (digits b k (n / b)) (glyph_of (n % b) ∷ []) (ascii-digits b k (n / b) some few)
    (small_one (ascii_glyph (n % b) (omega (arith, mod-lt n some))))

-- ---- decimal digits

enough : (j k n : ℕ) → n < j → n < k → decimal_up_to j n ≡ decimal_up_to k n
unfolding decimal_up_to
enough zero k n l h = absurd (omega arith)
enough (suc j) zero n l h = absurd (omega arith)
enough (suc j) (suc k) n l h =
    by_lt n 10
    (λ (t : n < 10). rw (lt-ltb n 10 t))
    (λ (t : 10 ≤ n). rw (le-ltb n 10 t, enough j k (n / 10) (omega arith) (omega arith)))

-- below 10 there is one digit
pub decimal_one : (n : ℕ) → n < 10 → decimal n ≡ glyph_of n ∷ []
unfolding decimal decimal_up_to
decimal_one n h = rw (mod-eq_of_lt h, lt-ltb n 10 h)

-- from 10 on they are those of n / 10, and the last
pub decimal_more : (n : ℕ) → 10 ≤ n → decimal n ≡ decimal (n / 10) ++ glyph_of (n % 10) ∷ []
unfolding decimal decimal_up_to
decimal_more n h = rw (le-ltb n 10 h, enough n (suc (n / 10)) (n / 10) (omega arith) (omega arith))

-- what holds of the numbers below 10, and of n where it holds of n / 10, holds of each number
pub by_tens : (P : ℕ → Type 0) → ((n : ℕ) → n < 10 → P n) → ((n : ℕ) → 10 ≤ n → P (n / 10) → P n) → (k n : ℕ) → n < k → P n
by_tens P one more zero n h = absurd (omega arith)
by_tens P one more (suc k) n h = by_lt n 10 (one n) (λ (t : 10 ≤ n). more n t (by_tens P one more k (n / 10) (omega arith)))

-- how many there are
pub length_one : (n : ℕ) → n < 10 → length (decimal n) ≡ 1
length_one n h = rw (decimal_one n h)

pub length_more : (n : ℕ) → 10 ≤ n → length (decimal n) ≡ suc (length (decimal (n / 10)))
length_more n h = rw (decimal_more n h, length-append) (omega arith)

pub length-decimal : (k n : ℕ) → n < 10 ^ suc k → length (decimal n) ≤ suc k
length-decimal zero n h = omega (arith, length_one n h)
length-decimal (suc k) n h =
    let high = length-decimal k (n / 10) (one_less 10 (suc k) n (omega arith) h) in
    by_lt n 10
    (λ (t : n < 10). omega (arith, length_one n t))
    (λ (t : 10 ≤ n). omega (arith, length_more n t))

some-decimal : (n : ℕ) → 0 < length (decimal n)
some-decimal n =
    by_lt n 10
    (λ (t : n < 10). omega (arith, length_one n t))
    (λ (t : 10 ≤ n). omega (arith, length_more n t))

-- they are the number's last ones, as many as there are
pub decimal-digits : (n : ℕ) → decimal n ≡ digits 10 (length (decimal n)) n
unfolding digits
decimal-digits n =
    by_tens (λ (x : ℕ). decimal x ≡ digits 10 (length (decimal x)) x)
    (λ (x : ℕ) (t : x < 10). rw (decimal_one x t, mod-eq_of_lt t))
    (λ (x : ℕ) (t : 10 ≤ x) (e : decimal (x / 10) ≡ digits 10 (length (decimal (x / 10))) (x / 10)).
    rw (length_more x t) (decimal_more x t ∙ ap (λ (s : List ℕ). s ++ glyph_of (x % 10) ∷ []) e))
    (suc n) n (omega arith)

appends : AppendsLastDigit decimal_up_to
unfolding decimal_up_to
appends =
    record {
      one = λ (k n : ℕ) (h : n < 10). rw (lt-ltb n 10 h, mod-eq_of_lt h, lt-ltb n 10 h);
      more = λ (k n : ℕ) (h : 10 ≤ n). rw (le-ltb n 10 h, lt-ltb (n % 10) 10 (mod-lt n (omega arith)));
    }

-- they are the digits that std's `{}` and `itoa` write of a number of 64 bits
pub decimal_is : (n : ℕ) → n < 2 ^ 64 → std.decimal n ≡ decimal n
unfolding decimal
decimal_is n h = sym (decimal_from_appends decimal_up_to appends (suc n) n h (omega (arith, length-decimal-le_succ n h)))

-- they read back as the number
pub value-decimal : (n : ℕ) → value_of 10 (decimal n) ≡ n
value-decimal n =
    by_tens (λ (x : ℕ). value_of 10 (decimal x) ≡ x)
    (λ (x : ℕ) (t : x < 10). rw (decimal_one x t) (omega (arith, digit_of_glyph x (omega arith))))
    (λ (x : ℕ) (t : 10 ≤ x) (e : value_of 10 (decimal (x / 10)) ≡ x / 10).
    rw (decimal_more x t, read_last 10 0 (glyph_of (x % 10)) (decimal (x / 10)), e, digit_of_glyph (x % 10) (omega arith)) (omega arith))
    (suc n) n (omega arith)

-- no zero stands in front, but in 0 itself
pub no_zero_in_front : (n : ℕ) → 0 < n → get_or (decimal n) 0 0 ≢ 48
no_zero_in_front n some =
    by_tens (λ (x : ℕ). 0 < x → get_or (decimal x) 0 0 ≢ 48)
    (λ (x : ℕ) (t : x < 10) (h : 0 < x). rw (decimal_one x t, lt-ltb x 10 t) (λ (e : 48 + x ≡ 48). omega arith))
    (λ (x : ℕ) (t : 10 ≤ x) (e : 0 < x / 10 → get_or (decimal (x / 10)) 0 0 ≢ 48) (h : 0 < x).
    rw (decimal_more x t, get_or-append (decimal (x / 10)) (glyph_of (x % 10) ∷ []) 0 0 (some-decimal (x / 10))) (e (omega arith)))
    (suc n) n (omega arith) some

-- ---- a word

pub length-hex8 : (w : ℕ) → length (hex8 w) ≡ 8
unfolding hex8
length-hex8 w = length_digits 16 8 w

pub value-hex8 : (w : ℕ) → w < 2 ^ 32 → value_of 16 (hex8 w) ≡ w
unfolding hex8
value-hex8 w h = value-digits 16 8 w (omega arith) (omega arith) h
