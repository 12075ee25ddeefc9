-- The number of a line's digits, turn by turn, and what it says of the line. Assumes nothing.
use Prim.Native.Nat.{ℕ, zero, suc, ◌+◌, ◌*◌, ◌/◌, ◌%◌, ◌<◌, ◌≤◌, ◌^◌}
use native.Mathlib.Nat.{mod-lt, pow-suc, pow-le-pow_right, lt_of_lt_of_le}
use native.Mathlib.Omega.{arith}
use mathlib.Core.Path.{◌≡◌, refl, sym, ap, ◌∙◌}
use mathlib.Core.Bool.{Bool, true, false, ◌&&◌}
use mathlib.Core.List.{List}
use lib.ListN.{length, get_or}
use borrow.Author.Tests.{eq-eqb, ne_eqb}
use Rattle.laws.proofs.Tests.{by_cond, by_lt}
use Rattle.std.specs.Prelude.{Option, Some, None}
use lib.Dec.{eqb}
use Rattle.spell.specs.Spelled.{is_hex_digit, digit_of, are_digits, hex_number, digit_in, is_word, word_of, word_in}

-- ---- the number fits

number_below : (line : List ℕ) (k : ℕ) → hex_number line k < 16 ^ k
number_below line zero = omega arith
number_below line (suc k) =
    let c = get_or line k 0 in
    let d : digit_of c < 16 = mod-lt (c % 16 + c / 64 * 9) (omega arith) in
    rw (pow-suc 16 k) (omega (arith, number_below line k))

pub number_small : (line : List ℕ) (k : ℕ) → k < 8 → hex_number line k < 16 ^ 7
number_small line k h =
    let most : k ≤ 7 = omega arith in
    let lt : 0 < 16 = omega arith in
    lt_of_lt_of_le (number_below line k) (pow-le-pow_right lt most)

-- ---- a byte that is no digit

never : (b : Bool) → (b && false) ≡ false
never true = refl
never false = refl

-- the line is none of digits
stops : (line : List ℕ) (n i : ℕ) → i < n → is_hex_digit (get_or line i 0) ≡ false → are_digits line n ≡ false
stops line zero i h e = absurd (omega arith)
stops line (suc n) i h e =
    by_lt i n
    (λ (l : i < n). rw (stops line n i l e))
    (λ (l : n ≤ i). let q : i ≡ n = omega arith in rw (ap (λ (k : ℕ). is_hex_digit (get_or line k 0)) (sym q) ∙ e) (never (are_digits line n)))

pub no_digit : (line : List ℕ) (i : ℕ) → length line ≡ 8 → i < length line → is_hex_digit (get_or line i 0) ≡ false → word_in line ≡ None
unfolding word_in is_word
no_digit line i l h e = rw (stops line 8 i (omega arith) e, never (eqb (length line) 8))

pub not_eight : (line : List ℕ) → (length line ≡ 8 → ⊥) → word_in line ≡ None
unfolding word_in is_word
not_eight line h = rw (ne_eqb (length line) 8 h)

-- ---- the digits that are found

pub digit_small : (c d : ℕ) → digit_in c ≡ Some d → d < 16
digit_small c d e =
    by_cond {A = Option ℕ} (is_hex_digit c) (Some (digit_of c)) None (Some d)
    (λ (_ : is_hex_digit c ≡ true) (p : ◌≡◌ {A = Option ℕ} (Some (digit_of c)) (Some d)). let q : digit_of c ≡ d = cc in let l : digit_of c < 16 = mod-lt (c % 16 + c / 64 * 9) (omega arith) in omega arith)
    (λ (_ : is_hex_digit c ≡ false) (p : ◌≡◌ {A = Option ℕ} None (Some d)). cc)
    e

pub digit_none : (c : ℕ) → digit_in c ≡ None → is_hex_digit c ≡ false
digit_none c e =
    by_cond {A = Option ℕ} (is_hex_digit c) (Some (digit_of c)) None None
    (λ (_ : is_hex_digit c ≡ true) (p : ◌≡◌ {A = Option ℕ} (Some (digit_of c)) None). cc)
    (λ (b : is_hex_digit c ≡ false) (p : ◌≡◌ {A = Option ℕ} None None). b)
    e

pub all_digits : (line : List ℕ) (i word : ℕ) → length line ≡ 8 → length line ≤ i → i ≤ length line → are_digits line i ≡ true → word ≡ hex_number line i
    → word_in line ≡ Some word
unfolding word_in is_word word_of
all_digits line i word len end most all e =
    let q : i ≡ 8 = omega arith in
    rw (eq-eqb (length line) 8 len, sym (ap (are_digits line) q) ∙ all, e, q)

-- ---- what the answer says of the line

pub says_word : (line : List ℕ) (w : ℕ) → word_in line ≡ Some w → (is_word line ≡ true) × (w ≡ word_of line)
unfolding word_in
says_word line w e =
    by_cond {A = Option ℕ} (is_word line) (Some (word_of line)) None (Some w)
    (λ (b : is_word line ≡ true) (p : ◌≡◌ {A = Option ℕ} (Some (word_of line)) (Some w)). (b, cc))
    (λ (b : is_word line ≡ false) (p : ◌≡◌ {A = Option ℕ} None (Some w)). cc)
    e

pub says_none : (line : List ℕ) → word_in line ≡ None → is_word line ≡ false
unfolding word_in
says_none line e =
    by_cond {A = Option ℕ} (is_word line) (Some (word_of line)) None None
    (λ (b : is_word line ≡ true) (p : ◌≡◌ {A = Option ℕ} (Some (word_of line)) None). cc)
    (λ (b : is_word line ≡ false) (p : ◌≡◌ {A = Option ℕ} None None). b)
    e
