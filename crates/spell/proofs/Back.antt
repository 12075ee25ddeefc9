-- What is printed for a word, given back, prints the word. Assumes nothing.
use Prim.Native.Nat.{ℕ, ◌+◌, ◌*◌, ◌/◌, ◌%◌, ◌<◌, ◌^◌}
use native.Mathlib.Nat.{mod-lt}
use native.Mathlib.Omega.{arith}
use mathlib.Core.Path.{◌≡◌, refl, sym, ap, ◌∙◌, subst}
use mathlib.Core.Bool.{Bool, true, false, ◌&&◌}
use mathlib.Core.List.{List, ◌++◌}
use lib.Dec.{eqb}
use lib.ListN.{length, get_or}
use Rattle.laws.specs.Lists.{Each}
use Rattle.pieces.specs.Pieces.{text, glyph_of, digits, hex8}
use Rattle.syntax.specs.Syntax.{fill}
use Rattle.words.specs.Decode.{decode_paper}
use Rattle.words.specs.declared.Fields.{Fields}
use Rattle.words.proofs.Table.{◌then◌}
use Rattle.words.proofs.Answers.{decodes_exactly}
use Rattle.spelling.specs.Rows.{syntax_at}
use Rattle.spelling.specs.Spell.{byte_of, sign_byte, letter_values, row_for, spell}
use Rattle.spelling.specs.Language.{a_word}
use Rattle.spelling.proofs.Arms.{below, each_below}
use Rattle.spelling.proofs.Reading.{row_below}
use Rattle.spell.specs.Spelled.{all_on, is_hex_digit, digit_of, is_word, word_of, word_text, Answers, to_word, to_text}
use Rattle.spell.specs.Theorems.{GivenBack}
use Rattle.spell.proofs.Answers.{not-refused}

-- ---- eight digits are a word

-- a digit that is written is a digit, of its value
abbrev Back : ℕ → Type 0
Back d = (is_hex_digit (glyph_of d) ≡ true) × (digit_of (glyph_of d) ≡ d)

digits_back : Each Back (below 16)
digits_back =
    (refl, refl) then (refl, refl) then (refl, refl) then (refl, refl) then (refl, refl) then (refl, refl) then (refl, refl) then (refl, refl) then (refl, refl) then (refl, refl) then (refl, refl) then (refl, refl) then (refl, refl) then (refl, refl) then (refl, refl) then (refl, refl) then tt

digit_back : (n : ℕ) → Back (n % 16)
digit_back n = each_below Back 16 digits_back (n % 16) (mod-lt n (omega arith))

all_pass : (b₀ b₁ b₂ b₃ b₄ b₅ b₆ b₇ : Bool) → b₀ ≡ true → b₁ ≡ true → b₂ ≡ true → b₃ ≡ true → b₄ ≡ true → b₅ ≡ true → b₆ ≡ true → b₇ ≡ true → (b₀ && b₁ && b₂ && b₃ && b₄ && b₅ && b₆ && b₇) ≡ true
all_pass b₀ b₁ b₂ b₃ b₄ b₅ b₆ b₇ e₀ e₁ e₂ e₃ e₄ e₅ e₆ e₇ = rw (e₀, e₁, e₂, e₃, e₄, e₅, e₆, e₇)

hex_word : (w : ℕ) → is_word (hex8 w) ≡ true
unfolding is_word hex8 digits
hex_word w =
    all_pass _ _ _ _ _ _ _ _
    (digit_back (w / 16 / 16 / 16 / 16 / 16 / 16 / 16)).0 (digit_back (w / 16 / 16 / 16 / 16 / 16 / 16)).0 (digit_back (w / 16 / 16 / 16 / 16 / 16)).0 (digit_back (w / 16 / 16 / 16 / 16)).0 (digit_back (w / 16 / 16 / 16)).0 (digit_back (w / 16 / 16)).0 (digit_back (w / 16)).0 (digit_back (w)).0

top : (x n : ℕ) → n < 16 → x ≡ n % 16 → 0 * 16 + x ≡ n
top x n h e = omega arith

-- a digit more
up : (y x n : ℕ) → y ≡ n / 16 → x ≡ n % 16 → y * 16 + x ≡ n
up y x n d e = omega arith

number_back : (w x₀ x₁ x₂ x₃ x₄ x₅ x₆ x₇ : ℕ) → w < 2 ^ 32
    → x₀ ≡ w / 16 / 16 / 16 / 16 / 16 / 16 / 16 % 16 → x₁ ≡ w / 16 / 16 / 16 / 16 / 16 / 16 % 16 → x₂ ≡ w / 16 / 16 / 16 / 16 / 16 % 16 → x₃ ≡ w / 16 / 16 / 16 / 16 % 16 → x₄ ≡ w / 16 / 16 / 16 % 16 → x₅ ≡ w / 16 / 16 % 16 → x₆ ≡ w / 16 % 16 → x₇ ≡ w % 16
    → (((((((0 * 16 + x₀) * 16 + x₁) * 16 + x₂) * 16 + x₃) * 16 + x₄) * 16 + x₅) * 16 + x₆) * 16 + x₇ ≡ w
number_back w x₀ x₁ x₂ x₃ x₄ x₅ x₆ x₇ lt e₀ e₁ e₂ e₃ e₄ e₅ e₆ e₇ =
    up _ _ (w) (up _ _ (w / 16) (up _ _ (w / 16 / 16) (up _ _ (w / 16 / 16 / 16) (up _ _ (w / 16 / 16 / 16 / 16) (up _ _ (w / 16 / 16 / 16 / 16 / 16) (up _ _ (w / 16 / 16 / 16 / 16 / 16 / 16) (top x₀ (w / 16 / 16 / 16 / 16 / 16 / 16 / 16) (omega arith) e₀) e₁) e₂) e₃) e₄) e₅) e₆) e₇

hex_back : (w : ℕ) → w < 2 ^ 32 → word_of (hex8 w) ≡ w
unfolding word_of hex8 digits
hex_back w lt =
    number_back w _ _ _ _ _ _ _ _ lt
    (digit_back (w / 16 / 16 / 16 / 16 / 16 / 16 / 16)).1 (digit_back (w / 16 / 16 / 16 / 16 / 16 / 16)).1 (digit_back (w / 16 / 16 / 16 / 16 / 16)).1 (digit_back (w / 16 / 16 / 16 / 16)).1 (digit_back (w / 16 / 16 / 16)).1 (digit_back (w / 16 / 16)).1 (digit_back (w / 16)).1 (digit_back (w)).1

-- ---- a text is no word: its first byte is no digit

sign_no_digit : (unsigned : Bool) → is_hex_digit (sign_byte unsigned) ≡ false
sign_no_digit true = refl
sign_no_digit false = refl

first_no_digit : (f : Fields) → Each (λ (k : ℕ). is_hex_digit (get_or (fill (letter_values f) (syntax_at k)) 0 0) ≡ false) (below 18)
unfolding fill syntax_at letter_values
first_no_digit f =
    let s = sign_no_digit f.unsigned in
    let q : is_hex_digit (byte_of "s") ≡ false = refl in
    s then s then s then s then s then s then q then q then s then s then s then s then s then s then s then s then s then s then tt

first_fails : (a b₀ b₁ b₂ b₃ b₄ b₅ b₆ b₇ : Bool) → b₀ ≡ false → (a && (b₀ && b₁ && b₂ && b₃ && b₄ && b₅ && b₆ && b₇)) ≡ false
first_fails true b₀ b₁ b₂ b₃ b₄ b₅ b₆ b₇ e = rw e
first_fails false b₀ b₁ b₂ b₃ b₄ b₅ b₆ b₇ e = refl

no_word : (line : List ℕ) → is_hex_digit (get_or line 0 0) ≡ false → is_word line ≡ false
unfolding is_word
no_word line e = first_fails (eqb (length line) 8) _ _ _ _ _ _ _ _ e

text_no_word : (short : Bool) (f : Fields) → is_word (spell short f) ≡ false
unfolding spell
text_no_word short f =
    no_word _ (each_below (λ (k : ℕ). is_hex_digit (get_or (fill (letter_values f) (syntax_at k)) 0 0) ≡ false) 18 (first_no_digit f) (row_for short f) (row_below short f))

pub given_back : GivenBack
given_back w f lt e =
    let d = (decodes_exactly all_on w f).0 e in
    let says : spell false f ≡ word_text (decode_paper all_on (word_of (hex8 w))) =
    not-refused (spell false f) ∙ sym (ap word_text e) ∙ sym (ap (λ (v : ℕ). word_text (decode_paper all_on v)) (hex_back w lt)) in (
      subst (λ (t : List ℕ). Answers (hex8 w) (t ++ text "\n")) (sym says) (to_word (hex_word w)),
      λ (short : Bool). subst (λ (t : List ℕ). Answers (spell short f) (t ++ text "\n")) (sym (not-refused (hex8 w)))
          (to_text (text_no_word short f) 0 w (a_word d.valid w (record { fits = lt; fields = f; says = d.says; short = short; spelled = refl }) d.enabled)),
    )
