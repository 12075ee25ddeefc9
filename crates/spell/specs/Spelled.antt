-- What the program `spell` prints for a line, which is a list of bytes without its line end: "a line of eight hexadecimal digits becomes the word's text, a
-- line of text becomes the word's eight upper-case digits, any other line becomes `refused N` (with N of the call); all features are on".
use Rattle.std.specs.Prelude.{ℕ, zero, suc, ◌+◌, ◌*◌, ◌/◌, ◌%◌, ◌≡◌, Bool, true, false, ◌&&◌, ◌||◌, cond, List, [], ◌∷◌, ◌++◌, eqb, leb, length, get_or, Option, Some, None}
use Prim.Native.String.{String}
use Rattle.pieces.specs.Pieces.{text, decimal, hex8}
use Rattle.settings.specs.declared.Settings.{Settings}
use Rattle.words.specs.Decode.{decode_paper}
use Rattle.words.specs.declared.Fields.{Fields}
use Rattle.spelling.specs.Spell.{byte_of, spell}
use Rattle.spelling.specs.Language.{Reads}

-- "all features are on"
abbrev pub all_on : Settings
all_on = record { vl = 128; features = record { 0 = 31 }; modes = record { 0 = 0 }; select = 0 ∷ 0 ∷ 0 ∷ 0 ∷ [] }

-- ---- a line of eight hexadecimal digits

abbrev pub is_from : String → String → ℕ → Bool
is_from first last c = leb (byte_of first) c && leb c (byte_of last)

-- the byte of a digit, in upper or in lower case
abbrev pub is_hex_digit : ℕ → Bool
is_hex_digit c = is_from "0" "9" c || is_from "A" "F" c || is_from "a" "f" c

-- its value: the last four bits, and nine more of a letter, since `0` is byte 48, `A` is 65 and `a` is 97
abbrev pub digit_of : ℕ → ℕ
digit_of c = (c % 16 + c / 64 * 9) % 16

-- the first k bytes are digits
abbrev pub are_digits : List ℕ → ℕ → Bool
are_digits line zero = true
are_digits line (suc k) = are_digits line k && is_hex_digit (get_or line k 0)

unfoldable pub is_word : List ℕ → Bool
is_word line = eqb (length line) 8 && are_digits line 8

-- the number of the first k digits
abbrev pub hex_number : List ℕ → ℕ → ℕ
hex_number line zero = 0
hex_number line (suc k) = hex_number line k * 16 + digit_of (get_or line k 0)

unfoldable pub word_of : List ℕ → ℕ
word_of line = hex_number line 8

-- ---- the answer

abbrev pub refusal_text : ℕ → List ℕ
refusal_text number = text "refused " ++ decimal number

-- what is due where the number is 0, else the refusal
unfoldable pub unless_refused : ℕ → List ℕ → List ℕ
unless_refused number due = cond (eqb number 0) due (refusal_text number)

-- after decode: the preferred text of the fields. Print's number is decode's, since the program's room is long enough
abbrev pub word_text : ℕ × Fields → List ℕ
word_text d = unless_refused d.0 (spell false d.1)

-- the answer to a line
pub data Answers (line : List ℕ) : List ℕ → Type 0 where
  to_word : is_word line ≡ true → Answers line (word_text (decode_paper all_on (word_of line)) ++ text "\n")
  to_text : is_word line ≡ false → (number word : ℕ) → Reads all_on line (number, word) → Answers line (unless_refused number (hex8 word) ++ text "\n")

-- ---- only contracts use these

-- the value of a byte that is a digit
abbrev pub digit_in : ℕ → Option ℕ
digit_in c = cond (is_hex_digit c) (Some (digit_of c)) None

-- the word of a line that is one
unfoldable pub word_in : List ℕ → Option ℕ
word_in line = cond (is_word line) (Some (word_of line)) None
