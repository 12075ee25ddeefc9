-- A syntax is a row of text. A capital letter stands for a value: A to R for a number in decimal digits, S to Z for one byte. Every other byte stands
-- for itself. The values are 26, one for each letter.
use Rattle.std.specs.Prelude.{ℕ, ◌-◌, ◌<◌, ◌≡◌, Bool, true, ◌&&◌, cond, List, [], ◌∷◌, ◌++◌, leb, get_or}
use Rattle.pieces.specs.Pieces.{decimal}

-- `A` to `R`
abbrev pub is_number : ℕ → Bool
is_number c = leb 65 c && leb c 82

-- `S` to `Z`
abbrev pub is_byte : ℕ → Bool
is_byte c = leb 83 c && leb c 90

-- the value of a letter
abbrev pub value_in : List ℕ → ℕ → ℕ
value_in vs c = get_or vs (c - 65) 0

-- what a byte of a row says
abbrev pub says : List ℕ → ℕ → List ℕ
says vs c = cond (is_number c) (decimal (value_in vs c)) (cond (is_byte c) (value_in vs c) c ∷ [])

-- the text of a row
unfoldable pub fill : List ℕ → List ℕ → List ℕ
fill vs [] = []
fill vs (c ∷ row) = says vs c ++ fill vs row

-- no number has more than two digits
abbrev pub TwoDigits : List ℕ → Type 0
TwoDigits vs = (c : ℕ) → is_number c ≡ true → value_in vs c < 100

-- every value fits a byte
abbrev pub OneByte : List ℕ → Type 0
OneByte vs = (c : ℕ) → value_in vs c < 256
