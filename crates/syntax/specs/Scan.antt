-- What only the code and the proofs need: what a byte of a row says by its value, the values that a text can have by a row, and the test of a row by
-- which a text of it is read back.
use Rattle.std.specs.Prelude.{ℕ, ◌+◌, ◌-◌, ◌*◌, Bool, true, false, not, ◌&&◌, ◌||◌, cond, List, [], ◌∷◌, eqb, get_or, set, drop}
use Rattle.std.specs.Char.{is_ascii_digit, is_ascii_uppercase}
use Rattle.pieces.specs.Pieces.{decimal}
use Rattle.syntax.specs.Syntax.{is_number, is_byte}

-- what a byte of a row says, by the value of a letter or the byte itself
abbrev pub says_of : ℕ → ℕ → List ℕ
says_of c v = cond (is_number c) (decimal v) (v ∷ [])

-- `0` to `9`
abbrev pub is_digit : ℕ → Bool
is_digit = is_ascii_digit

-- `A` to `Z`
abbrev pub is_letter : ℕ → Bool
is_letter = is_ascii_uppercase

-- ---- the first two bytes of a text

-- the number that they begin with: it has no digit, one or two
unfoldable pub number_of : ℕ → ℕ → ℕ
number_of a b = cond (is_digit a) (cond (is_digit b) ((a - 48) * 10 + (b - 48)) (a - 48)) 0

-- how many of them a row's byte passes
unfoldable pub passes_of : ℕ → ℕ → ℕ → ℕ
passes_of c a b = cond (is_number c) (cond (is_digit a) (cond (is_digit b) 2 1) 0) 1

-- the value that stands first, by a row's byte
abbrev pub value_of : ℕ → ℕ → ℕ → ℕ
value_of c a b = cond (is_number c) (number_of a b) a

-- the values, with it in the place of a letter
abbrev pub noted_of : ℕ → ℕ → ℕ → List ℕ → List ℕ
noted_of c a b vs = cond (is_letter c) (set vs (c - 65) (value_of c a b)) vs

-- a letter fits anything, and any other byte itself
abbrev pub fits_of : ℕ → ℕ → Bool
fits_of c a = is_letter c || eqb a c

-- ---- a text

abbrev pub value_first : ℕ → List ℕ → ℕ
value_first c t = value_of c (get_or t 0 0) (get_or t 1 0)

abbrev pub after : ℕ → List ℕ → List ℕ
after c t = drop (passes_of c (get_or t 0 0) (get_or t 1 0)) t

abbrev pub fits_first : ℕ → List ℕ → Bool
fits_first c t = fits_of c (get_or t 0 0)

abbrev pub noted : ℕ → List ℕ → List ℕ → List ℕ
noted c t vs = noted_of c (get_or t 0 0) (get_or t 1 0) vs

-- the bytes of the row that say themselves stand in the text
unfoldable pub fits : List ℕ → List ℕ → Bool
fits [] t = true
fits (c ∷ row) t = cond (fits_first c t) (fits row (after c t)) false

-- the values, with those of the row's letters in the text
unfoldable pub taken : List ℕ → List ℕ → List ℕ → List ℕ
taken [] t vs = vs
taken (c ∷ row) t vs = taken row (after c t) (noted c t vs)

-- ---- the test of a row

-- a byte that says itself, and is no digit
abbrev pub ends_number : ℕ → Bool
ends_number c = not (is_number c) && not (is_byte c) && not (is_digit c)

abbrev pub ends_first : List ℕ → Bool
ends_first [] = true
ends_first (c ∷ row) = ends_number c

-- each number ends at such a byte, or at the end
unfoldable pub clear : List ℕ → Bool
clear [] = true
clear (c ∷ row) = (not (is_number c) || ends_first row) && clear row

-- whether a letter stands in a row
unfoldable pub among : ℕ → List ℕ → Bool
among a [] = false
among a (c ∷ row) = eqb c a || among a row
