-- The text of fields: which row, and the values of its letters.
use Rattle.std.specs.Prelude.{ℕ, ◌+◌, ◌-◌, Bool, cond, List, [], ◌∷◌, eqb, get_or, set, replicate}
use Prim.Native.String.{String}
use Rattle.pieces.specs.Pieces.{text}
use Rattle.syntax.specs.Syntax.{fill}
use Rattle.words.specs.declared.Family.{Family}
use Rattle.words.specs.declared.Family.TheVariants.{ByElement, Vector, Saturating, LongLong, Long}
use Rattle.words.specs.declared.Fields.{Fields}
use Rattle.spelling.specs.Rows.{syntax_at}

-- ---- which row

-- Q=0 has the first of two rows
abbrev pub by_part : ℕ → ℕ → ℕ → ℕ
by_part part q0 q1 = cond (eqb part 0) q0 q1

abbrev pub row_by : Bool → Family → ℕ → ℕ → ℕ
row_by short ByElement lane part = cond (eqb lane 16) (by_part part 0 1) (by_part part 2 3)
row_by short Vector lane part = cond (eqb lane 8) (by_part part 4 5) (cond (eqb lane 16) (by_part part 6 7) (by_part part 8 9))
row_by short Saturating lane part = cond (eqb lane 16) 10 11
row_by short LongLong lane part = cond short (cond (eqb lane 8) 15 16) (cond (eqb lane 8) 12 13)
row_by short Long lane part = cond short 17 14

-- the number of the row of fields; `short` leaves vgx out, where there is any
unfoldable pub row_for : Bool → Fields → ℕ
row_for short f = row_by short f.family f.lane f.part

-- ---- the values

-- the byte of a letter that stands alone in a text
abbrev pub byte_of : String → ℕ
byte_of s = get_or (text s) 0 0

-- U=1 is unsigned, S=1 subtracts; C: T=1 is top
abbrev pub sign_byte : Bool → ℕ
sign_byte unsigned = cond unsigned (byte_of "u") (byte_of "s")

abbrev pub add_byte : Bool → ℕ
add_byte subtract = cond subtract (byte_of "s") (byte_of "a")

abbrev pub part_byte : ℕ → ℕ
part_byte part = cond (eqb part 0) (byte_of "b") (byte_of "t")

-- the last offset: D takes four vectors, E two
abbrev pub last_offset : Family → ℕ → ℕ
last_offset ByElement offset = offset
last_offset Vector offset = offset
last_offset Saturating offset = offset
last_offset LongLong offset = offset + 3
last_offset Long offset = offset + 1

-- the values A to Z: those that are named, and 0
abbrev pub letters : List (String × ℕ) → List ℕ
letters [] = replicate 26 0
letters (p ∷ ps) = set (letters ps) (byte_of p.0 - byte_of "A") p.1

unfoldable pub letter_values : Fields → List ℕ
letter_values f =
    letters
    (("U", sign_byte f.unsigned)
    ∷ ("S", add_byte f.subtract)
    ∷ ("T", part_byte f.part)
    ∷ ("D", f.destination)
    ∷ ("N", f.first)
    ∷ ("M", f.second)
    ∷ ("I", f.index)
    ∷ ("K", f.first + f.group - 1)
    ∷ ("L", f.second + f.group - 1)
    ∷ ("G", f.group)
    ∷ ("R", f.select)
    ∷ ("O", f.offset)
    ∷ ("P", last_offset f.family f.offset)
    ∷ [])

-- ---- the text

-- the preferred one, or the one without vgx
unfoldable pub spell : Bool → Fields → List ℕ
spell short f = fill (letter_values f) (syntax_at (row_for short f))

-- no text is longer, and one is as long
abbrev pub longest_text : ℕ
longest_text = 61
