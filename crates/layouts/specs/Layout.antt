-- A layout of a word, read off its row of text, bit 31 first: 0 and 1 are fixed bits, and a letter is a field. A letter that
-- stands in several places joins them, the first the most significant. A space says nothing.
use Rattle.std.specs.Prelude.{ℕ, ◌+◌, ◌-◌, ◌*◌, ◌/◌, ◌%◌, ◌^◌, List, [], ◌∷◌, Bool, true, ◌&&◌, cond, eqb}
use Prim.Native.Char.{Char, code}
use Prim.Native.String.{String, [] as end, ◌∷◌ as then}
use Rattle.std.specs.Int.Bits.{bit_xor}

-- `bits k x`: k fixed bits, whose number is x. `field k a`: k bits of the field whose letter has the code a
pub data Segment : Type 0 where
  bits : ℕ → ℕ → Segment
  field : ℕ → ℕ → Segment

-- the segments, most significant first
abbrev pub Layout : Type 0
Layout = List Segment

-- ---- from the text to the layout

-- a fixed bit before a layout
abbrev pub fixed : ℕ → Layout → Layout
fixed b [] = bits 1 b ∷ []
fixed b (bits k x ∷ l) = bits (k + 1) (b * 2 ^ k + x) ∷ l
fixed b (field k a ∷ l) = bits 1 b ∷ field k a ∷ l

-- a field's bit before a layout
abbrev pub letter : ℕ → Layout → Layout
letter c [] = field 1 c ∷ []
letter c (bits k x ∷ l) = field 1 c ∷ bits k x ∷ l
letter c (field k a ∷ l) = cond (eqb c a) (field (k + 1) a ∷ l) (field 1 c ∷ field k a ∷ l)

-- a character before a layout: 32 is the space, 48 the digit 0, 49 the digit 1
abbrev pub read : ℕ → Layout → Layout
read c l = cond (eqb c 32) l (cond (eqb c 48) (fixed 0 l) (cond (eqb c 49) (fixed 1 l) (letter c l)))

abbrev pub row : String → Layout
row end = []
row (then c s) = read (code c) (row s)

-- ---- from a layout and a word to what the word says

abbrev pub width : Segment → ℕ
width (bits k x) = k
width (field k a) = k

-- how many bits a layout has
abbrev pub size : Layout → ℕ
size [] = 0
size (g ∷ l) = width g + size l

-- the k bits of w that stand above its p lowest
abbrev pub part : ℕ → ℕ → ℕ → ℕ
part w p k = w / 2 ^ p % 2 ^ k

-- whether the fixed bits of the layout are those of the word
abbrev pub matches : Layout → ℕ → Bool
matches [] w = true
matches (bits k x ∷ l) w = matches l w && eqb (part w (size l) k) x
matches (field k a ∷ l) w = matches l w

-- the places of the letter of code a: of each how many bits stand there, and their number in the word
abbrev pub places : Layout → ℕ → ℕ → List (ℕ × ℕ)
places [] a w = []
places (bits k x ∷ l) a w = places l a w
places (field k b ∷ l) a w = cond (eqb a b) ((k, part w (size l) k) ∷ places l a w) (places l a w)

-- how many bits stand in places
abbrev pub bits_in : List (ℕ × ℕ) → ℕ
bits_in [] = 0
bits_in (p ∷ ps) = p.0 + bits_in ps

-- the number of the places: none is 0, one is its own, and several are joined, the first the most significant
abbrev pub join : List (ℕ × ℕ) → ℕ
join [] = 0
join (p ∷ []) = p.1
join (p ∷ (q ∷ ps)) = p.1 * 2 ^ bits_in (q ∷ ps) + join (q ∷ ps)

-- a number for each letter
abbrev pub Letters : Type 0
Letters = Char → ℕ

-- the value of the field of a letter, 0 where the layout has none
abbrev pub value : Layout → ℕ → Letters
value l w a = join (places l (code a) w)

-- the values of the fields, in the layout's order, a letter's places apart
abbrev pub parts : Layout → ℕ → List ℕ
parts [] w = []
parts (bits k x ∷ l) w = parts l w
parts (field k a ∷ l) w = part w (size l) k ∷ parts l w

-- ---- from values to the word

-- the word of the fields' values, in the layout's order; a value that is left out is 0
abbrev pub build : Layout → List ℕ → ℕ
build [] vs = 0
build (bits k x ∷ l) vs = x * 2 ^ size l + build l vs
build (field k a ∷ l) [] = build l []
build (field k a ∷ l) (v ∷ vs) = v * 2 ^ size l + build l vs

-- every bit of a segment that is of the letter of code a, and no bit of another
abbrev pub of_letter : ℕ → Segment → ℕ
of_letter a (bits k x) = 0
of_letter a (field k b) = cond (eqb a b) (2 ^ k - 1) 0

-- the word with every bit of a letter set, and no other
abbrev pub mask_of : Layout → ℕ → ℕ
mask_of [] a = 0
mask_of (g ∷ l) a = of_letter a g * 2 ^ size l + mask_of l a

-- the word with the bits of a letter flipped
abbrev pub flip : Layout → Char → ℕ → ℕ
flip l a w = bit_xor w (mask_of l (code a))
