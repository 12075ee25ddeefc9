-- How two lists of bytes differ, bit by bit.
use Rattle.std.specs.Prelude.{◌&&◌, cond, List, [], ◌∷◌, ℕ, zero, suc, ◌+◌, ◌-◌, ◌/◌, ◌%◌, eqb}
use Rattle.bits.specs.declared.Toggles.{Toggles}

-- f of the bits i of a and of b, summed over the k lowest bits
unfoldable pub over_bits : (ℕ → ℕ → ℕ) → ℕ → ℕ → ℕ → ℕ
over_bits f zero a b = 0
over_bits f (suc k) a b = f (a % 2) (b % 2) + over_bits f k (a / 2) (b / 2)

-- the same, summed over all bits of all bytes of two lists
unfoldable pub over_bytes : (ℕ → ℕ → ℕ) → List ℕ → List ℕ → ℕ
unfolding over_bits
over_bytes f [] t = 0
over_bytes f (x ∷ s) [] = 0
over_bytes f (x ∷ s) (y ∷ t) = over_bits f 8 x y + over_bytes f s t

-- a bit rises that was 0 and is 1
abbrev pub rose : ℕ → ℕ → ℕ
rose old new = cond (eqb old 0 && eqb new 1) 1 0

-- it falls where it was 1 and is 0
abbrev pub fell : ℕ → ℕ → ℕ
fell old new = cond (eqb old 1 && eqb new 0) 1 0

-- how many bits rise from the one list to the other, and how many fall
abbrev pub rises : List ℕ → List ℕ → ℕ
rises = over_bytes rose

abbrev pub falls : List ℕ → List ℕ → ℕ
falls = over_bytes fell

-- document 02: "toggled is their sum". They are the bits that differ (`toggled_differs`)
abbrev pub toggled : List ℕ → List ℕ → ℕ
toggled before after = rises before after + falls before after

-- both numbers, as the code answers them
abbrev pub toggles : List ℕ → List ℕ → Toggles
toggles before after = record { rises = rises before after; falls = falls before after }

-- the bits of eight bytes that rise and fall, where they are one number and become another
abbrev pub word_toggles : ℕ → ℕ → Toggles
word_toggles before after = record { rises = over_bits rose 64 before after; falls = over_bits fell 64 before after }

-- ---- one list

-- how many of its bits are 1, and how many are 0
abbrev pub ones_of : List ℕ → ℕ
ones_of bytes = over_bytes (λ x y. x) bytes bytes

abbrev pub zeros_of : List ℕ → ℕ
zeros_of bytes = over_bytes (λ x y. 1 - x) bytes bytes
