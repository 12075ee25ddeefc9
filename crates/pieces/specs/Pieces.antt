-- Pieces of text, as lists of bytes: texts, and numbers by their digits; and what it is to put one into room that is lent.
use Rattle.std.specs.Prelude.{ℕ, zero, suc, ◌+◌, ◌/◌, ◌%◌, ◌≤◌, ◌≡◌, cond, List, [], ◌∷◌, ◌++◌, ltb, length, take, drop}
use Prim.Native.Char.{code}
use Prim.Native.String.{String, [] as end, ◌∷◌ as then}

-- the bytes of a text
abbrev pub text : String → List ℕ
text end = []
text (then c s) = code c ∷ text s

-- ---- numbers

-- a digit's byte: `0` to `9`, then `A` to `F`
abbrev pub glyph_of : ℕ → ℕ
glyph_of d = cond (ltb d 10) (48 + d) (55 + d)

-- the last k digits of n in base b
unfoldable pub digits : ℕ → ℕ → ℕ → List ℕ
digits b zero n = []
digits b (suc k) n = digits b k (n / b) ++ glyph_of (n % b) ∷ []

-- n's decimal digits, where it has no more than k: those of n / 10, unless that is 0, and the last. What a `let` names is computed only
-- where it is asked for, so that a great k costs nothing
unfoldable pub decimal_up_to : ℕ → ℕ → List ℕ
decimal_up_to zero n = []
decimal_up_to (suc k) n = let high = decimal_up_to k (n / 10) in cond (ltb n 10) [] high ++ glyph_of (n % 10) ∷ []

-- n never has more than suc n
unfoldable pub decimal : ℕ → List ℕ
decimal n = decimal_up_to (suc n) n

-- the eight hexadecimal digits of a word
unfoldable pub hex8 : ℕ → List ℕ
hex8 w = digits 16 8 w

-- ---- text in room that is lent

-- t stands at `at`, every other byte is as it was, and r is the place after t
pub record Wrote (t : List ℕ) (at : ℕ) (out out' : List ℕ) (r : ℕ) : Type 0 where
  pub ends : r ≡ at + length t
  pub fits : r ≤ length out
  pub bytes : out' ≡ take at out ++ t ++ drop (at + length t) out

-- t stands at the start of the room, and r is its length: what a caller's `&room[..r]` asks for
pub record Stands (t room room' : List ℕ) (r : ℕ) : Type 0 where
  pub inside : r ≤ length room'
  pub counted : r ≡ length (take r room')
  pub is : take r room' ≡ t
  pub same_room : length room' ≡ length room
