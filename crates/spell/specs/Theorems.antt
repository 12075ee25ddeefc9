-- What holds of the program for every line. Statements only: proofs/Theorems.antt and proofs/Back.antt prove them.
use Rattle.std.specs.Prelude.{ℕ, ◌<◌, ◌^◌, ◌≡◌, Bool, false, List, ◌++◌, take}
use Rattle.pieces.specs.Pieces.{text, hex8}
use Rattle.words.specs.Decode.{decode_paper}
use Rattle.words.specs.declared.Fields.{Fields}
use Rattle.spelling.specs.Spell.{spell, longest_text}
use Rattle.spell.specs.Spelled.{all_on, Answers}

-- a line has one answer
abbrev pub OneAnswer : Type 0
OneAnswer = (line a b : List ℕ) → Answers line a → Answers line b → a ≡ b

-- the first bytes decide: whoever keeps more bytes of a line than the longest text has prints what is due to the whole
abbrev pub EnoughKept : Type 0
EnoughKept = (k : ℕ) → longest_text < k → (line a : List ℕ) → Answers (take k line) a → Answers line a

-- an accepted word has its text for an answer, and its text, with vgx or without, has the word
abbrev pub GivenBack : Type 0
GivenBack =
    (w : ℕ) (f : Fields) → w < 2 ^ 32 → decode_paper all_on w ≡ (0, f)
    → Answers (hex8 w) (spell false f ++ text "\n") × ((short : Bool) → Answers (spell short f) (hex8 w ++ text "\n"))
