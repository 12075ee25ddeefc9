-- What holds of the numbers. Statements only: proofs/Put.antt proves the first and proofs/Theorems.antt each other.
use Rattle.std.specs.Prelude.{ℕ, ◌^◌, ◌<◌, ◌≡◌, List, length, Some}
use Rattle.words.specs.declared.Fields.{Fields}
use Rattle.packing.specs.Packing.{of_halves, halves, field_numbers, fields_from}

-- what is put into an answer is read from it, and nothing else is in it
abbrev pub HalvesBack : Type 0
HalvesBack = (refusal value : ℕ) → refusal < 2 ^ 32 → halves (of_halves refusal value) ≡ (refusal, value)

abbrev pub AnswerBack : Type 0
AnswerBack = (answer : ℕ) → of_halves (halves answer).0 (halves answer).1 ≡ answer

-- the numbers of fields stand for these fields, and twelve numbers that stand for fields are theirs
abbrev pub FieldsBack : Type 0
FieldsBack = (f : Fields) → fields_from (field_numbers f) ≡ Some f

abbrev pub NumbersBack : Type 0
NumbersBack = (numbers : List ℕ) (f : Fields) → length numbers ≡ 12 → fields_from numbers ≡ Some f → field_numbers f ≡ numbers
