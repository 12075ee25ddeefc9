-- Document 01, "Refusal numbers", and the further numbers of "The run list"; document 02, request One: 11 and 12.
use Rattle.std.specs.Prelude.{ℕ, Result, Ok, Err}
use Rattle.settings.specs.declared.Refusal.{Refusal}
use Rattle.settings.specs.declared.Refusal.TheVariants.{BadSettings, BadLength, UnknownWord, WrongMode, NoSuchWord, NoPartner, ListEnds, BadNumber, TooManyWords, ExtraBytes, NotText, ShortRoom}

abbrev pub refusal_number : Refusal → ℕ
refusal_number BadSettings = 1
refusal_number BadLength = 2
refusal_number UnknownWord = 3
refusal_number WrongMode = 4
refusal_number NoSuchWord = 5
refusal_number NoPartner = 6
refusal_number ListEnds = 7
refusal_number BadNumber = 8
refusal_number TooManyWords = 9
refusal_number ExtraBytes = 10
refusal_number NotText = 11
refusal_number ShortRoom = 12

-- the number and the word of an answer that is a word: of `encode`, of `partner`
abbrev pub word_says : Result ℕ Refusal → ℕ × ℕ
word_says (Ok w) = (0, w)
word_says (Err r) = (refusal_number r, 0)
