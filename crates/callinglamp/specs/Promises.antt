-- What the eight public calls promise, side by side: what each answers, and what it leaves in what was lent to it. What a promise cites stands
-- in the crates below: layouts and fields in `words`, the step in `machine`, the list in `runlist`, the texts in `spelling`.
use Rattle.std.specs.Prelude.{ℕ, ◌≡◌, List, Result}
use Rattle.tally.specs.declared.Counts.{Counts}
use Rattle.settings.specs.Refused.{word_says}
use Rattle.settings.specs.declared.Refusal.{Refusal}
use Rattle.settings.specs.declared.Settings.{Settings}
use Rattle.words.specs.Decode.{decoded_says, decode_paper}
use Rattle.words.specs.Partner as words
use Rattle.words.specs.declared.Fields.{Fields}
use Rattle.encoding.specs.Encode.{Encodes}
use Rattle.machine.specs.Execute as machine
use Rattle.rate.specs.Rate.{percent_of}
use Rattle.runlist.specs.RunList as runlist
use Rattle.numbers.specs.declared.Fault.{Fault}
use Rattle.runlist.specs.declared.Ran.{Ran}
use Rattle.spelling.specs.Print as print
use Rattle.spelling.specs.Language as language

-- the fields of a word. "Decode tests 1, 3"
abbrev pub DecodePromise : Settings → ℕ → Result Fields Refusal → Type 0
DecodePromise settings word r = decoded_says r ≡ decode_paper settings word

-- the word that has exactly these fields. "encode 1, 5, 3"
abbrev pub EncodePromise : Settings → Fields → Result ℕ Refusal → Type 0
EncodePromise settings fields r = Encodes settings fields (word_says r)

-- "The partner of a word is the word with S flipped." "partner 1, 3, 6"
abbrev pub PartnerPromise : Settings → ℕ → Result ℕ Refusal → Type 0
PartnerPromise = words.PartnerPromise

-- what a step does to Z and ZA, the bits that rose, those that fell and those that were written. "execute 1, 2, 3, 4"
abbrev pub ExecutePromise : Settings → ℕ → List ℕ → List ℕ → Result Counts Refusal → List ℕ → List ℕ → Type 0
ExecutePromise = machine.ExecutePromise

-- "Percent is 100·toggled/written rounded down, 0 where written is 0."
abbrev pub PercentPromise : ℕ → ℕ → ℕ → Type 0
PercentPromise toggled written r = r ≡ percent_of toggled written

-- "An accepted list leaves the final Z and ZA", and "four numbers for each word" (document 02) "in the report, whose rest stays." A refused one leaves
-- all as it was
abbrev pub RunPromise : List ℕ → List ℕ → List ℕ → List ℕ → Result Ran Fault → List ℕ → List ℕ → List ℕ → Type 0
RunPromise = runlist.RunPromise

-- "Arm's preferred assembler text for every word of the five families, in lower case with one fixed spacing": its length, and the room at the end.
-- "printing tests 1, 3, then 12 where the room is shorter than the text"
abbrev pub PrintPromise : Settings → ℕ → List ℕ → Result ℕ Refusal → List ℕ → Type 0
PrintPromise = print.PrintPromise

-- "The reader takes the printed text, and also the text without `vgx2` or `vgx4` ..; nothing else." "reading tests 1, then 11 for text not of the
-- language, then 3 for a missing feature"
abbrev pub ReadPromise : Settings → List ℕ → Result ℕ Refusal → Type 0
ReadPromise = language.ReadPromise
