-- What the list program prints of a list (document 01, "The run list").
use Rattle.std.specs.Prelude.{ℕ, ◌+◌, ◌*◌, ◌/◌, ◌≡◌, cond, List, [], eqb, length, take, replicate, Ok, Err}
use Rattle.settings.specs.Valid.{valid_length}
use Rattle.numbers.specs.Numbers.{Read, number_at}
use Rattle.runlist.specs.Plan.{lengths_of, Found, found, refused, Asked, most_words, plan_of}
use Rattle.runlist.specs.declared.Lengths.{Lengths}
use Rattle.runlist.specs.RunList.{Ended, run_paper}
use Rattle.lines.specs.Lines.{refused_line, ran_lines}

-- the words of a list that is accepted
unfoldable pub words_of : Found Asked → List ℕ
words_of (found a) = a.words
words_of (refused r p) = []

-- the text of an answer: one line for a refused list; else `words`, a line for each word, and `total`, with the rises and falls of all words as toggled
unfoldable pub text_of : List ℕ → Ended → List ℕ
text_of ws o =
    cond (eqb o.number 0) (ran_lines ws o.report (o.tally.rises + o.tally.falls) o.tally.written) (refused_line o.number o.place)

-- the text of what `run` answers, where Z, ZA and the report are lent
unfoldable pub lines_of : List ℕ → List ℕ → List ℕ → List ℕ → List ℕ
lines_of list z za report = text_of (words_of (plan_of list (lengths_of z za report))) (run_paper list z za report)

-- ---- what the program lends

-- VL/8, where the number that was read is a VL
abbrev pub register_of : Read → ℕ
register_of (Ok n) = cond (valid_length n.value) (n.value / 8) 0
register_of (Err f) = 0

-- the bytes of a Z register, by the list's first number; 0 where that is no VL: such a list is refused before a length is tested
unfoldable pub register_bytes : List ℕ → ℕ
register_bytes list = register_of (number_at list 0)

-- how long what it lends is: Z and ZA as the list asks for, and four numbers for each word that a list may have
abbrev pub lent_to : List ℕ → Lengths
lent_to list = record { z = 32 * register_bytes list; za = register_bytes list * register_bytes list; report = 4 * most_words }

-- what is printed: zeros are lent
unfoldable pub printed : List ℕ → List ℕ
printed list =
    lines_of list (replicate (lent_to list).z 0) (replicate (lent_to list).za 0) (replicate (lent_to list).report 0)

-- ---- only a contract uses this

-- the words of an accepted list stand in front
abbrev pub WordsAgain : List ℕ → Lengths → List ℕ → Type 0
WordsAgain list lent words = (a : Asked) → plan_of list lent ≡ found a → take (length a.words) words ≡ a.words
