-- The lines that the list program prints, as lists of bytes (document 01, The run list).
use Rattle.std.specs.Prelude.{ℕ, zero, suc, ◌+◌, ◌*◌, ◌^◌, ◌<◌, cond, List, [], ◌++◌, eqb, length, get_or}
use Rattle.pieces.specs.Pieces.{text, decimal, hex8}
use Rattle.rate.specs.Rate.{percent_of}

-- the one line of a refused list: the refusal's number and the place
unfoldable pub refused_line : ℕ → ℕ → List ℕ
refused_line number place = text "refused " ++ decimal number ++ text " at " ++ decimal place ++ text "\n"

-- toggled, written and percent, after what stands before them
unfoldable pub counts_after : List ℕ → ℕ → ℕ → List ℕ
counts_after before toggled written =
    before ++ decimal toggled ++ text " " ++ decimal written ++ text " " ++ decimal (percent_of toggled written) ++ text "\n"

-- what became of a word: its refusal, or its counts where that is 0
unfoldable pub outcome : ℕ → ℕ → ℕ → List ℕ
outcome refusal toggled written =
    cond (eqb refusal 0) (counts_after (text " ") toggled written) (text " refused " ++ decimal refusal ++ text "\n")

-- a word's line: its number from 1 on, the word, and what became of it
unfoldable pub word_line : ℕ → ℕ → ℕ → ℕ → ℕ → List ℕ
word_line number word refusal toggled written = decimal number ++ text " " ++ hex8 word ++ outcome refusal toggled written

-- toggled of word i, the first of which is word 0: its rises and its falls, which are the second and third of four numbers a word in the report
abbrev pub toggled_at : List ℕ → ℕ → ℕ
toggled_at report i = get_or report (4 * i + 1) 0 + get_or report (4 * i + 2) 0

-- the line of word i
abbrev pub line_of : List ℕ → List ℕ → ℕ → List ℕ
line_of words report i =
    word_line (i + 1) (get_or words i 0) (get_or report (4 * i) 0) (toggled_at report i) (get_or report (4 * i + 3) 0)

-- the lines of the first n words
unfoldable pub word_lines : List ℕ → List ℕ → ℕ → List ℕ
word_lines words report zero = []
word_lines words report (suc i) = word_lines words report i ++ line_of words report i

unfoldable pub words_line : ℕ → List ℕ
words_line n = text "words " ++ decimal n ++ text "\n"

unfoldable pub total_line : ℕ → ℕ → List ℕ
total_line toggled written = counts_after (text "total ") toggled written

-- the lines of a list that ran
unfoldable pub ran_lines : List ℕ → List ℕ → ℕ → ℕ → List ℕ
ran_lines words report toggled written = words_line (length words) ++ word_lines words report (length words) ++ total_line toggled written

-- ---- only contracts use this

-- toggled of each of the first n words has 32 bits
abbrev pub ToggledFits : List ℕ → ℕ → Type 0
ToggledFits report n = (i : ℕ) → i < n → toggled_at report i < 2 ^ 32
