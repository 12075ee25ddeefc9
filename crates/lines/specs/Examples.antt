-- Document 01's lines, and those of no words.
use Rattle.std.specs.Prelude.{◌≡◌, refl, [], ◌∷◌, ◌++◌}
use Rattle.pieces.specs.Pieces.{text, digits, decimal_up_to, decimal, hex8}
use Rattle.lines.specs.Lines.{refused_line, counts_after, outcome, word_line, word_lines, words_line, total_line, ran_lines}

refused_at_once : refused_line 7 0 ≡ text "refused 7 at 0\n"
unfolding refused_line decimal decimal_up_to
refused_at_once = refl

-- C1A20008, 0E228020, C1A20000
three_words : ran_lines (3248619528 ∷ 237142048 ∷ 3248619520 ∷ []) (0 ∷ 1024 ∷ 0 ∷ 1024 ∷ 3 ∷ 0 ∷ 0 ∷ 0 ∷ 0 ∷ 0 ∷ 1024 ∷ 1024 ∷ []) 2048 2048
    ≡ text "words 3\n" ++ text "1 C1A20008 1024 1024 100\n" ++ text "2 0E228020 refused 3\n" ++ text "3 C1A20000 1024 1024 100\n" ++ text "total 2048 2048 100\n"
unfolding ran_lines words_line total_line word_lines word_line outcome counts_after hex8 decimal decimal_up_to digits
three_words = refl

no_words : ran_lines [] [] 0 0 ≡ text "words 0\n" ++ text "total 0 0 0\n"
unfolding ran_lines words_line total_line word_lines word_line outcome counts_after hex8 decimal decimal_up_to digits
no_words = refl
