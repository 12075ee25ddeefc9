-- Answers to lines, by computing.
use Rattle.std.specs.Prelude.{◌≡◌, refl, true, false, [], ◌∷◌, map}
use Rattle.std.proofs.Common.{lit<}
use Rattle.pieces.specs.Pieces.{text, digits, decimal, decimal_up_to, hex8}
use Rattle.syntax.specs.Syntax.{fill}
use Rattle.settings.specs.Valid.{valid_settings}
use Rattle.words.specs.Says.{describe}
use Rattle.words.specs.Kinds.{fields_said}
use Rattle.words.specs.Decode.{enables, decode_enabled, decode_paper}
use Rattle.spelling.specs.Rows.{syntax_at}
use Rattle.spelling.specs.Spell.{row_for, letter_values, spell}
use Rattle.spelling.specs.Language.{a_word}
use Rattle.spell.specs.Spelled.{is_hex_digit, digit_of, is_word, word_of, unless_refused, Answers, to_word, to_text}

-- the digits' values, in upper and in lower case
values : map digit_of (text "0123456789ABCDEFabcdef")
    ≡ 0 ∷ 1 ∷ 2 ∷ 3 ∷ 4 ∷ 5 ∷ 6 ∷ 7 ∷ 8 ∷ 9 ∷ 10 ∷ 11 ∷ 12 ∷ 13 ∷ 14 ∷ 15 ∷ 10 ∷ 11 ∷ 12 ∷ 13 ∷ 14 ∷ 15 ∷ []
values = refl

-- the bytes before and after them are none
no_digits : map is_hex_digit (text "/:@G`g") ≡ false ∷ false ∷ false ∷ false ∷ false ∷ false ∷ []
no_digits = refl

words : map word_of (text "C1A20008" ∷ text "c1a20008" ∷ text "FFFFFFFF" ∷ []) ≡ 0xC1A20008 ∷ 0xC1A20008 ∷ 0xFFFFFFFF ∷ []
unfolding word_of
words = refl

-- seven digits, nine, none, one that is no digit, a space
no_words : map is_word (text "C1A2000" ∷ text "C1A200080" ∷ text "" ∷ text "C1A2000G" ∷ text "C1A20008 " ∷ [])
    ≡ false ∷ false ∷ false ∷ false ∷ false ∷ []
unfolding is_word
no_words = refl

-- "a line of eight hexadecimal digits becomes the word's text"
word_to-text : Answers (text "C1A20008") (text "smlsll za.s[w8, 0:3, vgx2], { z0.b-z1.b }, { z2.b-z3.b }\n")
unfolding is_word word_of unless_refused decode_paper decode_enabled describe enables valid_settings spell row_for letter_values syntax_at fill decimal decimal_up_to
word_to-text = to_word refl

lower_case : Answers (text "0e228020") (text "smlal v0.8h, v1.8b, v2.8b\n")
unfolding is_word word_of unless_refused decode_paper decode_enabled describe enables valid_settings spell row_for letter_values syntax_at fill decimal decimal_up_to
lower_case = to_word refl

-- "becomes `refused N` (with N of the call)"
word-refused : Answers (text "FFFFFFFF") (text "refused 3\n")
unfolding is_word word_of unless_refused decode_paper decode_enabled describe enables valid_settings decimal decimal_up_to
word-refused = to_word refl

-- "a line of text becomes the word's eight upper-case digits"
text_to_word : Answers (text "smlsll za.s[w8, 0:3, vgx2], { z0.b-z1.b }, { z2.b-z3.b }") (text "C1A20008\n")
unfolding is_word unless_refused describe enables valid_settings spell row_for letter_values syntax_at fill decimal decimal_up_to hex8 digits
text_to_word =
    to_text refl 0 0xC1A20008
    (a_word refl 0xC1A20008 (record { fits = lit< tt; fields = fields_said (describe 0xC1A20008); says = refl; short = false; spelled = refl }) refl)

without_vgx : Answers (text "smlsll za.s[w8, 0:3], { z0.b-z1.b }, { z2.b-z3.b }") (text "C1A20008\n")
unfolding is_word unless_refused describe enables valid_settings spell row_for letter_values syntax_at fill decimal decimal_up_to hex8 digits
without_vgx =
    to_text refl 0 0xC1A20008
    (a_word refl 0xC1A20008 (record { fits = lit< tt; fields = fields_said (describe 0xC1A20008); says = refl; short = true; spelled = refl }) refl)
