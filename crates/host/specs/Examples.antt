-- The definitions run: document 01's rows P5, P8 and P11 and request One's word as a C program sees them, and each kind of answer.
use Rattle.std.specs.Prelude.{ℕ, ◌≡◌, refl, true, List, [], ◌∷◌, ◌++◌, replicate}
use Rattle.std.proofs.Common.{arith}
use Rattle.settings.specs.Valid.{valid_settings}
use Rattle.words.specs.Says.{describe}
use Rattle.words.specs.Kinds.{fields_said}
use Rattle.words.specs.Decode.{enables, decode_enabled, decode_paper}
use Rattle.words.specs.Partner.{partner_word, partner_paper}
use Rattle.numbers.specs.Numbers.{numeral, number_at, numbers_at}
use Rattle.runlist.specs.Plan.{settings_of, plan_of}
use Rattle.runlist.specs.RunList.{run_paper}
use Rattle.pieces.specs.Pieces.{text, decimal, decimal_up_to}
use Rattle.syntax.specs.Syntax.{fill}
use Rattle.spelling.specs.Rows.{syntax_at}
use Rattle.spelling.specs.Spell.{row_for, letter_values, spell}
use Rattle.spelling.specs.Print.{print_paper}
use Rattle.spelling.specs.Language.{a_word}
use Rattle.packing.specs.Packing.{of_halves, halves, fields_from}
use Rattle.host.specs.Host.{host_decode, HostEncode, HostPartner, host_run, HostPrint, HostRead}

-- VL 128, modes 0 and W8 to W11 0
abbrev settings : ℕ → List ℕ
settings features = 128 ∷ features ∷ 0 ∷ 0 ∷ 0 ∷ 0 ∷ 0 ∷ []

-- what stood in the fields before
abbrev before : List ℕ
before = replicate 12 77

-- family, unsigned, subtract, lane, part, index, destination, first, second, group, select, offset
abbrev p5 : List ℕ
p5 = 1 ∷ 1 ∷ 1 ∷ 16 ∷ 0 ∷ 7 ∷ 0 ∷ 1 ∷ 2 ∷ 1 ∷ 0 ∷ 0 ∷ []

abbrev p8 : List ℕ
p8 = 3 ∷ 0 ∷ 1 ∷ 16 ∷ 0 ∷ 7 ∷ 0 ∷ 1 ∷ 2 ∷ 1 ∷ 0 ∷ 0 ∷ []

abbrev p11 : List ℕ
p11 = 4 ∷ 0 ∷ 1 ∷ 16 ∷ 0 ∷ 0 ∷ 0 ∷ 0 ∷ 2 ∷ 2 ∷ 8 ∷ 0 ∷ []

-- P11 is refused with features 12, and then the fields stay
decoded : (host_decode (settings 1) 0x2F726820 before ≡ ((0, 0), p5)) × (host_decode (settings 2) 0x44BA3820 before ≡ ((0, 0), p8))
    × (host_decode (settings 12) 0xC1E20008 before ≡ ((3, 0), before)) × (host_decode (settings 28) 0xC1E20008 before ≡ ((0, 0), p11))
unfolding host_decode settings_of decode_paper decode_enabled describe enables valid_settings
decoded = (refl, refl, refl, refl)

-- bad settings are refused first: VL 129
bad_settings : host_decode (129 ∷ 1 ∷ 0 ∷ 0 ∷ 0 ∷ 0 ∷ 0 ∷ []) 0x2F726820 before ≡ ((1, 0), before)
unfolding host_decode settings_of decode_paper valid_settings
bad_settings = refl

-- no family has the number 0, nor 6; unsigned is 0 or 1
family_0 : HostEncode (settings 1) (0 ∷ 1 ∷ 1 ∷ 16 ∷ 0 ∷ 7 ∷ 0 ∷ 1 ∷ 2 ∷ 1 ∷ 0 ∷ 0 ∷ []) (of_halves 5 0)
unfolding fields_from settings_of valid_settings
family_0 = refl

family_6 : HostEncode (settings 1) (6 ∷ 1 ∷ 1 ∷ 16 ∷ 0 ∷ 7 ∷ 0 ∷ 1 ∷ 2 ∷ 1 ∷ 0 ∷ 0 ∷ []) (of_halves 5 0)
unfolding fields_from settings_of valid_settings
family_6 = refl

unsigned_2 : HostEncode (settings 1) (1 ∷ 2 ∷ 1 ∷ 16 ∷ 0 ∷ 7 ∷ 0 ∷ 1 ∷ 2 ∷ 1 ∷ 0 ∷ 0 ∷ []) (of_halves 5 0)
unfolding fields_from settings_of valid_settings
unsigned_2 = refl

-- 1 before 5: features 2 and 8 alone, SME2 without SME
family_0_badly : HostEncode (settings 10) (0 ∷ 1 ∷ 1 ∷ 16 ∷ 0 ∷ 7 ∷ 0 ∷ 1 ∷ 2 ∷ 1 ∷ 0 ∷ 0 ∷ []) (of_halves 1 0)
unfolding fields_from settings_of valid_settings
family_0_badly = refl

-- C1A20008 and its partner; 44BA3820 is of family C
partners : HostPartner (settings 12) 0xC1A20008 (of_halves 0 0xC1A20000) × HostPartner (settings 2) 0x44BA3820 (of_halves 6 0)
unfolding settings_of partner_paper partner_word decode_paper decode_enabled describe enables valid_settings
partners = (refl, refl)

-- the two halves of an answer: a word, and the place 520 of a list that ends there
two-halves : (halves 0x2F72682000000000 ≡ (0, 0x2F726820)) × (halves (of_halves 7 520) ≡ (7, 520))
two-halves = (refl, refl)

-- the empty list: 7 at 0, and nothing is written
empty_list : host_run [] (1 ∷ 2 ∷ []) (3 ∷ []) (4 ∷ []) (5 ∷ 6 ∷ 7 ∷ 8 ∷ [])
    ≡ record { answer = (7, 0); z = 1 ∷ 2 ∷ []; za = 3 ∷ []; report = 4 ∷ []; totals = 5 ∷ 6 ∷ 7 ∷ 8 ∷ [] }
unfolding host_run run_paper plan_of numbers_at number_at numeral
empty_list = refl

-- C1A20008 has a text of 56 bytes: the room past it stays, and a shorter room is refused after the word
printed : HostPrint (settings 12) 0xC1A20008 (replicate 58 7) (of_halves 0 56) (text "smlsll za.s[w8, 0:3, vgx2], { z0.b-z1.b }, { z2.b-z3.b }" ++ replicate 2 7)
    × HostPrint (settings 12) 0xC1A20008 (replicate 55 7) (of_halves 12 0) (replicate 55 7) × HostPrint (settings 3) 0xC1A20008 [] (of_halves 3 0) []
unfolding settings_of print_paper decode_paper decode_enabled describe enables valid_settings spell row_for letter_values syntax_at fill decimal decimal_up_to
printed = (refl, refl, refl)

-- and its text without vgx is read
was_read : HostRead (settings 12) (text "smlsll za.s[w8, 0:3], { z0.b-z1.b }, { z2.b-z3.b }") (of_halves 0 0xC1A20008)
unfolding settings_of describe enables valid_settings spell row_for letter_values syntax_at fill decimal decimal_up_to
was_read =
    a_word refl 0xC1A20008
    (record { fits = omega arith; fields = fields_said (describe 0xC1A20008); says = refl; short = true; spelled = refl }) refl
