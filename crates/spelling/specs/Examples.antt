-- The request's own example, a text of each row, and texts that are not of the language.
use Rattle.std.specs.Prelude.{ℕ, ◌≡◌, refl, Bool, true, false, List, [], ◌∷◌, map}
use Prim.Native.String.{String}
use Rattle.laws.specs.Lists.{Each}
use Rattle.pieces.specs.Pieces.{text, decimal, decimal_up_to}
use Rattle.syntax.specs.Syntax.{fill}
use Rattle.words.specs.Says.{describe}
use Rattle.words.specs.Kinds.{fields_said}
use Rattle.spelling.specs.Rows.{syntax_at}
use Rattle.spelling.specs.Spell.{row_for, spell, letter_values}
use Rattle.spelling.specs.Language.{Spells}

-- the text of a word, the preferred one or the one without vgx
abbrev text_of : Bool → ℕ → List ℕ
text_of short w = spell short (fields_said (describe w))

-- "C1A20008 prints as `smlsll za.s[w8, 0:3, vgx2], { z0.b-z1.b }, { z2.b-z3.b }`"
request_one : text_of false 0xC1A20008 ≡ text "smlsll za.s[w8, 0:3, vgx2], { z0.b-z1.b }, { z2.b-z3.b }"
unfolding spell describe row_for letter_values syntax_at fill decimal decimal_up_to
request_one = refl

-- a text of each row that is preferred, and of each without vgx
preferred : map (text_of false)
    (0x0F532841 ∷ 0x4F532841 ∷ 0x2FA32041 ∷ 0x6FBD6BDF
    ∷ 0x2E23A041 ∷ 0x6E23A041 ∷ 0x0E638041 ∷ 0x4E63A041 ∷ 0x2EA38041 ∷ 0x4EBF8041
    ∷ 0x44B32841 ∷ 0x44EF3C41
    ∷ 0xC1A56391 ∷ 0xC1E223C8 ∷ 0xC1E20800 ∷ [])
    ≡ map text
    ("smlal v1.4s, v2.4h, v3.h[5]"
    ∷ "smlal2 v1.4s, v2.8h, v3.h[5]"
    ∷ "umlal v1.2d, v2.2s, v3.s[1]"
    ∷ "umlsl2 v31.2d, v30.4s, v29.s[3]"
    ∷ "umlsl v1.8h, v2.8b, v3.8b"
    ∷ "umlsl2 v1.8h, v2.16b, v3.16b"
    ∷ "smlal v1.4s, v2.4h, v3.4h"
    ∷ "smlsl2 v1.4s, v2.8h, v3.8h"
    ∷ "umlal v1.2d, v2.2s, v3.2s"
    ∷ "smlal2 v1.2d, v2.4s, v31.4s"
    ∷ "sqdmlalb z1.s, z2.h, z3.h[5]"
    ∷ "sqdmlslt z1.d, z2.s, z15.s[1]"
    ∷ "umlall za.s[w11, 4:7, vgx4], { z28.b-z31.b }, { z4.b-z7.b }"
    ∷ "smlsll za.d[w9, 0:3, vgx2], { z30.h-z31.h }, { z2.h-z3.h }"
    ∷ "smlal za.s[w8, 0:1, vgx2], { z0.h-z1.h }, { z2.h-z3.h }"
    ∷ [])
unfolding spell describe row_for letter_values syntax_at fill decimal decimal_up_to
preferred = refl

without_vgx : map (text_of true) (0xC1A20008 ∷ 0xC1FD4019 ∷ 0xC1E5081B ∷ [])
    ≡ map text
    ("smlsll za.s[w8, 0:3], { z0.b-z1.b }, { z2.b-z3.b }"
    ∷ "umlsll za.d[w10, 4:7], { z0.h-z3.h }, { z28.h-z31.h }"
    ∷ "umlsl za.s[w8, 6:7], { z0.h-z3.h }, { z4.h-z7.h }"
    ∷ [])
unfolding spell describe row_for letter_values syntax_at fill decimal decimal_up_to
without_vgx = refl

-- texts that are not of the language
abbrev pub not_texts : List String
not_texts =
    -- a capital, other spacing, a leading zero, something behind and something before
    "Smlal v1.4s, v2.4h, v3.h[5]"
    ∷ "smlal v1.4s,v2.4h, v3.h[5]"
    ∷ "smlal v01.4s, v2.4h, v3.h[5]"
    ∷ "smlal v1.4s, v2.4h, v3.h[5] "
    ∷ " smlal v1.4s, v2.4h, v3.h[5]"
    -- no register 32, no index 8 of .h; a second source above 15, and above 7
    ∷ "smlal v32.4s, v2.4h, v3.h[5]"
    ∷ "smlal v1.4s, v2.4h, v3.h[8]"
    ∷ "smlal v1.4s, v2.4h, v16.h[5]"
    ∷ "sqdmlalb z1.s, z2.h, z8.h[5]"
    -- the arrangement of smlal2, an unsigned word of C, no word at all
    ∷ "smlal v1.4s, v2.8h, v3.h[5]"
    ∷ "uqdmlalb z1.s, z2.h, z3.h[5]"
    ∷ ""
    -- an odd first register, a group of three, another group, offsets 1:4, w7, w12
    ∷ "smlsll za.s[w8, 0:3, vgx2], { z1.b-z2.b }, { z2.b-z3.b }"
    ∷ "smlsll za.s[w8, 0:3], { z0.b-z2.b }, { z2.b-z4.b }"
    ∷ "smlsll za.s[w8, 0:3, vgx4], { z0.b-z1.b }, { z2.b-z3.b }"
    ∷ "smlsll za.s[w8, 1:4, vgx2], { z0.b-z1.b }, { z2.b-z3.b }"
    ∷ "smlsll za.s[w7, 0:3, vgx2], { z0.b-z1.b }, { z2.b-z3.b }"
    ∷ "smlsll za.s[w12, 0:3], { z0.b-z1.b }, { z2.b-z3.b }"
    ∷ []

-- proofs/Refuted.antt proves it by computing
abbrev pub NotOfLanguage : Type 0
NotOfLanguage = Each (λ (s : String). (w : ℕ) → Spells (text s) w → ⊥) not_texts
