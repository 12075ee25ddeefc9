-- Arm's preferred syntaxes, one row for each kind of word, in lower case and with one spacing; and, for the words that write ZA, the syntaxes without
-- vgx. A capital letter is a value (Spell.antt): U is `s` or `u`, S is `a` or `s`, T is `b` or `t`; D, N, M are the destination, the first and the second
-- register, I is the index; K and L are the last registers of the groups that begin with N and M, G is the group; R is the select register, O and P are
-- the first and the last offset.
use Prim.Native.String.{String}
use Rattle.std.specs.Prelude.{ℕ, zero, suc, List, [], ◌∷◌}
use Rattle.pieces.specs.Pieces.{text}

abbrev pub syntaxes : List String
syntaxes =
    -- 0: A, lanes 16 and 32, each with Q=0 and with Q=1
    "UmlSl vD.4s, vN.4h, vM.h[I]"
    ∷ "UmlSl2 vD.4s, vN.8h, vM.h[I]"
    ∷ "UmlSl vD.2d, vN.2s, vM.s[I]"
    ∷ "UmlSl2 vD.2d, vN.4s, vM.s[I]"
    -- 4: B, lanes 8, 16 and 32, each with Q=0 and with Q=1
    ∷ "UmlSl vD.8h, vN.8b, vM.8b"
    ∷ "UmlSl2 vD.8h, vN.16b, vM.16b"
    ∷ "UmlSl vD.4s, vN.4h, vM.4h"
    ∷ "UmlSl2 vD.4s, vN.8h, vM.8h"
    ∷ "UmlSl vD.2d, vN.2s, vM.2s"
    ∷ "UmlSl2 vD.2d, vN.4s, vM.4s"
    -- 10: C, lanes 16 and 32
    ∷ "sqdmlSlT zD.s, zN.h, zM.h[I]"
    ∷ "sqdmlSlT zD.d, zN.s, zM.s[I]"
    -- 12: D, lanes 8 and 16; E
    ∷ "UmlSll za.s[wR, O:P, vgxG], { zN.b-zK.b }, { zM.b-zL.b }"
    ∷ "UmlSll za.d[wR, O:P, vgxG], { zN.h-zK.h }, { zM.h-zL.h }"
    ∷ "UmlSl za.s[wR, O:P, vgxG], { zN.h-zK.h }, { zM.h-zL.h }"
    -- 15: these three without vgx
    ∷ "UmlSll za.s[wR, O:P], { zN.b-zK.b }, { zM.b-zL.b }"
    ∷ "UmlSll za.d[wR, O:P], { zN.h-zK.h }, { zM.h-zL.h }"
    ∷ "UmlSl za.s[wR, O:P], { zN.h-zK.h }, { zM.h-zL.h }"
    ∷ []

abbrev pub nth : List String → ℕ → List ℕ
nth [] k = []
nth (s ∷ ss) zero = text s
nth (s ∷ ss) (suc k) = nth ss k

-- the row of a number
unfoldable pub syntax_at : ℕ → List ℕ
syntax_at k = nth syntaxes k
