-- Document 01, "Machine and settings": features and modes are sums of named numbers.
use Rattle.std.specs.Prelude.{ℕ, ◌/◌, ◌%◌, Bool, ◌&&◌, List, [], ◌∷◌, leb, ltb}

-- AdvSIMD 1, SVE2 2, SME 4, SME2 8, I16I64 16
abbrev pub adv_simd : ℕ
adv_simd = 1

abbrev pub sve2 : ℕ
sve2 = 2

abbrev pub sme : ℕ
sme = 4

abbrev pub sme2 : ℕ
sme2 = 8

abbrev pub i16i64 : ℕ
i16i64 = 16

-- `named` is a sum of the five, and each feature in it is in the sum `features`: a number that is no such sum is contained in nothing
abbrev pub has_features : ℕ → ℕ → Bool
has_features features named =
    ltb named 32 && leb (named % 2) (features % 2) && leb (named / 2 % 2) (features / 2 % 2) && leb (named / 4 % 2) (features / 4 % 2)
    && leb (named / 8 % 2) (features / 8 % 2) && leb (named / 16 % 2) (features / 16 % 2)

-- SM 1, ZA 2
abbrev pub sm : ℕ
sm = 1

abbrev pub za : ℕ
za = 2

-- `named` is a sum of the two, and each mode in it is in the sum `modes`
abbrev pub has_modes : ℕ → ℕ → Bool
has_modes modes named = ltb named 4 && leb (named % 2) (modes % 2) && leb (named / 2 % 2) (modes / 2 % 2)

-- the five and the two, in this order
abbrev pub named_numbers : List ℕ
named_numbers = adv_simd ∷ sve2 ∷ sme ∷ sme2 ∷ i16i64 ∷ sm ∷ za ∷ []
