-- What only the code of partner needs, and no promise of a public call names: S by the family. That the rows have it there is proved.
use Rattle.std.specs.Prelude.{ℕ, ◌^◌, cond}
use Rattle.std.specs.Int.Bits.{bit_xor}
use Rattle.words.specs.Partner.{is_c}
use Rattle.words.specs.declared.Family.{Family}
use Rattle.words.specs.declared.Family.TheVariants.{ByElement, Vector, Saturating, LongLong, Long}

-- the bit
abbrev pub sign_at : Family → ℕ
sign_at ByElement = 14
sign_at Vector = 13
sign_at Saturating = 12
sign_at LongLong = 3
sign_at Long = 3

-- the word that has only S set
abbrev pub sign_of : Family → ℕ
sign_of family = 2 ^ sign_at family

-- 6 for family C, or the word with S flipped
abbrev pub partner_in : Family → ℕ → ℕ × ℕ
partner_in family w = cond (is_c family) (6, 0) (0, bit_xor w (sign_of family))
