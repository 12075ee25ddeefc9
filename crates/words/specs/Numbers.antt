-- Families and bits by number: A is 1, and E is 5. Words are built of them, fields compared by them, and C callers give and get them.
use Rattle.std.specs.Prelude.{ℕ, Bool, true, false, cond, eqb, Result, MatchResult, ◌≡◌, ◌<◌, ◌⊎◌}
use Rattle.words.specs.declared.Family.{Family}
use Rattle.words.specs.declared.UnknownFamily.{UnknownFamily}
use Rattle.words.specs.declared.Family.TheVariants.{ByElement, Vector, Saturating, LongLong, Long}

abbrev pub family_number : Family → ℕ
family_number ByElement = 1
family_number Vector = 2
family_number Saturating = 3
family_number LongLong = 4
family_number Long = 5

-- the family of a number from 1 to 5
abbrev pub family_of : ℕ → Family
family_of n = cond (eqb n 1) ByElement (cond (eqb n 2) Vector (cond (eqb n 3) Saturating (cond (eqb n 4) LongLong Long)))

-- the result is the family of the number, or an error with the number, where no family has it
abbrev pub FamilyOf : ℕ → Result Family UnknownFamily → Type 0
FamilyOf n r = MatchResult r (λ family. family_number family ≡ n) (λ e. (e.0 ≡ n) × ((n < 1) ⊎ (5 < n)))

-- the number of S where it subtracts or not, and of U: what `is_one` undoes
abbrev pub bit_of : Bool → ℕ
bit_of true = 1
bit_of false = 0
