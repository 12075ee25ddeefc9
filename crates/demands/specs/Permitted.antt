-- Which features and modes permit which family, in numbers. "A, B need AdvSIMD. C needs SVE2 or SME. D, E need SME2; D with z=1 also I16I64. Modes, tested
-- at execution only: A, B need SM off. C needs SM on, or SVE2. D, E need SM and ZA on." The lists are written down from that sentence, and from no
-- definition. proofs/Permitted.antt proves the statement.
use Rattle.std.specs.Prelude.{ℕ, ◌*◌, ◌≡◌, Bool, true, false, ◌||◌, cond, List, [], ◌∷◌, eqb, length}
use Rattle.laws.specs.Lists.{Each}
use Rattle.settings.specs.Valid.{valid_settings, vector_bytes, array_bytes}
use Rattle.settings.specs.declared.Settings.{Settings}
use Rattle.words.specs.Says.{As, describe}
use Rattle.words.specs.declared.Family.{Family}
use Rattle.words.specs.declared.Family.TheVariants.{ByElement, Vector, Saturating, LongLong, Long}
use Rattle.words.specs.declared.Fields.{Fields}
use Rattle.machine.specs.Execute.{execute_paper}

-- the valid sums of features are 0 to 7, 12 to 15, 20 to 23 and 28 to 31, and modes are 0 to 3, without SME 0 (settings/specs/Examples.antt). Lists name
-- valid sums only: AdvSIMD is 1, SVE2 2, SME 4, SME2 8, I16I64 16; SM is 1, ZA 2
pub record Needs : Type 0 where
  -- words of a family, one of each lane or layout
  pub words : List ℕ
  -- the features that enable them
  pub enabled : List ℕ
  -- the modes that permit them
  pub modes : List ℕ
  -- the features with which every mode permits them
  pub any_mode : List ℕ

abbrev pub in_a : Needs
in_a = record { words = 0x2F726820 ∷ 0x2FA26820 ∷ []; enabled = 1 ∷ 3 ∷ 5 ∷ 7 ∷ 13 ∷ 15 ∷ 21 ∷ 23 ∷ 29 ∷ 31 ∷ []; modes = 0 ∷ 2 ∷ []; any_mode = [] }

abbrev pub in_b : Needs
in_b = record { words = 0x0E228020 ∷ []; enabled = 1 ∷ 3 ∷ 5 ∷ 7 ∷ 13 ∷ 15 ∷ 21 ∷ 23 ∷ 29 ∷ 31 ∷ []; modes = 0 ∷ 2 ∷ []; any_mode = [] }

abbrev pub in_c : Needs
in_c =
    record {
      words = 0x44BA3820 ∷ 0x44F22820 ∷ [];
      enabled = 2 ∷ 3 ∷ 4 ∷ 5 ∷ 6 ∷ 7 ∷ 12 ∷ 13 ∷ 14 ∷ 15 ∷ 20 ∷ 21 ∷ 22 ∷ 23 ∷ 28 ∷ 29 ∷ 30 ∷ 31 ∷ [];
      modes = 1 ∷ 3 ∷ [];
      any_mode = 2 ∷ 3 ∷ 6 ∷ 7 ∷ 14 ∷ 15 ∷ 22 ∷ 23 ∷ 30 ∷ 31 ∷ [];
    }

-- D with z=0
abbrev pub in_d : Needs
in_d = record { words = 0xC1A20008 ∷ 0xC1A10008 ∷ []; enabled = 12 ∷ 13 ∷ 14 ∷ 15 ∷ 28 ∷ 29 ∷ 30 ∷ 31 ∷ []; modes = 3 ∷ []; any_mode = [] }

-- D with z=1
abbrev pub in_d_with_z : Needs
in_d_with_z = record { words = 0xC1E20008 ∷ 0xC1E10008 ∷ []; enabled = 28 ∷ 29 ∷ 30 ∷ 31 ∷ []; modes = 3 ∷ []; any_mode = [] }

abbrev pub in_e : Needs
in_e = record { words = 0xC1E20800 ∷ 0xC1E10800 ∷ []; enabled = 12 ∷ 13 ∷ 14 ∷ 15 ∷ 28 ∷ 29 ∷ 30 ∷ 31 ∷ []; modes = 3 ∷ []; any_mode = [] }

abbrev pub is_among : ℕ → List ℕ → Bool
is_among n [] = false
is_among n (x ∷ xs) = eqb n x || is_among n xs

-- 3 where a feature is missing, 4 where the mode does not permit the family, and else 0
abbrev pub number_due : Needs → ℕ → ℕ → ℕ
number_due l features modes = cond (is_among features l.enabled) (cond (is_among modes l.modes || is_among features l.any_mode) 0 4) 3

-- P under all valid settings, whatever Z and ZA hold
abbrev pub UnderSettings : (Settings → List ℕ → List ℕ → Type 0) → Type 0
UnderSettings P =
    (s : Settings) (z za : List ℕ) → valid_settings s ≡ true → length z ≡ 32 * vector_bytes s → length za ≡ array_bytes s * array_bytes s → P s z za

-- each of the words above gets the number that is due
abbrev pub WordsOfTable : Settings → List ℕ → List ℕ → Type 0
WordsOfTable s z za =
    Each (λ (l : Needs). Each (λ (w : ℕ). (execute_paper s w z za).number ≡ number_due l s.features.0 s.modes.0) l.words)
    (in_a ∷ in_b ∷ in_c ∷ in_d ∷ in_d_with_z ∷ in_e ∷ [])

-- what a word of a family needs; D with z=0 has lane 8
abbrev pub needs_of : Family → ℕ → Needs
needs_of ByElement lane = in_a
needs_of Vector lane = in_b
needs_of Saturating lane = in_c
needs_of LongLong lane = cond (eqb lane 8) in_d in_d_with_z
needs_of Long lane = in_e

-- and so does every word that has fields
abbrev pub EveryWord : Settings → List ℕ → List ℕ → Type 0
EveryWord s z za =
    (w : ℕ) (f : Fields) → describe w ≡ As f → (execute_paper s w z za).number ≡ number_due (needs_of f.family f.lane) s.features.0 s.modes.0

-- in numbers, and for every word
pub record EnabledAndPermitted : Type 0 where
  pub table_holds : UnderSettings WordsOfTable
  pub every_word : UnderSettings EveryWord
