-- Document 01, "Refusal numbers": what encode answers, said by what words say and by nothing else.
use Rattle.std.specs.Prelude.{ℕ, ◌<◌, ◌^◌, ◌≡◌, true, false, Option, MatchOption}
use Rattle.settings.specs.Valid.{valid_settings}
use Rattle.settings.specs.declared.Settings.{Settings}
use Rattle.words.specs.Says.{As, describe}
use Rattle.words.specs.Decode.{enables}
use Rattle.words.specs.declared.Fields.{Fields}

-- a word of 32 bits has exactly these fields
pub record Has (f : Fields) (w : ℕ) : Type 0 where
  pub fits : w < 2 ^ 32
  pub says : describe w ≡ As f

-- encode tests 1, 5, 3
pub data Encodes (s : Settings) (f : Fields) : ℕ × ℕ → Type 0 where
  bad_settings : valid_settings s ≡ false → Encodes s f (1, 0)
  no_word : valid_settings s ≡ true → ((w : ℕ) → Has f w → ⊥) → Encodes s f (5, 0)
  not_enabled : valid_settings s ≡ true → (w : ℕ) → Has f w → enables s.features.0 f ≡ false → Encodes s f (3, 0)
  a_word : valid_settings s ≡ true → (w : ℕ) → Has f w → enables s.features.0 f ≡ true → Encodes s f (0, w)

-- only contracts use this: a word that has P, or none where no word has
abbrev pub TheWord : (ℕ → Type 0) → Option ℕ → Type 0
TheWord P r = MatchOption r ((w : ℕ) → P w → ⊥) P
