-- Document 01, "Machine and settings": which settings are valid, and the lengths that follow from them.
use Rattle.std.specs.Prelude.{ℕ, ◌/◌, Bool, not, ◌&&◌, ◌||◌, eqb, ltb}
use Rattle.settings.specs.Sets.{has_features, sme, sme2, i16i64, has_modes, sm, za}
use Rattle.settings.specs.declared.Settings.{Settings}

-- VL is 128, 256 or 512
abbrev pub valid_length : ℕ → Bool
valid_length vl = eqb vl 128 || eqb vl 256 || eqb vl 512

-- a sum of the five; SME2 needs SME, and I16I64 needs SME
abbrev pub valid_features : ℕ → Bool
valid_features features =
    ltb features 32 && (not (has_features features sme2) || has_features features sme) && (not (has_features features i16i64) || has_features features sme)

-- a sum of the two; either needs SME
abbrev pub valid_modes : ℕ → ℕ → Bool
valid_modes features modes =
    ltb modes 4 && (not (has_modes modes sm) || has_features features sme) && (not (has_modes modes za) || has_features features sme)

-- refusal 1 is given exactly where this fails
unfoldable pub valid_settings : Settings → Bool
valid_settings s = valid_length s.vl && valid_features s.features.0 && valid_modes s.features.0 s.modes.0

-- the bytes of a Z register
unfoldable pub vector_bytes : Settings → ℕ
vector_bytes s = s.vl / 8

-- the bytes of a ZA vector, and the number of ZA vectors
unfoldable pub array_bytes : Settings → ℕ
array_bytes s = s.vl / 8
