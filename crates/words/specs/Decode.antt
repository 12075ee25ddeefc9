-- Document 01, "Features", and what decode answers.
use Rattle.std.specs.Prelude.{ℕ, Bool, false, ◌&&◌, ◌||◌, cond, eqb, Result, Ok, Err}
use Rattle.settings.specs.Sets.{has_features, adv_simd, sve2, sme, sme2, i16i64}
use Rattle.settings.specs.Valid.{valid_settings}
use Rattle.settings.specs.Refused.{refusal_number}
use Rattle.settings.specs.declared.Refusal.{Refusal}
use Rattle.settings.specs.declared.Settings.{Settings}
use Rattle.words.specs.Says.{Described, As, Nothing, describe}
use Rattle.words.specs.declared.Family.{Family}
use Rattle.words.specs.declared.Family.TheVariants.{ByElement, Vector, Saturating, LongLong, Long}
use Rattle.words.specs.declared.Fields.{Fields}

-- A, B need AdvSIMD. C needs SVE2 or SME. D, E need SME2; D with z=1, which is lane 16, also I16I64
abbrev pub enables_family : ℕ → Family → ℕ → Bool
enables_family features ByElement lane = has_features features adv_simd
enables_family features Vector lane = has_features features adv_simd
enables_family features Saturating lane = has_features features sve2 || has_features features sme
enables_family features LongLong lane = has_features features sme2 && (eqb lane 8 || has_features features i16i64)
enables_family features Long lane = has_features features sme2

unfoldable pub enables : ℕ → Fields → Bool
enables features f = enables_family features f.family f.lane

-- "A refusal returns its number and zeros". A family has to stand among them, and no family has the number 0, so the first does: beside a
-- number that is not 0 nobody reads it. No word says these fields, since no lane is 0
abbrev pub no_fields : Fields
no_fields =
    record {
      family = ByElement;
      unsigned = false;
      subtract = false;
      lane = 0;
      part = 0;
      index = 0;
      destination = 0;
      first = 0;
      second = 0;
      group = 0;
      select = 0;
      offset = 0;
    }

-- the number and the fields of an answer
abbrev pub decoded_says : Result Fields Refusal → ℕ × Fields
decoded_says (Ok f) = (0, f)
decoded_says (Err r) = (refusal_number r, no_fields)

-- 3 where no layout matches, the size is reserved, or a feature is missing
abbrev pub enabled_only : ℕ → Described → ℕ × Fields
enabled_only features (As f) = cond (enables features f) (0, f) (3, no_fields)
enabled_only features Nothing = (3, no_fields)

-- the answer under features alone
unfoldable pub decode_enabled : ℕ → ℕ → ℕ × Fields
decode_enabled features w = enabled_only features (describe w)

-- decode tests 1, 3
unfoldable pub decode_paper : Settings → ℕ → ℕ × Fields
decode_paper s w = cond (valid_settings s) (decode_enabled s.features.0 w) (1, no_fields)
