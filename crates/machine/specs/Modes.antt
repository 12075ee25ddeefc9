-- Document 01, "Modes, tested at execution only".
use Rattle.std.specs.Prelude.{Bool, not, ◌&&◌, ◌||◌, ℕ}
use Rattle.settings.specs.Sets.{has_features, sve2, has_modes, sm, za}
use Rattle.words.specs.declared.Family.{Family}
use Rattle.words.specs.declared.Family.TheVariants.{ByElement, Vector, Saturating, LongLong, Long}

-- A, B need SM off. C needs SM on, or SVE2. D, E need SM and ZA on
abbrev pub permits : ℕ → ℕ → Family → Bool
permits features modes ByElement = not (has_modes modes sm)
permits features modes Vector = not (has_modes modes sm)
permits features modes Saturating = has_modes modes sm || has_features features sve2
permits features modes LongLong = has_modes modes sm && has_modes modes za
permits features modes Long = has_modes modes sm && has_modes modes za
