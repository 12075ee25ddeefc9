-- How a written vector is made of lanes, whatever the word: recipes/specs/Recipe.antt says which recipe a family has.
use Rattle.std.specs.Prelude.{ℕ, Bool}
use Rattle.elements.specs.Lanes.{Choice}

-- how a written vector is made
pub record Recipe : Type 0 where
  pub saturating : Bool
  pub unsigned : Bool
  pub subtract : Bool
  -- the bits of a source element, and those of a written one
  pub lane : ℕ
  pub wide : ℕ
  pub first : Choice
  pub second : Choice

-- one of these parts
abbrev pub recipe : Bool → Bool → Bool → ℕ → ℕ → Choice → Choice → Recipe
recipe saturating unsigned subtract lane wide first second =
    record {
      saturating = saturating;
      unsigned = unsigned;
      subtract = subtract;
      lane = lane;
      wide = wide;
      first = first;
      second = second;
    }
