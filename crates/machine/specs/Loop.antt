-- The vectors of ZA that a word writes, one after the other, as the code goes, and what the code asks of its places. Only contracts and proofs use this.
use Rattle.std.specs.Prelude.{ℕ, ◌+◌, ◌-◌, ◌*◌, ◌/◌, ◌%◌, ◌≤◌, ◌<◌, ◌≡◌, ◌⊎◌, true, List, ◌++◌, length}
use Rattle.settings.specs.Lengths.{VectorLength}
use Rattle.settings.specs.Valid.{valid_settings, vector_bytes, array_bytes}
use Rattle.settings.specs.declared.Settings.{Settings}
use Rattle.words.specs.Ranges.{Ranges}
use Rattle.words.specs.declared.Family.TheVariants.{ByElement, Vector, LongLong, Long}
use Rattle.words.specs.declared.Fields.{Fields}
use Rattle.elements.specs.Elements.{zeros}
use Rattle.elements.specs.Files.{vector_at}
use Rattle.bits.specs.Replace.{Replaced}
use Rattle.bits.specs.declared.Toggles.{Toggles}
use Rattle.recipes.specs.Recipe.{recipe_of, new_length}
use Rattle.lanes.specs.Element.{new_bytes}

-- w vectors are `group` rows of `stride`; in each row, k of them from `first` on
pub record Grid (w group stride k first : ℕ) : Type 0 where
  pub rows : group * stride ≡ w
  pub some : 0 < k
  pub fits : first + k ≤ stride

-- the n new bytes of vector v of the file a, by the recipe of i and of Z registers x and y; vectors have w bytes
abbrev pub made : Fields → ℕ → ℕ → ℕ → ℕ → List ℕ → ℕ → ℕ → List ℕ → List ℕ
made f i n w v a x y z = new_bytes (recipe_of f.family f i) n (vector_at w v a) (vector_at w x z) (vector_at w y z)

-- the new bytes of a word of A, B or C were written into its destination, and t are the bits that rose and fell
abbrev pub RegisterRenewed : Fields → ℕ → Toggles → List ℕ → List ℕ → Type 0
RegisterRenewed f w t z z' = Replaced (f.destination * w) t (made f 0 (new_length f.family w) w f.destination z f.first f.second z) z z'

-- the whole destination was: its new bytes, and zeros above them
abbrev pub RegisterWritten : Fields → ℕ → Toggles → List ℕ → List ℕ → Type 0
RegisterWritten f w t z z' =
    Replaced (f.destination * w) t
    (made f 0 (new_length f.family w) w f.destination z f.first f.second z ++ zeros (w - new_length f.family w)) z z'

-- the q-th vector that a word of ZA writes: r is q / k and i is q % k
unfoldable pub place : ℕ → ℕ → ℕ → ℕ → ℕ
place first stride k q = first + q / k * stride + q % k

-- what it becomes, where ZA was za
unfoldable pub becomes : Fields → ℕ → ℕ → ℕ → ℕ → List ℕ → List ℕ → ℕ → List ℕ
unfolding place
becomes f w first stride k z za q = made f (q % k) w w (place first stride k q) za (f.first + q / k) (f.second + q / k) z

-- A and B
abbrev pub IntoV : Fields → Type 0
IntoV f = (f.family ≡ ByElement) ⊎ (f.family ≡ Vector)

-- D and E
abbrev pub IntoZa : Fields → Type 0
IntoZa f = (f.family ≡ LongLong) ⊎ (f.family ≡ Long)

-- a word's fields, and Z
pub record Sources (f : Fields) (w : ℕ) (z : List ℕ) : Type 0 where
  pub ranges : Ranges f
  pub width : VectorLength w
  pub z_long : length z ≡ 32 * w

-- and ZA
pub record Places (f : Fields) (w : ℕ) (z za : List ℕ) : Type 0 where
  pub sources : Sources f w z
  pub into : IntoZa f
  pub za_long : length za ≡ w * w

-- the settings are valid, and Z and ZA have their lengths
pub record Ready (s : Settings) (z za : List ℕ) : Type 0 where
  pub valid : valid_settings s ≡ true
  pub z_long : length z ≡ 32 * vector_bytes s
  pub za_long : length za ≡ array_bytes s * array_bytes s
