-- Document 01, "What a step does": which elements go into which. One recipe a family, and nothing else differs between them.
use Rattle.std.specs.Prelude.{ℕ, ◌*◌, ◌/◌, ◌≡◌, ◌⊎◌, Bool, true, false}
use Rattle.elements.specs.Lanes.{Choice, each, each_segment}
use Rattle.lanes.specs.Recipe.{Recipe, recipe}
use Rattle.words.specs.declared.Family.{Family}
use Rattle.words.specs.declared.Family.TheVariants.{ByElement, Vector, Saturating, LongLong, Long}
use Rattle.words.specs.declared.Fields.{Fields}

-- products that wrap, added to or subtracted from elements of k·lane bits
abbrev pub wrapping : Fields → ℕ → Choice → Choice → Recipe
wrapping f k first second = recipe false f.unsigned f.subtract f.lane (k * f.lane) first second

-- the elements of the 64-bit half Q: 64/lane of them
abbrev pub half_of : Fields → Choice
half_of f = each 1 (f.part * (64 / f.lane))

-- C's way through its registers, whatever is done with the lanes: element 2e+T, with element 2s+index
abbrev pub by_segment : Bool → Bool → Bool → ℕ → ℕ → ℕ → Recipe
by_segment saturating unsigned subtract lane part index =
    recipe saturating unsigned subtract lane (2 * lane) (each 2 part) (each_segment 2 index)

-- the recipe of the vector that a word of Z writes, and of vector i of the k that a word of ZA writes for a source register
abbrev pub recipe_of : Family → Fields → ℕ → Recipe
-- A: the elements of half Q, each with the one element at the index
recipe_of ByElement f i = wrapping f 2 (half_of f) (each 0 f.index)
-- B: each with the same element of half Q of the second source
recipe_of Vector f i = wrapping f 2 (half_of f) (half_of f)
-- C: signed, and clamped
recipe_of Saturating f i = by_segment true false f.subtract f.lane f.part f.index
-- D: elements 4·e+i, E: elements 2·e+i
recipe_of LongLong f i = wrapping f 4 (each 4 i) (each 4 i)
recipe_of Long f i = wrapping f 2 (each 2 i) (each 2 i)

-- the bytes of a written vector of w that its elements fill: the V register's 16 in A and B, all in the others
abbrev pub new_length : Family → ℕ → ℕ
new_length ByElement w = 16
new_length Vector w = 16
new_length Saturating w = w
new_length LongLong w = w
new_length Long w = w

-- k: how many vectors a word writes for a source register. It is 4 in D, 2 in E
abbrev pub per_source : Family → ℕ
per_source ByElement = 1
per_source Vector = 1
per_source Saturating = 1
per_source LongLong = 4
per_source Long = 2

-- ---- only contracts and proofs use this

-- a lane of C has 16 or 32 bits
abbrev pub OfC : ℕ → Type 0
OfC lane = (lane ≡ 16) ⊎ (lane ≡ 32)

-- and its elements twice as many
abbrev pub Doubled : ℕ → ℕ → Type 0
Doubled lane wide = OfC lane × (wide ≡ 2 * lane)
