-- A vector whose elements are stepped, where the lanes that go into them lie at even steps, and its chunks of eight bytes. Only contracts and proofs
-- use this.
use Rattle.std.specs.Prelude.{ℕ, zero, suc, ◌+◌, ◌-◌, ◌*◌, ◌/◌, ◌%◌, ◌^◌, ◌≤◌, ◌≡◌, ◌⊎◌, Bool, false, List, length, drop}
use Rattle.elements.specs.Lanes.{each, chosen_at}
use Rattle.elements.specs.Elements.{element_at}
use Rattle.lanes.specs.Lane.{lane_step}
use Rattle.lanes.specs.Widths.{Widths}
use Rattle.lanes.specs.Recipe.{Recipe, recipe}
use Rattle.lanes.specs.Element.{new_bytes}
use Rattle.chunks.specs.declared.Pair.{Pair}

-- elements whose lanes lie at even steps: from one to the next, so many lanes of the first source, and so many of the second
abbrev pub evenly : ℕ → ℕ → Bool → Bool → ℕ → ℕ → Recipe
evenly lane wide unsigned subtract first second = recipe false unsigned subtract lane wide (each first 0) (each second 0)

-- `bytes` new bytes of such elements: they stand in `old` from byte `at` on, and their lanes in z from bytes x and y on
abbrev pub even_bytes : ℕ → ℕ → Bool → Bool → List ℕ → ℕ → List ℕ → ℕ → ℕ → ℕ → ℕ → ℕ → List ℕ
even_bytes lane wide unsigned subtract old at z x first y second bytes =
    new_bytes (evenly lane wide unsigned subtract first second) bytes (drop at old) (drop x z) (drop y z)

-- the lanes of n such elements, in steps of `by` from byte x on, are there
abbrev pub Reach : ℕ → ℕ → List ℕ → ℕ → ℕ → Type 0
Reach lane n z x by = x + chosen_at lane (each by 0) (n - 1) + lane / 8 ≤ length z

-- ---- eight bytes of them

-- the number whose elements of w bytes are f 0 .. f (n - 1)
unfoldable pub joined : (ℕ → ℕ) → ℕ → ℕ → ℕ
joined f w zero = 0
joined f w (suc n) = joined f w n + f n * 256 ^ (n * w)

-- element j of the eight bytes `old`, after a step
unfoldable pub part_step : ℕ → ℕ → Bool → Bool → ℕ → List ℕ → ℕ → ℕ → ℕ → ℕ → ℕ → ℕ
part_step lane wide unsigned subtract old z x dx y dy j =
    lane_step lane wide unsigned subtract
    (old / 256 ^ (j * (wide / 8)) % 256 ^ (wide / 8))
    (element_at (lane / 8) (x + j * dx) z)
    (element_at (lane / 8) (y + j * dy) z)

-- the eight bytes `old` after a step
unfoldable pub chunk : ℕ → ℕ → Bool → Bool → ℕ → List ℕ → ℕ → ℕ → ℕ → ℕ → ℕ
chunk lane wide unsigned subtract old z x dx y dy = joined (part_step lane wide unsigned subtract old z x dx y dy) (wide / 8) (64 / wide)

-- n lanes that lie dx bytes apart from byte x on are there
abbrev pub Apart : ℕ → ℕ → List ℕ → ℕ → ℕ → Type 0
Apart lane n z x dx = x + (n - 1) * dx + lane / 8 ≤ length z

-- the lanes and elements of words that write ZA: D's of 8 and 32 bits or of 16 and 64, E's of 16 and 32
abbrev pub OfArray : ℕ → ℕ → Type 0
OfArray lane wide = ((lane ≡ 8) × (wide ≡ 32)) ⊎ (((lane ≡ 16) × (wide ≡ 64)) ⊎ ((lane ≡ 16) × (wide ≡ 32)))

-- those of words that write a V register, of more than 8 bits
abbrev pub OfV : ℕ → ℕ → Type 0
OfV lane wide = ((lane ≡ 16) × (wide ≡ 32)) ⊎ ((lane ≡ 32) × (wide ≡ 64))

-- of all of these: one element or two have eight bytes
abbrev pub OfChunk : ℕ → ℕ → Type 0
OfChunk lane wide = Widths lane wide × ((wide ≡ 32) ⊎ (wide ≡ 64))

-- 16 bytes, in two words
abbrev pub InPair : List ℕ → Pair → Type 0
InPair new r = (r.low ≡ element_at 8 0 new) × (r.high ≡ element_at 8 8 new)
