-- A written vector, element by element, and that all that goes into it is there.
use Rattle.std.specs.Prelude.{◌≡◌, ℕ, ◌+◌, ◌*◌, ◌/◌, ◌%◌, ◌≤◌, List, length}
use Rattle.elements.specs.Lanes.{chosen, chosen_at, Reaches}
use Rattle.elements.specs.Elements.{element_of, vector}
use Rattle.lanes.specs.Lane.{step}
use Rattle.lanes.specs.Widths.{Widths}
use Rattle.lanes.specs.Recipe.{Recipe}

-- element e of the new vector, of the old one and of the two source registers
unfoldable pub new_element : Recipe → List ℕ → List ℕ → List ℕ → ℕ → ℕ
new_element r old first second e =
    step r.saturating r.lane r.wide r.unsigned r.subtract
    (element_of r.wide old e)
    (element_of r.lane first (chosen r.lane r.first e))
    (element_of r.lane second (chosen r.lane r.second e))

-- the new elements, in `bytes` bytes
unfoldable pub new_bytes : Recipe → ℕ → List ℕ → List ℕ → List ℕ → List ℕ
new_bytes r bytes old first second = vector (new_element r old first second) (r.wide / 8) (8 * bytes / r.wide)

-- ---- only contracts and proofs use this

-- the first `bytes` bytes of a vector are whole elements, and what goes into them lies in registers of w bytes
pub record Inside (r : Recipe) (bytes w : ℕ) : Type 0 where
  pub widths : Widths r.lane r.wide
  pub whole : bytes % 8 ≡ 0
  pub room : bytes ≤ w
  pub first : Reaches r.lane r.first (8 * bytes / r.wide) w
  pub second : Reaches r.lane r.second (8 * bytes / r.wide) w

-- what goes into element e is there: the element stands in z, in the register from byte `at` on, and the lanes in those from bytes n and m on
pub record ElementThere (r : Recipe) (z : List ℕ) (at n m e : ℕ) : Type 0 where
  pub old : at + e * (r.wide / 8) + r.wide / 8 ≤ length z
  pub first : n + chosen_at r.lane r.first e + r.lane / 8 ≤ length z
  pub second : m + chosen_at r.lane r.second e + r.lane / 8 ≤ length z

-- the same of every element of a register of `bytes` bytes
pub record RegistersThere (r : Recipe) (bytes : ℕ) (z : List ℕ) (at n m : ℕ) : Type 0 where
  pub inside : Inside r bytes bytes
  pub old : at + bytes ≤ length z
  pub first : n + bytes ≤ length z
  pub second : m + bytes ≤ length z
