-- The widths that a step is asked for, and by how much a lane is raised so that it is not negative. Only contracts and proofs use this.
use Rattle.std.specs.Prelude.{ℕ, ◌+◌, ◌-◌, ◌^◌, ◌≤◌, Bool, cond}
use Rattle.elements.specs.Lanes.{IsLane}
pub use Rattle.elements.specs.Lanes.{IsWidth}

-- the accumulator holds the product of two lanes, so that none has 8 bits
abbrev pub Widths : ℕ → ℕ → Type 0
Widths lane wide = IsLane lane × (IsWidth wide × (lane + lane ≤ wide))

-- what is added to the integer of a lane so that it is not negative
abbrev pub raise : ℕ → Bool → ℕ
raise lane unsigned = cond unsigned 0 (2 ^ (lane - 1))
