-- What laws and contracts ask of the bytes of a vector.
use Rattle.std.specs.Prelude.{ℕ, ◌%◌, ◌≤◌, ◌≡◌}

pub record VectorLength (w : ℕ) : Type 0 where
  pub whole : w % 16 ≡ 0
  pub least : 16 ≤ w
  pub most : w ≤ 256
