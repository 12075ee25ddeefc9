-- Document 01, "What a step does": percent is 100·toggled/written rounded down, 0 where written is 0.
use Rattle.std.specs.Prelude.{ℕ, ◌*◌, ◌/◌, cond, eqb}

abbrev pub percent_of : ℕ → ℕ → ℕ
percent_of toggled written = cond (eqb written 0) 0 (100 * toggled / written)
