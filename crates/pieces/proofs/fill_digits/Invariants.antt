-- `pieces::fill_digits` meets its contract. The invariant: the digits that are left, of the rest, and behind them those that stand in their place. Assumes
-- nothing.
use mathlib.Core.Path.{◌≡◌}
use mathlib.Core.List.{◌++◌}
use lib.ListN.{length, drop}
use Rattle.pieces.specs.Pieces.{digits}
use Rattle.pieces.proofs.fill_digits.Given as goal

abbrev pub invariant-loop-place : goal.invariant-loop-place
invariant-loop-place l =
    (length l.room ≡ length l.fn.room)
    × (digits l.base l.place l.rest ++ drop l.place l.room ≡ digits l.base (length l.fn.room) l.n)
