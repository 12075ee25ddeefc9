-- `pieces::push_hex8` meets its contract. The invariant: the digits so far, which are ASCII. Assumes nothing.
use Rattle.std.proofs.Common.{◌≡◌, ◌+◌, ◌++◌, length}
use lib.ListN.{take}
use Rattle.pieces.specs.Pieces.{digits}
use Rattle.pieces.proofs.push_hex8.Given as goal

abbrev pub invariant-loop-digit : goal.invariant-loop-digit
invariant-loop-digit g l =
    (l.digit-items ≡ digits 16 8 l.word) × (l.out.bytes ≡ l.fn.out.bytes ++ take l.digit-index l.digit-items)
    × (length l.out.bytes ≡ length l.fn.out.bytes + l.digit-index)
