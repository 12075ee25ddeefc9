-- `syntax::put_row` meets its contract. The invariant: the text of the bytes so far stands at the start. Assumes nothing.
use Prim.Native.Nat.{◌*◌, ◌≤◌}
use mathlib.Core.Path.{◌≡◌}
use lib.ListN.{length, take}
use Rattle.pieces.specs.Pieces.{Wrote}
use Rattle.syntax.specs.Syntax.{fill}
use Rattle.syntax.proofs.put_row.Given as goal

abbrev pub invariant-loop-c : goal.invariant-loop-c
invariant-loop-c l = (length l.out ≡ length l.fn.out) × (l.at ≤ 2 * l.c-index) × Wrote (fill l.values (take l.c-index l.row)) 0 l.fn.out l.out l.at
