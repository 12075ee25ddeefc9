-- `syntax::push_row` meets its contract. Assumes nothing.
use Prim.Native.Nat.{◌+◌, ◌*◌, ◌≤◌}
use mathlib.Core.Path.{◌≡◌}
use mathlib.Core.List.{◌++◌}
use lib.ListN.{length, take}
use Rattle.syntax.specs.Syntax.{fill}
use Rattle.syntax.proofs.push_row.Given as goal

abbrev pub invariant-loop-c : goal.invariant-loop-c
invariant-loop-c g l =
    (length l.out.items ≤ length l.fn.out.items + 2 * l.c-index) × (l.out.items ≡ l.fn.out.items ++ fill l.values (take l.c-index l.row))
