-- `syntax::scan` meets its contract. Assumes nothing.
use Prim.Native.Nat.{◌*◌, ◌≤◌}
use mathlib.Core.Path.{◌≡◌}
use lib.ListN.{drop}
use Rattle.syntax.specs.Scan.{fits, taken}
use Rattle.syntax.proofs.scan.Given as goal

abbrev pub invariant-loop-c : goal.invariant-loop-c
invariant-loop-c l =
    (l.at ≤ 2 * l.c-index) × (fits l.row l.text ≡ fits (drop l.c-index l.row) (drop l.at l.text))
    × (taken l.row l.text l.fn.values ≡ taken (drop l.c-index l.row) (drop l.at l.text) l.values)
