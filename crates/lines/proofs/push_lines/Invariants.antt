-- `lines::push_lines` meets its contract. The invariant: a line was added for each turn so far. Assumes nothing.
use mathlib.Core.Path.{◌≡◌}
use mathlib.Core.List.{◌++◌}
use lib.ListN.{length}
use Prim.Native.Nat.{◌+◌, ◌*◌, ◌≤◌}
use Rattle.lines.specs.Lines.{word_lines}
use Rattle.lines.proofs.push_lines.Given as goal

abbrev pub invariant-loop-i : goal.invariant-loop-i
invariant-loop-i g l = (l.out.bytes ≡ l.initial.out.bytes ++ word_lines l.words l.report (length l.yielded)) × (length l.out.bytes ≤ length l.initial.out.bytes + 93 * length l.yielded)
