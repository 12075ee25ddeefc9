-- `numbers::read_numbers` meets its contract: each turn and each way out by a law of Rows.antt. Assumes nothing.
use mathlib.Core.Path.{◌≡◌}
use Rattle.numbers.proofs.Rows.{Filling}
use Rattle.numbers.proofs.read_numbers.Given as goal

abbrev pub invariant-loop-slot : goal.invariant-loop-slot
invariant-loop-slot l = record { list : l.reader.list.now ≡ l.list; filling : Filling l.list l.at l.fn.out l.out l.reader.at l.slot-index }
