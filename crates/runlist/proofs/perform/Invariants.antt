-- `runlist::perform` meets its contract. The invariant: i words are done, and what is left of the run makes up the whole of it (`Running`). Assumes nothing.
use mathlib.Core.Path.{◌≡◌}
use lib.ListN.{length}
use Rattle.machine.specs.Same.{SameMachine}
use Rattle.runlist.proofs.Runs.{Running}
use Rattle.runlist.proofs.perform.Given as goal

abbrev pub invariant-loop-i : goal.invariant-loop-i
invariant-loop-i l =
    SameMachine l.fn.machine l.machine × (length l.report ≡ length l.fn.report)
    × Running l.fn.machine.settings l.words l.fn.machine.z.now l.fn.machine.za.now l.fn.report l.machine.z.now l.machine.za.now l.report l.tally l.i
