-- `runlist::copy` meets its contract. The invariant: the first parts are those of `from`. Assumes nothing.
use mathlib.Core.Path.{◌≡◌}
use Prim.Native.Nat.{◌*◌}
use lib.ListN.{length, take}
use Rattle.runlist.proofs.copy.Given as goal

abbrev pub invariant-loop-part : goal.invariant-loop-part
invariant-loop-part l = (length l.to ≡ length l.from) × (take (128 * l.part) l.to ≡ take (128 * l.part) l.from)
