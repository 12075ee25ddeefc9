-- `elements::put` meets its contract. Assumes nothing.
use Rattle.std.proofs.Common.{◌≡◌, ◌*◌, ◌/◌, ◌^◌}
use Rattle.elements.specs.Elements.{put_at}
use Rattle.elements.proofs.put.Given as goal

abbrev pub invariant-loop-i : goal.invariant-loop-i
invariant-loop-i g l = (l.s ≡ put_at l.i l.at l.number l.fn.s) × (l.rest ≡ l.number / 2 ^ (8 * l.i))
