-- `chunks::eight` meets its contract. Assumes nothing.
use mathlib.Core.Path.{◌≡◌}
use lib.ListN.{length, drop}
use Rattle.elements.proofs.Vectors.{put_each}
use Rattle.lanes.specs.Element.{new_element}
use Rattle.chunks.specs.Chunk.{evenly}
use Rattle.chunks.proofs.eight.Given as goal

abbrev pub invariant-loop-e : goal.invariant-loop-e
invariant-loop-e l =
    (l.new ≡ put_each (new_element (evenly 8 16 l.operation.unsigned l.operation.subtract 1 l.by) (drop l.at l.z) (drop l.x l.z) (drop l.y l.z)) 2 0 l.e l.fn.new)
    × (length l.new ≡ 16)
