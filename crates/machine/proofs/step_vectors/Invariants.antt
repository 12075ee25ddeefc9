-- `machine::step_vectors` meets its contract. Assumes nothing.
use mathlib.Core.Path.{◌≡◌}
use Prim.Native.Nat.{◌*◌, ◌≤◌}
use lib.ListN.{length}
use Rattle.elements.specs.Files.{replaced}
use Rattle.bits.specs.Bits.{toggles}
use Rattle.machine.specs.Loop.{place, becomes}
use Rattle.machine.proofs.step_vectors.Given as goal

abbrev pub invariant-loop-q : goal.invariant-loop-q
invariant-loop-q g l =
    (l.za ≡ replaced (place l.first l.stride g.row.K) (becomes l.fields l.w l.first l.stride g.row.K l.z l.fn.za) l.w l.q l.fn.za)
    × (l.toggles ≡ toggles l.fn.za l.za) × ((l.toggles.rises ≤ l.q * (8 * l.w)) × (l.toggles.falls ≤ l.q * (8 * l.w))) × (length l.za ≡ length l.fn.za)
