-- `machine::step_array` meets its contract. Assumes nothing.
use mathlib.Core.Path.{refl}
use Rattle.machine.proofs.Selected.{after}
use Rattle.machine.proofs.step_array.Goals as goal

pub returns : goal.returns
returns g c =
    (after c.args.settings c.requires.places c.array_bytes-w.result _ c.array_bytes-w.ensures refl c.select_register-number.result g.row.K _ c.select_register-number.ensures c.requires.k_value refl _ c.step_vectors.ensures.0, c.step_vectors.ensures.1)
