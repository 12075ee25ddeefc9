-- `machine::Machine::step` meets its contract. Assumes nothing.
use native.Mathlib.Omega.{arith}
use Rattle.machine.proofs.Stepping.{outcome_is, bits_small}
use Rattle.machine.proofs.Small.{step_small}
use Rattle.machine.proofs.Machine.step.Goals as goal

pub written_bits-written-requires : goal.written_bits-written-requires
written_bits-written-requires c =
    (bits_small c.args.self.now.settings c.args.self.now.z.now c.args.self.now.za.now c.args.self.now.ready, omega (arith, c.requires.first))

pub overflow_cast-result : goal.overflow_cast-result
overflow_cast-result c = omega (arith, c.step_files-toggles.ensures.stepped.rose, (step_small _ _ _ _ c.args.self.now.ready c.requires).0)

pub overflow_cast-result-2 : goal.overflow_cast-result-2
overflow_cast-result-2 c = omega (arith, c.step_files-toggles.ensures.stepped.fell, (step_small _ _ _ _ c.args.self.now.ready c.requires).1)

pub returns-clause-stepped : goal.returns-clause-stepped
returns-clause-stepped c =
    outcome_is c.args.self.now.settings c.args.fields _ _ c.args.self.now.z.now c.args.self.now.za.now _ _ c.step_files-toggles.ensures.stepped c.written_bits-written.ensures
