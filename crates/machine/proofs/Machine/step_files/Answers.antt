-- `machine::Machine::step_files` meets its contract, family by family. Assumes nothing.
use mathlib.Core.Logic.{inl, inr}
use Rattle.machine.specs.Loop.{IntoV, Sources}
use Rattle.machine.proofs.Renewal.{whole_register, none_above}
use Rattle.machine.proofs.Stepping.{v_into_z, sources_of, short, places_of, z_done, za_done}
use Rattle.machine.proofs.Machine.step_files.Goals as goal

pub write_v-requires-clause-sources : goal.write_v-requires-clause-sources
write_v-requires-clause-sources c = sources_of c.args.self.now.ready c.requires c.vector_bytes-w.ensures

pub step_saturating-requires-clause-sources : goal.step_saturating-requires-clause-sources
step_saturating-requires-clause-sources c = sources_of c.args.self.now.ready c.requires c.vector_bytes-w.ensures

pub step_saturating-requires-clause-family_value : goal.step_saturating-requires-clause-family_value
step_saturating-requires-clause-family_value c =
    (c.in-Saturating.is, short c.args.self.now.ready c.requires c.vector_bytes-w.ensures)

pub step_array-requires-clause-places : goal.step_array-requires-clause-places
step_array-requires-clause-places c =
    places_of c.args.self.now.ready c.requires c.vector_bytes-w.ensures (inl c.in-LongLong.is)

pub step_array-requires-in-Long-clause-places : goal.step_array-requires-in-Long-clause-places
step_array-requires-in-Long-clause-places c =
    places_of c.args.self.now.ready c.requires c.vector_bytes-w.ensures (inr c.in-Long.is)

pub returns-in-ByElement-clause-stepped : goal.returns-in-ByElement-clause-stepped
returns-in-ByElement-clause-stepped c = let into_v : IntoV c.args.fields = c.in-ByElement.is in
    z_done c.args.self.now.ready c.requires c.vector_bytes-w.ensures
    (v_into_z c.args.fields into_v) _ _ c.write_v.ensures

pub returns-in-Saturating-clause-stepped : goal.returns-in-Saturating-clause-stepped
returns-in-Saturating-clause-stepped c =
    let sources : Sources c.args.fields c.vector_bytes-w.result c.args.self.now.z.now =
    sources_of c.args.self.now.ready c.requires c.vector_bytes-w.ensures in
    z_done c.args.self.now.ready c.requires c.vector_bytes-w.ensures
    (inr (inr c.in-Saturating.is)) _ _ (none_above sources (whole_register c.args.fields c.vector_bytes-w.result c.in-Saturating.is) c.step_saturating.ensures)

pub returns-in-LongLong-clause-stepped : goal.returns-in-LongLong-clause-stepped
returns-in-LongLong-clause-stepped c =
    za_done c.args.self.now.ready c.requires c.vector_bytes-w.ensures (inl c.in-LongLong.is) _ _ c.step_array.ensures.0 c.step_array.ensures.1

pub returns-in-Long-clause-stepped : goal.returns-in-Long-clause-stepped
returns-in-Long-clause-stepped c =
    za_done c.args.self.now.ready c.requires c.vector_bytes-w.ensures (inr c.in-Long.is) _ _ c.step_array-in-Long.ensures.0 c.step_array-in-Long.ensures.1
