-- `runlist::run_words` meets its contract: Z has 32 registers of some 16 bytes. Assumes nothing.
use Rattle.std.proofs.Common.{arith}
use Rattle.settings.proofs.Lengths.{vector_length}
use Rattle.runlist.proofs.run_words.Goals as goal

pub copy-requires-clause-whole : goal.copy-requires-clause-whole
copy-requires-clause-whole g c =
    let v = vector_length c.args.front.settings c.requires.ready.0.valid in
    omega (arith, v.whole, c.requires.ready.0.z_long)
