-- `host::callinglamp_decode` meets its contract. Assumes nothing.
use Rattle.host.proofs.Calls.{decode_said}
use Rattle.host.proofs.callinglamp_decode.Goals as goal

pub returns : goal.returns
returns c =
    decode_said _ _ c.settings_of.ensures _ _ _ c.decode.result _ c.decode.ensures c.decoded.ensures
