use mathlib.Core.Path.{◌∙◌}
use Rattle.lamp.proofs.Lent.{as-printed}
use Rattle.lamp.proofs.put_printed.Goals as goal

pub returns : goal.returns
returns c = c.put_answer.ensures ∙ as-printed _ _ c.register_bytes-bytes.ensures.0 c.register_bytes-bytes.ensures.1
