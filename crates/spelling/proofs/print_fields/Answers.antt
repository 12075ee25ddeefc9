-- `spelling::print_fields` meets its contract. Assumes nothing.
use native.Mathlib.Omega.{arith}
use mathlib.Core.Path.{ap, ◌∙◌}
use mathlib.Core.Bool.{false}
use lib.ListN.{length}
use Rattle.spelling.proofs.Reading.{row_below}
use Rattle.spelling.proofs.Putting.{spelled, no_room, has_room}
use Rattle.spelling.proofs.print_fields.Goals as goal

pub put_text-requires : goal.put_text-requires
put_text-requires c = (omega (arith, c.row_of.ensures, row_below false c.args.f), ap length c.from-text.ensures.0, c.requires)

pub returns-then-room-n : goal.returns-then-room-n
returns-then-room-n c =
    let t = spelled c.args.f _ _ c.row_of.ensures c.put_text.ensures in
    no_room _ _ (omega (arith, ap length t))

pub returns : goal.returns
returns c =
    let t = spelled c.args.f _ _ c.row_of.ensures c.put_text.ensures in
    has_room _ _ _ _ (c.copy_from_slice.ensures.after ∙ c.as_slice.ensures.value ∙ t) (omega (arith, ap length t)) c.if-room-n.false
