use Rattle.std.proofs.Common.{◌≡◌, Err, sym, arith, rules}
use Rattle.runlist.proofs.Plans.{whole_inside, no-head, headed_by, head_filled}
use Rattle.runlist.proofs.read_front.Goals as goal

pub returns-in_err-at-clause-front_read : goal.returns-in_err-at-clause-front_read
returns-in_err-at-clause-front_read c =
    let told : c.from_residual.result ≡ Err c.in_err-at.field-0.0 = search rules in
    rw told (no-head c.args.list.now _ c.args.head.now (search rules) _ (sym c.in_err-at.ensures.0))

pub returns-in_err-at-clause-head_after : goal.returns-in_err-at-clause-head_after
returns-in_err-at-clause-head_after c = head_filled c.args.list.now c.args.head.now _ (search rules) c.in_err-at.ensures.1

pub read_rest-requires : goal.read_rest-requires
read_rest-requires c = whole_inside c.args.list.now 0 _ _ (omega arith) (sym c.in_ok-at.ensures.0)

pub returns-clause-front_read : goal.returns-clause-front_read
returns-clause-front_read c =
    headed_by c.args.list.now _ c.args.head.now (search rules) _ c.in_ok-at.ensures.1 _ (sym c.in_ok-at.ensures.0) _ c.settings_of.ensures _ c.read_rest.ensures

pub returns-clause-head_after : goal.returns-clause-head_after
returns-clause-head_after c = head_filled c.args.list.now c.args.head.now _ (search rules) c.in_ok-at.ensures.1
