use Rattle.std.proofs.Common.{◌≡◌, length, Err, sym, rules}
use Rattle.numbers.specs.Numbers.{numbers_at}
use Rattle.runlist.proofs.Plans.{fault_ends, extra_ends, found_ends, whole_row}
use Rattle.runlist.proofs.read_to_end.Goals as goal

pub returns-in_err-next-clause-words_after : goal.returns-in_err-next-clause-words_after
returns-in_err-next-clause-words_after c =
    let told : c.from_residual.result ≡ Err c.in_err-next.field-0.0 = search rules in
    rw told (fault_ends c.args.list.now (numbers_at c.args.list.now c.args.at (length c.args.words.now)) _ (sym c.in_err-next.ensures.0))

pub returns-then-next-list-clause-words_after : goal.returns-then-next-list-clause-words_after
returns-then-next-list-clause-words_after c =
    extra_ends c.args.list.now (numbers_at c.args.list.now c.args.at (length c.args.words.now)) _ (sym c.in_ok-next.ensures.0) c.if-next-list.true

pub returns-clause-words_after : goal.returns-clause-words_after
returns-clause-words_after c =
    found_ends c.args.list.now (numbers_at c.args.list.now c.args.at (length c.args.words.now)) _ (sym c.in_ok-next.ensures.0) c.if-next-list.false _
    (whole_row c.args.list.now _ _ c.args.words.now _ (sym c.in_ok-next.ensures.0) c.in_ok-next.ensures.1)
