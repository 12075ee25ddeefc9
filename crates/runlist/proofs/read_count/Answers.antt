use Rattle.std.proofs.Common.{◌≡◌, Err, sym, rules}
use Rattle.runlist.proofs.Plans.{no_count, too_many, no_room, count_read}
use Rattle.runlist.proofs.read_count.Goals as goal

pub returns-in_err-count : goal.returns-in_err-count
returns-in_err-count c =
    let told : c.from_residual.result ≡ Err c.in_err-count.field-0.0 = search rules in
    rw told (no_count _ _ _ _ (sym c.in_err-count.ensures))

pub returns-then-n-gt-MOST_WORDS : goal.returns-then-n-gt-MOST_WORDS
returns-then-n-gt-MOST_WORDS c = too_many _ _ _ _ (sym c.in_ok-count.ensures) c.if-n-gt-MOST_WORDS.true

pub returns-then-report-n : goal.returns-then-report-n
returns-then-report-n c = no_room _ _ _ _ (sym c.in_ok-count.ensures) c.if-n-gt-MOST_WORDS.false c.if-report-n.true

pub returns : goal.returns
returns c = count_read _ _ _ _ (sym c.in_ok-count.ensures) c.if-n-gt-MOST_WORDS.false c.if-report-n.false
