use Rattle.std.proofs.Common.{◌≡◌, Err, rules}
use Rattle.runlist.proofs.Runs.{refused_run, run_on}
use Rattle.runlist.proofs.run.Goals as goal

pub returns-in_err-front : goal.returns-in_err-front
returns-in_err-front c =
    let told : c.from_residual.result ≡ Err c.in_err-front.field-0.0 = search rules in
    rw told (refused_run c.args.list.now c.args.z.now c.args.za.now c.args.report.now _ c.in_err-front.ensures.front_read.says)

pub returns-then-front-le-FEW_WORDS : goal.returns-then-front-le-FEW_WORDS
returns-then-front-le-FEW_WORDS c =
    run_on c.args.list.now c.args.z.now c.args.za.now c.args.report.now _ c.run_words.result c.run_words.new.z c.run_words.new.za c.run_words.new.report
    c.in_ok-front.ensures.front_read.says c.run_words.ensures

pub returns : goal.returns
returns c =
    run_on c.args.list.now c.args.z.now c.args.za.now c.args.report.now _ c.run_words-2.result c.run_words-2.new.z c.run_words-2.new.za c.run_words-2.new.report
    c.in_ok-front.ensures.front_read.says c.run_words-2.ensures
