-- `spelling::print` meets its contract. Assumes nothing.
use Rattle.std.proofs.Common.{rules, ◌≡◌, Err, sym, ◌∙◌}
use Rattle.settings.proofs.Refusals.{not_0}
use Rattle.words.proofs.Answers.{decodes_exactly}
use Rattle.spelling.proofs.Back.{figures}
use Rattle.spelling.proofs.Putting.{print_word, print_refused}
use Rattle.spelling.proofs.print.Goals as goal

pub returns-in_err-f : goal.returns-in_err-f
returns-in_err-f c =
    let e : c.from_residual.result ≡ Err c.in_err-f.field-0.0 = search rules in
    rw e (sym (print_refused c.args.settings c.args.word _ _ c.args.room.now (not_0 c.in_err-f.field-0.0) (sym c.in_err-f.ensures)))

pub print_fields-requires : goal.print_fields-requires
print_fields-requires c = figures c.args.word _ ((decodes_exactly c.args.settings c.args.word _).0 (sym c.in_ok-f.ensures)).says

pub returns : goal.returns
returns c = c.print_fields.ensures ∙ sym (print_word c.args.settings c.args.word _ c.args.room.now (sym c.in_ok-f.ensures))
