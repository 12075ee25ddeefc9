-- `host::callinglamp_print` meets its contract. Assumes nothing.
use borrow.Author.Rules.{rules}
use Rattle.host.proofs.Calls.{print_fits}
use Rattle.host.proofs.callinglamp_print.Goals as goal

pub printed-requires : goal.printed-requires
printed-requires c =
    print_fits _ _ _ c.print_word.result _ (search rules) c.print_word.ensures
