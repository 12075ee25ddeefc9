use Rattle.std.proofs.Common.{◌≡◌, Err, sym, ◌∙◌, arith, rules}
use Rattle.runlist.proofs.Plans.{unsettled, wrong_lengths, cut_short, not_counted, counted}
use Rattle.runlist.proofs.read_rest.Goals as goal

pub returns-then-not-valid : goal.returns-then-not-valid
returns-then-not-valid c = unsettled _ _ _ _ (sym c.valid.ensures ∙ c.if-not-valid.true)

pub returns-then-not-right_lengths : goal.returns-then-not-right_lengths
returns-then-not-right_lengths c =
    wrong_lengths _ _ _ _ (sym c.valid.ensures ∙ c.if-not-valid.false) (sym c.right_lengths.ensures ∙ c.if-not-right_lengths.true)

pub returns-then-list-at : goal.returns-then-list-at
returns-then-list-at c =
    cut_short _ _ _ _ (sym c.valid.ensures ∙ c.if-not-valid.false) (sym c.right_lengths.ensures ∙ c.if-not-right_lengths.false)
    (omega (arith, c.if-list-at.true, c.requires))

pub returns-in_err-count : goal.returns-in_err-count
returns-in_err-count c =
    let told : c.from_residual.result ≡ Err c.in_err-count.field-0.0 = search rules in
    rw told (not_counted _ _ _ _ (sym c.valid.ensures ∙ c.if-not-valid.false) (sym c.right_lengths.ensures ∙ c.if-not-right_lengths.false)
    (omega (arith, c.if-list-at.false, c.requires)) _ c.read_count.ensures _ c.in_err-count.was)

pub returns : goal.returns
returns c =
    counted _ _ _ _ (sym c.valid.ensures ∙ c.if-not-valid.false) (sym c.right_lengths.ensures ∙ c.if-not-right_lengths.false)
    (omega (arith, c.if-list-at.false, c.requires)) _ c.read_count.ensures _ c.in_ok-count.was
