-- `spelling::word_by` meets its contract. Assumes nothing.
use Rattle.std.specs.Prelude.{◌≡◌, Some, None}
use Prim.Native.Nat.{ℕ}
use native.Mathlib.Omega.{arith}
use mathlib.Core.Path.{sym, ap, ◌∙◌}
use mathlib.Core.List.{List, []}
use Rattle.syntax.specs.Scan.{taken}
use Rattle.spelling.specs.Spell.{letters}
use Rattle.spelling.specs.Candidate.{fields_by, candidate_at}
use Rattle.spelling.proofs.Reading.{fits_not-row, found_so, none_so}
use Rattle.spelling.proofs.word_by.Goals as goal

pub returns-in_err-values : goal.returns-in_err-values
returns-in_err-values c =
    let none : c.scan.result ≡ None = grind arith in
    let e : c.from_residual.result ≡ None = grind arith in
    rw e (fits_not-row c.args.text.now c.args.k _ c.row_at.ensures.text (none_so _ _ (sym none ∙ c.scan.ensures)))

pub compared-requires : goal.compared-requires
unfolding candidate_at
compared-requires c =
    let some : c.scan.result ≡ Some c.in_ok-values.values = grind arith in (
      c.requires,
      c.fields_of.ensures
          ∙ ap (fields_by c.args.k)
          (found_so _ _ _ (sym some ∙ c.scan.ensures) ∙ ap (λ (r : List ℕ). taken r c.args.text.now (letters [])) c.row_at.ensures.text),
    )
