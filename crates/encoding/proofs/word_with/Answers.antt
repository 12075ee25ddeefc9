-- `encoding::word_with` meets its contract. Assumes nothing.
use Prim.Native.Nat.{◌<◌, ◌^◌}
use Rattle.std.specs.Prelude.{◌≡◌, Some, None}
use native.Mathlib.Omega.{arith}
use borrow.Author.Rules.{rules}
use mathlib.Core.Path.{sym, ◌∙◌}
use Rattle.encoding.proofs.Equal.{equal_fields}
use Rattle.encoding.proofs.Own.{tested, no_kind}
use Rattle.encoding.proofs.word_with.Goals as goal

pub returns-in_err-kind : goal.returns-in_err-kind
returns-in_err-kind c =
    let none : c.kind_with.result ≡ None = grind arith in
    rw c.from_residual.ensures (no_kind _ (sym c.kind_with.ensures ∙ none))

pub returns : goal.returns
returns c =
    let fits : c.candidate-word.result < 2 ^ 32 = search rules in
    let some : c.kind_with.result ≡ Some c.in_ok-kind.kind = grind arith in
    let same = equal_fields _ _ _ c.eq.ensures in
    rw c.then_some.ensures (tested _ _ _ _ _ (sym c.kind_with.ensures ∙ some) c.candidate-word.ensures fits c.fields_of.ensures same.0 same.1)
