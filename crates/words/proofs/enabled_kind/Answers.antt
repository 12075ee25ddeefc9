-- `words::enabled_kind` meets its contract, by the laws of ByKind.antt. Assumes nothing.
use mathlib.Core.Path.{refl, sym, ◌∙◌}
use Rattle.words.proofs.ByKind.{no_kind, kind_enabled, kind_refused}
use Rattle.words.proofs.enabled_kind.Goals as goal

pub returns-in-Some : goal.returns-in-Some
returns-in-Some c =
    kind_enabled _ _ _ (rw c.in-Some.is at c.kind_of.ensures) (sym c.enables_kind.ensures ∙ c.if-enables_kind.true)

pub returns-in_default : goal.returns-in_default
returns-in_default c =
    (refl, kind_refused _ _ _ (rw c.in-Some.is at c.kind_of.ensures) (sym c.enables_kind.ensures ∙ c.if-enables_kind.false))

pub returns-in_default-2 : goal.returns-in_default-2
returns-in_default-2 c = (refl, no_kind _ _ (rw c.in_default.is at c.kind_of.ensures))
