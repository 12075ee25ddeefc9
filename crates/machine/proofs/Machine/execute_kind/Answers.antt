-- `machine::Machine::execute_kind` meets its contract. Assumes nothing.
use Prim.Native.Nat.{ℕ}
use mathlib.Core.Path.{◌≡◌, sym, ap, ◌∙◌, subst}
use mathlib.Core.Bool.{Bool}
use Rattle.settings.specs.declared.Settings.{Settings}
use Rattle.words.specs.Kinds.{family_as, fields_as}
use Rattle.words.specs.Ranges.{Ranges}
use Rattle.words.specs.declared.Family.{Family}
use Rattle.words.specs.declared.Kind.{Kind}
use Rattle.words.proofs.ByKind.{family_as_lem}
use Rattle.machine.specs.Modes.{permits}
use Rattle.machine.proofs.Executing.{word_ranges, not_permitted, is_done}
use Rattle.machine.proofs.Machine.execute_kind.Goals as goal

-- the mode is tested by the family of the kind, which is that of the fields
asked : (s : Settings) (k : Kind) (w : ℕ) (f : Family) (b : Bool) → f ≡ family_as k → b ≡ permits s.features.0 s.modes.0 f
    → permits s.features.0 s.modes.0 (fields_as k w).family ≡ b
asked s k w f b ef eb = ap (λ (g : Family). permits s.features.0 s.modes.0 g) (family_as_lem k w ∙ sym ef) ∙ sym eb

pub returns-then-not-permits-clause-executed : goal.returns-then-not-permits-clause-executed
returns-then-not-permits-clause-executed c =
    not_permitted _ _ _ c.args.word _ c.args.self.now.ready c.requires
    (asked c.args.self.now.settings c.args.kind c.args.word _ _ c.from.ensures c.permits.ensures ∙ c.if-not-permits.true)

pub step-requires : goal.step-requires
step-requires c = subst Ranges (sym c.fields_of.ensures) (word_ranges c.args.self.now.settings c.args.word _ c.requires)

pub returns-clause-executed : goal.returns-clause-executed
returns-clause-executed c =
    is_done _ _ _ c.args.word _ c.args.self.now.ready c.requires _ _ c.fields_of.ensures
    (asked c.args.self.now.settings c.args.kind c.args.word _ _ c.from.ensures c.permits.ensures ∙ c.if-not-permits.false) c.step.ensures.stepped
