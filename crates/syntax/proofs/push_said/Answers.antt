-- `syntax::push_said` meets its contract. Assumes nothing.
use mathlib.Core.Path.{sym, ap, ◌∙◌}
use mathlib.Core.List.{List, ◌++◌}
use Prim.Native.Nat.{ℕ}
use Rattle.syntax.proofs.Turns.{says_one, says_two, both_said}
use Rattle.syntax.proofs.push_said.Goals as goal

pub returns-then-v-lt10-clause-text : goal.returns-then-v-lt10-clause-text
returns-then-v-lt10-clause-text g c =
    let n = sym c.is_number.ensures ∙ c.if-not-is_number.false in
    c.push-then-v-lt10.ensures.items ∙ ap (λ (t : List ℕ). c.args.out.now.items ++ t) (says_one c.args.c _ n c.if-v-lt10.true)

pub returns-clause-text : goal.returns-clause-text
returns-clause-text g c =
    let n = sym c.is_number.ensures ∙ c.if-not-is_number.false in
    both_said c.args.out.now.items _ _ c.push-2.ensures.items c.push-3.ensures.items
    (says_two c.args.c _ n c.if-v-lt10.false (c.requires.1 n))
