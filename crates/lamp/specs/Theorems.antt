-- What holds of the program for every input. Statements only: proofs/Theorems.antt proves each.
use Rattle.std.specs.Prelude.{ℕ, ◌<◌, ◌≡◌, ◌≢◌, List, take}
use Rattle.settings.specs.declared.Refusal.TheVariants.{BadLength}
use Rattle.runlist.specs.Plan.{refused, plan_of}
use Rattle.demands.specs.Lists.{longest}
use Rattle.lamp.specs.Lamp.{lent_to, printed}

-- the first bytes decide: whoever keeps more of the input than the longest accepted list has prints what is due to the whole
abbrev pub EnoughRead : Type 0
EnoughRead = (k : ℕ) → longest < k → (list : List ℕ) → printed (take k list) ≡ printed list

-- what is lent is as long as the list asks for: no list is refused with 2
abbrev pub NeverBadLength : Type 0
NeverBadLength = (list : List ℕ) (p : ℕ) → plan_of list (lent_to list) ≢ refused BadLength p
