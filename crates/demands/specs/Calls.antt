-- Demand 3, as a caller of `execute` and `partner` sees it. The calls are known by their promises alone. proofs/Calls.antt proves the statement.
use Rattle.std.specs.Prelude.{ℕ, ◌≡◌, List, [], ◌∷◌, map, reverse, Result, Ok, Err}
use Rattle.laws.specs.Lists.{Each}
use Rattle.tally.specs.declared.Counts.{Counts}
use Rattle.settings.specs.declared.Refusal.{Refusal}
use Rattle.settings.specs.declared.Settings.{Settings}
use Rattle.words.specs.Partner.{PartnerPromise}
use Rattle.elements.specs.Elements.{Bytes}
use Rattle.machine.specs.Execute.{ExecutePromise}
use Rattle.demands.specs.Sweep.{NotSaturating, NotItsOwnSource, ClearInTurn}

-- what is promised of a word, Z and ZA before, the answer, Z and ZA after
abbrev pub Promise : Type 1
Promise = ℕ → List ℕ → List ℕ → Result Counts Refusal → List ℕ → List ℕ → Type 0

-- a call for each word, on the Z and ZA that the one before left: the answers, and Z and ZA at the end
pub data Calls (P : Promise) : List ℕ → List ℕ → List ℕ → List (Result Counts Refusal) → List ℕ → List ℕ → Type 0 where
  none : {z za : List ℕ} → Calls P [] z za [] z za
  next : {w : ℕ} {ws z za z₁ za₁ z₂ za₂ : List ℕ} {r : Result Counts Refusal} {rs : List (Result Counts Refusal)}
      → P w z za r z₁ za₁ → Calls P ws z₁ za₁ rs z₂ za₂ → Calls P (w ∷ ws) z za (r ∷ rs) z₂ za₂

-- what a caller does with the answer of `partner`: a word is executed, and a refusal is passed on
abbrev pub Followed : Settings → Result ℕ Refusal → List ℕ → List ℕ → Result Counts Refusal → List ℕ → List ℕ → Type 0
Followed s (Ok v) z za r z' za' = ExecutePromise s v z za r z' za'
Followed s (Err q) z za r z' za' = (r ≡ Err q) × (z' ≡ z) × (za' ≡ za)

-- the two calls for a word of the way back
pub record UndoCalls (s : Settings) (w : ℕ) (z za : List ℕ) (r : Result Counts Refusal) (z' za' : List ℕ) : Type 0 where
  pub asked : Result ℕ Refusal
  pub promised : PartnerPromise s w asked
  pub followed : Followed s asked z za r z' za'

-- each word was accepted
abbrev pub AllDone : List (Result Counts Refusal) → Type 0
AllDone [] = Unit {0}
AllDone (Ok c ∷ rs) = AllDone rs
AllDone (Err r ∷ rs) = ⊥

-- what a partner answers where its word answered r: its rises are the word's falls, and the other way round
abbrev pub partner_answers : Result Counts Refusal → Result Counts Refusal
partner_answers (Ok c) = Ok (record { rises = c.falls; falls = c.rises; written = c.written })
partner_answers (Err r) = Err r

-- whoever executes the words, sees all accepted, and goes back, gets these answers in reverse order, and Z and ZA as they were
abbrev pub CallersSee : Type 0
CallersSee =
    (s : Settings) (ws z za z₁ za₁ z₂ za₂ : List ℕ) (rs qs : List (Result Counts Refusal)) → Bytes z → Bytes za
    → Calls (ExecutePromise s) ws z za rs z₁ za₁ → AllDone rs → Each (NotSaturating s) ws → Each (NotItsOwnSource s) ws → ClearInTurn s ws z za
    → Calls (UndoCalls s) (reverse ws) z₁ za₁ qs z₂ za₂
    → (qs ≡ reverse (map partner_answers rs)) × (z₂ ≡ z) × (za₂ ≡ za)
