-- Demand 3: from where a run of words ends, their partners in reverse order lead back to its start. Its own words stand in quotation marks.
-- Statements only: proofs/Sweep.antt proves each. A word is any number, so also one of 32 bits; its partner then has 32 bits too
-- (`partner_fits` in words).
use Rattle.std.specs.Prelude.{ℕ, ◌≡◌, ◌≢◌, ◌↔◌, cond, List, [], ◌∷◌, map, reverse, eqb}
use Rattle.laws.specs.Lists.{Each}
use Rattle.settings.specs.declared.Settings.{Settings}
use Rattle.words.specs.Decode.{decode_paper}
use Rattle.words.specs.Partner.{partner_paper}
use Rattle.words.specs.declared.Family.{Family}
use Rattle.words.specs.declared.Family.TheVariants.{ByElement, Vector, Saturating, LongLong, Long}
use Rattle.words.specs.declared.Fields.{Fields}
use Rattle.elements.specs.Elements.{Bytes}
use Rattle.machine.specs.Execute.{refused_with, execute_paper}
use Rattle.machine.specs.Run.{Report, Run, PerWord, run_of}
use Rattle.demands.specs.Execution.{vl_of, ClearAbove}

-- ---- there and back

-- the words, executed in their order
abbrev pub there : Settings → List ℕ → List ℕ → List ℕ → Run
there s ws z za = run_of (execute_paper s) ws z za

-- one word of the way back: `partner` is asked for the word's partner, and `execute` is given it. The number is 0 only where both accept
unfoldable pub undo_paper : Settings → PerWord
undo_paper s w z za = cond (eqb (partner_paper s w).0 0) (execute_paper s (partner_paper s w).1 z za) (refused_with (partner_paper s w).0 z za)

-- the way back, from where the words led: "each word's partner in reverse order"
abbrev pub back : Settings → List ℕ → List ℕ → List ℕ → Run
back s ws z za = run_of (undo_paper s) (reverse ws) (there s ws z za).z (there s ws z za).za

-- ---- what is asked of the words

-- "each accepted for execution in its turn". Where there is a word, this says that the settings are valid, and Z and ZA of the right lengths
abbrev pub AcceptedInTurn : PerWord → List ℕ → List ℕ → List ℕ → Type 0
AcceptedInTurn each [] z za = Unit {0}
AcceptedInTurn each (w ∷ ws) z za = ((each w z za).number ≡ 0) × AcceptedInTurn each ws (each w z za).z (each w z za).za

-- "none saturating": what decodes is not of family C
abbrev pub NotSaturating : Settings → ℕ → Type 0
NotSaturating s w = (f : Fields) → decode_paper s w ≡ (0, f) → f.family ≢ Saturating

-- A and B write a V register, and it is neither source
abbrev pub SourcesApart : Family → Fields → Type 0
SourcesApart ByElement f = (f.destination ≢ f.first) × (f.destination ≢ f.second)
SourcesApart Vector f = (f.destination ≢ f.first) × (f.destination ≢ f.second)
SourcesApart Saturating f = Unit {0}
SourcesApart LongLong f = Unit {0}
SourcesApart Long f = Unit {0}

-- "no word that writes a V register naming its destination as a source"
abbrev pub NotItsOwnSource : Settings → ℕ → Type 0
NotItsOwnSource s w = (f : Fields) → decode_paper s w ≡ (0, f) → SourcesApart f.family f

-- what a family asks of the register that it writes: A and B clear it from byte 16 on, and no step brings back what was there
abbrev pub ClearIfV : Family → Settings → Fields → List ℕ → Type 0
ClearIfV ByElement s f z = ClearAbove s f.destination z
ClearIfV Vector s f z = ClearAbove s f.destination z
ClearIfV Saturating s f z = Unit {0}
ClearIfV LongLong s f z = Unit {0}
ClearIfV Long s f z = Unit {0}

abbrev pub DestinationClear : Settings → ℕ → List ℕ → Type 0
DestinationClear s w z = (f : Fields) → decode_paper s w ≡ (0, f) → ClearIfV f.family s f z

-- "before each A or B word runs, its destination has zeros from byte 16 on" (document 02): in the state of its turn
abbrev pub ClearInTurn : Settings → List ℕ → List ℕ → List ℕ → Type 0
ClearInTurn s [] z za = Unit {0}
ClearInTurn s (w ∷ ws) z za = DestinationClear s w z × ClearInTurn s ws (execute_paper s w z za).z (execute_paper s w z za).za

-- at VL 128 there is nothing above, and nothing is asked
abbrev pub ClearAt128 : Type 0
ClearAt128 = (s : Settings) (ws z za : List ℕ) → vl_of s ≡ 128 → ClearInTurn s ws z za

-- ---- the theorem

-- what a partner reports where its word reported r: it is accepted, and "a partner's rises are its word's falls, and the other way round" (document 02)
abbrev pub of_partner : Report → Report
of_partner r = (0, r.2, r.1, r.3)

-- Z and ZA are what they were at the start; the partners are accepted, and report the counts of their words so
abbrev pub Closes : Settings → List ℕ → List ℕ → List ℕ → Type 0
Closes s ws z za = back s ws z za ≡ record { z = z; za = za; reports = reverse (map of_partner (there s ws z za).reports) }

-- Z and ZA hold bytes, as whatever is lent to `execute` does
abbrev pub SweepCloses : Type 0
SweepCloses =
    (s : Settings) (ws z za : List ℕ) → Bytes z → Bytes za
    → AcceptedInTurn (execute_paper s) ws z za → Each (NotSaturating s) ws → Each (NotItsOwnSource s) ws → ClearInTurn s ws z za
    → Closes s ws z za

-- ---- what it says of the partners

-- `partner` accepts the word, and `execute` its partner
abbrev pub BothAccept : Settings → ℕ → List ℕ → List ℕ → Type 0
BothAccept s w z za = ((partner_paper s w).0 ≡ 0) × ((execute_paper s (partner_paper s w).1 z za).number ≡ 0)

-- the number of a step of the way back is 0 exactly where both accept
abbrev pub UndoAccepts : Type 0
UndoAccepts = (s : Settings) (w : ℕ) (z za : List ℕ) → ((undo_paper s w z za).number ≡ 0) ↔ BothAccept s w z za

-- so a sweep that closes has all its partners accepted, each in its turn
abbrev pub PartnersAccepted : Type 0
PartnersAccepted =
    (s : Settings) (ws z za : List ℕ) → Closes s ws z za
    → AcceptedInTurn (undo_paper s) (reverse ws) (there s ws z za).z (there s ws z za).za
