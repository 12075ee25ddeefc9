-- Request One: what `print` answers, and what it leaves in the room. "printing tests 1, 3, then 12 where the room is shorter than the text"
use Rattle.std.specs.Prelude.{ℕ, ◌≡◌, false, cond, List, ◌++◌, eqb, leb, length, drop, Result}
use Rattle.settings.specs.Refused.{word_says}
use Rattle.settings.specs.declared.Refusal.{Refusal}
use Rattle.settings.specs.declared.Settings.{Settings}
use Rattle.words.specs.Decode.{decode_paper}
use Rattle.words.specs.declared.Fields.{Fields}
use Rattle.spelling.specs.Spell.{spell}

-- the number and the length of an answer, said as those are that give a word
abbrev pub printed_says : Result ℕ Refusal → ℕ × ℕ
printed_says = word_says

-- a text put into room: number, length, and the room at the end. "an answer written into lent room comes with its length, and the room past it stays"
abbrev pub put_into : List ℕ → List ℕ → (ℕ × ℕ) × List ℕ
put_into t room = cond (leb (length t) (length room)) ((0, length t), t ++ drop (length t) room) ((12, 0), room)

-- after decode: its refusal, or the preferred text of the fields
abbrev pub print_after : ℕ × Fields → List ℕ → (ℕ × ℕ) × List ℕ
print_after d room = cond (eqb d.0 0) (put_into (spell false d.1) room) ((d.0, 0), room)

unfoldable pub print_paper : Settings → ℕ → List ℕ → (ℕ × ℕ) × List ℕ
print_paper s w room = print_after (decode_paper s w) room

-- what `print` promises of its answer and of the room
abbrev pub PrintPromise : Settings → ℕ → List ℕ → Result ℕ Refusal → List ℕ → Type 0
PrintPromise s w room r room' = (printed_says r, room') ≡ print_paper s w room
