-- The disassembler: what its three entries answer, and what they leave in the room.
use Rattle.std.specs.Prelude.{ℕ, List, [], ◌++◌, length, leb, Err, None, Ok, Option, Result, Some}
use Rattle.answers.specs.Checks.{unless, Check, passed}
use Rattle.answers.specs.Outcomes.{Outcome, outcome, decided}
use Rattle.answers.specs.declared.Refusal.TheVariants as R
use Rattle.ascii.specs.Rooms.{fronted}
use Rattle.isa.specs.declared.Inst.{Inst}
use Rattle.isa.specs.Decoding.{decoded}
use Rattle.isa.specs.Rvc.{expanded}
use Rattle.isa.specs.Encoding.{in_range}
use Rattle.text.specs.Text.{text_of, short_text_of}
use Rattle.answers.specs.declared.Refusal.{Refusal}

-- 6 before all else: text room under 24 bytes
abbrev pub room_checked : List ℕ → Check → Check
room_checked room rest = unless (leb 24 (length room)) R.Room rest

-- 7: no legal instruction in the given bits
abbrev pub legal_checked : Option Inst → Check
legal_checked (Some i) = passed
legal_checked None = Err R.NoInstruction

-- bits that mean nothing have no text
abbrev pub meant_text : (Inst → List ℕ) → Option Inst → List ℕ
meant_text text (Some i) = text i
meant_text text None = []

-- the answer is the length; bytes of the room after the text stay
abbrev pub text_filled : List ℕ → List ℕ → Outcome (Result ℕ Refusal) (List ℕ)
text_filled text room = outcome (Ok (length text)) (fronted text room)

-- the tests in their order; refused, every byte of the room stays
abbrev pub text_entry : Check → List ℕ → List ℕ → Outcome (Result ℕ Refusal) (List ℕ)
text_entry check text room = decided (room_checked room check) (text_filled text room) Err room

-- what a search for an instruction came to: its refusal is the entry's, and it has no text
abbrev pub found_checked : Result Inst Refusal → Check
found_checked (Ok i) = passed
found_checked (Err r) = Err r

abbrev pub found_text : List ℕ → Result Inst Refusal → List ℕ
found_text prefix (Ok i) = prefix ++ text_of i
found_text prefix (Err r) = []

-- the text of what was found, with a prefix
abbrev pub found_entry : Result Inst Refusal → List ℕ → List ℕ → Outcome (Result ℕ Refusal) (List ℕ)
found_entry found prefix room = text_entry (found_checked found) (found_text prefix found) room

-- the same once the room was looked at
abbrev pub found_filled : Result Inst Refusal → List ℕ → List ℕ → Outcome (Result ℕ Refusal) (List ℕ)
found_filled found prefix room = decided (found_checked found) (text_filled (found_text prefix found) room) Err room

-- the text of 32 bits
abbrev pub word_entry : ℕ → List ℕ → Outcome (Result ℕ Refusal) (List ℕ)
word_entry bits room = text_entry (legal_checked (decoded bits)) (meant_text text_of (decoded bits)) room

-- the text of 16 bits
abbrev pub half_entry : ℕ → List ℕ → Outcome (Result ℕ Refusal) (List ℕ)
half_entry bits room = text_entry (legal_checked (expanded bits)) (meant_text short_text_of (expanded bits)) room

-- the text of an instruction; 8: a field out of range, or an odd branch or jal offset
abbrev pub inst_entry : Inst → List ℕ → Outcome (Result ℕ Refusal) (List ℕ)
inst_entry i room = text_entry (unless (in_range i) R.Field passed) (text_of i) room
