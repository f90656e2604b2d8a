-- The C interface, texts and listings: what each call returns, and what it leaves in its places and in the room.
use Rattle.std.specs.Prelude.{ℕ, List, [], Err, Result}
use Rattle.answers.specs.Answer.{Answer, given, refused_with, of_result}
use Rattle.answers.specs.Outcomes.{Outcome}
use Rattle.answers.specs.Replies.{called}
use Rattle.answers.specs.declared.Refusal.TheVariants as R
use Rattle.isa.specs.declared.Inst.{Inst}
use Rattle.disassembler.specs.Entries.{text_entry, word_entry, half_entry, inst_entry}
use Rattle.listing.specs.declared.Listed.{Listed}
use Rattle.listing.specs.Listing.{list_entry}
use Rattle.calls.specs.Calls.{of_numbers}
use Rattle.answers.specs.declared.Refusal.{Refusal}

-- the length in its place, and the room

abbrev pub word_text_call : ℕ → List ℕ → ℕ → Outcome ℕ (ℕ × List ℕ)
word_text_call bits room len = called of_result len (word_entry bits room)

abbrev pub half_text_call : ℕ → List ℕ → ℕ → Outcome ℕ (ℕ × List ℕ)
half_text_call bits room len = called of_result len (half_entry bits room)

-- 6 before 8, whatever the numbers are
abbrev pub inst_text : Answer Inst → List ℕ → Outcome (Result ℕ Refusal) (List ℕ)
inst_text (given i) room = inst_entry i room
inst_text (refused_with n) room = text_entry (Err R.Field) [] room

abbrev pub inst_text_call : List ℕ → List ℕ → ℕ → Outcome ℕ (ℕ × List ℕ)
inst_text_call inst room len = called of_result len (inst_text (of_numbers inst) room)

-- the listing: the length and the next address in their places, and the room; nothing is refused
abbrev pub of_listed : Listed → Answer (ℕ × ℕ)
of_listed p = given (p.length, p.next)

abbrev pub list_call : List ℕ → ℕ → List ℕ → ℕ × ℕ → Outcome ℕ ((ℕ × ℕ) × List ℕ)
list_call image from room places = called of_listed places (list_entry image from room)
