-- The refusal numbers, as the paper's table lists them.
use Rattle.std.specs.Prelude.{ℕ, None, Option, Some}
use Rattle.answers.specs.declared.Refusal.{Refusal}
use Rattle.answers.specs.declared.Refusal.TheVariants.{MemoryTooLong, RowLength, RowRecord, Slot, OddPc, Room, NoInstruction, Field, NoShortForm, Unreadable, NumberNotAllowed, NoShortLine, OutputRoom, StopNumber, RecordEnd, MasksShare}

abbrev pub number_of : Refusal → ℕ
-- memory longer than 65,536
number_of MemoryTooLong = 1
-- row not 512 bytes
number_of RowLength = 2
-- a row record breaks its rules: that of word k, and of no lower one
number_of (RowRecord k) = 3
-- slot buffer not a multiple of 144, or no such slot
number_of Slot = 4
-- a state's pc is odd
number_of OddPc = 5
-- text room under 24 bytes
number_of Room = 6
-- no legal instruction in the given bits
number_of NoInstruction = 7
-- instruction with a field out of range, or an odd branch or jal offset
number_of Field = 8
-- no short form
number_of NoShortForm = 9
-- a line that cannot be read
number_of Unreadable = 10
-- a number or offset of a line that is not allowed
number_of NumberNotAllowed = 11
-- a line with c: that has no short form
number_of NoShortLine = 12
-- output room shorter than the whole output
number_of OutputRoom = 13
-- a state's stop number is out of range
number_of StopNumber = 14
-- bytes 137 to 143 of a record break their rules, or a state has an address that its stop number does not allow
number_of RecordEnd = 15
-- masks that share a bit
number_of MasksShare = 16

-- the word that refusal 3 tells, the lowest whose record breaks the rules; no other refusal tells one
abbrev pub word_of : Refusal → Option ℕ
word_of MemoryTooLong = None
word_of RowLength = None
word_of (RowRecord k) = Some k
word_of Slot = None
word_of OddPc = None
word_of Room = None
word_of NoInstruction = None
word_of Field = None
word_of NoShortForm = None
word_of Unreadable = None
word_of NumberNotAllowed = None
word_of NoShortLine = None
word_of OutputRoom = None
word_of StopNumber = None
word_of RecordEnd = None
word_of MasksShare = None
