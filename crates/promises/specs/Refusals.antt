-- Demand 1 for the machine, the part and the slots: each refusal exactly if its row of the paper's table holds and no earlier one does, every lent byte kept, and no other fact returned but the word that 3 tells.
-- Each statement is proved in proofs/Refusals.antt.
use Rattle.std.specs.Prelude.{◌≡◌, true, false, ◌↔◌, ◌⊎◌, List, ℕ, ◌+◌, ◌*◌, ◌%◌, ◌/◌, ◌≤◌, ◌<◌, length, None, Option, Some}
use Rattle.answers.specs.Answer.{Answer, refused_with, of_result}
use Rattle.answers.specs.Checks.{word_told}
use Rattle.answers.specs.Outcomes.{Outcome}
use Rattle.answers.specs.Order.{refusal, no_refusal}
use Rattle.answers.specs.Refusals.{number_of, word_of}
use Rattle.answers.specs.declared.Refusal.{Refusal}
use Rattle.answers.specs.Entries.{Refuses, Keeps, Silent, SilentButWord}
use Rattle.octets.specs.Bytes.{load}
use Rattle.fuses.specs.Row.{keeps_rules, owns}
use Rattle.state.specs.declared.State.{State}
use Rattle.boards.specs.Boards.{Board, longest_memory}
use Rattle.boards.specs.declared.Grant.{Grant}
use Rattle.engine.specs.Steps.{World}
use Rattle.machine.specs.Entries.{step_entry, run_entry, of_ran}
use Rattle.records.specs.Records.{state_of}
use Rattle.slots.specs.Slots.{slot_at, write_entry, read_entry}
use Rattle.resume.specs.Resuming.{Bench, resume_entry}

-- ---- the rows of the table

-- 1: memory longer than 65,536
abbrev pub TooLong : Board → Type 0
TooLong b = longest_memory < length b.mem

-- 2: row not 512 bytes
abbrev pub NotARow : Board → Type 0
NotARow b = length b.row ≡ 512 → ⊥

-- 3: a row record breaks its rules
abbrev pub RecordBreaks : Board → Type 0
RecordBreaks b = (k : ℕ) × (k < 64) × (keeps_rules k b.row ≡ false)

-- 16: masks that share a bit
abbrev pub Shared : Grant → Type 0
Shared m = (k : ℕ) × (owns m.own k ≡ true) × (owns m.other k ≡ true)

-- 4: slot buffer not a multiple of 144, or no such slot
abbrev pub NoSlot : ℕ → List ℕ → Type 0
NoSlot k slots = (length slots % 144 ≡ 0 → ⊥) ⊎ (length slots / 144 ≤ k)

-- 5: an odd pc
abbrev pub OddPc : State → Type 0
OddPc s = s.pc % 2 ≡ 1

-- 14: a stop number out of range
abbrev pub NoStop : State → Type 0
NoStop s = 11 < s.stop

-- 15: an address that the stop number does not allow: it is not 3 to 9, nor 11
abbrev pub StrayAddress : State → Type 0
StrayAddress s = ((s.stop < 3) ⊎ ((9 < s.stop) × (s.stop ≡ 11 → ⊥))) × (s.address ≡ 0 → ⊥)

-- 15, on reading: bytes 137 to 143 break their rules: 137 to 139 are not zero, or 140 to 143 are such an address
abbrev pub EndBreaks : List ℕ → Type 0
EndBreaks r = (load 3 137 r ≡ 0 → ⊥) ⊎ StrayAddress (state_of r)

-- malformed by one of them
abbrev pub Malformed : State → Type 0
Malformed s = OddPc s ⊎ NoStop s ⊎ StrayAddress s

abbrev pub RecordMalformed : List ℕ → Type 0
RecordMalformed r = Malformed (state_of r) ⊎ (load 3 137 r ≡ 0 → ⊥)

-- ---- the order of the entries

-- the rows of memory, fuse row and masks, then those that follow
abbrev pub start_rows : Board → Grant → (ℕ → Type 0) → ℕ → Type 0
start_rows b m later = refusal 1 (TooLong b) (refusal 2 (NotARow b) (refusal 3 (RecordBreaks b) (refusal 16 (Shared m) later)))

-- those of a state, and of a record
abbrev pub state_rows : State → ℕ → Type 0
state_rows s = refusal 5 (OddPc s) (refusal 14 (NoStop s) (refusal 15 (StrayAddress s) no_refusal))

abbrev pub record_rows : List ℕ → ℕ → Type 0
record_rows r = refusal 5 (OddPc (state_of r)) (refusal 14 (NoStop (state_of r)) (refusal 15 (EndBreaks r) no_refusal))

-- those of step and run
abbrev pub machine_rows : World → ℕ → Type 0
machine_rows w = start_rows w.board w.grant (state_rows w.st)

abbrev pub write_rows : ℕ → State → List ℕ → ℕ → Type 0
write_rows k s slots = refusal 4 (NoSlot k slots) (state_rows s)

abbrev pub read_rows : ℕ → List ℕ → ℕ → Type 0
read_rows k slots = refusal 4 (NoSlot k slots) (record_rows (slot_at k slots))

abbrev pub resume_rows : ℕ → Bench → ℕ → Type 0
resume_rows k h = start_rows h.board h.grant (read_rows k h.slots)

-- ---- exactly if

abbrev pub StepRefuses : Type 0
StepRefuses = (w : World) → Refuses of_result (step_entry w) (machine_rows w)

abbrev pub RunRefuses : Type 0
RunRefuses = (b : ℕ) (w : World) → Refuses of_ran (run_entry b w) (machine_rows w)

abbrev pub WriteRefuses : Type 0
WriteRefuses = (k : ℕ) (s : State) (slots : List ℕ) → Refuses of_result (write_entry k s slots) (write_rows k s slots)

abbrev pub ReadRefuses : Type 0
ReadRefuses = (k : ℕ) (slots : List ℕ) → Refuses of_result (read_entry k slots) (read_rows k slots)

abbrev pub ResumeRefuses : Type 0
ResumeRefuses = (b k : ℕ) (h : Bench) → Refuses of_result (resume_entry b k h) (resume_rows k h)

-- ---- every lent byte kept

abbrev pub StepKeeps : Type 0
StepKeeps = (w : World) → Keeps of_result (step_entry w) w.board

abbrev pub RunKeeps : Type 0
RunKeeps = (b : ℕ) (w : World) → Keeps of_ran (run_entry b w) w.board

abbrev pub WriteKeeps : Type 0
WriteKeeps = (k : ℕ) (s : State) (slots : List ℕ) → Keeps of_result (write_entry k s slots) slots

abbrev pub ResumeKeeps : Type 0
ResumeKeeps = (b k : ℕ) (h : Bench) → Keeps of_result (resume_entry b k h) h

-- ---- the word that 3 tells

-- word k is the lowest whose record breaks the rules
abbrev pub LowestBroken : Board → ℕ → Type 0
LowestBroken b k = (k < 64) × (keeps_rules k b.row ≡ false) × ((j : ℕ) → j < k → keeps_rules j b.row ≡ true)

-- of a board that is refused with 3, that word; with any other number none
abbrev pub TellsLowest : Board → ℕ → Option ℕ → Type 0
TellsLowest b n told = (n ≡ 3 → (k : ℕ) × (told ≡ Some k) × LowestBroken b k) × ((n ≡ 3 → ⊥) → told ≡ None)

abbrev pub LowestWord : Type 0
LowestWord =
    ((w : World) (n : ℕ) → of_result (step_entry w).answer ≡ refused_with n → TellsLowest w.board n (word_told (step_entry w).answer))
    × ((b : ℕ) (w : World) (n : ℕ) → of_ran (run_entry b w).answer ≡ refused_with n → TellsLowest w.board n (word_told (run_entry b w).answer))
    × ((b k : ℕ) (h : Bench) (n : ℕ) → of_result (resume_entry b k h).answer ≡ refused_with n → TellsLowest h.board n (word_told (resume_entry b k h).answer))

-- of all refusals, 3 tells a word and no other does
abbrev pub OnlyThreeTells : Type 0
OnlyThreeTells = (r : Refusal) → (number_of r ≡ 3) ↔ ((k : ℕ) × (word_of r ≡ Some k))

-- ---- a refusal returns its number and no other fact; where a row is lent, but for that word

abbrev pub NoOtherFact : Type 0
NoOtherFact =
    SilentButWord of_result word_told step_entry
    × SilentButWord of_ran word_told (λ (i : ℕ × World). run_entry i.0 i.1)
    × Silent of_result (λ (i : ℕ × State × List ℕ). write_entry i.0 i.1 i.2)
    × Silent of_result (λ (i : ℕ × List ℕ). read_entry i.0 i.1)
    × SilentButWord of_result word_told (λ (i : ℕ × ℕ × Bench). resume_entry i.0 i.1 i.2)

-- ---- what is accepted is what was accepted when 5 stood for 5, 14 and 15, but that masks share no bit, and that there is a stop 11

-- a record: bytes 5 to 7 zero, and mark 1 with a value other than 0, or mark 0 with value 0
abbrev pub RowRecordBefore : ℕ → List ℕ → Type 0
RowRecordBefore k row =
    (load 3 (8 * k + 5) row ≡ 0)
    × (((load 1 (8 * k + 4) row ≡ 1) × (load 4 (8 * k) row ≡ 0 → ⊥)) ⊎ ((load 1 (8 * k + 4) row ≡ 0) × (load 4 (8 * k) row ≡ 0)))

-- those are the rules that refusal 3 asks for
abbrev pub RulesAsBefore : Type 0
RulesAsBefore = (k : ℕ) (row : List ℕ) → (keeps_rules k row ≡ true) ↔ RowRecordBefore k row

-- a board: memory of at most 65,536 bytes, a row of 512, and 64 such records
abbrev pub BoardBefore : Board → Type 0
BoardBefore b = (length b.mem ≤ 65536) × (length b.row ≡ 512) × ((k : ℕ) → k < 64 → RowRecordBefore k b.row)

-- a state: an even pc, a stop number of at most 11, and no address with stop 0, 1, 2 or 10
abbrev pub StateBefore : State → Type 0
StateBefore s = (s.pc % 2 ≡ 0) × (s.stop ≤ 11) × ((s.stop ≡ 0) ⊎ (s.stop ≡ 1) ⊎ (s.stop ≡ 2) ⊎ (s.stop ≡ 10) → s.address ≡ 0)

-- a slot that is there
abbrev pub SlotBefore : ℕ → List ℕ → Type 0
SlotBefore k slots = (length slots % 144 ≡ 0) × (k < length slots / 144)

-- its record: that of such a state, with bytes 137 to 139 zero
abbrev pub RecordBefore : List ℕ → Type 0
RecordBefore r = (load 3 137 r ≡ 0) × StateBefore (state_of r)

-- it is refused with no number exactly if so
abbrev pub AcceptedIf : {A B C : Type 0} → (A → Answer C) → Outcome A B → Type 0 → Type 0
AcceptedIf read o Holds = ((n : ℕ) → read o.answer ≡ refused_with n → ⊥) ↔ Holds

abbrev pub AcceptedAsBefore : Type 0
AcceptedAsBefore =
    ((w : World) → AcceptedIf of_result (step_entry w) (BoardBefore w.board × (Shared w.grant → ⊥) × StateBefore w.st))
    × ((b : ℕ) (w : World) → AcceptedIf of_ran (run_entry b w) (BoardBefore w.board × (Shared w.grant → ⊥) × StateBefore w.st))
    × ((k : ℕ) (s : State) (slots : List ℕ) → AcceptedIf of_result (write_entry k s slots) (SlotBefore k slots × StateBefore s))
    × ((k : ℕ) (slots : List ℕ) → AcceptedIf of_result (read_entry k slots) (SlotBefore k slots × RecordBefore (slot_at k slots)))
    × ((b k : ℕ) (h : Bench) → AcceptedIf of_result (resume_entry b k h) (BoardBefore h.board × (Shared h.grant → ⊥) × (SlotBefore k h.slots × RecordBefore (slot_at k h.slots))))
