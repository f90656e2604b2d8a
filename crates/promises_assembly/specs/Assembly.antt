-- What is promised of the assembler, in the paper's numbers. Each statement is proved in proofs/Assembly.antt.
use Rattle.std.specs.Prelude.{◌≡◌, ◌↔◌, ◌⊎◌, List, [], ◌++◌, ℕ, suc, ◌^◌, ◌≤◌, ◌<◌, length, drop}
use Rattle.answers.specs.Answer.{given}
use Rattle.answers.specs.Outcomes.{Outcome, outcome}
use Rattle.answers.specs.Entries.{Refuses, Keeps}
use Rattle.answers.specs.Order.{refusal, no_refusal}
use Rattle.answers.specs.Refusals.{number_of}
use Rattle.answers.specs.declared.Refusal.{Refusal}
use Rattle.ascii.specs.Ascii.{bytes}
use Rattle.isa.specs.declared.Inst.{Inst}
use Rattle.octets.specs.Bytes.{little_endian}
use Rattle.text.specs.Text.{text_of, short_text_of}
use Rattle.assembly.specs.Places.{UnreadableAt, WrongNumberAt, NoHalfAt}
use Rattle.assembler.specs.Entry.{Assembled, refused_line, assemble_entry, of_assembled}
use Rattle.c_assembly.specs.Assembly.{assemble_call}
use Rattle.promises_codes.specs.Instructions.{decodes, expands}

-- ---- what lines give

-- the smallest halfword that stands for an instruction
abbrev pub Smallest : Inst → ℕ → Type 0
Smallest i k = (k < 2 ^ 16) × (expands k ≡ given i) × ((h : ℕ) → h < 2 ^ 16 → expands h ≡ given i → k ≤ h)

-- the line of a legal instruction as the disassembler writes it: of 32 bits it gives its own bits, of 16 the smallest halfword with the same expansion
pub data LineGives : List ℕ → List ℕ → Type 0 where
  word : (w : ℕ) (i : Inst) → w < 2 ^ 32 → decodes w ≡ given i → LineGives (text_of i ++ bytes "\n") (little_endian 4 w)
  half : (h k : ℕ) (i : Inst) → h < 2 ^ 16 → expands h ≡ given i → Smallest i k → LineGives (short_text_of i ++ bytes "\n") (little_endian 2 k)

-- such lines one after another, and what they give
pub data LinesGive : List ℕ → List ℕ → Type 0 where
  none : LinesGive [] []
  line : {l bs text out : List ℕ} → LineGives l bs → LinesGive text out → LinesGive (l ++ text) (bs ++ out)

-- the answer is the length; the output stands at the front of the room, and bytes of the room beyond it stay
abbrev pub Fills : Outcome Assembled (List ℕ) → List ℕ → List ℕ → Type 0
Fills o out room = (of_assembled o.answer ≡ given (length out)) × (o.lent ≡ out ++ drop (length out) room)

-- such lines, whose output stands in the room
abbrev pub Assembles : List ℕ → List ℕ → Type 0
Assembles text room = (out : List ℕ) × LinesGive text out × Fills (assemble_entry text room) out room

-- every legal 32-bit instruction listed and read back gives its own bits
abbrev pub WordBack : Type 0
WordBack = (w : ℕ) (i : Inst) (room : List ℕ) → w < 2 ^ 32 → 4 ≤ length room → decodes w ≡ given i → Fills (assemble_entry (text_of i ++ bytes "\n") room) (little_endian 4 w) room

-- a halfword gives the smallest one with the same expansion
abbrev pub HalfBack : Type 0
HalfBack =
    (h k : ℕ) (i : Inst) (room : List ℕ) → h < 2 ^ 16 → 2 ≤ length room → expands h ≡ given i → Smallest i k
    → Fills (assemble_entry (short_text_of i ++ bytes "\n") room) (little_endian 2 k) room

-- so do any lines of them
abbrev pub LinesBack : Type 0
LinesBack = (text out room : List ℕ) → LinesGive text out → length out ≤ length room → Fills (assemble_entry text room) out room

-- and nothing else is accepted: every accepted line is the text of the instruction that it gives
abbrev pub OnlyLines : Type 0
OnlyLines = (text room : List ℕ) (n : ℕ) → of_assembled (assemble_entry text room).answer ≡ given n → Assembles text room

-- empty text gives nothing
abbrev pub EmptyText : Type 0
EmptyText = (room : List ℕ) → Fills (assemble_entry [] room) [] room

-- ---- refusals, with line and byte

-- the first line of a text is at fault by this number and byte
pub data AtFault : List ℕ → ℕ → ℕ → Type 0 where
  unreadable : {text : List ℕ} {p : ℕ} → UnreadableAt text p → AtFault text 10 p
  wrong_number : {text : List ℕ} {p : ℕ} → WrongNumberAt text p → AtFault text 11 p
  no_half : {text : List ℕ} {p : ℕ} → NoHalfAt text p → AtFault text 12 p

-- lines that give something, and then one that is at fault: its number, line and byte
pub data FirstFault : List ℕ → ℕ → ℕ → ℕ → Type 0 where
  here : {text : List ℕ} {n p : ℕ} → 0 < length text → AtFault text n p → FirstFault text n 0 p
  later : {l bs text : List ℕ} {n k p : ℕ} → LineGives l bs → FirstFault text n k p → FirstFault (l ++ text) n (suc k) p

-- no line is at fault
abbrev pub NoFault : List ℕ → Type 0
NoFault text = (n k p : ℕ) → FirstFault text n k p → ⊥

-- then a room as long as the text suffices
abbrev pub RoomSuffices : Type 0
RoomSuffices = (text room : List ℕ) → NoFault text → length text ≤ length room → Assembles text room

-- 13: no line is at fault, and the room is shorter than the whole output
abbrev pub ShortRoom : List ℕ → List ℕ → Type 0
ShortRoom text room = (out : List ℕ) × LinesGive text out × (length room < length out)

abbrev pub RefusedAt : Assembled → ℕ → ℕ → ℕ → Type 0
RefusedAt a n k p = (r : Refusal) × (a ≡ refused_line r k p) × (number_of r ≡ n)

-- the first line at fault decides; 13 has line 0 and byte 0
abbrev pub RefusesAt : Type 0
RefusesAt =
    (text room : List ℕ) (n k p : ℕ)
    → RefusedAt (assemble_entry text room).answer n k p ↔ (FirstFault text n k p ⊎ (ShortRoom text room × (n ≡ 13) × (k ≡ 0) × (p ≡ 0)))

-- of no text are there two
abbrev pub OneFault : Type 0
OneFault = (text : List ℕ) (m j p n k q : ℕ) → FirstFault text m j p → FirstFault text n k q → (m ≡ n) × (j ≡ k) × (p ≡ q)

-- the numbers alone, each exactly if its row is the first that holds
abbrev pub Faulty : List ℕ → ℕ → Type 0
Faulty text n = (k p : ℕ) × FirstFault text n k p

abbrev pub AssembleRefuses : Type 0
AssembleRefuses =
    (text room : List ℕ)
    → Refuses of_assembled (assemble_entry text room)
    (refusal 10 (Faulty text 10) (refusal 11 (Faulty text 11) (refusal 12 (Faulty text 12) (refusal 13 (ShortRoom text room) no_refusal))))

-- every byte of the room kept
abbrev pub AssembleKeeps : Type 0
AssembleKeeps = (text room : List ℕ) → Keeps of_assembled (assemble_entry text room) room

-- accepted, the room is as long as it was, and its bytes beyond the output are as they were
abbrev pub RestStays : Type 0
RestStays =
    (text room : List ℕ) (n : ℕ) → of_assembled (assemble_entry text room).answer ≡ given n
    → (length (assemble_entry text room).lent ≡ length room) × (drop n (assemble_entry text room).lent ≡ drop n room)

-- ---- the C call

-- the line and the byte of the first line at fault, with 10, 11 or 12, stand in their places, and length and room stay; or no line is at fault, and with 0 and 13 both places stay
abbrev pub PlacesTold : Type 0
PlacesTold =
    (text room : List ℕ) (len line byte : ℕ)
    → let call = assemble_call text room len (line, byte) in
    ((n k p : ℕ) × FirstFault text n k p × (call ≡ outcome n ((len, (k, p)), room)))
    ⊎ (NoFault text × ((call.answer ≡ 0) ⊎ (call.answer ≡ 13)) × (call.lent.0.1 ≡ (line, byte)))
