-- What is promised of the text of an instruction and of the listing, in the paper's numbers. Each statement is proved in proofs/Text.antt.
use Rattle.std.specs.Prelude.{◌≡◌, true, false, List, [], ◌∷◌, ◌++◌, ℕ, ◌-◌, ◌^◌, ◌≤◌, ◌<◌, length, drop, Result}
use Rattle.answers.specs.Answer.{given, refused_with, of_result}
use Rattle.answers.specs.Outcomes.{Outcome}
use Rattle.answers.specs.Entries.{Refuses, Keeps}
use Rattle.answers.specs.Order.{refusal, no_refusal}
use Rattle.ascii.specs.Ascii.{bytes}
use Rattle.ascii.specs.declared.Cursor.{Cursor}
use Rattle.ascii.specs.Rooms.{Wrote, Appended}
use Rattle.isa.specs.declared.Inst.{Inst}
use Rattle.isa.specs.declared.Inst.TheVariants.{Imm}
use Rattle.isa.specs.declared.ImmOp.TheVariants.{Addi, Sltiu}
use Rattle.isa.specs.Registers.{reg}
use Rattle.isa.specs.Encoding.{in_range}
use Rattle.word.specs.Bounds.{AllBelow}
use Rattle.text.specs.Text.{text_of, short_text_of}
use Rattle.disassembler.specs.Entries.{word_entry, half_entry, inst_entry}
use Rattle.listing.specs.declared.Listed.{Listed}
use Rattle.listing.specs.Listing.{Lines, lines, before, page_of, listing, list_entry}
use Rattle.promises_codes.specs.Instructions.{decodes, expands}
use Rattle.answers.specs.declared.Refusal.{Refusal}

-- ---- refusals, each exactly if its row of the table is the first that holds

-- 6: text room under 24 bytes
abbrev pub SmallRoom : List ℕ → Type 0
SmallRoom room = length room < 24

-- 7: no legal instruction in the given bits
abbrev pub WordTextRefuses : Type 0
WordTextRefuses =
    (w : ℕ) (room : List ℕ) → Refuses of_result (word_entry w room) (refusal 6 (SmallRoom room) (refusal 7 (decodes w ≡ refused_with 7) no_refusal))

abbrev pub HalfTextRefuses : Type 0
HalfTextRefuses =
    (h : ℕ) (room : List ℕ) → Refuses of_result (half_entry h room) (refusal 6 (SmallRoom room) (refusal 7 (expands h ≡ refused_with 7) no_refusal))

-- 8: a field out of range, or an odd branch or jal offset
abbrev pub TextRefuses : Type 0
TextRefuses = (i : Inst) (room : List ℕ) → Refuses of_result (inst_entry i room) (refusal 6 (SmallRoom room) (refusal 8 (in_range i ≡ false) no_refusal))

-- every byte of the room kept
abbrev pub TextKeeps : Type 0
TextKeeps =
    (room : List ℕ)
    → ((w : ℕ) → Keeps of_result (word_entry w room) room)
    × ((h : ℕ) → Keeps of_result (half_entry h room) room)
    × ((i : Inst) → Keeps of_result (inst_entry i room) room)

-- ---- the text: the answer is its length; it stands at the front of the room, and bytes of the room after it stay

abbrev pub Fills : Outcome (Result ℕ Refusal) (List ℕ) → List ℕ → List ℕ → Type 0
Fills o text room = (of_result o.answer ≡ given (length text)) × (o.lent ≡ text ++ drop (length text) room)

abbrev pub WordText : Type 0
WordText = (w : ℕ) (i : Inst) (room : List ℕ) → 24 ≤ length room → decodes w ≡ given i → Fills (word_entry w room) (text_of i) room

-- of a short instruction it is its expansion's with c: in front
abbrev pub HalfText : Type 0
HalfText = (h : ℕ) (i : Inst) (room : List ℕ) → 24 ≤ length room → expands h ≡ given i → Fills (half_entry h room) (bytes "c:" ++ text_of i) room

abbrev pub InstText : Type 0
InstText = (i : Inst) (room : List ℕ) → 24 ≤ length room → in_range i ≡ true → Fills (inst_entry i room) (text_of i) room

-- ---- how long a text is

-- none is longer than 19 bytes, which sltiu x31,x31,-2048 has
abbrev pub longest_text : Inst
longest_text = Imm Sltiu (reg 31) (reg 31) (2 ^ 32 - 2048)

abbrev pub TextFits : Type 0
TextFits = ((i : Inst) → in_range i ≡ true → length (text_of i) ≤ 19) × (in_range longest_text ≡ true) × (length (text_of longest_text) ≡ 19)

-- with c: in front none is longer than 18, which c:addi x31,x31,-32 has: so 24 bytes hold every text
abbrev pub longest_short_text : Inst
longest_short_text = Imm Addi (reg 31) (reg 31) (2 ^ 32 - 32)

abbrev pub ShortTextFits : Type 0
ShortTextFits =
    ((h : ℕ) (i : Inst) → expands h ≡ given i → length (short_text_of i) ≤ 18)
    × (expands 0x1F81 ≡ given longest_short_text)
    × (length (short_text_of longest_short_text) ≡ 18)

-- ---- a text determines its instruction

abbrev pub TextDetermines : Type 0
TextDetermines = (i j : Inst) → in_range i ≡ true → in_range j ≡ true → text_of i ≡ text_of j → i ≡ j

-- and with c: in front it is never the text of 32 bits
abbrev pub ShortIsNotLong : Type 0
ShortIsNotLong = (i j : Inst) → short_text_of i ≡ text_of j → ⊥

-- ---- the listing: pages into rooms of any lengths, each from where the last one ended

abbrev pub pages : List ℕ → List ℕ → ℕ → Lines
pages image [] a = lines [] a
pages image (room ∷ rooms) a = before (page_of image room a) (pages image rooms (page_of image room a).next)

-- once the end is reached, what was written is the listing
abbrev pub PagesAreListing : Type 0
PagesAreListing = (image rooms : List ℕ) → length image ≤ (pages image rooms 0).next → (pages image rooms 0).text ≡ listing image

-- and each room of at least 38 bytes brings it nearer
abbrev pub PageMoves : Type 0
PageMoves = (image : List ℕ) (room a : ℕ) → a < length image → 38 ≤ room → a < (page_of image room a).next

-- a page of bytes lies within its room
abbrev pub PageFits : Type 0
PageFits = (image : List ℕ) (room a : ℕ) → AllBelow (2 ^ 8) image → length (page_of image room a).text ≤ room

-- bytes of the room after the page stay, and so does their number
abbrev pub RestKept : Outcome Listed (List ℕ) → List ℕ → Type 0
RestKept p room = (drop p.answer.length p.lent ≡ drop p.answer.length room) × (length p.lent ≡ length room)

abbrev pub PageKeeps : Type 0
PageKeeps = (image : List ℕ) (a : ℕ) (room : List ℕ) → AllBelow (2 ^ 8) image → RestKept (list_entry image a room) room

-- empty input writes nothing; over 65,536 bytes it writes only the line `too long`
abbrev pub EmptyListing : Type 0
EmptyListing = listing [] ≡ []

abbrev pub LongListing : Type 0
LongListing = (image : List ℕ) → 65536 < length image → listing image ≡ bytes "too long\n"

-- FF FF 01
abbrev pub OddListing : Type 0
OddListing = listing (0xFF ∷ 0xFF ∷ 0x01 ∷ []) ≡ bytes "00000000 ffff ?\n00000002 01 ?\n"

-- 9D 42 37 03 00 80 23 20 53 00 73 00 00 00
abbrev pub PaperListing : Type 0
PaperListing =
    listing (0x9D ∷ 0x42 ∷ 0x37 ∷ 0x03 ∷ 0x00 ∷ 0x80 ∷ 0x23 ∷ 0x20 ∷ 0x53 ∷ 0x00 ∷ 0x73 ∷ 0x00 ∷ 0x00 ∷ 0x00 ∷ [])
    ≡ bytes "00000000 429d c:addi x5,x0,7\n00000002 80000337 lui x6,524288\n00000006 00532023 sw x5,0(x6)\n0000000a 00000073 ecall\n"

-- ---- the contract of a writer leaves no choice: any two outcomes that it allows are the same

abbrev pub WroteDetermined : Type 0
WroteDetermined =
    (room : List ℕ) (at : ℕ) (text r₁ r₂ : List ℕ) (m n : ℕ) → Wrote room at text r₁ m → Wrote room at text r₂ n → (r₁ ≡ r₂) × (m ≡ n)

-- by a cursor: the same room, the same bytes in it and the same place
abbrev pub AppendedDetermined : Type 0
AppendedDetermined =
    (c : Cursor) (text : List ℕ) (d e : Cursor) → Appended c text d → Appended c text e
    → (d.room.ghost_name ≡ e.room.ghost_name) × (d.room.now ≡ e.room.now) × (d.at ≡ e.at)
