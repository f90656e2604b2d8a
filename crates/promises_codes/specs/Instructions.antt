-- What is promised of builder, decoder, encoder, expander, shortener and chart, in the paper's numbers, and of these numbers. Each statement is proved in
-- proofs/Instructions.antt, those of the numbers in proofs/Numbers.antt.
use Rattle.std.specs.Prelude.{◌≡◌, true, false, ◌↔◌, ◌⊎◌, ℕ, ◌%◌, ◌^◌, ◌≤◌, ◌<◌}
use Rattle.answers.specs.declared.Refusal.{Refusal}
use Rattle.answers.specs.declared.Stop.{Stop}
use Rattle.answers.specs.Refusals.{number_of, word_of}
use Rattle.answers.specs.Stops.{stop_number, last_stop}
use Rattle.answers.specs.Answer.{Answer, given, refused_with, refused}
use Rattle.answers.specs.Replies.{told}
use Rattle.isa.specs.declared.Inst.{Inst}
use Rattle.isa.specs.declared.Parts.{Parts}
use Rattle.isa.specs.Registers.{reg, register}
use Rattle.isa.specs.Operations.{parts_of}
use Rattle.isa.specs.Building.{inst_of}
use Rattle.isa.specs.Decoding.{decoded}
use Rattle.isa.specs.Encoding.{in_range, encoded}
use Rattle.isa.specs.Rvc.{expanded}
use Rattle.isa.specs.Shortening.{shortened}
use Rattle.isa.specs.Answers.{of_named, of_built, of_decoded, of_encoded, of_shortened}
use Rattle.chart.specs.Chart.{charted, filled, count}
use Rattle.promises_codes.specs.Halfwords.{illegal_half}

-- ---- the answers of the five functions, as their contracts give them

-- of five numbers: the operation's place in the paper's order, rd, rs1, rs2 and the immediate
abbrev pub builds : Parts → Answer Inst
builds p = of_built (inst_of p)

abbrev pub decodes : ℕ → Answer Inst
decodes w = of_decoded (decoded w)

abbrev pub encodes : Inst → Answer ℕ
encodes i = of_encoded (encoded i)

abbrev pub expands : ℕ → Answer Inst
expands h = of_decoded (expanded h)

abbrev pub shortens : Inst → Answer ℕ
shortens i = of_shortened (shortened i)

-- the registers that an instruction has are 0 to 31
abbrev pub RegistersBelow32 : Inst → Type 0
RegistersBelow32 i = ((parts_of i).rd < 32) × ((parts_of i).rs1 < 32) × ((parts_of i).rs2 < 32)

-- ---- refusals, each exactly if

-- a register number is 0 to 31 and nothing else; any other is 8
abbrev pub Registers : Type 0
Registers = (n : ℕ) → ((of_named (register n) ≡ given (reg n)) ↔ (n < 32)) × ((of_named (register n) ≡ refused_with 8) ↔ (32 ≤ n))

-- 7: no legal instruction in the given 32 bits, that is, no instruction is encoded so
abbrev pub DecodeRefuses : Type 0
DecodeRefuses = (w : ℕ) → w < 2 ^ 32 → (decodes w ≡ refused_with 7) ↔ ((i : Inst) → encodes i ≡ given w → ⊥)

-- 7: the given 16 bits are illegal by the paper's list (Halfwords.antt)
abbrev pub ExpandRefuses : Type 0
ExpandRefuses = (h : ℕ) → h < 2 ^ 16 → (expands h ≡ refused_with 7) ↔ (illegal_half h ≡ true)

-- 8: a field out of range, or an odd branch or jal offset (`in_range`)
abbrev pub EncodeRefuses : Type 0
EncodeRefuses = (i : Inst) → (encodes i ≡ refused_with 8) ↔ (in_range i ≡ false)

-- 8, then 9: no halfword stands for it
abbrev pub ShortenRefuses : Type 0
ShortenRefuses = (i : Inst) → (shortens i ≡ refused_with 8) ↔ (in_range i ≡ false)

abbrev pub ShortFormRefuses : Type 0
ShortFormRefuses = (i : Inst) → (shortens i ≡ refused_with 9) ↔ ((in_range i ≡ true) × ((h : ℕ) → h < 2 ^ 16 → expands h ≡ given i → ⊥))

-- 8: five numbers that no instruction with registers 0 to 31 has
abbrev pub BuildRefuses : Type 0
BuildRefuses = (p : Parts) → (builds p ≡ refused_with 8) ↔ ((i : Inst) → RegistersBelow32 i → parts_of i ≡ p → ⊥)

-- low two bits that belong to the other width give 7
abbrev pub OtherWidth : Type 0
OtherWidth = ((w : ℕ) → (w % 4 ≡ 3 → ⊥) → decodes w ≡ refused_with 7) × ((h : ℕ) → h % 4 ≡ 3 → expands h ≡ refused_with 7)

-- ---- round trips

-- for every legal 32-bit instruction decoding and encoding undo each other
abbrev pub DecodeOfEncode : Type 0
DecodeOfEncode = (i : Inst) (w : ℕ) → encodes i ≡ given w → decodes w ≡ given i

abbrev pub EncodeOfDecode : Type 0
EncodeOfDecode = (w : ℕ) (i : Inst) → w < 2 ^ 32 → decodes w ≡ given i → encodes i ≡ given w

-- what a halfword stands for has a word
abbrev pub ExpansionEncodes : Type 0
ExpansionEncodes = (h : ℕ) (i : Inst) → h < 2 ^ 16 → expands h ≡ given i → (w : ℕ) × (encodes i ≡ given w)

-- expanding what shortening gave is the instruction, and no smaller halfword stands for it
abbrev pub ExpandOfShorten : Type 0
ExpandOfShorten = (i : Inst) (h : ℕ) → shortens i ≡ given h → (h < 2 ^ 16) × (expands h ≡ given i) × ((k : ℕ) → k < 2 ^ 16 → expands k ≡ given i → h ≤ k)

-- shortening what a halfword stands for gives a halfword, by the above the smallest with the same expansion
abbrev pub ShortenOfExpand : Type 0
ShortenOfExpand = (h : ℕ) (i : Inst) → h < 2 ^ 16 → expands h ≡ given i → (k : ℕ) × (shortens i ≡ given k) × (k ≤ h)

-- five numbers and instructions undo each other: an instruction whose registers are below 32 comes back from its numbers
abbrev pub BuildOfParts : Type 0
BuildOfParts = (i : Inst) → RegistersBelow32 i → builds (parts_of i) ≡ given i

-- .. and the numbers that an instruction comes from are its own, 0 for each operand that it does not have
abbrev pub PartsOfBuild : Type 0
PartsOfBuild = (p : Parts) (i : Inst) → builds p ≡ given i → parts_of i ≡ p

-- ---- the chart

-- a legal 32-bit instruction never has entry 0
abbrev pub LegalCharted : Type 0
LegalCharted = (w : ℕ) (i : Inst) → decodes w ≡ given i → charted w ≡ 0 → ⊥

-- 57 of its 256 entries are not 0
abbrev pub ChartFilled : Type 0
ChartFilled = count filled 256 ≡ 57

-- ---- the numbers themselves

-- every refusal's number is 1 to 16, and no two have one number, but for the word that 3 tells
abbrev pub RefusalNumbers : Type 0
RefusalNumbers = ((r : Refusal) → (1 ≤ number_of r) × (number_of r ≤ 16)) × ((r s : Refusal) → number_of r ≡ number_of s → word_of r ≡ word_of s → r ≡ s)

-- every stop's number is 1 to 11, and no two have one number
abbrev pub StopNumbers : Type 0
StopNumbers = ((s : Stop) → (1 ≤ stop_number s) × (stop_number s ≤ last_stop)) × ((s t : Stop) → stop_number s ≡ stop_number t → s ≡ t)

-- an answer gives values, or it is one of the refusals
abbrev pub IsGiven : {A : Type 0} → Answer A → Type 0
IsGiven {A} a = (v : A) × (a ≡ given v)

abbrev pub IsRefused : {A : Type 0} → Answer A → Type 0
IsRefused a = (r : Refusal) × (a ≡ refused r)

-- so a C call returns 0 exactly if it gives values, which then stand in the lent place; a refused call leaves the place as it was
abbrev pub Replies : Type 1
Replies =
    (A : Type 0) (a : Answer A) (place : A) → IsGiven a ⊎ IsRefused a
    → (((told a place).answer ≡ 0) ↔ IsGiven a) × ((v : A) → a ≡ given v → (told a place).lent ≡ v) × (IsRefused a → (told a place).lent ≡ place)
