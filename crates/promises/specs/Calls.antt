-- Demand 1 for the C calls of steps, runs and slots: what they return, and what they leave in each place and buffer. A state is lent to them as its record of 144 bytes.
-- Each statement is proved in proofs/Calls.antt.
use Rattle.std.specs.Prelude.{◌≡◌, ◌↔◌, ◌⊎◌, List, ℕ, ◌+◌, ◌*◌, ◌^◌, length, take, drop}
use Rattle.answers.specs.Answer.{given, refused_with}
use Rattle.answers.specs.Outcomes.{outcome}
use Rattle.answers.specs.Order.{refusal}
use Rattle.word.specs.Bounds.{AllBelow}
use Rattle.state.specs.declared.State.{State}
use Rattle.boards.specs.Boards.{Board}
use Rattle.engine.specs.Steps.{World, masked}
use Rattle.machine.specs.Entries.{run_entry, of_ran}
use Rattle.records.specs.Records.{record_of, state_of}
use Rattle.slots.specs.Slots.{slot_at}
use Rattle.resume.specs.Resuming.{Bench, bench_on}
use Rattle.c_slots.specs.Slots.{write_call}
use Rattle.run_calls.specs.Runs.{resume_call, run_call, step_call}
use Rattle.promises.specs.Refusals.{NoSlot, RecordMalformed, LowestBroken, start_rows, record_rows, resume_rows}

-- ---- the word's place

-- it has the lowest word whose record breaks the rules where the call returns 3, which leaves all else as it was; with any other number, 0 among them, it is as it was
abbrev pub TellsIn : Board → ℕ → ℕ → ℕ → Type 0 → Type 0
TellsIn b returned before after Kept = ((returned ≡ 3) × LowestBroken b after × Kept) ⊎ ((returned ≡ 3 → ⊥) × (after ≡ before))

abbrev pub WordTold : Type 0
WordTold =
    ((b k : ℕ) (h : Bench) (retired word : ℕ)
    → TellsIn h.board (resume_call b k h retired word).answer word (resume_call b k h retired word).lent.0.1
    (((resume_call b k h retired word).lent.0.0 ≡ retired) × ((resume_call b k h retired word).lent.1 ≡ h)))
    × ((b : ℕ) (h : Bench) (retired word : ℕ)
    → TellsIn h.board (run_call b h retired word).answer word (run_call b h retired word).lent.0.1
    (((run_call b h retired word).lent.0.0 ≡ retired) × ((run_call b h retired word).lent.1 ≡ h)))
    × ((h : Bench) (word : ℕ) → TellsIn h.board (step_call h word).answer word (step_call h word).lent.0 ((step_call h word).lent.1 ≡ h))

-- ---- the number returned

-- a number other than 0 exactly if it is that of the first of these rows that holds
abbrev pub Returns : ℕ → (ℕ → Type 0) → Type 0
Returns returned rows = (n : ℕ) → ((returned ≡ n) × (n ≡ 0 → ⊥)) ↔ rows n

-- run and step: 1, 2, 3, 16, 5, 14 and 15, never 4; a run of a slot: 1, 2, 3, 16, 4, 5, 14 and 15; refused, they leave everything as it was, but for the word's place
abbrev pub CallsRefuse : Type 0
CallsRefuse =
    ((b : ℕ) (h : Bench) (retired word : ℕ) → length h.slots ≡ 144
    → Returns (run_call b h retired word).answer (start_rows h.board h.grant (record_rows h.slots))
    × (((run_call b h retired word).answer ≡ 0 → ⊥) → ((run_call b h retired word).lent.0.0 ≡ retired) × ((run_call b h retired word).lent.1 ≡ h)))
    × ((h : Bench) (word : ℕ) → length h.slots ≡ 144
    → Returns (step_call h word).answer (start_rows h.board h.grant (record_rows h.slots)) × (((step_call h word).answer ≡ 0 → ⊥) → (step_call h word).lent.1 ≡ h))
    × ((b k : ℕ) (h : Bench) (retired word : ℕ)
    → Returns (resume_call b k h retired word).answer (resume_rows k h)
    × (((resume_call b k h retired word).answer ≡ 0 → ⊥) → ((resume_call b k h retired word).lent.0.0 ≡ retired) × ((resume_call b k h retired word).lent.1 ≡ h)))

-- the slot first, then the record; refused, the slots are left, and else slot k has the record's bytes and the others are as they were
abbrev pub WriteCallRefuses : Type 0
WriteCallRefuses =
    (state : List ℕ) (k : ℕ) (slots : List ℕ) → length state ≡ 144 → AllBelow (2 ^ 8) state
    → Returns (write_call state k slots).answer (refusal 4 (NoSlot k slots) (record_rows state))
    × (((write_call state k slots).answer ≡ 0 → ⊥) → (write_call state k slots).lent.1 ≡ slots)
    × ((write_call state k slots).answer ≡ 0
    → (take (144 * k) (write_call state k slots).lent.1 ≡ take (144 * k) slots)
    × (slot_at k (write_call state k slots).lent.1 ≡ state)
    × (drop (144 * k + 144) (write_call state k slots).lent.1 ≡ drop (144 * k + 144) slots))

-- ---- the call and the entry

-- the state that a lent record says, on the board
abbrev pub lent_world : Bench → World
lent_world h = masked h.grant (state_of h.slots) h.board

-- of a record that is not malformed, the call is the entry's run of its state: the number retired in its place, the board, and the last state's record; or the same refusal
abbrev pub RunCallIsRun : Type 0
RunCallIsRun =
    (b : ℕ) (h : Bench) (retired word : ℕ) → length h.slots ≡ 144 → (RecordMalformed h.slots → ⊥)
    → ((s : State) (n : ℕ) → of_ran (run_entry b (lent_world h)).answer ≡ given (s, n)
    → run_call b h retired word ≡ outcome 0 ((n, word), bench_on h (run_entry b (lent_world h)).lent (record_of s)))
    × ((n : ℕ) → of_ran (run_entry b (lent_world h)).answer ≡ refused_with n → (run_call b h retired word).answer ≡ n)
