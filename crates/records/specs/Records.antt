-- A state's record of 144 bytes: 0 to 3 pc, 4 to 127 x1 to x31, 128 to 135 the retired count, 136 the stop number, 137 to 139 zero, 140 to 143 the address; all little-endian.
use Rattle.std.specs.Prelude.{ℕ, zero, suc, List, [], ◌∷◌, ◌++◌, take, drop, eqb}
use Rattle.octets.specs.Bytes.{little_endian, of_little_endian, load}
use Rattle.state.specs.declared.State.{State}
use Rattle.state.specs.States.{state, form_checked}
use Rattle.answers.specs.Checks.{Check}

-- numbers as four bytes each, one after the other
unfoldable pub words : List ℕ → List ℕ
words [] = []
words (v ∷ vs) = little_endian 4 v ++ words vs

-- the n numbers that so many times four bytes say
unfoldable pub of_words : ℕ → List ℕ → List ℕ
of_words zero m = []
of_words (suc n) m = of_little_endian (take 4 m) ∷ of_words n (drop 4 m)

unfoldable pub record_of : State → List ℕ
record_of s = little_endian 4 s.pc ++ words s.x ++ little_endian 8 s.count ++ little_endian 1 s.stop ++ little_endian 3 0 ++ little_endian 4 s.address

unfoldable pub state_of : List ℕ → State
state_of m = state (load 4 0 m) (of_words 31 (drop 4 m)) (load 8 128 m) (load 1 136 m) (load 4 140 m)

-- refusals 5, 14 and 15 of a record: those of its state, and its bytes 137 to 139 are zero
abbrev pub record_checked : List ℕ → Check
record_checked m = form_checked (eqb (load 3 137 m) 0) (state_of m)
