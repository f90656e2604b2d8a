-- The stop numbers, as the paper's table lists them, and the address that belongs to a stop; 0 is no stop: paused, can go on.
use Rattle.std.specs.Prelude.{ℕ, Bool, ◌&&◌, ◌||◌, ◌⊎◌, ◌≡◌, eqb, leb}
use Rattle.answers.specs.declared.Cause.{Cause}
use Rattle.answers.specs.declared.Stop.{Stop}
use Rattle.answers.specs.declared.Stop.TheVariants.{Ecall, Ebreak, IllegalInstruction, FetchOutside, LoadMisaligned, LoadOutside, StoreMisaligned, StoreOutside, AlreadyBurnt, CountFull, NotOwned}

abbrev pub stop_number : Stop → ℕ
stop_number Ecall = 1
stop_number Ebreak = 2
stop_number IllegalInstruction = 3
stop_number FetchOutside = 4
stop_number LoadMisaligned = 5
stop_number LoadOutside = 6
stop_number StoreMisaligned = 7
stop_number StoreOutside = 8
-- word already burnt
stop_number AlreadyBurnt = 9
stop_number CountFull = 10
-- word not in the own mask
stop_number NotOwned = 11

-- the highest of them
abbrev pub last_stop : ℕ
last_stop = 11

-- stops 3 to 9 and 11 have an address
abbrev pub located : ℕ → Bool
located n = (leb 3 n && leb n 9) || eqb n 11

-- paused, ecall, ebreak and count full have none
abbrev pub HasNoAddress : ℕ → Type 0
HasNoAddress n = (n ≡ 0) ⊎ (n ≡ 1) ⊎ (n ≡ 2) ⊎ (n ≡ 10)

-- a stop with its address
abbrev pub cause : Stop → ℕ → Cause
cause stop address = record { stop = stop; address = address }

-- a stop that has none: zero
abbrev pub nowhere : Stop → Cause
nowhere stop = cause stop 0
