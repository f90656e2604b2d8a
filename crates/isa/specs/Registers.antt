-- Registers: a register number is 0 to 31 and nothing else.
use Rattle.std.specs.Prelude.{ℕ, cond, ltb, None, Option, Some}
use Rattle.isa.specs.declared.Reg.{Reg}

abbrev pub reg : ℕ → Reg
reg n = record { number = n }

abbrev pub register : ℕ → Option Reg
register n = cond (ltb n 32) (Some (reg n)) None

abbrev pub x0 : Reg
x0 = reg 0

-- the link register, x1 or ra
abbrev pub ra : Reg
ra = reg 1

-- the stack pointer, x2 or sp
abbrev pub sp : Reg
sp = reg 2
