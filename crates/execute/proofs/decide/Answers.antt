-- `execute::decide` meets its contract: each arm is the row of `act_of` for its instruction, over what the calls ensure.
use Rattle.execute.specs.Execution.{act_of}
use Rattle.execute.proofs.decide.Goals as goal

pub returns-in-Lui : goal.returns-in-Lui
unfolding act_of
returns-in-Lui c = rw (c.upper_field.ensures, c.in-Lui.is)

pub returns-in-Auipc : goal.returns-in-Auipc
unfolding act_of
returns-in-Auipc c = rw (c.add.ensures, c.upper_field-in-Auipc.ensures, c.in-Auipc.is)

pub returns-in-Jal : goal.returns-in-Jal
unfolding act_of
returns-in-Jal c = rw (c.add-in-Jal.ensures, c.in-Jal.is)

pub returns-in-Jalr : goal.returns-in-Jalr
unfolding act_of
returns-in-Jalr c = rw (c.even.ensures, c.add-in-Jalr.ensures, c.read.ensures, c.in-Jalr.is)

pub returns-in-Branch : goal.returns-in-Branch
unfolding act_of
returns-in-Branch c =
    rw (c.branch_target-target.ensures, c.read-in-Branch-2.ensures, c.read-in-Branch.ensures, c.in-Branch.is)

pub returns-in-Load : goal.returns-in-Load
unfolding act_of
returns-in-Load c = rw (c.add-in-Load.ensures, c.read-in-Load.ensures, c.in-Load.is)

pub returns-in-Store : goal.returns-in-Store
unfolding act_of
returns-in-Store c = rw (c.read-in-Store-2.ensures, c.add-address.ensures, c.read-in-Store.ensures, c.in-Store.is)

pub returns-in-Imm : goal.returns-in-Imm
unfolding act_of
returns-in-Imm c = rw (c.arith_imm.ensures, c.read-in-Imm.ensures, c.in-Imm.is)

pub returns-in-Shift : goal.returns-in-Shift
unfolding act_of
returns-in-Shift c = rw (c.shift.ensures, c.read-in-Shift.ensures, c.in-Shift.is)

pub returns-in-Arith : goal.returns-in-Arith
unfolding act_of
returns-in-Arith c = rw (c.arith.ensures, c.read-in-Arith-2.ensures, c.read-in-Arith.ensures, c.in-Arith.is)

pub returns-in-Fence : goal.returns-in-Fence
unfolding act_of
returns-in-Fence c = rw c.in-Fence.is

pub returns-in-Ecall : goal.returns-in-Ecall
unfolding act_of
returns-in-Ecall c = rw (c.ends.ensures, c.in-Ecall.is)

pub returns-in-Ebreak : goal.returns-in-Ebreak
unfolding act_of
returns-in-Ebreak c = rw (c.ends-in-Ebreak.ensures, c.in-Ebreak.is)

pub returns-in-MulDiv : goal.returns-in-MulDiv
unfolding act_of
returns-in-MulDiv c = rw (c.mul_div.ensures, c.read-in-MulDiv-2.ensures, c.read-in-MulDiv.ensures, c.in-MulDiv.is)
