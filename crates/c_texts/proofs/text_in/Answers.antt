-- `text_in` meets its contract: the room's test decides first, then what the numbers build.
use Prim.Native.Nat.{ℕ, ◌<◌, ◌≤◌}
use native.Mathlib.Omega.{arith}
use mathlib.Core.Path.{◌≡◌, refl, sym, ◌∙◌}
use mathlib.Core.List.{List}
use lib.ListN.{length}
use Rattle.answers.specs.Answer.{Answer, given, refused_with}
use Rattle.answers.specs.Outcomes.{outcome}
use Rattle.answers.specs.declared.Refusal.{Refusal}
use Rattle.answers.specs.declared.Refusal.TheVariants as R
use Rattle.isa.specs.Answers.{of_built}
use Rattle.isa.specs.declared.Inst.{Inst}
use Rattle.disassembler.proofs.Outcomes.{no_room, text-refused}
use Rattle.c_texts.specs.Texts.{inst_text}
use Rattle.c_texts.proofs.text_in.Goals as goal
use Rattle.std.specs.Prelude.{Option, Some, None, Err, ok_or}
use Rattle.std.proofs.lemmas.Result.{err_from_is_err_and}

-- whatever the numbers are
short : (a : Answer Inst) (room : List ℕ) → length room < 24 → outcome (Err R.Room) room ≡ inst_text a room
short (given i) room h = no_room _ _ room h
short (refused_with n) room h = no_room _ _ room h

pub returns-then-room-lt-ROOM : goal.returns-then-room-lt-ROOM
returns-then-room-lt-ROOM c = short _ c.args.room.now (omega arith)

-- numbers that are no instruction's
none_built : (o : Option Inst) {e : Refusal} (room : List ℕ) → 24 ≤ length room → ok_or o R.Field ≡ Err e → outcome (Err e) room ≡ inst_text (of_built o) room
none_built (Some i) room h q = cc
none_built None {e} room h q = let z : R.Field ≡ e = cc in rw (← z) (text-refused room h _ refl)

pub returns-in_err-i : goal.returns-in_err-i
returns-in_err-i c =
    let p = err_from_is_err_and c.from_residual.result c.from_residual.ensures.1 in
    rw (p.1, p.2) (none_built _ c.args.room.now (omega arith) (rw c.inst_in.ensures at (sym c.ok_or.ensures.value ∙ c.in_err-i.was)))
