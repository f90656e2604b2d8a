-- The C interface, bits to instructions: what each call returns, and what it leaves in its place.
use Rattle.std.specs.Prelude.{ℕ, List, Option}
use Rattle.answers.specs.Answer.{Answer, given, refused_with}
use Rattle.isa.specs.declared.Inst.{Inst}
use Rattle.isa.specs.Decoding.{decoded}
use Rattle.isa.specs.Rvc.{expanded}
use Rattle.isa.specs.Answers.{of_decoded}
use Rattle.chart.specs.Chart.{charted}
use Rattle.answers.specs.Outcomes.{Outcome}
use Rattle.answers.specs.Replies.{told}
use Rattle.calls.specs.Calls.{numbers_of}

-- the version of the interface, 0.7.0: major * 65,536 + minor * 256 + patch
abbrev pub version : ℕ
version = 0x000700

-- an instruction in the answer as its five numbers
abbrev pub numbered : Answer Inst → Answer (List ℕ)
numbered (given i) = given (numbers_of i)
numbered (refused_with n) = refused_with n

abbrev pub chart_call : ℕ → ℕ → Outcome ℕ ℕ
chart_call bits format = told (given (charted bits)) format

-- what bits mean, where these numbers stood
abbrev pub meant : List ℕ → Option Inst → Outcome ℕ (List ℕ)
meant inst d = told (numbered (of_decoded d)) inst

abbrev pub decode_call : ℕ → List ℕ → Outcome ℕ (List ℕ)
decode_call bits inst = meant inst (decoded bits)

abbrev pub expand_call : ℕ → List ℕ → Outcome ℕ (List ℕ)
expand_call bits inst = meant inst (expanded bits)
