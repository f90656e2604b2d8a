-- The cards hold, by computation: a shortening by the halfword to try, and a run by its steps until it stops.
use mathlib.Core.Path.{◌≡◌, refl, ap, ◌∙◌}
use mathlib.Core.Bool.{false}
use mathlib.Core.List.{List}
use Prim.Native.Nat.{ℕ}
use Rattle.answers.specs.Outcomes.{Outcome, decided}
use Rattle.isa.specs.declared.Inst.TheVariants.{Imm}
use Rattle.isa.specs.declared.ImmOp.TheVariants.{Addi}
use Rattle.isa.specs.Registers.{sp}
use Rattle.isa.specs.Decoding.{decoded}
use Rattle.isa.specs.Encoding.{in_range}
use Rattle.isa.specs.Rvc.{expanded}
use Rattle.isa.specs.Answers.{of_shortened}
use Rattle.shortest.specs.Trial.{try_for}
use Rattle.shortest.proofs.Shortest.{by_one}
use Rattle.octets.specs.Bytes.{little_endian, of_little_endian, load, store}
use Rattle.place.specs.Map.{placed}
use Rattle.fuses.specs.Row.{all_keep, burnt, word_stored}
use Rattle.boards.specs.Boards.{Board}
use Rattle.access.specs.Accesses.{loaded_from, stored_in_row, stored_to}
use Rattle.execute.specs.Execution.{act_of, performed}
use Rattle.fetch.specs.Fetching.{fetched_with, fetched}
use Rattle.engine.specs.Steps.{act_fetched, asked, applied, paused, stepped, ran, retired}
use Rattle.machine.specs.declared.Ran.{Ran}
use Rattle.answers.specs.declared.Refusal.{Refusal}
use Rattle.std.specs.Prelude.{Result}
use Rattle.machine.specs.Entries.{run_entry}
use Rattle.machine.proofs.Entries.{run_ends}
use Rattle.promises_cards.specs.Cards.{CardsHold, end_of, start, blank, image, spent}

-- the first run stops in its fourth step and leaves word 0 burnt; the second, on that row, stops in its third
abbrev spent-row : List ℕ
spent-row = burnt 0 7 blank

stops : (paused (ran 4 (start image blank)) ≡ false) × ((run_entry 4 (start image blank)).lent.row ≡ spent-row) × (paused (ran 3 (start image spent-row)) ≡ false)
unfolding decoded expanded little_endian of_little_endian load store placed burnt loaded_from word_stored stored_in_row stored_to act_of performed fetched_with fetched act_fetched asked applied stepped ran all_keep decided
stops = (refl, refl, refl)

first_run : run_entry 100 (start image blank) ≡ run_entry 4 (start image blank)
first_run = run_ends 4 96 (start image blank) stops.0

second_run : run_entry 100 (start image spent) ≡ run_entry 3 (start image spent-row)
second_run =
    ap (λ f. run_entry 100 (start image f)) (ap (λ (o : Outcome (Result Ran Refusal) Board). o.lent.row) first_run ∙ stops.1)
    ∙ run_ends 3 97 (start image spent-row) stops.2

pub cards_hold : CardsHold
unfolding decoded expanded in_range try_for little_endian of_little_endian load store placed burnt loaded_from word_stored stored_in_row stored_to act_of performed fetched_with fetched act_fetched asked applied stepped ran retired all_keep decided
cards_hold = (
  (refl, tt),
  (
    (refl, tt),
    (
      (refl, tt),
      (
        (refl, (refl, tt)),
        (
          (refl, tt),
          (
            (refl, (refl, (refl, tt))),
            (
              (refl, (refl, (ap of_shortened (by_one (Imm Addi sp sp 16)), (refl, tt)))),
              ((refl, (refl, tt)), ((λ own rd next f. refl, tt), ((refl, (refl, tt)), ((ap end_of first_run, (refl, tt)), ((ap end_of second_run, tt), tt))))),
            ),
          ),
        ),
      ),
    ),
  ),
)
