-- What a step, a run or an entry leaves of the row: only a store to an own word changes it, so all bytes of the other words stay; it stays a row, and its bytes stay bytes.
use mathlib.Core.Path.{◌≡◌, refl, sym, subst, ◌∙◌}
use mathlib.Core.Bool.{false}
use mathlib.Core.List.{List}
use Prim.Native.Nat.{ℕ, zero, suc, ◌^◌}
use lib.ListN.{length}
use Rattle.answers.specs.Outcomes.{Outcome, decided}
use Rattle.answers.specs.declared.Refusal.{Refusal}
use Rattle.word.specs.Bounds.{AllBelow}
use Rattle.word.proofs.Bools.{holds}
use Rattle.fuses.specs.Row.{Row, owns}
use Rattle.fuses.proofs.Burning.{row-burnt, burnt_below}
use Rattle.boards.specs.Boards.{Board, start_checked}
use Rattle.boards.specs.declared.Grant.{Grant}
use Rattle.boards.proofs.Boards.{start_accepted}
use Rattle.access.specs.Accesses.{Done}
use Rattle.execute.specs.declared.Act.{Act}
use Rattle.execute.proofs.Acts.{Comes, sets, loads, into_memory, into_row, zero_into_row, stops}
use Rattle.engine.specs.Steps.{World, checked, stepped, ran}
use Rattle.engine.proofs.Walk.{walk}
use Rattle.engine.proofs.Laws.{masks-ran}
use Rattle.machine.specs.Entries.{run_given, run_entry}
use Rattle.promises_sharing.specs.Sharing.{Foreign, Agree}
use Rattle.promises_sharing.proofs.Agreeing.{agree_refl, agree_trans, agree_at, burnt_beside}
use Rattle.answers.specs.Checks.{Check, passed}
use Rattle.std.specs.Prelude.{Err, Ok}

-- ---- steps

-- from the row f to the row g, which agree where p holds
pub record Spares (p : ℕ → Type 0) (f g : List ℕ) : Type 0 where
  pub others : Agree p g f
  pub bytes : AllBelow (2 ^ 8) f → AllBelow (2 ^ 8) g
  pub sound : Row f → Row g

pub spares_all : (p : ℕ → Type 0) (f : List ℕ) → Spares p f f
spares_all p f = record { others = agree_refl p f; bytes = λ b. b; sound = λ r. r }

pub spares_then : {p : ℕ → Type 0} {f g h : List ℕ} → Spares p f g → Spares p g h → Spares p f h
spares_then s t = record { others = agree_trans t.others s.others; bytes = λ b. t.bytes (s.bytes b); sound = λ r. t.sound (s.sound r) }

-- at fewer bytes
pub spares_at : {p q : ℕ → Type 0} {f g : List ℕ} → ((i : ℕ) → q i → p i) → Spares p f g → Spares q f g
spares_at h s = record { others = agree_at h s.others; bytes = s.bytes; sound = s.sound }

comes_spares : {own : ℕ} {b : Board} {a : Act} {d : Done} → length b.row ≡ 512 → Comes own b a d → Spares (Foreign own) b.row d.lent.row
comes_spares {own} {b} l (sets rd v pc) = spares_all (Foreign own) b.row
comes_spares {own} {b} l (loads o rd a pc v h) = spares_all (Foreign own) b.row
comes_spares {own} {b} l (into_memory o v a pc i e h) = spares_all (Foreign own) b.row
comes_spares {own} {b} l (into_row o v a pc k e h mine z ne) = record {
  others = agree_at (λ i q s. let foreign : owns own k ≡ false = rw s at q in holds false (sym foreign ∙ mine)) (burnt_beside k v h b.row l);
  bytes = burnt_below k v b.row;
  sound = row-burnt k v b.row h ne;
}
comes_spares {own} {b} l (zero_into_row o v a pc k e z) = spares_all (Foreign own) b.row
comes_spares {own} {b} l (stops a why by) = spares_all (Foreign own) b.row

step_spares : (w : World) → length w.board.row ≡ 512 → Spares (Foreign w.grant.own) w.board.row (stepped w).board.row
step_spares w l =
    walk w (λ c v. Spares (Foreign w.grant.own) w.board.row v.board.row) (λ e. spares_all _ w.board.row) (λ e d c. comes_spares l c)

pub run_spares : (n : ℕ) (w : World) → length w.board.row ≡ 512 → Spares (Foreign w.grant.own) w.board.row (ran n w).board.row
unfolding ran
run_spares zero w l = spares_all (Foreign w.grant.own) w.board.row
run_spares (suc n) w l =
    let s = step_spares w l in
    let r = run_spares n (stepped w) (s.others.long ∙ l) in
    spares_then s (subst (λ own. Spares (Foreign own) (stepped w).board.row (ran n (stepped w)).board.row) (λ j. (masks-ran 1 w j).own) r)

-- ---- entries

-- what holds of what an entry gives where its tests pass, and of what was lent, holds of what it leaves
pub decided-lent : {A B : Type 0} (P : B → Type 0) (c : Check) (o : Outcome A B) (refusal : Refusal → A) (before : B) → (c ≡ passed → P o.lent) → P before
    → P (decided c o refusal before).lent
unfolding decided
decided-lent P (Ok u) o refusal before h k = h refl
decided-lent P (Err r) o refusal before h k = k

-- they pass only on a row of 512 bytes
pub checked-long : (b : Board) (m : Grant) (rest : Check) → start_checked b m rest ≡ passed → length b.row ≡ 512
checked-long b m rest e = (start_accepted b m rest e).0.row.0

pub entry_spares : (n : ℕ) (w : World) → Spares (Foreign w.grant.own) w.board.row (run_entry n w).lent.row
entry_spares n w =
    decided-lent (λ b. Spares (Foreign w.grant.own) w.board.row b.row) (checked w) (run_given n w) Err w.board
    (λ e. run_spares n w (checked-long w.board w.grant _ e)) (spares_all (Foreign w.grant.own) w.board.row)
