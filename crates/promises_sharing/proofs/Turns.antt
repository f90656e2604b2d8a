-- Pieces with the other's runs between them, and two recipes in turns: each piece starts on a row that differs in foreign words only, so what it leaves is alike to what the recipe leaves alone; runs add up.
use mathlib.Core.Path.{◌≡◌, refl, sym, ap, ap₂, subst, ◌∙◌}
use mathlib.Core.Bool.{Bool, true, false, cond}
use mathlib.Core.List.{List, [], ◌∷◌}
use Prim.Native.Nat.{ℕ, ◌/◌, ◌^◌}
use lib.ListN.{get_or}
use Rattle.answers.specs.Answer.{given}
use Rattle.word.specs.Bounds.{AllBelow}
use Rattle.word.proofs.Bools.{holds}
use Rattle.fuses.specs.Row.{Row, owns}
use Rattle.boards.specs.declared.Grant.{Grant}
use Rattle.boards.proofs.Sharing.{shares}
use Rattle.engine.specs.Steps.{World, ran, retired}
use Rattle.engine.proofs.Laws.{ran-add}
use Rattle.engine.proofs.Kept.{Runnable, runnable_passes, passes_runnable, runnable_ran}
use Rattle.machine.specs.Entries.{run_entry, of_ran}
use Rattle.machine.proofs.Entries.{run_accepted}
use Rattle.slots.specs.Slots.{slot_there}
use Rattle.promises.specs.Burning.{Start, begun, row_after}
use Rattle.promises.specs.Cuts.{Piece, SlotsThere, total, manual}
use Rattle.promises.proofs.Refusals.{accepted_passes}
use Rattle.promises.proofs.Cuts.{left_by_lem, reads_back}
use Rattle.promises_sharing.specs.Sharing.{Mine, Foreign, Agree}
use Rattle.promises_sharing.specs.Turns.{Apart, SwappedApart, Turn, pieces, AllApart, TurnsApart, on_row, turn_start, in_turns, turn_answers, CutInTurns, AllSwapped, TurnsSwapped, CutBesideTheOther, Move, first, second, MovesThere, moved, both, firsts, seconds, SideBySide}
use Rattle.promises_sharing.proofs.Agreeing.{agree_refl, agree_trans, agree_at}
use Rattle.promises_sharing.proofs.Alike.{Alike, run_alike}
use Rattle.promises_sharing.proofs.Spared.{Spares, spares_all, spares_then, spares_at, run_spares, entry_spares}
use Rattle.promises_sharing.proofs.Sharing.{others_kept}

-- ---- masks

no_common : (a b : ℕ) → ((k : ℕ) → owns a k ≡ true → owns b k ≡ true → ⊥) → Apart a b
no_common a b f k e = go (owns b k) refl
  where
    go : (c : Bool) → owns b k ≡ c → c ≡ false
    go true t = absurd (f k e t)
    go false t = refl

pub swapped_apart : SwappedApart
swapped_apart m f = no_common m.other m.own (λ k e t. f (k, t, e))

apart_back : (a b : ℕ) → Apart a b → Apart b a
apart_back a b h = no_common b a (λ k e t. holds false (sym (h k t) ∙ e))

-- ---- the other's runs

-- where all that is foreign to the one mask stays, so do the words of a mask apart from it
theirs : (a own : ℕ) {f g : List ℕ} → Apart a own → Spares (Foreign a) f g → Spares (Mine own) f g
theirs a own h s = spares_at (λ i q. apart_back a own h (i / 8) q) s

others_spare : (own : ℕ) (es : List Start) (f : List ℕ) → AllApart own es → Spares (Mine own) f (row_after es f)
unfolding row_after AllApart
others_spare own [] f a = spares_all (Mine own) f
others_spare own (e ∷ es) f a =
    spares_then (theirs e.grant.own own a.0 (entry_spares e.budget (begun e f))) (others_spare own es (run_entry e.budget (begun e f)).lent.row a.1)

-- ---- a world on another row

runnable_on : (f : List ℕ) (w : World) → Runnable w → AllBelow (2 ^ 8) f → Row f → Runnable (on_row f w)
runnable_on f w g b r = (g.0, (record { mem_bytes = g.1.0.mem_bytes; row_bytes = b }, record { short = g.1.1.short; row = r }), g.2)

alike_on : {own : ℕ} {v w : World} (f : List ℕ) → Agree (Mine own) f v.board.row → Alike own v w → Alike own (on_row f v) w
alike_on f e a = record {
  st = a.st;
  left = a.left;
  right = a.right;
  peers = record { mem = a.peers.mem; row = agree_trans e a.peers.row; long = e.long ∙ a.peers.long };
}

itself : (w : World) → Runnable w → Alike w.grant.own w w
itself w g = record { st = refl; left = refl; right = refl; peers = record { mem = refl; row = agree_refl _ w.board.row; long = g.1.1.row.0 } }

-- ---- pieces, with the other's runs between them

-- u, which is v, goes in turns, and w alone
answers_alike : (b : ℕ) {own : ℕ} {u v w : World} → u ≡ v → Runnable v → Alike own v w → of_ran (run_entry b u).answer ≡ given ((ran b w).st, retired b w)
answers_alike b {own} {u} {v} e g a =
    let r = run_alike b a in
    ap (λ x. of_ran (run_entry b x).answer) e
    ∙ ap (λ o. of_ran o.answer) (run_accepted b v (runnable_passes v g))
    ∙ ap₂ (λ s n. given (s, n)) r.0.st r.1

turns-end : (b : ℕ) (ts : List Turn) {own : ℕ} {u v w : World} → u ≡ v → Runnable v → Alike own v w → SlotsThere (pieces ts) → TurnsApart own ts
    → Alike own (in_turns b ts u) (ran (total b (pieces ts)) w) × (turn_answers b ts u ≡ manual b (pieces ts) w)
unfolding in_turns turn_answers pieces total manual SlotsThere TurnsApart
turns-end b [] {own} {u} {v} {w} e g a s h =
    (subst (λ x. Alike own x (ran b w)) (sym (left_by_lem b e g)) (run_alike b a).0, λ j. answers_alike b e g a j ∷ [])
turns-end b (t ∷ ts) {own} {u} {v} {w} e g a s h =
    let x : World = ran b v in
    let good : Runnable x = runnable_ran b v g in
    let f : List ℕ = row_after t.others x.board.row in
    let o = others_spare own t.others x.board.row h.0 in
    let on : Runnable (on_row f x) = runnable_on f x good (o.bytes good.1.0.row_bytes) (o.sound good.1.1.row) in
    let i = turns-end t.piece.budget ts (ap (turn_start t) (left_by_lem b e g) ∙ reads_back t.piece (on_row f x) on s.0) on
    (alike_on f o.others (run_alike b a).0) s.1 h.1 in
    (subst (λ y. Alike own (in_turns b (t ∷ ts) u) y) (sym (ran-add b (total t.piece.budget (pieces ts)) w)) i.0, λ j. answers_alike b e g a j ∷ i.1 j)

swapped-all : (m : Grant) → Apart m.other m.own → (es : List Start) → AllSwapped m es → AllApart m.own es
unfolding AllSwapped AllApart
swapped-all m h [] s = tt
swapped-all m h (e ∷ es) s = (subst (λ k. Apart k.own m.own) (sym s.0) h, swapped-all m h es s.1)

swapped-turns : (m : Grant) → Apart m.other m.own → (ts : List Turn) → TurnsSwapped m ts → TurnsApart m.own ts
unfolding TurnsSwapped TurnsApart
swapped-turns m h [] s = tt
swapped-turns m h (t ∷ ts) s = (swapped-all m h t.others s.0, swapped-turns m h ts s.1)

pub cut_in_turns : CutInTurns
cut_in_turns b ts w z a s h =
    let g = passes_runnable w z (accepted_passes w a) in
    let r = turns-end b ts refl g (itself w g) s h in
    (r.0.st, r.0.peers.mem, r.0.peers.row, r.1)

-- masks that are accepted share no bit
pub cut_beside_the_other : CutBesideTheOther
cut_beside_the_other b ts w z a s t =
    let g = passes_runnable w z (accepted_passes w a) in
    let h = swapped_apart w.grant (λ c. holds false (sym ((shares w.grant.own w.grant.other).1 c) ∙ g.2)) in
    cut_in_turns b ts w z a s (swapped-turns w.grant h ts t)

-- ---- two recipes

-- where v and w have come to on one row, in turns, and v' and w' alone; f is the first row
record Beside (a b : ℕ) (f : List ℕ) (v w v' w' : World) : Type 0 where
  one : Alike a v v'
  two : Alike b w w'
  one_runs : Runnable v
  two_runs : Runnable w
  row : w.board.row ≡ v.board.row
  rest : Agree (λ i. Foreign a i × Foreign b i) v.board.row f

across : {a b : ℕ} {f : List ℕ} {v w v' w' : World} → Beside a b f v w v' w' → Beside b a f w v w' v'
across {a} {b} {f} s = record {
  one = s.two;
  two = s.one;
  one_runs = s.two_runs;
  two_runs = s.one_runs;
  row = sym s.row;
  rest = subst (λ g. Agree (λ i. Foreign b i × Foreign a i) g f) (sym s.row) (agree_at (λ i q. (q.1, q.0)) s.rest);
}

-- a piece of the first
beside_moved : (p : Piece) {a b : ℕ} {f : List ℕ} {v w v' w' : World} → Apart a b → slot_there p.slot p.slots ≡ true → Beside a b f v w v' w'
    → Beside a b f (moved p v) (on_row (moved p v).board.row w) (ran p.budget v') w'
beside_moved p {a} {b} {f} {v} {w} {v'} {w'} h t s =
    subst (λ x. Beside a b f x (on_row x.board.row w) (ran p.budget v') w') (sym (left_by_lem p.budget (reads_back p v s.one_runs t) s.one_runs))
    (record {
      one = (run_alike p.budget s.one).0;
      two = alike_on g (subst (Agree (Mine b) g) (sym s.row) (theirs a b h q).others) s.two;
      one_runs = r;
      two_runs = runnable_on g w s.two_runs r.1.0.row_bytes r.1.1.row;
      row = refl;
      rest = agree_trans (agree_at (λ i n. n.0) q.others) s.rest;
    })
  where
    g : List ℕ
    g = (ran p.budget v).board.row

    r : Runnable (ran p.budget v)
    r = runnable_ran p.budget v s.one_runs

    q : Spares (Foreign a) v.board.row g
    q = subst (λ own. Spares (Foreign own) v.board.row g) s.one.left (run_spares p.budget v s.one.peers.long)

beside : (ms : List Move) {a b : ℕ} {f : List ℕ} (v w v' w' : World) → Apart a b → MovesThere ms → Beside a b f v w v' w'
    → Beside a b f (both ms v w).0 (both ms v w).1 (ran (firsts ms) v') (ran (seconds ms) w')
unfolding both firsts seconds ran MovesThere
beside [] v w v' w' h t s = s
beside (first p ∷ ms) {a} {b} {f} v w v' w' h t s =
    let x : World = moved p v in
    let y : World = on_row x.board.row w in
    subst (λ u. Beside a b f (both ms x y).0 (both ms x y).1 u (ran (seconds ms) w')) (sym (ran-add p.budget (firsts ms) v'))
    (beside ms x y (ran p.budget v') w' h t.1 (beside_moved p h t.0 s))
beside (second p ∷ ms) {a} {b} {f} v w v' w' h t s =
    let y : World = moved p w in
    let x : World = on_row y.board.row v in
    subst (λ u. Beside a b f (both ms x y).0 (both ms x y).1 (ran (firsts ms) v') u) (sym (ran-add p.budget (seconds ms) w'))
    (beside ms x y v' (ran p.budget w') h t.1 (across (beside_moved p (apart_back a b h) t.0 (across s))))

pub side_by_side : SideBySide
side_by_side ms v w zv zw av aw e h t =
    (s.one.st, s.one.peers.mem, s.two.st, s.two.peers.mem, s.row, λ i. go i (owns v.grant.own (i / 8)) (owns w.grant.own (i / 8)) refl refl)
  where
    gv : Runnable v
    gv = passes_runnable v zv (accepted_passes v av)

    gw : Runnable w
    gw = passes_runnable w zw (accepted_passes w aw)

    s : Beside v.grant.own w.grant.own v.board.row (both ms v w).0 (both ms v w).1 (ran (firsts ms) v) (ran (seconds ms) w)
    s = beside ms v w v w h t (record { one = itself v gv; two = itself w gw; one_runs = gv; two_runs = gw; row = e; rest = agree_refl _ v.board.row })

    -- a byte of the first, of the second, or of neither, which no run changes
    go : (i : ℕ) (c d : Bool) → owns v.grant.own (i / 8) ≡ c → owns w.grant.own (i / 8) ≡ d
        → get_or (both ms v w).0.board.row i 0 ≡ cond c (get_or (ran (firsts ms) v).board.row i 0) (get_or (ran (seconds ms) w).board.row i 0)
    go i true d p q = s.one.peers.row.same i p
    go i false true p q = ap (λ g. get_or g i 0) (sym s.row) ∙ s.two.peers.row.same i q
    go i false false p q = s.rest.same i (p, q) ∙ ap (λ g. get_or g i 0) (sym e) ∙ sym ((others_kept (seconds ms) w gw.1.1.row.0).same i q)
