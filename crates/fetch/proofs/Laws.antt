-- What a fetch comes to, by its tests; why it fails; and that an instruction fetched is in range, since what bits mean is.
use Prim.Native.Nat.{ℕ, ◌+◌, ◌%◌, ◌≤◌}
use mathlib.Core.Path.{◌≡◌, refl, subst}
use mathlib.Core.Bool.{Bool, true, false, cond}
use mathlib.Core.List.{List}
use mathlib.Core.Logic.{◌⊎◌, inl, inr}
use lib.ListN.{length}
use lib.Dec.{eqb, leb}
use borrow.Author.Tests.{eq-eqb, ne_eqb, le-leb, leb-true}
use Rattle.word.proofs.Bools.{either}
use Rattle.alu.specs.Arithmetic.{sum}
use Rattle.answers.specs.Stops.{cause}
use Rattle.answers.specs.declared.Cause.{Cause}
use Rattle.answers.specs.declared.Stop.TheVariants.{IllegalInstruction, FetchOutside}
use Rattle.isa.specs.declared.Inst.{Inst}
use Rattle.isa.specs.Decoding.{decoded}
use Rattle.isa.specs.Encoding.{in_range}
use Rattle.isa.specs.Rvc.{expanded}
use Rattle.roundtrip.proofs.Words.{decoded_in_range}
use Rattle.shortest.proofs.Shortest.{expanded_in_range}
use Rattle.octets.specs.Bytes.{load}
use Rattle.octets.proofs.Bytes.{Bytes, loaded_lt}
use Rattle.fetch.specs.Fetching.{illegal_at, outside_at, legal, fetched_with, fetched}
use Rattle.std.specs.Prelude.{None, Option, Some}
use Rattle.fetch.specs.Fetching.{Fetched}
use Rattle.std.specs.Prelude.{Err, Ok}

-- two bytes
pub fetch_short : {h : ℕ} {d : Option Inst} (pc : ℕ) (m : List ℕ) → pc + 2 ≤ length m → h ≡ load 2 pc m → (h % 32 ≡ 31 → ⊥) → (h % 4 ≡ 3 → ⊥)
    → d ≡ expanded h → fetched pc m ≡ legal d pc 2
unfolding fetched fetched_with
fetch_short pc m w e a b d = rw (le-leb _ _ w, ← e, ne_eqb _ _ a, ne_eqb _ _ b, ← d)

-- low two bits 11: by the two bytes that follow
pub fetch_long : {h : ℕ} (pc : ℕ) (m : List ℕ) → pc + 2 ≤ length m → h ≡ load 2 pc m → (h % 32 ≡ 31 → ⊥) → h % 4 ≡ 3
    → fetched pc m ≡ cond (leb (pc + 4) (length m)) (legal (decoded (load 4 pc m)) pc 4) (outside_at (sum pc 2))
unfolding fetched fetched_with
fetch_long pc m w e a b = rw (le-leb _ _ w, ← e, ne_eqb _ _ a, eq-eqb _ _ b)

-- ---- why a fetch fails

-- the instruction at pc is illegal; or a halfword could not be fetched, the second where the first was within memory
abbrev pub FailsBy : ℕ → List ℕ → Cause → Type 0
FailsBy pc m why = (why ≡ cause IllegalInstruction pc) ⊎ (why ≡ cause FetchOutside (cond (leb (pc + 2) (length m)) (sum pc 2) pc))

module _ (pc : ℕ) (m : List ℕ) where
  abbrev Tells : Fetched → Type 0
  Tells (Ok (i, len)) = Unit {0}
  Tells (Err why) = FailsBy pc m why

  legal_tells : (d : Option Inst) (len : ℕ) → Tells (legal d pc len)
  legal_tells (Some i) len = tt
  legal_tells None len = inl refl

  tells : Tells (fetched pc m)
  unfolding fetched fetched_with
  tells = go (leb (pc + 2) (length m)) refl
    where
      go : (t : Bool) → leb (pc + 2) (length m) ≡ t
          → Tells (cond t (cond (eqb (load 2 pc m % 32) 31) (illegal_at pc) (fetched_with (load 2 pc m) pc m)) (outside_at pc))
      go true e =
          either Tells (eqb (load 2 pc m % 32) 31) _ _ (inl refl)
          (either Tells (eqb (load 2 pc m % 4) 3) _ _
          (either Tells (leb (pc + 4) (length m)) _ _ (legal_tells (decoded (load 4 pc m)) 4) (inr (rw e)))
          (legal_tells (expanded (load 2 pc m)) 2))
      go false e = inr (rw e)

  pub fetch_fails : {why : Cause} → fetched pc m ≡ Err why → FailsBy pc m why
  fetch_fails e = subst Tells e tells

-- ---- an instruction fetched is in range, and its two or four bytes lie within memory

pub record Real (pc : ℕ) (m : List ℕ) (i : Inst) (len : ℕ) : Type 0 where
  pub in_range_lem : in_range i ≡ true
  pub size : (len ≡ 2) ⊎ (len ≡ 4)
  pub within : pc + len ≤ length m

module _ (pc : ℕ) (m : List ℕ) where
  abbrev Sound : Fetched → Type 0
  Sound (Ok (i, len)) = Real pc m i len
  Sound (Err stop) = Unit {0}

  legal_sound : (d : Option Inst) (len : ℕ) → ((i : Inst) → d ≡ Some i → in_range i ≡ true) → (len ≡ 2) ⊎ (len ≡ 4) → pc + len ≤ length m → Sound (legal d pc len)
  legal_sound (Some i) len r s w = record { in_range_lem = r i refl; size = s; within = w }
  legal_sound None len r s w = tt

  module _ (bytes : Bytes m) where
    with_sound : pc + 2 ≤ length m → Sound (fetched_with (load 2 pc m) pc m)
    unfolding fetched_with
    with_sound h = either Sound (eqb (load 2 pc m % 4) 3) _ _ (four (leb (pc + 4) (length m)) refl) short
      where
        short : Sound (legal (expanded (load 2 pc m)) pc 2)
        short = legal_sound (expanded (load 2 pc m)) 2 (λ i. expanded_in_range (load 2 pc m) i (loaded_lt 2 pc m bytes)) (inl refl) h

        four : (t : Bool) → leb (pc + 4) (length m) ≡ t → Sound (cond t (legal (decoded (load 4 pc m)) pc 4) (outside_at (sum pc 2)))
        four true e = legal_sound (decoded (load 4 pc m)) 4 (decoded_in_range (load 4 pc m)) (inr refl) (leb-true _ _ e)
        four false e = tt

    sound : Sound (fetched pc m)
    unfolding fetched
    sound = two (leb (pc + 2) (length m)) refl
      where
        two : (t : Bool) → leb (pc + 2) (length m) ≡ t
            → Sound (cond t (cond (eqb (load 2 pc m % 32) 31) (illegal_at pc) (fetched_with (load 2 pc m) pc m)) (outside_at pc))
        two true e = either Sound (eqb (load 2 pc m % 32) 31) _ _ tt (with_sound (leb-true _ _ e))
        two false e = tt

    pub fetched_real : {i : Inst} {len : ℕ} → fetched pc m ≡ Ok (i, len) → Real pc m i len
    fetched_real e = subst Sound e sound
