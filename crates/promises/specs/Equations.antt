-- "Show that any two outcomes it allows are equal": the contract of a public function is one equation, of a bundle of its result and of each lent buffer as the call leaves it, to what a definition says of its input. Equal bundles have equal parts.
-- Each statement is proved in proofs/Equations.antt; that every public contract is such an equation is seen by host/contracts.
use Rattle.std.specs.Prelude.{◌≡◌, List, ℕ}
use Rattle.answers.specs.Outcomes.{outcome}
use Rattle.state.specs.declared.State.{State}
use Rattle.state.specs.States.{state}
use Rattle.boards.specs.Boards.{Board, board}
use Rattle.boards.specs.declared.Grant.{Grant}
use Rattle.engine.specs.Steps.{masked}
use Rattle.resume.specs.Resuming.{shared_bench}

-- two bundles that a contract allows for one input are equal
abbrev pub OneOutcome : Type 1
OneOutcome = (A : Type 0) (meant o p : A) → o ≡ meant → p ≡ meant → o ≡ p

-- and so are their parts: of an outcome, a pair, a board, a world, a bench and a state
abbrev pub EqualParts : Type 1
EqualParts =
    ((A B : Type 0) (a c : A) (b d : B) → outcome a b ≡ outcome c d → (a ≡ c) × (b ≡ d))
    × ((A B : Type 0) (a c : A) (b d : B) → ◌≡◌ {A = A × B} (a, b) (c, d) → (a ≡ c) × (b ≡ d))
    × ((m n f g : List ℕ) → board m f ≡ board n g → (m ≡ n) × (f ≡ g))
    × ((k l : Grant) (s t : State) (b c : Board) → masked k s b ≡ masked l t c → (s ≡ t) × (b ≡ c) × (k ≡ l))
    × ((k l : Grant) (b c : Board) (m n : List ℕ) → shared_bench k b m ≡ shared_bench l c n → (b ≡ c) × (m ≡ n) × (k ≡ l))
    × ((p q : ℕ) (x y : List ℕ) (c d s t a b : ℕ) → state p x c s a ≡ state q y d t b → (p ≡ q) × (x ≡ y) × (c ≡ d) × (s ≡ t) × (a ≡ b))
