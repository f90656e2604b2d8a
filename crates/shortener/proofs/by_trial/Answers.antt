-- What is tried is a halfword.
use Rattle.shortest.proofs.Half.{half}
use Rattle.shortener.proofs.by_trial.Goals as goal

pub overflow_cast-half : goal.overflow_cast-half
overflow_cast-half c = record { fits = rw c.try_for-half.ensures (half _ _ _ _ _) }
