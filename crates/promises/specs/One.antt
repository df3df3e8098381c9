-- What "pinned down to the last entry" says of a promise on an answer and on what was lent.
use Rattle.std.specs.Prelude.{◌≡◌}

-- any two answers that a call may give coincide, and so does what it leaves
abbrev pub One : {Lent Answer : Type 0} → (Lent → Answer → Type 0) → Type 0
One {Lent} {Answer} Promise = (after after' : Lent) (r r' : Answer) → Promise after r → Promise after' r' → (r ≡ r') × (after ≡ after')
