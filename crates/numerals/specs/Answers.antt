-- What the calls of this crate answer, for every input.
use Rattle.std.specs.Prelude.{◌≡◌, ℕ, List, true, false, Option, MatchOption}
use denote.Ref.{Bor}
use Rattle.numerals.specs.Texts.{has, before, behind}

-- `split_once`: what stands before the first such byte and what behind it; none where there is no such byte
abbrev pub CutAt : ℕ → List ℕ → Option (Bor (List ℕ) × Bor (List ℕ)) → Type 0
CutAt b xs cut =
    MatchOption cut (has b xs ≡ false) (λ p. (has b xs ≡ true) × (p.0.now ≡ before b xs) × (p.1.now ≡ behind b xs))
