-- What the private functions promise to each other.
use denote.Struct.Props.{props}
use Rattle.paths.specs.declared.Further.TheVariants.{Path, End}
use Rattle.std.specs.Prelude.{Option, Some, None, Ok, Err}
use Rattle.std.specs.Option.{IsSome}
use Rattle.values.specs.Refusal.{number_of}
use Rattle.values.specs.declared.refusal.Refusal.TheVariants.{NotShortest}
use Rattle.paths.specs.Answers.{FirstAnswer, NextAnswer}
use Rattle.std.specs.Prelude.{◌≡◌, ℕ, ◌+◌, ◌-◌, ◌<◌, ◌≤◌, List, [], ◌∷◌, Bool, true, false, cond, not, ◌&&◌, ◌||◌, ◌⊎◌, length, drop, set, eqb, ltb, leb}
use Rattle.std.specs.List.{list_any}
use Rattle.lists.specs.Entries.{at, any_below}
use Rattle.lists.specs.Rows.{fill}
use Rattle.kripke.specs.Transitions.{Edge, succs}
use Rattle.paths.specs.Questions.{Reaches, From}

-- t is an entry
unfoldable pub has : ℕ → List ℕ → Bool
has t xs = list_any (λ (x : ℕ). eqb x t) xs

-- entry i has an entry before it and no transition from that one
unfoldable pub unjoined : List ℕ → List ℕ → ℕ → Bool
unjoined es p i = ltb 0 i && not (has (at p i) (succs es (at p (i - 1))))

-- entry i is no state, has no transition from the one before it, or lacks the left value, at the last place the right
unfoldable pub at_fault : ℕ → List ℕ → (ℕ → ℕ) → (ℕ → ℕ) → ℕ → List ℕ → ℕ → Bool
at_fault S es left right level p i = leb S (at p i) || (unjoined es p i || ltb (cond (ltb (i + 1) (length p)) (left (at p i)) (right (at p i))) level)

-- `is_witness`: there is an entry and none is at fault; or there is none, or one that is
abbrev pub Faultless : ℕ → List ℕ → (ℕ → ℕ) → (ℕ → ℕ) → ℕ → List ℕ → Bool → Type 0
Faultless S es left right level p true = (0 < length p) × (any_below (at_fault S es left right level p) (length p) ≡ false)
Faultless S es left right level p false = (length p ≡ 0) ⊎ ((i : ℕ) × (i < length p) × (at_fault S es left right level p i ≡ true))

-- the first entry that is not below `above` and has the distance that is wanted
unfoldable pub first_fit : List ℕ → ℕ → ℕ → List ℕ → Option ℕ
first_fit d want above [] = None
first_fit d want above (t ∷ ts) = cond (leb above t && eqb (at d t) want) (Some t) (first_fit d want above ts)

-- the witnesses of one entry: 1 for a state whose right value is at least the level
unfoldable pub at_once : ℕ → (ℕ → ℕ) → ℕ → ℕ → ℕ
at_once S right level s = cond (leb S s || ltb (right s) level) 0 1

-- d has the entries of a shortest witness from each state that has one of at most k entries; no other number is wrong, none above b
pub record Upto (es : List ℕ) (L R : ℕ → Type 0) (k b : ℕ) (d : List ℕ) : Type 0 where
  pub sound : (s : ℕ) → 0 < at d s → (p : List ℕ) × From es L R s p × (length p + 1 ≡ at d s)
  pub least : (s : ℕ) (p : List ℕ) → From es L R s p → length p + 1 ≤ k → (0 < at d s) × (at d s ≤ length p + 1)
  pub bound : (s : ℕ) → at d s ≤ b

-- `settle`: s gets k + 1, or nothing changes, and then for a reason
abbrev pub Settled : List ℕ → (ℕ → ℕ) → ℕ → ℕ → ℕ → List ℕ → List ℕ → Type 0
Settled es left level k s d e =
    ((e ≡ set d s (k + 1)) × (at d s ≡ 0) × (level ≤ left s) × ((t : ℕ) × Edge es s t × (at d t ≡ k)))
    ⊎ ((e ≡ d) × ((t : ℕ) → level ≤ left s → Edge es s t → at d t ≡ k → 0 < at d s))

-- `round`
pub record Rounded (S : ℕ) (es left : List ℕ) (level k : ℕ) (before after : List ℕ) : Type 0 where
  pub more : (right : List ℕ) → Upto es (Reaches S level (at left)) (Reaches S level (at right)) k k before → Upto es (Reaches S level (at left)) (Reaches S level (at right)) (k + 1) (k + 1) after

-- the distances reach far enough for the start: it has one, or there is none
pub record Far (es : List ℕ) (L R : ℕ → Type 0) (S start : ℕ) (d : List ℕ) : Type 0 where
  pub reach : ℕ
  pub upto : Upto es L R reach reach d
  pub enough : (0 < at d start) ⊎ (S ≤ reach)

-- `measure`
abbrev pub Measured : ℕ → List ℕ → List ℕ → List ℕ → ℕ → ℕ → List ℕ → Type 0
Measured S es left right level start d = Far es (Reaches S level (at left)) (Reaches S level (at right)) S start d

-- what going down the distances needs: only states have one, at most S, and from 2 on there is a next one below
pub record Layers (S : ℕ) (es d : List ℕ) : Type 0 where
  pub inside : (s : ℕ) → 0 < at d s → s < S
  pub few : (s : ℕ) → at d s ≤ S
  pub next : (s : ℕ) → 1 < at d s → IsSome (first_fit d (at d s - 1) 0 (succs es s))

-- there is one proof of it at most, as a ghost field asks
pub Layers-prop : (S : ℕ) (es d : List ℕ) → IsProp (Layers S es d)
Layers-prop S es d = Prim.hlevel props

module _ (es : List ℕ) (d : ℕ → ℕ) where
  -- t is a successor of s with a distance one less
  abbrev pub Below : ℕ → ℕ → Type 0
  Below s t = Edge es s t × (d s ≡ d t + 1)

  -- s and then the list: each one below the one before, the last of distance 1
  abbrev pub Down : ℕ → List ℕ → Type 0
  Down s [] = d s ≡ 1
  Down s (t ∷ p) = Below s t × Down t p

  -- the same, each time the smallest
  abbrev pub Greedy : ℕ → List ℕ → Type 0
  Greedy s [] = d s ≡ 1
  Greedy s (t ∷ p) = Below s t × ((u : ℕ) → Below s u → t ≤ u) × Greedy t p

  -- at no place is there a larger one
  abbrev pub Greatest : ℕ → List ℕ → Type 0
  Greatest s [] = Unit {0}
  Greatest s (t ∷ p) = ((u : ℕ) → Below s u → u ≤ t) × Greatest t p

  -- r parts from p at p's last place that has a larger one, takes the smallest such, and from there the smallest each time
  abbrev pub Onto : ℕ → List ℕ → List ℕ → Type 0
  Onto s [] r = ⊥
  Onto s (t ∷ p) [] = ⊥
  Onto s (t ∷ p) (u ∷ r) = ((t ≡ u) × Onto t p r) ⊎ (Greatest t p × Below s u × (t < u) × ((w : ℕ) → Below s w → t < w → u ≤ w) × Greedy u r)

-- `descend`: u, and then the smallest each time
pub record Descended (es : List ℕ) (d : ℕ → ℕ) (u : ℕ) (after : List ℕ) : Type 0 where
  pub tail : List ℕ
  pub is : after ≡ u ∷ tail
  pub greedy : Greedy es d u tail

-- `advance`: on to the next list from the same first entry, or none is larger and nothing changes
pub record Advanced (es : List ℕ) (d : ℕ → ℕ) (before after : List ℕ) (more : Bool) : Type 0 where
  pub size : length after ≡ length before
  pub start : at after 0 ≡ at before 0
  pub onto : more ≡ true → Onto es d (at before 0) (drop 1 before) (drop 1 after)
  pub top : more ≡ false → (after ≡ before) × Greatest es d (at before 0) (drop 1 before)

-- `Descent::first`
abbrev pub FirstFound : List ℕ → (ℕ → ℕ) → ℕ → List ℕ → List ℕ → FirstAnswer → Type 0
FirstFound es d start before after (Ok (Some n)) = (d start ≡ n) × (n ≤ length before) × ((p : List ℕ) × (length p ≡ n) × (after ≡ fill p before) × Descended es d start p)
FirstFound es d start before after (Ok None) = (d start ≡ 0) × (after ≡ before)
FirstFound es d start before after (Err e) = (number_of e ≡ 16) × (0 < d start) × (length before < d start) × (after ≡ before)

-- `Descent::next`
abbrev pub NextFound : List ℕ → (ℕ → ℕ) → List ℕ → List ℕ → NextAnswer → Type 0
NextFound es d before after (Ok Path) = (d (at before 0) ≡ length before) × (length after ≡ length before) × (at after 0 ≡ at before 0) × Onto es d (at before 0) (drop 1 before) (drop 1 after)
NextFound es d before after (Ok End) = (d (at before 0) ≡ length before) × (after ≡ before) × Greatest es d (at before 0) (drop 1 before)
NextFound es d before after (Err e) = (number_of e ≡ 17) × (d (at before 0) ≡ length before → ⊥) × (after ≡ before)

-- `Question::first`
pub record FirstWorked (S : ℕ) (es left right : List ℕ) (level start : ℕ) (before after : List ℕ) (answer : FirstAnswer) : Type 0 where
  pub distances : List ℕ
  pub measured : Measured S es left right level start distances
  pub found : FirstFound es (at distances) start before after answer

-- `Question::next`: an entry is at fault, or none is and the distances tell
pub record NextBroken (S : ℕ) (es left right : List ℕ) (level : ℕ) (before after : List ℕ) (answer : NextAnswer) : Type 0 where
  pub broken : Faultless S es (at left) (at right) level before false
  pub refused : answer ≡ Err NotShortest
  pub untouched : after ≡ before

pub record NextTold (S : ℕ) (es left right : List ℕ) (level : ℕ) (before after : List ℕ) (answer : NextAnswer) : Type 0 where
  pub whole : Faultless S es (at left) (at right) level before true
  pub distances : List ℕ
  pub measured : Measured S es left right level (at before 0) distances
  pub found : NextFound es (at distances) before after answer

abbrev pub NextWorked : ℕ → List ℕ → List ℕ → List ℕ → ℕ → List ℕ → List ℕ → NextAnswer → Type 0
NextWorked S es left right level before after answer = NextBroken S es left right level before after answer ⊎ NextTold S es left right level before after answer
