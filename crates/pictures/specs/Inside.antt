-- What the private functions promise to each other.
use denote.Struct.Props.{props}
use Rattle.std.specs.Prelude.{◌≡◌, ℕ, ◌<◌, ◌≤◌, List, Bool, true, false, Option, Some, None, Ok, Err, ◌⊎◌, length, get_or, eqb}
use Rattle.lists.specs.Entries.{at, All}
use Rattle.lists.specs.Rows.{fill}
use Rattle.values.specs.Rows.{bad_row}
use Rattle.values.specs.declared.refusal.Refusal.TheVariants.{PathSpace}
use Rattle.kripke.specs.Transitions.{Edge}
use Rattle.kripke.specs.Walks.{Begins, Joined}
use Rattle.kripke.specs.Refusals.{table_refusal}
use Rattle.kripke.specs.Until.{until}
use Rattle.paths.specs.Questions.{Witness}
use Rattle.paths.specs.Questions as paths
use Rattle.pictures.specs.declared.Ending.{Ending}
use Rattle.pictures.specs.Answers.{PictureAnswer}
use Rattle.pictures.specs.Pictures.{EndsBy}

-- P goes on at s: the left value is 0, or P holds at a successor
abbrev pub Goes : List ℕ → (ℕ → ℕ) → (ℕ → Type 0) → ℕ → Type 0
Goes es left P s = (left s ≡ 0) ⊎ ((t : ℕ) × Edge es s t × P t)

-- the mark at s
abbrev pub mark : List Bool → ℕ → Bool
mark marks s = get_or marks s false

-- s is a state with a mark
abbrev pub Marked : ℕ → List Bool → ℕ → Type 0
Marked S marks s = (s < S) × (mark marks s ≡ true)

-- every state where A(left U right) is false has a mark, and where there is a mark the right value is 0
pub record Holds (S : ℕ) (es left right : List ℕ) (marks : List Bool) : Type 0 where
  pub all : (s : ℕ) → s < S → until true es left right S s ≡ 0 → mark marks s ≡ true
  pub low : (s : ℕ) → Marked S marks s → at right s ≡ 0

-- `begin`: a mark on each state where the right value is 0
pub record Begun (S : ℕ) (right : List ℕ) (marks : List Bool) : Type 0 where
  pub is : (s : ℕ) → s < S → mark marks s ≡ eqb (at right s) 0

-- `way`: a successor with a mark, or none where there is none
pub record WayOn (S : ℕ) (es : List ℕ) (marks : List Bool) (s : ℕ) (way : Option ℕ) : Type 0 where
  pub found : (t : ℕ) → way ≡ Some t → Edge es s t × Marked S marks t
  pub none : way ≡ None → (t : ℕ) → Edge es s t → mark marks t ≡ false

-- `is_stuck`: a mark where the left value is not 0 and there is no way on
pub record Stuck (S : ℕ) (es left : List ℕ) (marks : List Bool) (s : ℕ) (stuck : Bool) : Type 0 where
  pub held : stuck ≡ true → mark marks s ≡ true
  pub kept : stuck ≡ true → at left s ≡ 0 → ⊥
  pub none : stuck ≡ true → (t : ℕ) → Edge es s t → mark marks t ≡ false
  pub goes : stuck ≡ false → Marked S marks s → Goes es (at left) (Marked S marks) s

-- the way on that is noted for s
abbrev pub way_of : List (Option ℕ) → ℕ → Option ℕ
way_of ways s = get_or ways s None

-- each way on that is noted is along a transition
pub record Led (es : List ℕ) (ways : List (Option ℕ)) : Type 0 where
  pub along : (s t : ℕ) → way_of ways s ≡ Some t → Edge es s t

-- `is_stuck`: where there is a mark and the left value is not 0, the way on is noted; what is noted of other states stays
pub record StateNoted (S : ℕ) (es left : List ℕ) (marks : List Bool) (s : ℕ) (before after : List (Option ℕ)) : Type 0 where
  pub here : Marked S marks s → (at left s ≡ 0 → ⊥) → WayOn S es marks s (way_of after s)
  pub others : (x : ℕ) → (x ≡ s → ⊥) → way_of after x ≡ way_of before x

-- the way on is noted for each state below n that has a mark and a left value that is not 0
pub record WaysNoted (S : ℕ) (es left : List ℕ) (marks : List Bool) (ways : List (Option ℕ)) (n : ℕ) : Type 0 where
  pub is : (s : ℕ) → s < n → Marked S marks s → (at left s ≡ 0 → ⊥) → WayOn S es marks s (way_of ways s)

-- `round`: the marks still hold, for whichever right row; none is new, and one is taken off, or all go on
pub record Rounded (S : ℕ) (es left : List ℕ) (before after : List Bool) (some : Bool) : Type 0 where
  pub keeps : (right : List ℕ) → Holds S es left right before → Holds S es left right after
  pub no_more : (s : ℕ) → mark after s ≡ true → mark before s ≡ true
  pub fewer : some ≡ true → (s : ℕ) × (s < S) × (mark before s ≡ true) × (mark after s ≡ false)
  pub goes : some ≡ false → (s : ℕ) → Marked S after s → Goes es (at left) (Marked S after) s

-- `mark`: the marks hold, and all go on
pub record AllMarked (S : ℕ) (es left right : List ℕ) (marks : List Bool) : Type 0 where
  pub holds : Holds S es left right marks
  pub goes : (s : ℕ) → Marked S marks s → Goes es (at left) (Marked S marks) s

-- the walk: at the front of the space states with marks, the start first, joined by transitions, and how they end
pub record Walked (S : ℕ) (es left : List ℕ) (marks : List Bool) (start : ℕ) (before after : List ℕ) (n : ℕ) (e : Ending) : Type 0 where
  pub path : List ℕ
  pub size : length path ≡ n
  pub few : n ≤ S
  pub space : after ≡ fill path before
  pub begins : Begins start path
  pub marked : All (Marked S marks) path
  pub joined : Joined es path
  pub ends : EndsBy es (at left) path e

-- `draw`: by the mark of the start, the room, and the walk
abbrev pub DrawSays : ℕ → List ℕ → List ℕ → List Bool → ℕ → List ℕ → List ℕ → PictureAnswer → Type 0
DrawSays S es left marks start before after (Ok (Some (n, e))) = (mark marks start ≡ true) × (S ≤ length before) × Walked S es left marks start before after n e
DrawSays S es left marks start before after (Ok None) = (mark marks start ≡ false) × (after ≡ before)
DrawSays S es left marks start before after (Err e) = (e ≡ PathSpace) × (mark marks start ≡ true) × (length before < S) × (after ≡ before)

pub record Drawing (S : ℕ) (es left right : List ℕ) (start : ℕ) (before after : List ℕ) (answer : PictureAnswer) : Type 0 where
  pub marks : List Bool
  pub marked : AllMarked S es left right marks
  pub says : DrawSays S es left marks start before after answer

-- whether P holds
pub record Tells (P : Type 0) (answer : Bool) : Type 0 where
  pub holds : answer ≡ true → P
  pub fails : answer ≡ false → P → ⊥

-- transitions that are not refused, and a row of as many states
pub record Readable (S : ℕ) (es row : List ℕ) : Type 0 where
  pub table : table_refusal S es ≡ 0
  pub valid : bad_row S row ≡ false

-- there is one proof of it at most, as a ghost field asks
pub Readable-prop : (S : ℕ) (es row : List ℕ) → IsProp (Readable S es row)
Readable-prop S es row = Prim.hlevel props

-- `passes`: one or more states, joined by transitions, the row true at all of them
abbrev pub Passing : ℕ → List ℕ → List ℕ → List ℕ → Type 0
Passing S es row path = Witness (paths.asked S es row row 2) path
