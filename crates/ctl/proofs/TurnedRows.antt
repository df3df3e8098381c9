-- Rows written with the equations of the kinds beside E and A: true on the left of an until, and not before and after.
use mathlib.Core.Path.{◌≡◌, refl, ap, ◌∙◌}
use Prim.Native.Nat.{ℕ, ◌-◌}
use mathlib.Core.List.{List, ◌++◌}
use mathlib.Core.Bool.{Bool}
use lib.ListN.{replicate}
use Rattle.lists.specs.Entries.{at}
use Rattle.lists.specs.Rows.{Filled, tab}
use Rattle.values.specs.Values.{neg, top}
use Rattle.kripke.specs.Until.{everywhere, opposite, next, until}
use Rattle.ctl.proofs.Operands.{behind_zeros}
use Rattle.kripke.proofs.Related.{equal_kept, next_related, until_related}
use Rattle.lists.proofs.Rows.{drop_replicate, filled_at, filled_same}

-- rows of the same values, wherever they are asked
abbrev Same : List ℕ → List ℕ → Type 0
Same X Y = (s : ℕ) → at X s ≡ at Y s

-- a row filled in a space of zeros is the rule's own row, zeros behind it
in_zeros : (f : ℕ → ℕ) (n m : ℕ) (row : List ℕ) → Filled f n (replicate m 0) row → Same row (tab f n)
in_zeros f n m row e s = ap (λ (xs : List ℕ). at xs s) (e ∙ ap (λ (xs : List ℕ). tab f n ++ xs) (drop_replicate n m 0)) ∙ behind_zeros (tab f n) (m - n) s

pub next_same : (all : Bool) (es X Y : List ℕ) → Same X Y → (s : ℕ) → next all es X s ≡ next all es Y s
next_same all es X Y = next_related (λ (a b : ℕ). a ≡ b) equal_kept all es X Y

until_same : (all : Bool) (es L M R Q : List ℕ) → Same L M → Same R Q → (n s : ℕ) → until all es L R n s ≡ until all es M Q n s
until_same = until_related (λ (a b : ℕ). a ≡ b) equal_kept

pub eventually_same : (all : Bool) (es : List ℕ) (S : ℕ) (X Y : List ℕ) → Same X Y → (s : ℕ) → until all es (everywhere S) X S s ≡ until all es (everywhere S) Y S s
eventually_same all es S X Y h = until_same all es _ _ X Y (λ s. refl) h S

-- EF and AF
pub eventually_filled : (all : Bool) (es left : List ℕ) (S room : ℕ) (truth d out : List ℕ) → Filled (λ (s : ℕ). top) S (replicate room 0) truth → Filled (until all es truth left S) S d out → Filled (until all es (everywhere S) left S) S d out
unfolding everywhere
eventually_filled all es left S room truth d out e =
    filled_same (until all es truth left S) (until all es (everywhere S) left S) S d out
    (λ s l. until_same all es truth (everywhere S) left left (in_zeros (λ (s : ℕ). top) S room truth e) (λ s. refl) S s)

-- not, then what goes by the values of a row, then not: AX, AG, EG
pub turned_filled : (G : List ℕ → ℕ → ℕ) → ((X Y : List ℕ) → Same X Y → (s : ℕ) → G X s ≡ G Y s) → (left : List ℕ) (S room room' : ℕ) (turned found d out : List ℕ) → Filled (λ (s : ℕ). neg (at left s)) S (replicate room 0) turned → Filled (G turned) S (replicate room' 0) found → Filled (λ (s : ℕ). neg (at found s)) S d out → Filled (λ (s : ℕ). neg (G (opposite S left) s)) S d out
unfolding opposite
turned_filled G same left S room room' turned found d out e h =
    filled_same (λ (s : ℕ). neg (at found s)) (λ (s : ℕ). neg (G (opposite S left) s)) S d out
    (λ s l. ap neg (filled_at (G turned) S (replicate room' 0) found h s l ∙ same turned (opposite S left) (in_zeros (λ (s : ℕ). neg (at left s)) S room turned e) s))
