-- The clauses of AX, EF, AF, EG, AG and or meet what they must: one law for each form, over "some" and "all".
use mathlib.Core.Path.{◌≡◌, refl, sym, ap, ap₂, ◌∙◌, subst}
use Prim.Native.Nat.{ℕ, ◌≤◌, ◌<◌, min, max}
use mathlib.Core.List.{List, []}
use mathlib.Core.Bool.{Bool, true, false, not}
use mathlib.Core.Logic.{◌↔◌}
use native.Mathlib.Omega.{arith}
use Rattle.lists.specs.Entries.{at}
use Rattle.lists.specs.Rows.{tab}
use Rattle.values.specs.Values.{neg, top}
use Rattle.kripke.specs.Transitions.{Graph}
use Rattle.kripke.specs.Until.{next, opposite}
use Rattle.kripke.specs.Endless.{EveryHas, EveryKeeps, SomeHas, SomeKeeps}
use Rattle.model.specs.Model.{Model}
use Rattle.model.specs.declared.kinds.Kind.{Kind}
use Rattle.model.specs.declared.kinds.Kind.TheVariants.{Af, Ag, And, Ax, Ef, Eg, Ex, Implies, Or}
use Rattle.ctl.specs.Nodes.{node_row, node_value}
use Rattle.ctl.specs.Operators.{Dual, EveryNext, Greatest, Least, OnRows, RowFine, Says, SomeNext, Unfolds, of_two, row_of}
use Rattle.kripke.proofs.Always.{all_next, always, always_greatest, always_small, always_unfolds, eventually, eventually_least, eventually_small, eventually_unfolds, next_small, opposite_at, small_opposite, small_tab}
use Rattle.kripke.proofs.AlwaysPaths.{every_has, every_keeps, some_has, some_keeps}
use Rattle.kripke.proofs.Nexts.{next_every, next_reaches_lem}
use Rattle.lists.proofs.Rows.{length_tab, tab_at, tab_own, tab_same}

-- the kinds by "some" and "all"; always is not eventually not, and its flag is that of eventually
abbrev next_of : Bool → Kind
next_of false = Ex
next_of true = Ax

abbrev eventually_of : Bool → Kind
eventually_of false = Ef
eventually_of true = Af

abbrev always_of : Bool → Kind
always_of false = Ag
always_of true = Eg

module _ (m : Model) (G : Graph m.states m.transitions) where
  abbrev S : ℕ
  S = m.states

  abbrev es : List ℕ
  es = m.transitions

  eventually_value : (all : Bool) (f g : List ℕ) (s : ℕ) → of_two m (eventually_of all) f g s ≡ eventually S es G all f s
  unfolding node_value
  eventually_value false f g s = refl
  eventually_value true f g s = refl

  always_value : (all : Bool) (f g : List ℕ) (s : ℕ) → of_two m (always_of all) f g s ≡ always S es G all f s
  unfolding node_value
  always_value false f g s = refl
  always_value true f g s = refl

  next_value : (all : Bool) (X g : List ℕ) → ((t : ℕ) → at X t ≤ top) → (s : ℕ) → s < S → of_two m (next_of all) X g s ≡ next all es X s
  unfolding node_value
  next_value false X g small s h = refl
  next_value true X g small s h = all_next S es G X small s h

  -- a row of next, at a state
  next_at : (all : Bool) (X : List ℕ) → ((t : ℕ) → at X t ≤ top) → (s : ℕ) → s < S → at (row_of m (next_of all) X) s ≡ next all es X s
  unfolding node_row
  next_at all X small s h = tab_at (node_value m (next_of all) 0 X []) S s h ∙ next_value all X [] small s h

  eventually_row : (all : Bool) (f : List ℕ) → row_of m (eventually_of all) f ≡ tab (eventually S es G all f) S
  unfolding node_row
  eventually_row all f = tab_same _ _ S (λ s h. eventually_value all f [] s)

  always_row : (all : Bool) (f : List ℕ) → row_of m (always_of all) f ≡ tab (always S es G all f) S
  unfolding node_row
  always_row all f = tab_same _ _ S (λ s h. always_value all f [] s)

  -- not twice is nothing
  pub opposite_twice : (f : List ℕ) → RowFine S f → opposite S (opposite S f) ≡ f
  unfolding opposite
  opposite_twice f r =
      tab_same _ (at f) S (λ s h. let o = opposite_at S es G f s h in let l = r.small s in omega arith)
      ∙ ap (tab (at f)) (sym r.size)
      ∙ tab_own f

  pub opposite_row : (f : List ℕ) → RowFine S (opposite S f)
  unfolding opposite
  opposite_row f = record { size = length_tab _ S; small = small_opposite S es G f }

  -- f joined to the next of X, by the kinds
  or_next : (all : Bool) (f X : List ℕ) → ((t : ℕ) → at X t ≤ top) → (s : ℕ) → s < S → of_two m Or f (row_of m (next_of all) X) s ≡ max (at f s) (next all es X s)
  unfolding node_value
  or_next all f X small s h = ap (max (at f s)) (next_at all X small s h)

  and_next : (all : Bool) (f X : List ℕ) → ((t : ℕ) → at X t ≤ top) → (s : ℕ) → s < S → of_two m And f (row_of m (next_of all) X) s ≡ min (at f s) (next all es X s)
  unfolding node_value
  and_next all f X small s h = ap (min (at f s)) (next_at all X small s h)

-- EF f is f or EX EF f, AF f is f or AX AF f
pub eventually_unfold : (all : Bool) → Unfolds (eventually_of all) Or (next_of all)
eventually_unfold all m G f g r q s h =
    let row : List ℕ = tab (eventually m.states m.transitions G all f) m.states in
    let small = small_tab m.states m.transitions G (eventually m.states m.transitions G all f) (eventually_small m.states m.transitions G all f r.small) in
    eventually_value m G all f [] s
    ∙ eventually_unfolds m.states m.transitions G all f r.small s h
    ∙ sym (or_next m G all f row small s h)
    ∙ ap (λ (X : List ℕ). of_two m Or f (row_of m (next_of all) X) s) (sym (eventually_row m G all f))

-- EG f is f and EX EG f, AG f is f and AX AG f
pub always_unfold : (all : Bool) → Unfolds (always_of all) And (next_of (not all))
always_unfold all m G f g r q s h =
    let row : List ℕ = tab (always m.states m.transitions G all f) m.states in
    let small = small_tab m.states m.transitions G (always m.states m.transitions G all f) (λ t l. always_small m.states m.transitions G all f t) in
    always_value m G all f [] s
    ∙ always_unfolds m.states m.transitions G all f r.small s h
    ∙ sym (and_next m G (not all) f row small s h)
    ∙ ap (λ (X : List ℕ). of_two m And f (row_of m (next_of (not all)) X) s) (sym (always_row m G all f))

pub eventually_is_least : (all : Bool) → Least (eventually_of all) Or (next_of all)
eventually_is_least all m G f X r q s h raised =
    subst (λ (v : ℕ). v ≤ at X s) (sym (eventually_value m G all f [] s))
    (eventually_least m.states m.transitions G all f X (λ t l. subst (λ (v : ℕ). v ≤ at X t) (or_next m G all f X q.small t l) (raised t l)) s h)

pub always_is_greatest : (all : Bool) → Greatest (always_of all) And (next_of (not all))
always_is_greatest all m G f X r q s h lowered =
    subst (λ (v : ℕ). at X s ≤ v) (sym (always_value m G all f [] s))
    (always_greatest m.states m.transitions G all f r.small X (λ t l. subst (λ (v : ℕ). at X t ≤ v) (and_next m G (not all) f X q.small t l) (lowered t l)) s h)

-- of next states and of endless paths
pub ex_says : Says Ex SomeNext
unfolding node_value
ex_says m G f g r q s h level t = next_reaches_lem m.states m.transitions G f level s h

pub ax_says : Says Ax EveryNext
ax_says m G f g r q s h level t = subst (λ (v : ℕ). (level ≤ v) ↔ EveryNext m.transitions s (λ (t : ℕ). level ≤ at f t)) (sym (next_value m G true f [] r.small s h)) (next_every m.states m.transitions G f level s h)

pub ef_says : Says Ef SomeHas
unfolding node_value
ef_says m G f g r q s h level t = some_has m.states m.transitions G f level s t h

pub af_says : Says Af EveryHas
unfolding node_value
af_says m G f g r q s h level t = every_has m.states m.transitions G f level s t h

pub eg_says : Says Eg SomeKeeps
unfolding node_value
eg_says m G f g r q s h level t = some_keeps m.states m.transitions G f level s t h

pub ag_says : Says Ag EveryKeeps
unfolding node_value
ag_says m G f g r q s h level t = every_keeps m.states m.transitions G f level s t h

-- not EX not and its like, as the clauses have them
pub ax_dual : Dual Ax Ex
unfolding node_value
ax_dual m G f g r q s h = refl

pub always_dual : (all : Bool) → Dual (always_of all) (eventually_of all)
always_dual all m G f g r q s h = always_value m G all f g s ∙ ap neg (sym (eventually_value m G all (opposite m.states f) (opposite m.states g) s))

pub or_dual : Dual Or And
unfolding node_value
or_dual m G f g r q s h =
    let a = opposite_at m.states m.transitions G f s h in
    let b = opposite_at m.states m.transitions G g s h in
    let x = r.small s in
    let y = q.small s in
    omega arith

-- and the other way round, where the other's values are at most 2
pub dual_back : (op other : Kind) → Dual op other → ((m : Model) → Graph m.states m.transitions → (f g : List ℕ) → RowFine m.states f → RowFine m.states g → (s : ℕ) → s < m.states → of_two m other f g s ≤ top) → Dual other op
dual_back op other dual few m G f g r q s h =
    let S : ℕ = m.states in
    let d = dual m G (opposite S f) (opposite S g) (opposite_row m G f) (opposite_row m G g) s h in
    let twice : of_two m other (opposite S (opposite S f)) (opposite S (opposite S g)) s ≡ of_two m other f g s = ap₂ (λ (x y : List ℕ). of_two m other x y s) (opposite_twice m G f r) (opposite_twice m G g q) in
    let l = few m G f g r q s h in
    omega arith

pub ex_dual : Dual Ex Ax
unfolding node_value
ex_dual = dual_back Ax Ex ax_dual (λ m G f g r q s h. next_small m.states m.transitions G false f r.small s)

pub eventually_dual : (all : Bool) → Dual (eventually_of all) (always_of all)
eventually_dual all = dual_back (always_of all) (eventually_of all) (always_dual all) (λ m G f g r q s h. let e = eventually_value m G all f g s in let l = eventually_small m.states m.transitions G all f r.small s h in omega arith)

pub and_dual : Dual And Or
unfolding node_value
and_dual = dual_back Or And or_dual (λ m G f g r q s h. let l = r.small s in omega arith)

-- implies is (not left) or right
pub implies_or_lem : OnRows (λ m f g s. of_two m Implies f g s ≡ of_two m Or (opposite m.states f) g s)
unfolding node_value
implies_or_lem m G f g r q s h = ap (λ (v : ℕ). max v (at g s)) (sym (opposite_at m.states m.transitions G f s h))
