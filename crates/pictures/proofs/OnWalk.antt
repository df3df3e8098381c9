-- The walk as `draw` takes it: what stands in the space and in the places at each turn, and what it hands out.
use mathlib.Core.Path.{◌≡◌, refl, sym, ap, ◌∙◌, subst}
use Prim.Native.Nat.{ℕ, ◌+◌, ◌≤◌, ◌<◌}
use mathlib.Core.List.{List, [], ◌∷◌, ◌++◌}
use mathlib.Core.Logic.{⊎_elim}
use native.Mathlib.Omega.{arith}
use lib.ListN.{length, set, drop, replicate, length-append, length-drop}
use Rattle.lists.specs.Entries.{at}
use Rattle.values.specs.Limits.{most_states}
use Rattle.kripke.specs.Transitions.{Edge}
use Rattle.pictures.specs.Inside.{AllMarked, Drawing, Goes, Marked, WaysNoted, Walked, WayOn, mark, way_of}
use Rattle.pictures.specs.Pictures.{EndsBy}
use Rattle.std.specs.Prelude.{Option, Some, None, Ok}
use mathlib.Core.Bool.{Bool, true, true≢false}
use Rattle.pictures.specs.declared.Ending.{Ending}
use Rattle.pictures.specs.declared.Ending.TheVariants.{Falls, Back}
use Rattle.pictures.proofs.Ends.{all_last, length_end, put_end}
use Rattle.pictures.proofs.Walking.{Walking, place, walk_back, walk_falls, walk_fits, walk_more, walk_start}

-- n states were passed and stand at the front of the space, s is next
pub record OnWalk (S : ℕ) (es : List ℕ) (marks : List Bool) (start : ℕ) (before space : List ℕ) (places : List (Option ℕ)) (s n : ℕ) : Type 0 where
  pub passed : List ℕ
  pub size : length passed ≡ n
  pub front : space ≡ passed ++ drop n before
  pub walking : Walking S es (Marked S marks) start passed s places

-- what the code needs of it
pub record Steady (S : ℕ) (before space : List ℕ) (s n : ℕ) : Type 0 where
  pub here : s < S
  pub left_over : n < S
  pub size : length space ≡ length before

module _ (S : ℕ) (es : List ℕ) (marks : List Bool) (start : ℕ) (before : List ℕ) (room : S ≤ length before) where
  inside : (s : ℕ) → Marked S marks s → s < S
  inside s m = m.0

  pub on_start : S ≤ most_states → Marked S marks start → OnWalk S es marks start before before (replicate most_states None) start 0
  on_start few m = record { passed = []; size = refl; front = refl; walking = walk_start S es (Marked S marks) inside start most_states few m }

  module _ (space : List ℕ) (places : List (Option ℕ)) (s n : ℕ) (o : OnWalk S es marks start before space places s n) where
    pub on_marked : Marked S marks s
    on_marked = all_last (Marked S marks) o.passed s o.walking.holds

    fits : n < S
    fits = subst (λ (k : ℕ). k < S) o.size (walk_fits S es (Marked S marks) inside start o.passed s places o.walking)

    pub on_steady : Steady S before space s n
    on_steady = record { here = on_marked.0; left_over = fits; size = ap length o.front ∙ length-append o.passed (drop n before) ∙ omega (arith, o.size, length-drop n before, fits) }

    -- the space and the places with s put in
    put : set space n s ≡ (o.passed ++ (s ∷ [])) ++ drop (n + 1) before
    put = put_end o.passed before space n s o.size (omega (arith, fits)) o.front

    placed : set places s (Some (length o.passed)) ≡ set places s (Some n)
    placed = ap (λ (k : ℕ). set places s (Some k)) o.size

    longer : length (o.passed ++ (s ∷ [])) ≡ n + 1
    longer = length_end o.passed s ∙ ap (λ (k : ℕ). k + 1) o.size

    walked : (left : List ℕ) (e : Ending) → EndsBy es (at left) (o.passed ++ (s ∷ [])) e → Walked S es left marks start before (set space n s) (n + 1) e
    walked left e q = record { path = o.passed ++ (s ∷ []); size = longer; few = omega (arith, fits); space = put ∙ ap (λ (k : ℕ). (o.passed ++ (s ∷ [])) ++ drop k before) (sym longer); begins = o.walking.begins; marked = o.walking.holds; joined = o.walking.joined; ends = q }

    pub on_falls : (left : List ℕ) → at left s ≡ 0 → Walked S es left marks start before (set space n s) (n + 1) Falls
    on_falls left z = walked left Falls (walk_falls S es (Marked S marks) inside start o.passed s places o.walking (at left) z)

    -- the next state: the way on, which leads to a mark
    pub on_way : (left : List ℕ) (way : Option ℕ) → ((s : ℕ) → Marked S marks s → Goes es (at left) (Marked S marks) s) → (at left s ≡ 0 → ⊥) → WayOn S es marks s way → way ≡ None → ⊥
    on_way left way goes holds w e = ⊎_elim holds (λ x. true≢false (sym x.2.1 ∙ w.none e x.0 x.1)) (goes s on_marked)

    module _ (t : ℕ) (e : Edge es s t) where
      pub on_back : (left : List ℕ) (j : ℕ) → place (set places s (Some n)) t ≡ Some j → Walked S es left marks start before (set space n s) (n + 1) (Back j)
      on_back left j l = walked left (Back j) (walk_back S es (Marked S marks) inside start o.passed s places o.walking t e (at left) j (subst (λ (ps : List (Option ℕ)). place ps t ≡ Some j) (sym placed) l))

      pub on_more : Marked S marks t → place (set places s (Some n)) t ≡ None → OnWalk S es marks start before (set space n s) (set places s (Some n)) t (n + 1)
      on_more m z =
          record {
            passed = o.passed ++ (s ∷ []);
            size = longer;
            front = put;
            walking = subst (Walking S es (Marked S marks) start (o.passed ++ (s ∷ [])) t) placed (walk_more S es (Marked S marks) inside start o.passed s places o.walking t e m (subst (λ (ps : List (Option ℕ)). place ps t ≡ None) (sym placed) z));
          }

-- the walk's marks, by which the ways on are noted: they are those of the false states, and the start has one
pub record Going (S : ℕ) (es left right : List ℕ) (ways : List (Option ℕ)) (start : ℕ) (before space : List ℕ) (places : List (Option ℕ)) (s n : ℕ) : Type 0 where
  pub marks : List Bool
  pub marked : AllMarked S es left right marks
  pub follows : WaysNoted S es left marks ways S
  pub begun : mark marks start ≡ true
  pub walk : OnWalk S es marks start before space places s n

module _ (S : ℕ) (es left right : List ℕ) (ways : List (Option ℕ)) (start : ℕ) (before : List ℕ) (room : S ≤ length before) (space : List ℕ) (places : List (Option ℕ)) (s n : ℕ) (g : Going S es left right ways start before space places s n) where
  pub going_steady : Steady S before space s n
  going_steady = on_steady S es g.marks start before room space places s n g.walk

  drawing : (e : Ending) → Walked S es left g.marks start before (set space n s) (n + 1) e → Drawing S es left right start before (set space n s) (Ok (Some (n + 1, e)))
  drawing e w = record { marks = g.marks; marked = g.marked; says = (g.begun, room, w) }

  pub going_falls : at left s ≡ 0 → Drawing S es left right start before (set space n s) (Ok (Some (n + 1, Falls)))
  going_falls z = drawing Falls (on_falls S es g.marks start before room space places s n g.walk left z)

  module _ (holds : at left s ≡ 0 → ⊥) where
    way : WayOn S es g.marks s (way_of ways s)
    way = let m = on_marked S es g.marks start before room space places s n g.walk in g.follows.is s m.0 m holds

    pub going_way : way_of ways s ≡ None → ⊥
    going_way = on_way S es g.marks start before room space places s n g.walk left (way_of ways s) g.marked.goes holds way

    module _ (t : ℕ) (led : way_of ways s ≡ Some t) where
      next : Edge es s t × Marked S g.marks t
      next = way.found t led

      pub going_state : t < S
      going_state = next.1.0

      pub going_back : (j : ℕ) → place (set places s (Some n)) t ≡ Some j → Drawing S es left right start before (set space n s) (Ok (Some (n + 1, Back j)))
      going_back j l = drawing _ (on_back S es g.marks start before room space places s n g.walk t next.0 left j l)

      pub going_on : place (set places s (Some n)) t ≡ None → Going S es left right ways start before (set space n s) (set places s (Some n)) t (n + 1)
      going_on z = record { marks = g.marks; marked = g.marked; follows = g.follows; begun = g.begun; walk = on_more S es g.marks start before room space places s n g.walk t next.0 next.1 z }
