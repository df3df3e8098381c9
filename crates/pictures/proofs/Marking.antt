-- The marks: the way on from a state, what a round takes off, what stays, and what the rounds begin and end with.
use mathlib.Core.Path.{◌≡◌, refl, sym, ap, ◌∙◌, subst}
use Prim.Native.Nat.{ℕ, ◌+◌, ◌≤◌, ◌<◌}
use mathlib.Core.List.Memᴰ
use mathlib.Core.List.{List, [], ◌∷◌, Memᴰ}
use mathlib.Core.Bool.{Bool, true, false, cond, not, true≢false}
use mathlib.Core.Logic.{◌⊎◌, inl, inr, ⊎_elim}
use native.Mathlib.Omega.{arith}
use borrow.Author.Count.{below_more}
use lib.ListN.{length, replicate, set}
use borrow.Author.Tests.{eq-eqb, eqb-true}
use Rattle.std.specs.Prelude.{Option, Some, None}
use Rattle.std.specs.Option.{is_some}
use Rattle.lists.specs.Entries.{All, at}
use Rattle.lists.proofs.Entries.{member_all}
use Rattle.lists.proofs.Sums.{sum, sum_raised}
use Rattle.kripke.specs.Transitions.{Edge, Graph, succs}
use Rattle.kripke.specs.Until.{until}
use Rattle.kripke.proofs.Successors.{edge_state, edge_succ, succ_edge}
use Rattle.pictures.specs.Inside.{Begun, Goes, Holds, Led, Marked, WaysNoted, Rounded, StateNoted, Stuck, WayOn, mark, way_of}
use Rattle.pictures.proofs.Closing.{false_goes, false_low}
use Rattle.lists.proofs.Entries.{same_at, set_or_not}

-- `way`: what is left of the successors, and what was found
pub record Seeking (S : ℕ) (es : List ℕ) (marks : List Bool) (s : ℕ) (way : Option ℕ) (rest : List ℕ) : Type 0 where
  pub edges : All (λ (t : ℕ). Edge es s t) rest
  pub found : (t : ℕ) → way ≡ Some t → Edge es s t × Marked S marks t
  pub none : way ≡ None → (t : ℕ) → Edge es s t → (mark marks t ≡ false) ⊎ Memᴰ t rest

not_some : (t : ℕ) → ◌≡◌ {A = Option ℕ} None (Some t) → ⊥
not_some t e = cc

module _ (S : ℕ) (es : List ℕ) (marks : List Bool) (s : ℕ) where
  pub seeking_start : Seeking S es marks s None (succs es s)
  seeking_start = record { edges = member_all _ _ (λ t m. succ_edge es s t m); found = λ t e. absurd (not_some t e); none = λ e t x. inr (edge_succ es s t x) }

  module _ (G : Graph S es) (way : Option ℕ) (t : ℕ) (rest : List ℕ) (k : Seeking S es marks s way (t ∷ rest)) where
    pub seeking_state : t < S
    seeking_state = edge_state S es G s t k.edges.0

    pub seeking_found : mark marks t ≡ true → Seeking S es marks s (Some t) rest
    seeking_found m =
        record {
          edges = k.edges.1;
          found = λ u e. let same : t ≡ u = cc in subst (λ (x : ℕ). Edge es s x × Marked S marks x) same (k.edges.0, (seeking_state, m));
          none = λ e. absurd (not_some t (sym e));
        }

    pub seeking_passed : mark marks t ≡ false → Seeking S es marks s way rest
    seeking_passed m = record { edges = k.edges.1; found = k.found; none = λ e u x. ⊎_elim inl (λ y. ⊎_elim (λ (q : u ≡ t). inl (ap (mark marks) q ∙ m)) inr (Memᴰ.cases_cons y)) (k.none e u x) }

  pub seeking_end : {way : Option ℕ} → Seeking S es marks s way [] → WayOn S es marks s way
  seeking_end k = record { found = k.found; none = λ e t x. ⊎_elim (λ m. m) (λ y. absurd (Memᴰ.not-nil y)) (k.none e t x) }

-- a state without a mark, or with a left value of 0, is not stuck; any other by its way
module _ (S : ℕ) (es left : List ℕ) (marks : List Bool) (s : ℕ) where
  loose : (Marked S marks s → Goes es (at left) (Marked S marks) s) → Stuck S es left marks s false
  loose g = record { held = λ e. absurd (true≢false (sym e)); kept = λ e. absurd (true≢false (sym e)); none = λ e. absurd (true≢false (sym e)); goes = λ e. g }

  pub loose_unmarked : mark marks s ≡ false → Stuck S es left marks s false
  loose_unmarked e = loose (λ m. absurd (true≢false (sym m.1 ∙ e)))

  pub loose_low : at left s ≡ 0 → Stuck S es left marks s false
  loose_low z = loose (λ m. inl z)

  pub stuck_way : (way : Option ℕ) (b : Bool) → WayOn S es marks s way → is_some way ≡ not b → mark marks s ≡ true → (at left s ≡ 0 → ⊥) → Stuck S es left marks s b
  stuck_way None true w e m k = record { held = λ e. m; kept = λ e. k; none = λ e. w.none refl; goes = λ e. absurd (true≢false e) }
  stuck_way None false w e m k = absurd (true≢false (sym e))
  stuck_way (Some t) true w e m k = absurd (true≢false e)
  stuck_way (Some t) false w e m k = loose (λ x. let f = w.found t refl in inr (t, f.0, f.1))

  -- the way that is found is noted
  module _ (ways : List (Option ℕ)) where
    pub noted_way : (way : Option ℕ) → s < length ways → WayOn S es marks s way → StateNoted S es left marks s ways (set ways s way)
    noted_way way h w =
        record {
          here = λ m k. ⊎_elim (λ p. subst (WayOn S es marks s) (sym p.1) w) (λ p. absurd (p.0 refl)) (set_or_not None ways s way s h);
          others = λ x d. ⊎_elim (λ p. absurd (d p.0)) (λ p. p.1) (set_or_not None ways s way x h);
        }

  -- while the state that is noted has its mark it is the way on
  pub way_stays : (G : Graph S es) (ways : List (Option ℕ)) (t : ℕ) → Led es ways → way_of ways s ≡ Some t → mark marks t ≡ true → WayOn S es marks s (way_of ways s)
  way_stays G ways t led e m =
      let x = led.along s t e in
      subst (WayOn S es marks s) (sym e) (record { found = λ u q. let same : t ≡ u = cc in subst (λ (y : ℕ). Edge es s y × Marked S marks y) same (x, (edge_state S es G s t x, m)); none = λ q. absurd (not_some t (sym q)) })

  pub noted_still : (ways : List (Option ℕ)) → WayOn S es marks s (way_of ways s) → StateNoted S es left marks s ways ways
  noted_still ways w = record { here = λ m k. w; others = λ x d. refl }

  pub loose_way : (t : ℕ) → Edge es s t → t < S → mark marks t ≡ true → Stuck S es left marks s false
  loose_way t x h m = loose (λ y. inr (t, x, (h, m)))

-- where nothing is noted each note leads along a transition, and where another way on is
pub led_none : (es : List ℕ) (k : ℕ) → Led es (replicate k None)
led_none es k = record { along = λ s t e. absurd (not_some t (sym (same_at None k s) ∙ e)) }

pub led_way : (S : ℕ) (es : List ℕ) (marks : List Bool) (s : ℕ) (ways : List (Option ℕ)) (way : Option ℕ) → s < length ways → WayOn S es marks s way → Led es ways → Led es (set ways s way)
led_way S es marks s ways way h w led =
    record {
      along = λ x t e. ⊎_elim
          (λ p. let q = w.found t (sym p.1 ∙ e) in subst (λ (y : ℕ). Edge es y t) (sym p.0) q.0)
          (λ p. led.along x t (sym p.1 ∙ e))
          (set_or_not None ways s way x h);
    }

-- `round` at state n
pub record Rounding (S : ℕ) (es left : List ℕ) (before marks : List Bool) (ways : List (Option ℕ)) (some : Bool) (n : ℕ) : Type 0 where
  pub size : length marks ≡ length before
  pub keeps : (right : List ℕ) → Holds S es left right before → Holds S es left right marks
  pub no_more : (s : ℕ) → mark marks s ≡ true → mark before s ≡ true
  pub fewer : some ≡ true → (s : ℕ) × (s < S) × (mark before s ≡ true) × (mark marks s ≡ false)
  pub seen : some ≡ false → (s : ℕ) → s < n → Marked S marks s → Goes es (at left) (Marked S marks) s
  pub notes : some ≡ false → WaysNoted S es left marks ways n
  pub leads : Led es ways

module _ (S : ℕ) (es : List ℕ) (G : Graph S es) (left : List ℕ) (before : List Bool) where
  pub rounding_start : (ways : List (Option ℕ)) → Led es ways → Rounding S es left before before ways false 0
  rounding_start ways led = record { size = refl; keeps = λ r h. h; no_more = λ s m. m; fewer = λ e. absurd (true≢false (sym e)); seen = λ e s l. absurd (omega arith); notes = λ e. record { is = λ s l. absurd (omega arith) }; leads = led }

  module _ (marks : List Bool) (ways later : List (Option ℕ)) (some : Bool) (n : ℕ) (h : n < S) (k : Rounding S es left before marks ways some n) where
    pub rounding_passed : Stuck S es left marks n false → StateNoted S es left marks n ways later → Led es later → Rounding S es left before marks later some (n + 1)
    rounding_passed d v led =
        record {
          size = k.size;
          keeps = k.keeps;
          no_more = k.no_more;
          fewer = k.fewer;
          seen = λ e. below_more (λ (s : ℕ). Marked S marks s → Goes es (at left) (Marked S marks) s) n (k.seen e) (d.goes refl);
          notes = λ e. record { is = below_more (λ (s : ℕ). Marked S marks s → (at left s ≡ 0 → ⊥) → WayOn S es marks s (way_of later s)) n (λ s l m x. subst (WayOn S es marks s) (sym (v.others s (λ q. omega (arith, l, q)))) ((k.notes e).is s l m x)) v.here };
          leads = led;
        }

    module _ (room : S ≤ length before) (d : Stuck S es left marks n true) (led : Led es later) where
      -- where a state is stuck, A(left U right) is not false
      not_false : (right : List ℕ) → Holds S es left right marks → until true es left right S n ≡ 0 → ⊥
      not_false right y z = ⊎_elim (d.kept refl) (λ x. true≢false (sym (y.all x.0 x.2.0 x.2.1) ∙ d.none refl x.0 x.1)) (false_goes S es G left right n (h, z))

      off : (s : ℕ) → ((s ≡ n) × (mark (set marks n false) s ≡ false)) ⊎ ((s ≡ n → ⊥) × (mark (set marks n false) s ≡ mark marks s))
      off s = set_or_not false marks n false s (omega (arith, k.size))

      still : (s : ℕ) → mark (set marks n false) s ≡ true → mark marks s ≡ true
      still s m = ⊎_elim (λ p. absurd (true≢false (sym m ∙ p.1))) (λ p. sym p.1 ∙ m) (off s)

      gone : mark (set marks n false) n ≡ false
      gone = ⊎_elim (λ p. p.1) (λ p. absurd (p.0 refl)) (off n)

      pub rounding_stuck : length (set marks n false) ≡ length marks → Rounding S es left before (set marks n false) later true (n + 1)
      rounding_stuck long =
          record {
            size = long ∙ k.size;
            keeps = λ right y. let here = k.keeps right y in
                record {
                  all = λ s l z. ⊎_elim (λ p. absurd (not_false right here (subst (λ (x : ℕ). until true es left right S x ≡ 0) p.0 z))) (λ p. p.1 ∙ here.all s l z) (off s);
                  low = λ s m. here.low s (m.0, still s m.1);
                };
            no_more = λ s m. k.no_more s (still s m);
            fewer = λ e. (n, h, k.no_more n (d.held refl), gone);
            seen = λ e. absurd (true≢false e);
            notes = λ e. absurd (true≢false e);
            leads = led;
          }

  pub rounding_end : {marks : List Bool} {ways : List (Option ℕ)} {some : Bool} {n : ℕ} → Rounding S es left before marks ways some n → S ≤ n → Rounded S es left before marks some
  rounding_end k h = record { keeps = k.keeps; no_more = k.no_more; fewer = k.fewer; goes = λ e s m. k.seen e s (omega (arith, m.0)) m }

-- how many states have a mark
abbrev pub marked_count : List Bool → ℕ → ℕ
marked_count marks S = sum (λ (s : ℕ). cond (mark marks s) 1 0) S

pub round_fewer : {S : ℕ} {es left : List ℕ} {before after : List Bool} → Rounded S es left before after true → marked_count after S < marked_count before S
round_fewer {S} {es} {left} {before} {after} r =
    let x = r.fewer refl in
    sum_raised (λ (s : ℕ). cond (mark after s) 1 0) (λ (s : ℕ). cond (mark before s) 1 0) S x.0 x.1 (λ s l. no_more (mark after s) (mark before s) refl refl (r.no_more s)) (rw (x.2, x.3) (omega arith))
  where
    no_more : (a b : Bool) {x y : Bool} → x ≡ a → y ≡ b → (x ≡ true → y ≡ true) → cond x 1 0 ≤ cond y 1 0
    no_more true true p q f = rw (p, q) (omega arith)
    no_more true false p q f = absurd (true≢false (sym (f p) ∙ q))
    no_more false b p q f = rw p (omega arith)

-- the marks before the first round
pub begun_holds : {S : ℕ} {es : List ℕ} {right : List ℕ} {marks : List Bool} (left : List ℕ) → Graph S es → Begun S right marks → Holds S es left right marks
begun_holds {S} {es} {right} {marks} left G b =
    record {
      all = λ s l z. b.is s l ∙ eq-eqb (at right s) 0 (false_low S es G left right s (l, z));
      low = λ s m. eqb-true (at right s) 0 (sym (b.is s m.0) ∙ m.1);
    }
