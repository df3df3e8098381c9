-- The run: for a question that is taken and a space with room exactly one whole run exists, every chain is a beginning of it, it holds every shortest witness and no other list, each once, ascending; after "end" comes "end".
use Rattle.paths.specs.declared.Further.TheVariants.{Path, End}
use Rattle.std.specs.Prelude.{true, Some, None, Ok}
use Rattle.paths.specs.Answers.{NextAnswer}
use mathlib.Core.Path.{◌≡◌, refl, sym, ap₂, ◌∙◌, subst}
use Prim.Native.Nat.{ℕ}
use mathlib.Core.List.{List, [], ◌∷◌, ◌++◌}
use mathlib.Core.Bool.{true, ◌||◌}
use mathlib.Core.Logic.{◌⊎◌, inl, inr, ⊎_elim, ◌↔◌}
use native.Mathlib.Omega.{arith}
use lib.ListN.{length, drop, take}
use lib.Seq.{take_at}
use lib.Dec.{leb}
use Rattle.lists.specs.Entries.{at}
use Rattle.lists.specs.Rows.{fill}
use Rattle.lists.specs.Causes.{Applies, Cause, Rising, cause, refusal_of}
use Rattle.lists.proofs.Tests.{or_left}
use Rattle.kripke.specs.Refusals.{table_causes, table_refusal}
use Rattle.values.specs.Rows.{bad_row}
use Rattle.kripke.specs.Transitions.{Graph}
use Rattle.kripke.proofs.Refusals.{accepted, table_rises}
use Rattle.paths.specs.Questions.{Question, Shortest}
use Rattle.paths.specs.Order.{Among, Ascending, Beyond, Least, Smaller}
use Rattle.paths.specs.Refusals.{bad_level, causes, first_causes}
use Rattle.kripke.specs.Refusals.{question_causes}
use Rattle.paths.specs.Answers.{NextPromise}
use Rattle.paths.specs.Runs.{Chain, Ends, Goes, Opens, OpensNone, Roomy, Run}
use Rattle.paths.proofs.Answering.{causes_rise, first_causes_rise, first_none_promised, first_path_promised, next_end_promised, next_path_promised}
use Rattle.paths.proofs.Gathering.{Everyone, everyone, shortest_upto}
use Rattle.paths.proofs.OneAnswer.{first_one, next_one}
use Rattle.paths.proofs.Orders.{smaller_irrefl, smaller_trans}
use Rattle.lists.proofs.Late.{applies_left, applies_none, none_applies}

-- where a longer table of causes gives no number, neither does one whose causes are among its own
fewer_causes : (cs ds : List Cause) → Rising 0 cs → Rising 0 ds → ((n : ℕ) → Applies cs n → Applies ds n) → refusal_of ds ≡ 0 → refusal_of cs ≡ 0
fewer_causes cs ds a b more z = applies_none cs a (λ n x. none_applies ds b z n (more n x))

applies_behind : (cs ds es : List Cause) (n : ℕ) → (Applies ds n → Applies es n) → Applies (cs ++ ds) n → Applies (cs ++ es) n
applies_behind [] ds es n f a = f a
applies_behind (c ∷ cs) ds es n f a = ⊎_elim inl (λ k. inr (applies_behind cs ds es n f k)) a

module _ (q : Question) (start : ℕ) (taken : refusal_of (first_causes q start) ≡ 0) where
  next_taken : refusal_of (causes q) ≡ 0
  next_taken =
      fewer_causes (causes q) (first_causes q start) (causes_rise q) (first_causes_rise q start)
      (λ n. applies_behind (question_causes q.states q.transitions q.left q.right) (cause 15 (bad_level q.level) ∷ []) (cause 15 (bad_level q.level || leb q.states start) ∷ []) n (λ a. ⊎_elim (λ (p : (15 ≡ n) × (bad_level q.level ≡ true)). inl (p.0, or_left (bad_level q.level) (leb q.states start) p.1)) (λ k. absurd k) a))
      taken

  graph : Graph q.states q.transitions
  unfolding table_refusal
  graph =
      (accepted q.states q.transitions
      (fewer_causes (table_causes q.states q.transitions) (first_causes q start) (table_rises q.states q.transitions) (first_causes_rise q start) (λ n a. applies_left (table_causes q.states q.transitions) (cause 14 (bad_row q.states q.left || bad_row q.states q.right) ∷ cause 15 (bad_level q.level || leb q.states start) ∷ []) n a) taken)
      ).graph

first_entry : (q : Question) (s : ℕ) (p : List ℕ) → Shortest q s p → s ≡ at p 0
first_entry q s [] h = absurd h.begins
first_entry q s (x ∷ p) h = sym h.begins

-- after p: the later ones, and the end
ends_of : (q : Question) (s : ℕ) → refusal_of (causes q) ≡ 0 → (p : List ℕ) (ps : List (List ℕ)) → Ascending (p ∷ ps) → Shortest q s p → ((r : List ℕ) → Among r ps → Shortest q s r) → ((r : List ℕ) → Shortest q s r → Smaller p r → Among r ps) → Ends q p ps
ends_of q s fine p [] a h only every =
    let e = first_entry q s p h in
    next_end_promised q p fine (subst (λ (x : ℕ). Shortest q x p) e h) (λ r b. every r (subst (λ (x : ℕ). Shortest q x r) (sym e) b.is) b.larger)
ends_of q s fine p (r ∷ rs) a h only every =
    let e = first_entry q s p h in
    let later : (v : List ℕ) → Beyond (Shortest q (at p 0)) p v → (r ≡ v) ⊎ Smaller r v = λ v b. ⊎_elim inl (λ m. inr (a.1.0 v m)) (every v (subst (λ (x : ℕ). Shortest q x v) (sym e) b.is) b.larger) in
    let least : Least (Beyond (Shortest q (at p 0)) p) r = record { is = record { is = subst (λ (x : ℕ). Shortest q x r) e (only r (inl refl)); larger = a.0 r (inl refl) }; least = later } in
    let rest : (v : List ℕ) → Shortest q s v → Smaller r v → Among v rs = λ v k l. ⊎_elim (λ z. absurd (smaller_irrefl v (subst (λ (x : List ℕ). Smaller x v) z l))) (λ m. m) (every v k (smaller_trans p r v (a.0 r (inl refl)) l)) in
    (next_path_promised q p fine r (subst (λ (x : ℕ). Shortest q x p) e h) least, ends_of q s fine r rs a.1 (only r (inl refl)) (λ v m. only v (inr m)) rest)

-- the lists in order are a run
run_of : (q : Question) (start : ℕ) (space : List ℕ) → Roomy q start space → (e : Everyone q start) (ps : List (List ℕ)) → e.lists ≡ ps → Run q start space ps
run_of q start space roomy e [] z = record { after = space; answered = first_none_promised q start space roomy.taken (λ p b w. let x = e.some p b w in subst (Among x.0) z x.1) }
run_of q start space roomy e (p ∷ ps) z =
    let only : (r : List ℕ) → Among r (p ∷ ps) → Shortest q start r = λ r m. e.only r (subst (Among r) (sym z) m) in
    let every : (r : List ℕ) → Shortest q start r → Among r (p ∷ ps) = λ r h. subst (Among r) z (e.every r h) in
    let up : Ascending (p ∷ ps) = subst Ascending z e.ascending in
    let h : Shortest q start p = only p (inl refl) in (
      record {
        after = fill p space;
        size = length p;
        answered = first_path_promised q start space roomy.taken (fill p space) (length p) p (record { is = h; least = λ r k. ⊎_elim inl (λ m. inr (up.0 r m)) (every r k) }) refl (roomy.room p h) refl;
        handed = sym (take_at p (drop (length p) space) (length p) refl);
      },
      ends_of q start (next_taken q start roomy.taken) p ps up h (λ r m. only r (inr m)) (λ r k l. ⊎_elim (λ x. absurd (smaller_irrefl r (subst (λ (y : List ℕ). Smaller y r) x l))) (λ m. m) (every r k)),
    )

-- First hands out one list, or none
opens_one : (q : Question) (start : ℕ) (space p r : List ℕ) → Opens q start space p → Opens q start space r → p ≡ r
opens_one q start space p r a b =
    let x = first_one q start space a.after b.after (Ok (Some a.size)) (Ok (Some b.size)) a.answered b.answered in
    let size : a.size ≡ b.size = (let y = x.0 in cc) in
    a.handed ∙ ap₂ take size x.1 ∙ sym b.handed

opens_not : (q : Question) (start : ℕ) (space p : List ℕ) → Opens q start space p → OpensNone q start space → ⊥
opens_not q start space p a b =
    let x = (first_one q start space a.after b.after (Ok (Some a.size)) (Ok None) a.answered b.answered).0 in
    let z : ◌≡◌ {A = ℕ} 0 1 = cc in omega arith

-- what Next handed out so far is a beginning of what it hands out in all
path_not_end : (q : Question) (p r : List ℕ) → NextPromise q p r (Ok Path) → NextPromise q p p (Ok End) → ⊥
path_not_end q p r a b = let x = (next_one q p r p (Ok Path) (Ok End) a b).0 in let z : ◌≡◌ {A = ℕ} 0 1 = cc in omega arith

goes_beginning : (q : Question) (p : List ℕ) (ps rs : List (List ℕ)) → Goes q p ps → Ends q p rs → (rest : List (List ℕ)) × (rs ≡ ps ++ rest)
goes_beginning q p [] rs g e = (rs, refl)
goes_beginning q p (x ∷ ps) [] g e = absurd (path_not_end q p x g.0 e)
goes_beginning q p (x ∷ ps) (y ∷ rs) g e =
    let same : x ≡ y = (next_one q p x y (Ok Path) (Ok Path) g.0 e.0).1 in
    let i = goes_beginning q x ps rs g.1 (subst (λ (z : List ℕ). Ends q z rs) (sym same) e.1) in
    (i.0, ap₂ ◌∷◌ (sym same) i.1)

ends_one : (q : Question) (p : List ℕ) (ps rs : List (List ℕ)) → Ends q p ps → Ends q p rs → ps ≡ rs
ends_one q p [] [] a b = refl
ends_one q p [] (y ∷ rs) a b = absurd (path_not_end q p y b.0 a)
ends_one q p (x ∷ ps) [] a b = absurd (path_not_end q p x a.0 b)
ends_one q p (x ∷ ps) (y ∷ rs) a b =
    let same : x ≡ y = (next_one q p x y (Ok Path) (Ok Path) a.0 b.0).1 in
    ap₂ ◌∷◌ same (ends_one q x ps rs a.1 (subst (λ (z : List ℕ). Ends q z rs) (sym same) b.1))

pub run_one : (q : Question) (start : ℕ) (space : List ℕ) (ps rs : List (List ℕ)) → Run q start space ps → Run q start space rs → ps ≡ rs
run_one q start space [] [] a b = refl
run_one q start space [] (y ∷ rs) a b = absurd (opens_not q start space y b.0 a)
run_one q start space (x ∷ ps) [] a b = absurd (opens_not q start space x a.0 b)
run_one q start space (x ∷ ps) (y ∷ rs) a b =
    let same : x ≡ y = opens_one q start space x y a.0 b.0 in
    ap₂ ◌∷◌ same (ends_one q x ps rs a.1 (subst (λ (z : List ℕ). Ends q z rs) (sym same) b.1))

-- exactly one whole run exists
pub one_run : (q : Question) (start : ℕ) (space : List ℕ) → Roomy q start space → (ps : List (List ℕ)) × Run q start space ps × ((rs : List (List ℕ)) → Run q start space rs → rs ≡ ps)
one_run q start space roomy =
    let e = (everyone q start (graph q start roomy.taken)).0 in
    let run = run_of q start space roomy e e.lists refl in
    (e.lists, run, λ rs r. run_one q start space rs e.lists r run)

-- every chain is a beginning of it
pub chain_beginning : (q : Question) (start : ℕ) (space : List ℕ) (ps rs : List (List ℕ)) → Chain q start space ps → Run q start space rs → (rest : List (List ℕ)) × (rs ≡ ps ++ rest)
chain_beginning q start space [] rs c r = (rs, refl)
chain_beginning q start space (x ∷ ps) [] c r = absurd (opens_not q start space x c.0 r)
chain_beginning q start space (x ∷ ps) (y ∷ rs) c r =
    let same : x ≡ y = opens_one q start space x y c.0 r.0 in
    let i = goes_beginning q x ps rs c.1 (subst (λ (z : List ℕ). Ends q z rs) (sym same) r.1) in
    (i.0, ap₂ ◌∷◌ (sym same) i.1)

-- it holds every shortest witness from the start and no other list, each once, ascending
pub run_holds : (q : Question) (start : ℕ) (space : List ℕ) → Roomy q start space → (ps : List (List ℕ)) → Run q start space ps → ((r : List ℕ) → Among r ps ↔ Shortest q start r) × Ascending ps
run_holds q start space roomy ps r =
    let e = (everyone q start (graph q start roomy.taken)).0 in
    let same : e.lists ≡ ps = run_one q start space e.lists ps (run_of q start space roomy e e.lists refl) r in
    (λ v. (λ m. e.only v (subst (Among v) (sym same) m), λ h. subst (Among v) same (e.every v h)), subst Ascending same e.ascending)

-- asking again after "end" gives "end"
pub end_again_lem : (q : Question) (p after again : List ℕ) (a : NextAnswer) → NextPromise q p after (Ok End) → NextPromise q after again a → (a ≡ (Ok End)) × (again ≡ after)
end_again_lem q p after again a x y =
    let same : after ≡ p = x.says.untouched in
    let x' : NextPromise q after after (Ok End) = subst (λ (z : List ℕ). NextPromise q z after (Ok End)) (sym same) x in
    next_one q after again after a (Ok End) y x'

-- the run, computed: of the walks of the least length that has a witness, those that are one
pub computed_run : (q : Question) (start : ℕ) (space : List ℕ) → Roomy q start space → Run q start space (shortest_upto q start q.states)
computed_run q start space roomy = let e = everyone q start (graph q start roomy.taken) in run_of q start space roomy e.0 (shortest_upto q start q.states) e.1
