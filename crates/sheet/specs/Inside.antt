-- What the functions below the public ones ask of each other and answer.
use Rattle.std.specs.Prelude.{ℕ, ◌*◌, ◌≤◌, ◌≡◌, List, Result, MatchResult, length, take}
use Rattle.values.specs.Refusal.{number_of}
use Rattle.values.specs.declared.refusal.Refusal.{Refusal}
use Rattle.model.specs.Model.{Model, as_model}
use Rattle.text.specs.Answers.{text_outcome}
use Rattle.text.specs.Answers.Outcome.{model, refusal}
use Rattle.sheet.specs.declared.judging.Held.{Held}

-- the tables are long enough for a model of so many states, atoms, transitions and nodes
pub record HeldFits (h : Held) : Type 0 where
  pub labels : h.counts.states * h.counts.atoms ≤ length h.labels
  pub initial : h.counts.states ≤ length h.initial
  pub transitions : 2 * h.counts.transitions ≤ length h.transitions
  pub nodes : 3 * h.counts.nodes ≤ length h.nodes

-- the model in the fronts of the tables
abbrev pub model_of : Held → Model
model_of h =
    as_model h.counts.states h.counts.atoms
    (take (h.counts.states * h.counts.atoms) h.labels) (take h.counts.states h.initial) (take (2 * h.counts.transitions) h.transitions) (take (3 * h.counts.nodes) h.nodes)

-- a text was read: it comes to the model that is held, or to the refusal
abbrev pub TextHeld : List ℕ → Held → Result (Unit {0}) Refusal → Type 0
TextHeld text h r = MatchResult r (λ _. HeldFits h × (text_outcome text ≡ model (model_of h))) (λ e. text_outcome text ≡ refusal (number_of e))
