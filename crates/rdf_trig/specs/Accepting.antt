-- Turtle and TriG as a grammar that a reader drives.
use Rattle.std.specs.Prelude.{◌≡◌, ℕ, ◌+◌, ◌≤◌, List, [], Option, Some, None, false, length}
use Rattle.rdf_terms.specs.declared.kind.Kind.{Kind}
use Rattle.rdf_terms.specs.declared.kind.Dialect.TheVariants.{Turtle as turtle}
use Rattle.rdf_terms.specs.Terms.{Quad}
use Rattle.rdf_tokens.specs.Good.{tokens_of}
use Rattle.rdf_tokens.specs.Scans.{unread_bytes}
use Rattle.rdf_tokens.specs.Laws.{open_bytes}
use Rattle.rdf_iri.specs.Bindings.{BindingMap}
use Rattle.rdf_iri.specs.Scope.{InForce, bytes_held}
use Rattle.rdf_driver.specs.Words.{Words}
use Rattle.rdf_driver.specs.Readers.{Driven, HasRead}
use Rattle.rdf_trig.specs.declared.form.DocForm.{DocForm}
use Rattle.rdf_trig.specs.declared.state.State.{State as Code}
use Rattle.rdf_trig.specs.Documents.{documents, Passes}
use Rattle.rdf_trig.specs.Machine.{State, mode_size}
use Rattle.rdf_trig.specs.Alike.{RunsTo}
use Rattle.rdf_trig.specs.Steps.{state_of}
use Rattle.rdf_trig.specs.Turns.{Decides, StepAt}
use Rattle.rdf_trig.specs.Owed.{Owed, OwedInAll, most_kept}
use Rattle.rdf_trig.specs.Language.{Chosen}
use Rattle.rdf_trig.specs.Refusals.{Blamed}

-- the bindings before the first token: those that are handed in, or none
abbrev pub handed_in : Option BindingMap → List (List ℕ × List ℕ)
handed_in None = []
handed_in (Some b) = b.bindings

-- what accepts the tokens of Turtle or TriG: the form, the most characters of a token, and what has been read
pub record TreeAt : Type 0 where
  pub form : DocForm
  pub limit : ℕ
  -- its scope may hold the bindings in another order than the machine's
  pub state : State
  -- the bytes of the texts that are held
  pub held : ℕ

-- what is held is at least what the open predicate lists hold, the base, and the prefixes with their IRIs
abbrev pub HoldsOpen : TreeAt → Type 0
HoldsOpen g = mode_size g.state.mode + bytes_held g.state.setting.scope ≤ g.held

-- what is printed of a kind of token is so of a state of the reader that means what has been read
abbrev pub StepsFrom : Type 0 → TreeAt → Kind → StepAt → Type 0
StepsFrom A g k x =
    (s : InForce) × (r : Code A) × (state_of g.form s r ≡ g.state)
    × (x.level ≡ r.level) × (x.mode ≡ r.mode) × (x.ready ≡ r.ready) × Decides g.form r r.mode k x.turn

-- the documents from a scope on, and what the machine has accepted of one
abbrev pub tree_words : Words TreeAt Chosen Quad
tree_words = record {
  dialect = turtle;
  limit = λ g. g.limit;
  most = λ g. most_kept g.state.setting.scope.limits;
  documents = λ x. documents x.form x.start;
  passes = λ x. Passes x.form x.start;
  blames = λ x. Blamed x.form x.start;
  reached = λ g x ts qs. (g.form ≡ x.form) × (g.limit ≡ x.start.limits.token) × RunsTo x.form x.start ts qs g.state × HoldsOpen g;
}

-- a reader of Turtle or TriG as its callers see it
abbrev pub TrigRead : Type 0
TrigRead = Driven TreeAt

-- so many bytes are at least those that have not become tokens, the base and the prefixes, and what is owed after the tokens so far
abbrev pub HoldsOwed : TrigRead → ℕ → Type 0
HoldsOwed r n =
    (x : Chosen) (bytes : List ℕ) (quads : List Quad) (size : ℕ) → HasRead tree_words r x bytes quads →
    Owed x.form x.start (tokens_of tree_words.dialect r.scanner.limit bytes false).tokens size →
    unread_bytes r.scanner + bytes_held r.grammar.state.setting.scope + size ≤ n

-- so many bytes are at least those that leave the next token open, and what is owed in all after the tokens so far
abbrev pub HoldsAllOwed : TrigRead → ℕ → Type 0
HoldsAllOwed r n =
    (x : Chosen) (bytes : List ℕ) (quads : List Quad) (size : ℕ) → HasRead tree_words r x bytes quads →
    OwedInAll x.form x.start (tokens_of tree_words.dialect r.scanner.limit bytes false).tokens size →
    length (open_bytes tree_words.dialect r.scanner.limit bytes) + size ≤ n
