-- The tokens of a dialect as a grammar, and how their lines are written.
use Rattle.std.specs.Prelude.{◌≡◌, ℕ, Bool, cond, List, [], ◌∷◌, Option, ⊤}
use Rattle.rdf_terms.specs.declared.kind.Dialect.{Dialect}
use Rattle.rdf_tokens.specs.Tokens.{Token}
use Rattle.rdf_tokens.specs.Scans.{is_end}
use Rattle.rdf_driver.specs.Readers.{Driven}
use Rattle.rdf_driver.specs.Words.{Words}
use Rattle.rdf_driver.specs.declared.summary.Summary.{Summary}
use Rattle.rdf_stream.specs.declared.line_out.LineOut.{LineOut}
use Rattle.rdf_stream.specs.Converting.{RunEnds}
use Rattle.rdf_stream.specs.Outputs.{Writer}
use Rattle.rdf_stream.specs.Shows.{marked_from, token_line, token_lines}

-- the tokens but the end
abbrev pub without_end : List Token → List Token
without_end [] = []
without_end (t ∷ ts) = cond (is_end t.kind) (without_end ts) (t ∷ without_end ts)

-- what accepts the tokens is known by its limit alone, and holds no text
abbrev pub token_words : Dialect → Words ℕ Unit Token
token_words d = record {
  dialect = d;
  limit = λ g. g;
  most = λ g. 0;
  documents = λ x ts all. all ≡ marked_from 0 ts;
  passes = λ x ts t. ⊥;
  blames = λ x reason ts t. ⊥;
  reached = λ g x ts qs. qs ≡ without_end ts;
}

-- a line for each token, whatever the output
abbrev pub of_tokens : Writer Token
of_tokens = record { line = λ o t. token_line t; lines = λ o ts. token_lines ts; known = λ o ts. ⊤; formed = λ t. ⊤; can = λ s t. ⊤ }

-- Since the run began these bytes came, they are all that there are, and their tokens were shown: the summary counts them, and no quads.
abbrev pub ShowEnds : {D A : Type 0} → (D → Option (List ℕ)) → (D → Bool) → (D → Bool) → Dialect → Summary → Driven ℕ → LineOut D A → List ℕ → LineOut D A → Type 0
ShowEnds contents failed flushed d summary reader first bytes lines =
    (summary.quads ≡ 0) × (n : ℕ) × RunEnds of_tokens contents failed flushed (token_words d) (record summary { quads = n }) reader first bytes lines
