-- The line formats as languages: the limit on IRIs, why a token is refused, and how much may be held.
use Rattle.std.specs.Prelude.{◌≡◌, ◌<◌, ◌+◌, ◌*◌, ℕ, max, false, List, [], ◌∷◌, ◌++◌}
use Rattle.rdf_terms.specs.declared.kind.Dialect.TheVariants.{Lines}
use Rattle.rdf_terms.specs.declared.kind.Kind.TheVariants.{IriRef}
use Rattle.rdf_terms.specs.declared.reason.Reason.{Reason}
use Rattle.rdf_terms.specs.declared.reason.Reason.TheVariants.{Unexpected, RelativeIri, IriTooLong}
use Rattle.rdf_terms.specs.Terms.{has_scheme}
use Rattle.rdf_tokens.specs.Tokens.{Token}
use Rattle.rdf_tokens.specs.Grammars.{Language, Viable}
use Rattle.rdf_iri.specs.Limits.{Sizes}
use Rattle.rdf_iri.specs.Texts.{byte_len}
use Rattle.rdf_lines.specs.declared.form.LineForm.{LineForm}
use Rattle.rdf_tokens.specs.Leaves.{iri_of, leaf_of}
use Rattle.rdf_lines.specs.Lines.{documents, trees}

-- a token passes the limit where it spells an IRI of more bytes
abbrev pub Passes : ℕ → List Token → Token → Type 0
Passes iri ahead t = (t.kind ≡ IriRef) × (iri < byte_len (iri_of (leaf_of t)))

-- Why a token is refused after these tokens. No document begins so: it is unexpected where no tree does, and a relative IRI where some tree does and it
-- is an IRIREF without a scheme. Or a document begins so, but the token passes the limit.
abbrev pub Blamed : LineForm → ℕ → Reason → List Token → Token → Type 0
Blamed form iri Unexpected ahead t = (Viable (documents form) (ahead ++ t ∷ []) → ⊥) × (Viable (trees form) (ahead ++ t ∷ []) → ⊥)
Blamed form iri RelativeIri ahead t =
    (Viable (documents form) (ahead ++ t ∷ []) → ⊥) × (Viable (trees form) (ahead ++ t ∷ []) × (t.kind ≡ IriRef) × (has_scheme (iri_of (leaf_of t)) ≡ false))
Blamed form iri IriTooLong ahead t = Viable (documents form) (ahead ++ t ∷ []) × Passes iri ahead t
Blamed form iri reason ahead t = ⊥

-- A line format as a language: with the most characters of a token, and the most bytes of an IRI.
abbrev pub in_lines : LineForm → ℕ → ℕ → Language
in_lines form limit iri = record { dialect = Lines; limit = limit; documents = documents form; passes = Passes iri; blames = Blamed form iri }

-- the most bytes of a text that is held: those of an IRI, or of the characters of a token
abbrev pub most_text : ℕ → ℕ → ℕ
most_text token iri = max iri (4 * token)

-- The most bytes that may be held of a line: those of five texts, of its subject, its predicate, a string and its datatype or tag, and its graph.
abbrev pub most_of_line : ℕ → ℕ → ℕ
most_of_line token iri = 5 * most_text token iri

-- the most bytes that a reader of lines may hold: a piece of a token, and the texts of a line
abbrev pub most_held : Sizes → ℕ
most_held l = 4 * (l.token + 1) + 3 + most_of_line l.token l.iri
