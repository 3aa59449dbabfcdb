-- A line of a file of bindings: it binds a prefix in one of three forms, or says nothing.
use Prim.Native.Char.{code}
use Rattle.std.specs.Prelude.{◌≡◌, ℕ, Bool, true, List, ◌∷◌, ◌++◌, ◌==◌, ◌||◌, ◌⊎◌, codes}
use Rattle.std.specs.Str.{chars, IsUtf8}
use Rattle.rdf_terms.specs.declared.kind.Dialect.TheVariants.{Turtle}
use Rattle.rdf_terms.specs.declared.kind.Kind.TheVariants.{PnameNs, Prefix}
use Rattle.rdf_terms.specs.Terminals.{Shape}
use Rattle.rdf_terms.specs.Terms.{IsIri, all_have}
use Rattle.rdf_iri.specs.Texts.{Lacks}

-- a blank is a space or a tab
abbrev pub is_blank : ℕ → Bool
is_blank c = c == code " " || c == code "\t"

-- nothing but blanks, any number of them
abbrev pub AreBlanks : List ℕ → Type 0
AreBlanks w = all_have is_blank w ≡ true

-- blanks, a token and the rest
pub record Begins (w token rest : List ℕ) : Type 0 where
  pub blanks : List ℕ
  pub parts : w ≡ blanks ++ (token ++ rest)
  pub are_blanks : AreBlanks blanks

-- the first character is a blank
abbrev pub BeginsBlank : List ℕ → Type 0
BeginsBlank w = (c : ℕ) × (rest : List ℕ) × (w ≡ c ∷ rest) × (is_blank c ≡ true)

-- nothing but blanks, or blanks and a comment, which goes on to the end of the line and has no CR (Turtle 6.2)
abbrev pub SaysNothing : List ℕ → Type 0
SaysNothing w = AreBlanks w ⊎ ((comment : List ℕ) × Begins w (codes "#") comment × Lacks (code "\r") comment)

-- `ex: http://example.org/`, the form of these files alone: PNAME_NS, one space, and the IRI as it is
abbrev pub IsPlain : List ℕ → List ℕ → List ℕ → Type 0
IsPlain w prefix iri = w ≡ (prefix ++ codes ":") ++ (codes " " ++ iri)

-- prefixID ::= '@prefix' PNAME_NS IRIREF '.' (Turtle 6.5), in one line, with a blank after its word at least
pub record IsPrefixId (w prefix iri : List ℕ) : Type 0 where
  pub at_name : List ℕ
  pub at_iri : List ℕ
  pub at_dot : List ℕ
  pub rest : List ℕ
  pub word : Begins w (codes "@prefix") at_name
  pub apart : BeginsBlank at_name
  pub name : Begins at_name (prefix ++ codes ":") at_iri
  pub reference : Begins at_iri (codes "<" ++ (iri ++ codes ">")) at_dot
  pub dot : Begins at_dot (codes ".") rest
  pub ends : SaysNothing rest

-- sparqlPrefix ::= "PREFIX" PNAME_NS IRIREF (Turtle 6.5), its word in any case, in one line and without a dot
pub record IsSparqlPrefix (w prefix iri : List ℕ) : Type 0 where
  pub keyword : List ℕ
  pub at_name : List ℕ
  pub at_iri : List ℕ
  pub rest : List ℕ
  pub any_case : Shape Turtle Prefix keyword
  pub word : Begins w keyword at_name
  pub apart : BeginsBlank at_name
  pub name : Begins at_name (prefix ++ codes ":") at_iri
  pub reference : Begins at_iri (codes "<" ++ (iri ++ codes ">")) rest
  pub ends : SaysNothing rest

-- the text has one of the forms; its prefix and colon are a PNAME_NS, and its IRI is absolute and has no escapes
pub record IsBinding (text prefix iri : List ℕ) : Type 0 where
  pub utf8 : IsUtf8 text
  pub form : IsPlain (chars text) prefix iri ⊎ IsPrefixId (chars text) prefix iri ⊎ IsSparqlPrefix (chars text) prefix iri
  pub shape : Shape Turtle PnameNs (prefix ++ codes ":")
  pub absolute : IsIri iri
