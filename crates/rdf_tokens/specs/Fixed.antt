-- Kinds of one spelling.
use Rattle.std.specs.Prelude.{ℕ, ◌+◌, Bool, true, false, cond, ◌||◌, ◌==◌, Option, Some, None, List, [], ◌∷◌, ◌++◌, codes}
use Rattle.rdf_terms.specs.declared.kind.Dialect.{Dialect}
use Rattle.rdf_terms.specs.declared.kind.Dialect.TheVariants.{Lines, Turtle}
use Rattle.rdf_terms.specs.declared.kind.Kind.{Kind}
use Rattle.rdf_terms.specs.declared.kind.Kind.TheVariants.{Carets, Dot, LineEnd, True, False, A, AtPrefix, AtBase, Prefix, Base, Graph, Semicolon, Comma, OpenBracket, CloseBracket, OpenParen, CloseParen, OpenBrace, CloseBrace}
use Rattle.rdf_terms.specs.Shapes.{fixed}

-- a spelling of a kind, as it stands or in any case
pub record Row : Type 0 where
  pub kind : Kind
  pub any_case : Bool
  pub text : List ℕ

-- the one spelling of a kind, case-sensitive
abbrev pub exactly : Kind → List ℕ → List Row
exactly k s = record { kind = k; any_case = false; text = s } ∷ []

-- the one spelling of a kind, given in capitals and read in any case, as SPARQL's keywords are
abbrev pub in_any_case : Kind → List ℕ → List Row
in_any_case k s = record { kind = k; any_case = true; text = s } ∷ []

-- the spellings of a kind
abbrev pub spellings : Dialect → Kind → List Row
spellings d Carets = exactly Carets (codes "^^")
spellings d Dot = exactly Dot (codes ".")
spellings Lines LineEnd = exactly LineEnd (13 ∷ []) ++ exactly LineEnd (10 ∷ [])
spellings Turtle True = exactly True (codes "true")
spellings Turtle False = exactly False (codes "false")
spellings Turtle A = exactly A (codes "a")
spellings Turtle AtPrefix = exactly AtPrefix (codes "@prefix")
spellings Turtle AtBase = exactly AtBase (codes "@base")
spellings Turtle Prefix = in_any_case Prefix (codes "PREFIX")
spellings Turtle Base = in_any_case Base (codes "BASE")
spellings Turtle Graph = in_any_case Graph (codes "GRAPH")
spellings Turtle Semicolon = exactly Semicolon (codes ";")
spellings Turtle Comma = exactly Comma (codes ",")
spellings Turtle OpenBracket = exactly OpenBracket (codes "[")
spellings Turtle CloseBracket = exactly CloseBracket (codes "]")
spellings Turtle OpenParen = exactly OpenParen (codes "(")
spellings Turtle CloseParen = exactly CloseParen (codes ")")
spellings Turtle OpenBrace = exactly OpenBrace (codes "{")
spellings Turtle CloseBrace = exactly CloseBrace (codes "}")
spellings d k = []

-- all spellings of some kinds
abbrev pub rows_of : Dialect → List Kind → List Row
rows_of d [] = []
rows_of d (k ∷ ks) = spellings d k ++ rows_of d ks

-- a character fits a character of a spelling
abbrev pub fits : Bool → ℕ → ℕ → Bool
fits false c x = x == c
fits true c x = x == c || x == c + 32

-- what is left of a spelling after a text that begins it
abbrev pub left : Bool → List ℕ → List ℕ → Option (List ℕ)
left b s [] = Some s
left b [] (x ∷ w) = None
left b (c ∷ s) (x ∷ w) = cond (fits b c x) (left b s w) None

-- nothing of a spelling is left, so the text is all of it
abbrev pub is_done : Option (List ℕ) → Bool
is_done (Some []) = true
is_done o = false

-- something of a spelling is left, so the text is a proper beginning of it
abbrev pub is_begun : Option (List ℕ) → Bool
is_begun (Some (c ∷ s)) = true
is_begun o = false

-- the kind of a text by some rows, and whether a longer spelling begins so
abbrev pub kind_by : List Row → List ℕ → Option Kind
kind_by [] w = None
kind_by (r ∷ rs) w = cond (is_done (left r.any_case r.text w)) (Some r.kind) (kind_by rs w)

-- some spelling begins with the text and is longer
abbrev pub live_by : List Row → List ℕ → Bool
live_by [] w = false
live_by (r ∷ rs) w = is_begun (left r.any_case r.text w) || live_by rs w

-- the kind that has this text as its spelling, if one has
unfoldable pub kind_by_table : Dialect → List ℕ → Option Kind
kind_by_table d w = kind_by (rows_of d fixed) w

-- the text begins a longer spelling of the dialect
unfoldable pub live_by_table : Dialect → List ℕ → Bool
live_by_table d w = live_by (rows_of d fixed) w
