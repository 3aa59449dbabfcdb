-- What `show` writes: the tokens of a document as its items, each with its line.
use Rattle.std.specs.Prelude.{◌≡◌, ℕ, ◌+◌, cond, List, [], ◌∷◌, ◌++◌, length, Option, IfSome, codes, decimal, ⊤}
use Rattle.rdf_terms.specs.declared.kind.Dialect.{Dialect}
use Rattle.rdf_terms.specs.declared.kind.Dialect.TheVariants.{Lines, Turtle as turtle}
use Rattle.rdf_terms.specs.declared.kind.Kind.{Kind}
use Rattle.rdf_terms.specs.declared.kind.Kind.TheVariants as kind
use Rattle.rdf_tokens.specs.Tokens.{Token}
use Rattle.rdf_tokens.specs.Grammars.{LanguageOf, MarkedItem}
use Rattle.rdf_tokens.specs.Scans.{is_end}
use Rattle.rdf_driver.specs.declared.summary.Summary.{Summary}
use Rattle.rdf_stream.specs.declared.form.Form.{Form}
use Rattle.rdf_stream.specs.declared.form.Form.TheVariants.{NTriples, NQuads, Turtle, TriG}
use Rattle.rdf_stream.specs.Converts.{Accepts}
use Rattle.rdf_stream.specs.Jobs.{JobRead}
use Rattle.rdf_stream.specs.Languages.{ConversionOf}

-- the tokens of a format: those of N-Triples and N-Quads, or those of Turtle and TriG
abbrev pub dialect_of : Form → Dialect
dialect_of NTriples = Lines
dialect_of NQuads = Lines
dialect_of Turtle = turtle
dialect_of TriG = turtle

-- the end has no name, since it is not shown
abbrev pub kind_name : Kind → List ℕ
kind_name kind.IriRef = codes "iri"
kind_name kind.LabelNode = codes "label"
kind_name kind.ShortString = codes "string"
kind_name kind.LongString = codes "longstring"
kind_name kind.LangTag = codes "tag"
kind_name kind.Carets = codes "carets"
kind_name kind.Dot = codes "dot"
kind_name kind.LineEnd = codes "lineend"
kind_name kind.Integer = codes "integer"
kind_name kind.Decimal = codes "decimal"
kind_name kind.Double = codes "double"
kind_name kind.True = codes "true"
kind_name kind.False = codes "false"
kind_name kind.A = codes "a"
kind_name kind.AtPrefix = codes "atprefix"
kind_name kind.AtBase = codes "atbase"
kind_name kind.Prefix = codes "prefix"
kind_name kind.Base = codes "base"
kind_name kind.Graph = codes "graph"
kind_name kind.PnameNs = codes "ns"
kind_name kind.PnameLn = codes "name"
kind_name kind.Semicolon = codes "semicolon"
kind_name kind.Comma = codes "comma"
kind_name kind.OpenBracket = codes "lbracket"
kind_name kind.CloseBracket = codes "rbracket"
kind_name kind.OpenParen = codes "lparen"
kind_name kind.CloseParen = codes "rparen"
kind_name kind.OpenBrace = codes "lbrace"
kind_name kind.CloseBrace = codes "rbrace"
kind_name kind.End = []

-- where the token begins, how many characters it has, and its kind; with a LF
abbrev pub token_line : Token → List ℕ
token_line t = decimal t.at.offset ++ codes " " ++ decimal (length t.text) ++ codes " " ++ kind_name t.kind ++ codes "\n"

-- the lines of some tokens
abbrev pub token_lines : List Token → List ℕ
token_lines [] = []
token_lines (t ∷ ts) = token_line t ++ token_lines ts

-- the tokens but the end as items, where n tokens come before these: each is due once it has been accepted
abbrev pub marked_from : ℕ → List Token → List (MarkedItem Token)
marked_from n [] = []
marked_from n (t ∷ ts) = cond (is_end t.kind) (marked_from (n + 1) ts) (record { item = t; mark = n } ∷ marked_from (n + 1) ts)

-- No rule of a grammar is looked at: every list of tokens is a document, no token is refused, and none passes a limit but that on its length.
abbrev pub tokens_alone : Dialect → ℕ → LanguageOf Token
tokens_alone d limit =
    record { dialect = d; limit = limit; documents = λ ts all. all ≡ marked_from 0 ts; passes = λ ts t. ⊥; blames = λ reason ts t. ⊥ }

-- what a job asks of `show`: a line for each token but the end
abbrev pub showing_of : JobRead → ConversionOf Token
showing_of job = record { language = tokens_alone (dialect_of job.form) job.limits.token; lines = token_lines; known = λ ts. ⊤ }

-- All of the bytes are tokens, and their lines were written. The summary counts the tokens, and no quads.
abbrev pub Shows : JobRead → List ℕ → Option (List ℕ) → Option (List ℕ) → Summary → Type 0
Shows job bytes old new s = (s.quads ≡ 0) × (lines : ℕ) × Accepts (showing_of job) bytes old new (record s { quads = lines })

-- all bytes of a source were shown and counted so, where they are known
abbrev pub ShowsAll : JobRead → Option (List ℕ) → Option (List ℕ) → Option (List ℕ) → Summary → Type 0
ShowsAll job known old new s = IfSome known (λ bytes. Shows job bytes old new s)
