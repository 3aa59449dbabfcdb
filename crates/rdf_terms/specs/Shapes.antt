-- The tests on shapes, by what is left to match. That they find the shapes is a law.
use Rattle.std.specs.Prelude.{ℕ, Bool, cond, List, [], ◌∷◌, ◌++◌, Option, Some, None}
use Rattle.rdf_terms.specs.declared.kind.Kind.{Kind}
use Rattle.rdf_terms.specs.declared.kind.Kind.TheVariants.{IriRef, LabelNode, ShortString, LongString, LangTag, Carets, Dot, LineEnd, Integer, Decimal, Double, True, False, A, AtPrefix, AtBase, Prefix, Base, Graph, PnameNs, PnameLn, Semicolon, Comma, OpenBracket, CloseBracket, OpenParen, CloseParen, OpenBrace, CloseBrace}
use Rattle.rdf_terms.specs.declared.kind.Dialect.{Dialect}
use Rattle.rdf_terms.specs.Regex.{Regex, nullable, after_all, longer, ◌∣◌}
use Rattle.rdf_terms.specs.Expressions.Regex.{nothing}
pub use Rattle.rdf_terms.specs.Terminals.{word, any_case, optional, some, hex, uchar, echar, double_quote, single_quote, short_string, long_string, dot, sign, digits, exponent, pn_prefix, plx, pn_local, label_name, tag_name, only_turtle, only_lines, Shape, Live}
unfoldable pub use Rattle.rdf_terms.specs.Terminals.{shape}

-- the kinds of one spelling, and the others
abbrev pub fixed : List Kind
fixed = AtPrefix ∷ AtBase ∷ Carets ∷ Dot ∷ LineEnd ∷ True ∷ False ∷ A ∷ Prefix ∷ Base ∷ Graph ∷ Semicolon ∷ Comma
    ∷ OpenBracket ∷ CloseBracket ∷ OpenParen ∷ CloseParen ∷ OpenBrace ∷ CloseBrace ∷ []

-- the kinds whose tokens differ in their text: IRIs, labels, strings, tags, numbers and prefixed names
abbrev pub shaped : List Kind
shaped = IriRef ∷ LabelNode ∷ ShortString ∷ LongString ∷ LangTag ∷ Integer ∷ Decimal ∷ Double ∷ PnameNs ∷ PnameLn ∷ []

-- all kinds, a keyword before the tag that it also is
abbrev pub kinds : List Kind
kinds = fixed ++ shaped

-- the texts that have the form of some kind of the list
abbrev pub any_shape : Dialect → List Kind → Regex
any_shape d [] = nothing
any_shape d (k ∷ ks) = shape d k ∣ any_shape d ks

-- whether a text is the beginning of a longer shape, as a test
unfoldable pub is_live : Dialect → List ℕ → Bool
is_live d r = longer (after_all (any_shape d kinds) r)

-- the first kind of a list that a text has the form of
abbrev pub first_kind : Dialect → List Kind → List ℕ → Option Kind
first_kind d [] w = None
first_kind d (k ∷ ks) w = cond (nullable (after_all (shape d k) w)) (Some k) (first_kind d ks w)

-- the kind of a whole text as a token of the dialect, or none; a keyword such as `@prefix` is not read as a language tag
unfoldable pub kind_of : Dialect → List ℕ → Option Kind
kind_of d w = first_kind d kinds w

-- the first of two kinds that is there
abbrev pub or_else : Option Kind → Option Kind → Option Kind
or_else (Some k) o = Some k
or_else None o = o
