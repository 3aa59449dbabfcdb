-- Which kind a hint of this number names, or none. Two numbers of one meaning are two types, each with instances of its own.
use Rattle.std.specs.Prelude.{◌==◌, ℕ, cond, Option, Some, None}
use Rattle.rdf_terms.specs.declared.kind.Kind.{Kind}
use Rattle.rdf_terms.specs.declared.kind.Kind.TheVariants.{IriRef, LabelNode, ShortString, Carets, Dot, Integer, A, PnameLn, Semicolon, Comma, OpenBracket, CloseBracket, OpenParen, CloseParen}

abbrev pub kind_of_hint : ℕ → Option Kind
kind_of_hint n =
    cond (n == 0) (Some PnameLn) (
    cond (n == 1) (Some Semicolon) (
    cond (n == 2) (Some Comma) (
    cond (n == 3) (Some Dot) (
    cond (n == 4) (Some A) (
    cond (n == 5) (Some OpenBracket) (
    cond (n == 6) (Some CloseBracket) (
    cond (n == 7) (Some OpenParen) (
    cond (n == 8) (Some CloseParen) (
    cond (n == 9) (Some LabelNode) (
    cond (n == 10) (Some ShortString) (
    cond (n == 11) (Some IriRef) (
    cond (n == 12) (Some Integer) (
    cond (n == 13) (Some Carets) (
    cond (n == 14) (Some PnameLn) None))))))))))))))
