-- The laws of written documents at a document with a node that has no label: `<a:> <a:> [].` and a line feed.
use Rattle.rdf_read_back.proofs.Prelude.{◌≡◌, ℕ, true, List, [], ◌∷◌, Some, None, refl, sym, subst, lit≤, codes, encode_utf8_all, IriRef, Dot, OpenBracket, CloseBracket, End, Anon, Blank, Resource, Quad, Token, read, InForce, token, Plain, Tagged, Writable, in_lines, Turtle, reference_in, name_in, is_full, in_default, documents, Passes, Over, State, at_start, ran, accept_all, language, HasIris, IsFront, reading_of, IsDocumentOf, IsWhole, IsReadToItsEnd}
use Rattle.std.proofs.Math.Utf8.{encode}
use Rattle.std.specs.Str.{chars, is_utf8}
use Rattle.std.specs.Str.Lossy.{utf8_valid_len, utf8_error_len}
use Rattle.std.specs.Fmt.{digits}
use Rattle.rdf_terms.specs.Classes.{has}
use Rattle.rdf_terms.specs.Shapes.{shape, kind_of, is_live}
use Rattle.rdf_terms.specs.Values.{is_fit}
use Rattle.rdf_terms.specs.Terms as term
use Rattle.rdf_tokens.specs.Tokens.{step, tokens}
use Rattle.rdf_tokens.specs.Good.{tokens_of}
use Rattle.rdf_iri.specs.Resolve.{resolved}
use Rattle.rdf_lines.specs.declared.form.LineForm.TheVariants.{NQuads}
use Rattle.rdf_lines.specs.NodePrefixes.{Form, text_in}
use Rattle.rdf_trig.proofs.examples.Documents.{leaf, quad}
use Rattle.rdf_trig.proofs.theorems.StatedLaws.{begins}
use Rattle.rdf_trig.proofs.machine.ExactDocuments.{accepted_document}
use Rattle.rdf_trig.proofs.machine.EndOfInput.{document_complete}
use Rattle.rdf_read_back.proofs.WrittenLimits.{document_writable, document_read_back}

abbrev small : InForce
small = record { base = None; bindings = []; limits = record { token = 8; depth = 1; bindings = 1; iri = 8 } }

abbrev nameless : List ℕ
nameless = codes "<a:> <a:> [].\n"

abbrev nameless_tokens : List Token
nameless_tokens =
    token IriRef (leaf (codes "<a:>") 0 1) ∷ token IriRef (leaf (codes "<a:>") 5 1) ∷ token OpenBracket (leaf (codes "[") 10 1) ∷
    token CloseBracket (leaf (codes "]") 11 1) ∷ token Dot (leaf (codes ".") 12 1) ∷ token End (leaf [] 14 2) ∷ []

abbrev nameless_quads : List Quad
nameless_quads = quad (term.Iri (codes "a:")) (codes "a:") (Resource (Blank (Anon 10))) None ∷ []

nameless_read : (reading_of (language Turtle small) nameless true).tokens ≡ nameless_tokens
unfolding tokens_of tokens read step kind_of is_live shape has chars utf8_valid_len utf8_error_len is_utf8 encode is_fit
nameless_read = refl

abbrev over : State
over = record { setting = in_default small; mode = Over; ready = [] }

nameless_ran : accept_all Turtle (at_start small) nameless_tokens ≡ ran over nameless_quads
unfolding reference_in name_in resolved is_full has encode
nameless_ran = refl

nameless_is : IsDocumentOf (language Turtle small) nameless nameless_quads
nameless_is =
    let d = accepted_document Turtle small nameless_tokens over nameless_quads nameless_ran refl in
    let here = subst (λ ts. documents Turtle small ts d.0) (sym nameless_read) d.1 in
    (document_complete Turtle small small.limits.token nameless true d.0 here, d.0, here, d.2)

nameless_whole : IsWhole (language Turtle small) nameless
nameless_whole = record {
  ends = nameless_is.0;
  front = subst (λ ts. IsFront (documents Turtle small) (Passes Turtle small) ts ts) (sym nameless_read)
      (begins Turtle small nameless_tokens over nameless_quads nameless_ran).front;
}

small_iris : HasIris small
small_iris = record { base = tt; bindings = λ prefix iri e. absurd (let z : None ≡ Some iri = e in cc) }

-- its quad can be written, with a name for the node
pub nameless_is_writable : Writable Tagged nameless_quads
nameless_is_writable = document_writable Turtle small nameless nameless_quads small_iris (lit≤ tt) nameless_is

-- with a word in front of the name, this is written
abbrev with_word : Form
with_word = record { style = Tagged; escapes = Plain; prefix = codes "b7" }

pub nameless_text : text_in with_word nameless_quads ≡ codes "<a:> <a:> _:b7a10 .\n"
unfolding digits
nameless_text = refl

-- and it is read to its end with limits of 64, where a token may have two characters more
pub nameless_is_read : IsReadToItsEnd (in_lines NQuads 66 64) (encode_utf8_all (text_in with_word nameless_quads))
nameless_is_read =
    document_read_back Plain (codes "b7") Turtle small nameless nameless_quads refl small_iris (lit≤ tt) nameless_is nameless_whole 64 64
    (lit≤ tt) (lit≤ tt) (lit≤ tt) (lit≤ tt) (lit≤ tt)
