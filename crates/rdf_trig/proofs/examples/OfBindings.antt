-- The laws at documents that start with one prefix bound, `x` to `b:/`, where one may be bound.
use Rattle.rdf_trig.proofs.Prelude.{◌≡◌, ℕ, true, false, List, [], ◌∷◌, ◌++◌, Some, None, refl, sym, ◌∙◌, subst, lit≤, codes, encode, chars, is_utf8, IriRef, PnameNs, PnameLn, Prefix, Dot, End, Reason, shape, kind_of, is_live, is_fit, Resource, Quad, TooManyBindings, Token, read, complete, token_too_long, tokens_of, Due, PassesNone, Language, reading_of, IsDocumentOf, IsWithin, Refused, IsReadToItsEnd, Marked, unmarked, HasRead, InForce, resolved, token, reference_in, name_in, is_full, in_default, documents, Passes, Sparql, WantPrefixIri, Start, Over, at_start, ran, accept_all, TrigRead, tree_words, IsRefusedAfter}
use Rattle.std.specs.Str.Lossy.{utf8_valid_len, utf8_error_len}
use Rattle.rdf_terms.specs.declared.kind.Dialect.TheVariants.{Turtle as turtle}
use Rattle.rdf_terms.specs.Classes.{has}
use Rattle.rdf_terms.specs.Terms as term
use Rattle.rdf_tokens.specs.Tokens.{Place, step, tokens}
use Rattle.rdf_iri.specs.Bindings.{bindings_of}
use Rattle.rdf_trig.specs.declared.form.DocForm.TheVariants.{Turtle}
use Rattle.rdf_trig.specs.Machine.{State}
use Rattle.rdf_trig.specs.Language.{language}
use Rattle.rdf_trig.proofs.examples.Documents.{leaf, quad}
use Rattle.rdf_trig.proofs.theorems.StatedLaws.{begins, stops}
use Rattle.rdf_trig.proofs.machine.ExactDocuments.{accepted_document, same_due, due_ran}
use Rattle.rdf_trig.proofs.machine.EndOfInput.{document_complete}
use Rattle.rdf_trig.proofs.theorems.DocumentsRead.{quads_due, documents_read, refused_no_document}

-- no base, and what the line `x: b:/` says
abbrev bound : InForce
bound = record { base = None; bindings = bindings_of (Some (codes "x", codes "b:/") ∷ []); limits = record { token = 8; depth = 1; bindings = 1; iri = 8 } }

abbrev in_turtle : Language
in_turtle = language Turtle bound

abbrev at_rest : State
at_rest = record { setting = in_default bound; mode = Start; ready = [] }

abbrev over : State
over = record { setting = in_default bound; mode = Over; ready = [] }

-- No directive stands before these names.
abbrev named : List ℕ
named = codes "x:a x:a x:a.\n"

abbrev name_tokens : List Token
name_tokens =
    token PnameLn (leaf (codes "x:a") 0 1) ∷ token PnameLn (leaf (codes "x:a") 4 1) ∷ token PnameLn (leaf (codes "x:a") 8 1) ∷
    token Dot (leaf (codes ".") 11 1) ∷ []

abbrev all_tokens : List Token
all_tokens = name_tokens ++ token End (leaf [] 13 2) ∷ []

abbrev named_quads : List Quad
named_quads = quad (term.Iri (codes "b:/a")) (codes "b:/a") (Resource (term.Iri (codes "b:/a"))) None ∷ []

tokens_so_far : (reading_of in_turtle named false).tokens ≡ name_tokens
unfolding tokens_of tokens read step kind_of is_live shape has chars utf8_valid_len utf8_error_len is_utf8 encode is_fit
tokens_so_far = refl

tokens_at_the_end : (reading_of in_turtle named true).tokens ≡ all_tokens
unfolding tokens_of tokens read step kind_of is_live shape has chars utf8_valid_len utf8_error_len is_utf8 encode is_fit
tokens_at_the_end = refl

names_ran : accept_all Turtle (at_start bound) name_tokens ≡ ran at_rest named_quads
unfolding reference_in name_in resolved is_full has encode
names_ran = refl

all_ran : accept_all Turtle (at_start bound) all_tokens ≡ ran over named_quads
unfolding reference_in name_in resolved is_full has encode
all_ran = refl

pub named_is : IsDocumentOf in_turtle named named_quads
named_is =
    let d = accepted_document Turtle bound all_tokens over named_quads all_ran refl in
    let here = subst (λ ts. documents Turtle bound ts d.0) (sym tokens_at_the_end) d.1 in
    (document_complete Turtle bound bound.limits.token named true d.0 here, d.0, here, d.2)

within : IsWithin in_turtle named
within = record {
  tokens = λ v e. let z : complete ≡ token_too_long = sym named_is.0 ∙ e in cc;
  limits = subst (PassesNone (Passes Turtle bound)) (sym tokens_at_the_end) (begins Turtle bound all_tokens over named_quads all_ran).front.kept;
  size = lit≤ tt;
}

pub named_is_read : IsReadToItsEnd in_turtle named
named_is_read = documents_read Turtle bound named named_quads named_is within

pub named_is_not_refused : (reason : Reason) (at : Place) → Refused in_turtle named true reason at → ⊥
named_is_not_refused reason at x = refused_no_document Turtle bound named named_quads reason at x named_is within

-- a reader that has read it has put its quad, and no other
pub named_is_put : (r : TrigRead) (quads : List Quad) → r.scanner.limit ≡ bound.limits.token →
    HasRead tree_words r (record { form = Turtle; start = bound }) named quads → quads ≡ named_quads
named_is_put r quads limit h =
    let due = (quads_due r (record { form = Turtle; start = bound }) named quads h).1 in
    let here : Due (documents Turtle bound) name_tokens quads =
    subst (λ ts. Due (documents Turtle bound) ts quads) tokens_so_far
    (subst (λ n. Due (documents Turtle bound) (tokens_of turtle n named false).tokens quads) limit due) in
    same_due Turtle bound name_tokens quads named_quads here (due_ran Turtle bound name_tokens at_rest named_quads names_ran)

-- A directive of the document binds the prefix anew, also where no more may be bound: `PREFIX x: <c:/> x:a x:a x:a.`
abbrev anew_tokens : List Token
anew_tokens =
    token Prefix (leaf (codes "PREFIX") 0 1) ∷ token PnameNs (leaf (codes "x:") 7 1) ∷ token IriRef (leaf (codes "<c:/>") 10 1) ∷
    token PnameLn (leaf (codes "x:a") 16 1) ∷ token PnameLn (leaf (codes "x:a") 20 1) ∷ token PnameLn (leaf (codes "x:a") 24 1) ∷
    token Dot (leaf (codes ".") 27 1) ∷ token End (leaf [] 28 1) ∷ []

abbrev anew_quads : List Quad
anew_quads = quad (term.Iri (codes "c:/a")) (codes "c:/a") (Resource (term.Iri (codes "c:/a"))) None ∷ []

abbrev anew_over : State
anew_over = record { setting = in_default (record bound { bindings = (codes "x", codes "c:/") ∷ [] }); mode = Over; ready = [] }

anew_ran : accept_all Turtle (at_start bound) anew_tokens ≡ ran anew_over anew_quads
unfolding reference_in name_in resolved is_full has encode
anew_ran = refl

pub bound_anew : (all : List Marked) × documents Turtle bound anew_tokens all × (unmarked all ≡ anew_quads)
bound_anew = accepted_document Turtle bound anew_tokens anew_over anew_quads anew_ran refl

-- A new prefix is one too many, since the one that was handed in counts: `PREFIX y: <c:/>`
abbrev second_tokens : List Token
second_tokens = token Prefix (leaf (codes "PREFIX") 0 1) ∷ token PnameNs (leaf (codes "y:") 7 1) ∷ []

abbrev second_token : Token
second_token = token IriRef (leaf (codes "<c:/>") 10 1)

abbrev second_state : State
second_state = record { setting = in_default bound; mode = WantPrefixIri Sparql (codes "y"); ready = [] }

second_ran : accept_all Turtle (at_start bound) second_tokens ≡ ran second_state []
unfolding reference_in name_in resolved is_full has encode
second_ran = refl

pub second_is_too_many : IsRefusedAfter Turtle bound second_tokens second_token [] TooManyBindings
unfolding reference_in name_in resolved is_full has encode
second_is_too_many = stops Turtle bound second_tokens second_token [] second_state [] TooManyBindings second_ran refl
