-- The laws of reading at a document of one triple, and at bytes that are none.
use Rattle.rdf_trig.proofs.Prelude.{◌≡◌, ℕ, true, false, List, [], ◌∷◌, ◌++◌, Some, None, refl, sym, ◌∙◌, subst, lit≤, codes, encode, chars, is_utf8, IriRef, Dot, End, Reason, Unexpected, shape, kind_of, is_live, is_fit, Resource, Quad, Token, read, complete, token_too_long, tokens_of, Due, PassesNone, IsFront, Language, reading_of, IsDocumentOf, IsWithin, GoesOn, Refused, IsReadToItsEnd, HasRead, InForce, resolved, token, reference_in, name_in, is_full, in_default, documents, Passes, sized, Top, Statement, Start, Over, WantVerb, at_start, ran, accept_all, TrigRead, tree_words, IsRefusedAfter}
use Rattle.std.specs.Str.Lossy.{utf8_valid_len, utf8_error_len}
use Rattle.rdf_terms.specs.declared.kind.Dialect.TheVariants.{Turtle as turtle}
use Rattle.rdf_terms.specs.Classes.{has}
use Rattle.rdf_terms.specs.Terms as term
use Rattle.rdf_tokens.specs.Tokens.{Place, step, tokens}
use Rattle.rdf_trig.specs.declared.form.DocForm.TheVariants.{Turtle}
use Rattle.rdf_trig.specs.Machine.{State}
use Rattle.rdf_trig.specs.Language.{language}
use Rattle.rdf_trig.proofs.examples.Documents.{leaf, quad}
use Rattle.rdf_trig.proofs.theorems.StatedLaws.{begins, stops}
use Rattle.rdf_trig.proofs.machine.ExactDocuments.{accepted_document, same_due, due_ran}
use Rattle.rdf_trig.proofs.machine.EndOfInput.{document_complete}
use Rattle.rdf_trig.proofs.theorems.DocumentsRead.{quads_due, documents_read, refused_no_document}

-- no base, no bindings, and small limits
abbrev small : InForce
small = record { base = None; bindings = []; limits = record { token = 8; depth = 1; bindings = 1; iri = 8 } }

abbrev in_turtle : Language
in_turtle = language Turtle small

abbrev at_rest : State
at_rest = record { setting = in_default small; mode = Start; ready = [] }

abbrev over : State
over = record { setting = in_default small; mode = Over; ready = [] }

abbrev triple : List ℕ
triple = codes "<a:> <a:> <a:>.\n"

abbrev triple_tokens : List Token
triple_tokens =
    token IriRef (leaf (codes "<a:>") 0 1) ∷ token IriRef (leaf (codes "<a:>") 5 1) ∷ token IriRef (leaf (codes "<a:>") 10 1) ∷
    token Dot (leaf (codes ".") 14 1) ∷ []

abbrev all_tokens : List Token
all_tokens = triple_tokens ++ token End (leaf [] 16 2) ∷ []

abbrev triple_quads : List Quad
triple_quads = quad (term.Iri (codes "a:")) (codes "a:") (Resource (term.Iri (codes "a:"))) None ∷ []

tokens_so_far : (reading_of in_turtle triple false).tokens ≡ triple_tokens
unfolding tokens_of tokens read step kind_of is_live shape has chars utf8_valid_len utf8_error_len is_utf8 encode is_fit
tokens_so_far = refl

tokens_at_the_end : (reading_of in_turtle triple true).tokens ≡ all_tokens
unfolding tokens_of tokens read step kind_of is_live shape has chars utf8_valid_len utf8_error_len is_utf8 encode is_fit
tokens_at_the_end = refl

triple_ran : accept_all Turtle (at_start small) triple_tokens ≡ ran at_rest triple_quads
unfolding reference_in name_in resolved is_full has encode
triple_ran = refl

all_ran : accept_all Turtle (at_start small) all_tokens ≡ ran over triple_quads
unfolding reference_in name_in resolved is_full has encode
all_ran = refl

triple_is : IsDocumentOf in_turtle triple triple_quads
triple_is =
    let d = accepted_document Turtle small all_tokens over triple_quads all_ran refl in
    let here = subst (λ ts. documents Turtle small ts d.0) (sym tokens_at_the_end) d.1 in
    (document_complete Turtle small small.limits.token triple true d.0 here, d.0, here, d.2)

within : IsWithin in_turtle triple
within = record {
  tokens = λ v e. let z : complete ≡ token_too_long = sym triple_is.0 ∙ e in cc;
  limits = subst (PassesNone (Passes Turtle small)) (sym tokens_at_the_end) (begins Turtle small all_tokens over triple_quads all_ran).front.kept;
  size = lit≤ tt;
}

pub triple_is_read : IsReadToItsEnd in_turtle triple
triple_is_read = documents_read Turtle small triple triple_quads triple_is within

pub half_goes_on : GoesOn in_turtle (codes "<a:> <a")
half_goes_on = triple_is_read.fronts (codes "<a:> <a") (codes ":> <a:>.\n") refl

pub triple_is_not_refused : (reason : Reason) (at : Place) → Refused in_turtle triple true reason at → ⊥
triple_is_not_refused reason at x = refused_no_document Turtle small triple triple_quads reason at x triple_is within

-- a reader that has read it has put its quad, and no other
pub triple_is_put : (r : TrigRead) (quads : List Quad) → r.scanner.limit ≡ small.limits.token →
    HasRead tree_words r (record { form = Turtle; start = small }) triple quads → quads ≡ triple_quads
triple_is_put r quads limit h =
    let due = (quads_due r (record { form = Turtle; start = small }) triple quads h).1 in
    let here : Due (documents Turtle small) triple_tokens quads =
    subst (λ ts. Due (documents Turtle small) ts quads) tokens_so_far
    (subst (λ n. Due (documents Turtle small) (tokens_of turtle n triple false).tokens quads) limit due) in
    same_due Turtle small triple_tokens quads triple_quads here (due_ran Turtle small triple_tokens at_rest triple_quads triple_ran)

-- A dot after a subject is refused, so these bytes are no document of any quads.
abbrev subject : List ℕ
subject = codes "<a:>.\n"

abbrev subject_token : Token
subject_token = token IriRef (leaf (codes "<a:>") 0 1)

abbrev dot : Token
dot = token Dot (leaf (codes ".") 4 1)

abbrev mode_after_dot : List Token
mode_after_dot = token End (leaf [] 6 2) ∷ []

subject_tokens : (reading_of in_turtle subject true).tokens ≡ subject_token ∷ dot ∷ mode_after_dot
unfolding tokens_of tokens read step kind_of is_live shape has chars utf8_valid_len utf8_error_len is_utf8 encode is_fit
subject_tokens = refl

abbrev state_after_subject : State
state_after_subject = record { setting = in_default small; mode = WantVerb (sized (Some (term.Iri (codes "a:")))) (Statement Top); ready = [] }

subject_ran : accept_all Turtle (at_start small) (subject_token ∷ []) ≡ ran state_after_subject []
unfolding reference_in name_in resolved is_full has encode
subject_ran = refl

dot_stops : IsRefusedAfter Turtle small (subject_token ∷ []) dot mode_after_dot Unexpected
dot_stops = stops Turtle small (subject_token ∷ []) dot mode_after_dot state_after_subject [] Unexpected subject_ran refl

dot_is_refused : Refused in_turtle subject true Unexpected (record { offset = 4; line = 1 })
dot_is_refused = (
  subject_token ∷ [],
  record {
    token = dot;
    after = mode_after_dot;
    tokens = subject_tokens;
    place = refl;
    front = subst (λ ts. IsFront (documents Turtle small) (Passes Turtle small) ts (subject_token ∷ [])) (sym subject_tokens) dot_stops.front;
    because = dot_stops.reason;
  },
)

pub subject_is_no_document : (quads : List Quad) → IsDocumentOf in_turtle subject quads → IsWithin in_turtle subject → ⊥
subject_is_no_document quads d w = refused_no_document Turtle small subject quads Unexpected (record { offset = 4; line = 1 }) dot_is_refused d w
