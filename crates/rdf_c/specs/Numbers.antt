-- What the numbers of a call stand for.
use Rattle.std.specs.Prelude.{◌≡◌, ℕ, cond, ltb, List, [], ◌∷◌, Option, None, Some}
use Rattle.std.specs.Str.{chars}
use Rattle.rdf_iri.specs.Limits.{Sizes}
use Rattle.rdf_iri.specs.declared.fault.BindingFault.{BindingFault}
use Rattle.rdf_iri.specs.declared.fault.BindingReason.{BindingReason}
use Rattle.rdf_iri.specs.declared.fault.BindingReason.TheVariants as B
use Rattle.rdf_terms.specs.declared.reason.Reason.{Reason}
use Rattle.rdf_terms.specs.declared.reason.Reason.TheVariants as R
use Rattle.rdf_tokens.specs.declared.token.Fault.{Fault}
use Rattle.rdf_driver.specs.declared.summary.Summary.{Summary}
use Rattle.rdf_lines.specs.declared.form.Escapes.{Escapes}
use Rattle.rdf_lines.specs.declared.form.Escapes.TheVariants.{Plain, Ascii}
use Rattle.rdf_stream.specs.declared.form.Form.{Form}
use Rattle.rdf_stream.specs.declared.form.Form.TheVariants.{NTriples, NQuads, Turtle, TriG}
use Rattle.rdf_c.specs.declared.request.Request.{Request}
use Rattle.rdf_c.specs.declared.outcome.Outcome.{Outcome}

-- the number by which a call names the format of its document
abbrev pub number_of_form : Form → ℕ
number_of_form NTriples = 0
number_of_form NQuads = 1
number_of_form Turtle = 2
number_of_form TriG = 3

-- some format has the number; a request with any other is of no job
abbrev pub IsFormNumber : ℕ → Type 0
IsFormNumber number = (form : Form) × (number ≡ number_of_form form)

-- the number by which a call asks for characters as they are, or for ASCII
abbrev pub number_of_escapes : Escapes → ℕ
number_of_escapes Plain = 0
number_of_escapes Ascii = 1

-- some form has the number; a request with any other is of no job
abbrev pub IsEscapesNumber : ℕ → Type 0
IsEscapesNumber number = (escapes : Escapes) × (number ≡ number_of_escapes escapes)

-- the number that a call reports for a refused document; 0 means that no document was refused
abbrev pub number_of_reason : Reason → ℕ
number_of_reason R.BadUtf8 = 1
number_of_reason R.NoToken = 2
number_of_reason R.BadEscape = 3
number_of_reason R.TokenTooLong = 4
number_of_reason R.DocumentTooLong = 5
number_of_reason R.Memory = 6
number_of_reason R.Ended = 7
number_of_reason R.Unexpected = 8
number_of_reason R.RelativeIri = 9
number_of_reason R.IriTooLong = 10
number_of_reason R.Sink = 11
number_of_reason R.Unbound = 12
number_of_reason R.NoBase = 13
number_of_reason R.TooDeep = 14
number_of_reason R.TooManyBindings = 15

-- the number that a call reports for a line of the prefixes that is refused
abbrev pub number_of_binding_reason : BindingReason → ℕ
number_of_binding_reason B.BadBinding = 16
number_of_binding_reason B.TokenTooLong = 4
number_of_binding_reason B.IriTooLong = 10
number_of_binding_reason B.TooManyBindings = 15
number_of_binding_reason B.Memory = 6

-- a base of no bytes is none
abbrev pub base_of : List ℕ → Option (List ℕ)
base_of [] = None
base_of (b ∷ bs) = Some (chars (b ∷ bs))

-- the limits of a request
abbrev pub sizes_of : Request → Sizes
sizes_of r = record { token = r.token; depth = r.depth; bindings = r.bindings; iri = r.iri }

-- the counts of an accepted document
abbrev pub summary_of : Outcome → Summary
summary_of o = record { quads = o.quads; tokens = o.tokens; bytes = o.bytes }

-- a call that ended without a word on the document: the request was of no job, or memory was refused
abbrev pub outcome_of_status : ℕ → Outcome
outcome_of_status s = record { status = s; reason = 0; offset = 0; line = 0; quads = 0; tokens = 0; bytes = 0; needed = 0; written = 0 }

-- a line of the prefixes is refused
abbrev pub outcome_of_prefixes : BindingFault → Outcome
outcome_of_prefixes f =
    record { status = 6; reason = number_of_binding_reason f.reason; offset = 0; line = f.line; quads = 0; tokens = 0; bytes = 0; needed = 0; written = 0 }

-- accepted, with so many bytes of lines and so many of them written
abbrev pub accepted_with : Summary → ℕ → ℕ → Outcome
accepted_with s needed written = record {
  status = cond (ltb written needed) 5 0;
  reason = 0;
  offset = 0;
  line = 0;
  quads = s.quads;
  tokens = s.tokens;
  bytes = s.bytes;
  needed = needed;
  written = written;
}

-- refused at the fault's place, with so many bytes of lines and so many of them written
abbrev pub refused_with : Fault → ℕ → ℕ → Outcome
refused_with f needed written = record {
  status = 1;
  reason = number_of_reason f.reason;
  offset = f.offset;
  line = f.line;
  quads = 0;
  tokens = 0;
  bytes = 0;
  needed = needed;
  written = written;
}
